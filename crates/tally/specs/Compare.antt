-- Two texts compared byte by byte.
use Rattle.std.specs.Prelude.{ℕ, ◌+◌, ◌≤◌, ◌<◌, Bool, true, false, cond, Option, None, Some, is_none, List, [], ◌∷◌, ◌≡◌, refl, eqb, length, get_or, drop}
use Rattle.std.proofs.lemmas.Bool.{false≢true}
use Rattle.std.proofs.Common.{sym, ◌∙◌, ap, eqb-true, eq-eqb}
use Rattle.std.proofs.Math.Numerals.{add-one}
use Rattle.std.proofs.Math.ListN.{drop_of_length-le}
use Rattle.std.proofs.Math.Seq.{drop-cons}

-- the first offset where they are not the same, counted from k on
unfoldable pub compared : List ℕ → List ℕ → ℕ → Option ℕ
compared [] [] k = None
compared [] (y ∷ ys) k = Some k
compared (x ∷ xs) [] k = Some k
compared (x ∷ xs) (y ∷ ys) k = cond (eqb x y) (compared xs ys (k + 1)) (Some k)

-- at a place of both, past the end of one, and past the end of both
module _ (xs ys : List ℕ) (i : ℕ) where
  pub at_both : i < length xs → i < length ys
      → compared (drop i xs) (drop i ys) i
      ≡ cond (eqb (get_or xs i 0) (get_or ys i 0)) (compared (drop (i + 1) xs) (drop (i + 1) ys) (i + 1)) (Some i)
  unfolding compared
  at_both h l = rw (drop-cons xs i 0 h, drop-cons ys i 0 l, add-one i)

  pub at_first : i < length xs → length ys ≤ i → compared (drop i xs) (drop i ys) i ≡ Some i
  unfolding compared
  at_first h l = rw (drop-cons xs i 0 h, drop_of_length-le ys l)

  pub at_second : length xs ≤ i → i < length ys → compared (drop i xs) (drop i ys) i ≡ Some i
  unfolding compared
  at_second h l = rw (drop_of_length-le xs h, drop-cons ys i 0 l)

  pub past_both : length xs ≤ i → length ys ≤ i → compared (drop i xs) (drop i ys) i ≡ None
  unfolding compared
  past_both h l = rw (drop_of_length-le xs h, drop_of_length-le ys l)

-- what a comparison of two texts comes to, once the first is at its end
pub second_longer : (xs ys : List ℕ) (i : ℕ) → compared (drop i xs) (drop i ys) i ≡ compared xs ys 0
    → length xs ≤ i → i < length ys → Some i ≡ compared xs ys 0
second_longer xs ys i e h l = sym (at_second xs ys i h l) ∙ e

pub both_ended : (xs ys : List ℕ) (i : ℕ) → compared (drop i xs) (drop i ys) i ≡ compared xs ys 0
    → length xs ≤ i → length ys ≤ i → None ≡ compared xs ys 0
both_ended xs ys i e h l = sym (past_both xs ys i h l) ∙ e

at_least : (b : Bool) (x : Option ℕ) (k : ℕ) → cond b x (Some k) ≡ None → (b ≡ true) × (x ≡ None)
at_least true x k e = (refl, e)
at_least false x k e = absurd (false≢true (ap is_none e))

-- texts that agree are one text
pub same_text : (xs ys : List ℕ) (k : ℕ) → compared xs ys k ≡ None → xs ≡ ys
unfolding compared
same_text [] [] k e = refl
same_text [] (y ∷ ys) k e = absurd (false≢true (ap is_none e))
same_text (x ∷ xs) [] k e = absurd (false≢true (ap is_none e))
same_text (x ∷ xs) (y ∷ ys) k e =
    let h = at_least (eqb x y) (compared xs ys (k + 1)) k e in
    λ i. eqb-true x y h.0 i ∷ same_text xs ys (k + 1) h.1 i

-- and one text agrees with itself
pub text_same : (xs : List ℕ) (k : ℕ) → compared xs xs k ≡ None
unfolding compared
text_same [] k = refl
text_same (x ∷ xs) k = rw (eq-eqb x x refl) (text_same xs (k + 1))
