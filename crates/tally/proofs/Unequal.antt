-- The first offset where two texts are not the same, as the library's `zip` and `position` find it.
use Rattle.std.specs.Prelude.{ℕ, suc, ◌+◌, min, Bool, not, Option, List, [], ◌∷◌, ◌≡◌, refl, eqb, length}
use Rattle.std.specs.Bool.{then_some}
use Rattle.std.specs.List.{zip, position, position_from}
use Rattle.std.specs.Option.{option_or}
use Rattle.std.proofs.Common.{ap, add-zero, zero-add, arith}
use Rattle.std.proofs.lemmas.Iterator.Adapters.{position_from-zero}
use native.Mathlib.Nat.{zero-min, min-zero, suc-min-suc}
use lib.Dec.{eqb-zero-suc, eqb-suc-zero, eqb-suc-suc}
use Rattle.book.specs.Cases.{by_test}
use Rattle.tally.specs.Compare.{compared}

abbrev pub unequal : ℕ × ℕ → Bool
unequal p = not (eqb p.0 p.1)

-- where texts of these lengths agree as far as both go
abbrev pub shorter : ℕ → ℕ → ℕ → Option ℕ
shorter k n m = then_some (not (eqb n m)) (k + min n m)

shorter_suc : (k n m : ℕ) → shorter k (suc n) (suc m) ≡ shorter (k + 1) n m
shorter_suc k n m = rw (eqb-suc-suc n m, suc-min-suc n m) (ap (λ p. then_some (not (eqb n m)) p) (omega arith))

pub compared_from : (xs ys : List ℕ) (k : ℕ)
    → compared xs ys k ≡ option_or (position_from unequal k (zip xs ys)) (shorter k (length xs) (length ys))
unfolding compared
compared_from [] [] k = refl
compared_from [] (y ∷ ys) k = rw (eqb-zero-suc (length ys), zero-min (suc (length ys)), add-zero k)
compared_from (x ∷ xs) [] k = rw (eqb-suc-zero (length xs), min-zero (suc (length xs)), add-zero k)
compared_from (x ∷ xs) (y ∷ ys) k =
    by_test (eqb x y)
    (λ e. rw (e, shorter_suc k (length xs) (length ys)) (compared_from xs ys (k + 1)))
    (λ e. rw e)

pub compared_zip : (xs ys : List ℕ)
    → compared xs ys 0 ≡ option_or (position unequal (zip xs ys)) (then_some (not (eqb (length xs) (length ys))) (min (length xs) (length ys)))
compared_zip xs ys = rw (position_from-zero unequal (zip xs ys), ← zero-add (min (length xs) (length ys)))
    (compared_from xs ys 0)
