-- The laws of merging, and views as they come from lists of transactions.
use Prim.Native.Nat.{ℕ, zero, suc, ◌<◌}
use Rattle.std.specs.Prelude.{Bool, true, false, cond, ◌&&◌, ◌≡◌, ◌↔◌}
use Rattle.std.proofs.Math.Path.{refl, ap}
use Rattle.std.proofs.Common.{sym, ◌∙◌, inr, arith}
use Rattle.std.proofs.Math.Logic.{inl, ⊎_elim}
use mathlib.Core.List.{List, [], ◌∷◌, ◌++◌, Memᴰ}
use Rattle.book.specs.declared.Stamp.{Stamp}
use Rattle.book.specs.declared.View.{View}
use Rattle.book.specs.declared.View.TheVariants.{Nothing, Seen}
use Rattle.book.specs.Sizes.{places_max}
use Rattle.book.specs.Cells.{Store, Value}
use Rattle.book.specs.Cases.{by_test, by_eq}
use Rattle.book.specs.Servers.{number_of}
use Rattle.book.specs.Views.{later, merge, merge_nothing, merge_all, stamp_of, version, wrote_by}
use Rattle.merging.specs.Stamps.{later_order, later_self, neither_later, one_later}
use Rattle.merging.specs.Merge.{Agree, wrote, view_of, Of, view_of_set}

pub merge_self : (a : View) → merge a a ≡ a
merge_self Nothing = refl
merge_self (Seen v s) = rw (later_self s)

-- how views are grouped does not matter: of all views
pub merge_assoc : (a b c : View) → merge (merge a b) c ≡ merge a (merge b c)
merge_assoc Nothing b c = refl
merge_assoc (Seen v s) Nothing c = refl
merge_assoc (Seen v s) (Seen w t) Nothing = merge_nothing (merge (Seen v s) (Seen w t))
merge_assoc (Seen v s) (Seen w t) (Seen x u) =
    by_test (later t s)
    (λ a. by_test (later u t)
    (λ b. rw (a, b, later_order true u t s b a))
    (λ b. rw (a, b, a)))
    (λ a. by_test (later u t)
    (λ b. rw (a, b))
    (λ b. rw (a, b, a, later_order false u t s b a)))

-- of such views the order does not matter
pub merge_comm : (a b : View) → Agree a b → merge a b ≡ merge b a
merge_comm Nothing b f = sym (merge_nothing b)
merge_comm (Seen v s) Nothing f = refl
merge_comm (Seen v s) (Seen w t) f =
    by_test (later t s)
    (λ a. rw (a, one_later t s a))
    (λ a. by_test (later s t)
    (λ b. rw (a, b))
    (λ b. let q = neither_later s t b a in rw (a, b, f q, q)))

merge_again : (a b : View) → merge a (merge a b) ≡ merge a b
merge_again a b = sym (merge_assoc a a b) ∙ ap (λ (x : View). merge x b) (merge_self a)

merge_swap : (a b c : View) → Agree a b → merge a (merge b c) ≡ merge b (merge a c)
merge_swap a b c f = sym (merge_assoc a b c) ∙ (ap (λ (x : View). merge x c) (merge_comm a b f) ∙ merge_assoc b a c)

-- a merge is one of the two
merge_either : (P : View → Type 0) (a b : View) → P a → P b → P (merge a b)
merge_either P Nothing b x y = y
merge_either P (Seen v s) Nothing x y = x
merge_either P (Seen v s) (Seen w t) x y = by_test (later t s) (λ c. rw c y) (λ c. rw c x)

-- Views of one store. "equal stamps of a key carry equal values": stamps that are equal are of one transaction. Of every store, so of every
-- reached one.
pub equal_stamps : (σ : Store) (k t u : ℕ)
    → stamp_of σ t ≡ stamp_of σ u → (t ≡ u) × (σ (Value t k) ≡ σ (Value u k))
equal_stamps σ k t u e =
    let n : number_of t ≡ number_of u = ap (λ (s : Stamp). s.number.0) e in
    let q : t ≡ u = omega arith in
    (q, rw q)

-- "The view of two sets joined is the merge of their two views"
pub view_join : (σ : Store) (k S : ℕ) (xs ys : List ℕ) → view_of σ k S (xs ++ ys) ≡ merge (view_of σ k S xs) (view_of σ k S ys)
unfolding view_of
view_join σ k S [] ys = refl
view_join σ k S (t ∷ xs) ys = rw (view_join σ k S xs ys) (sym (merge_assoc (wrote σ k S t) (view_of σ k S xs) (view_of σ k S ys)))

of_test : (σ : Store) (k : ℕ) (ok : ℕ → Bool) (t : ℕ) → Of σ k ok (cond (ok t) (version σ k t) Nothing)
of_test σ k ok t = by_test (ok t) (λ c. inr (t, c, rw c)) (λ c. inl (rw c))

of_agree : (σ : Store) (k : ℕ) (ok : ℕ → Bool) (a b : View) → Of σ k ok a → Of σ k ok b → Agree a b
of_agree σ k ok a b x y =
    ⊎_elim
    (λ p. rw p tt)
    (λ (t, _, p). rw p (⊎_elim (λ q. rw q tt) (λ (u, _, q). rw q (λ e. (equal_stamps σ k t u e).1)) y))
    x

-- the places below n that pass a test
unfoldable pub listing : ℕ → (ℕ → Bool) → List ℕ
listing zero ok = []
listing (suc n) ok = cond (ok n) (n ∷ listing n ok) (listing n ok)

pub listed_in : (n : ℕ) (ok : ℕ → Bool) (t : ℕ) → Memᴰ t (listing n ok) → (t < n) × (ok t ≡ true)
unfolding listing
listed_in zero ok t m = absurd (mathlib.Core.List.Memᴰ.not-nil m)
listed_in (suc n) ok t m =
    by_test (ok n)
    (λ c. ⊎_elim
    (λ (q : t ≡ n). (omega arith, rw q c))
    (λ l. let w = listed_in n ok t l in (omega arith, w.1))
    (mathlib.Core.List.Memᴰ.cases_cons (rw c at m)))
    (λ c. let w = listed_in n ok t (rw c at m) in (omega arith, w.1))

pub listed_i : (n : ℕ) (ok : ℕ → Bool) (t : ℕ) → t < n → ok t ≡ true → Memᴰ t (listing n ok)
unfolding listing
listed_i zero ok t l e = absurd (omega arith)
listed_i (suc n) ok t l e =
    by_eq t n
    (λ q _. let c : ok n ≡ true = rw q at e in rw c (mathlib.Core.List.Memᴰ.head q))
    (λ q _. let m = listed_i n ok t (omega arith) e in by_test (ok n) (λ c. rw c (mathlib.Core.List.Memᴰ.tail m)) (λ c. rw c m))

module _ (σ : Store) (k S : ℕ) where
  of_wrote : (t : ℕ) → Of σ k (wrote_by σ k S) (wrote σ k S t)
  of_wrote = of_test σ k (wrote_by σ k S)

  of_view : (xs : List ℕ) → Of σ k (wrote_by σ k S) (view_of σ k S xs)
  unfolding view_of
  of_view [] = inl refl
  of_view (t ∷ xs) = merge_either (Of σ k (wrote_by σ k S)) (wrote σ k S t) (view_of σ k S xs) (of_wrote t) (of_view xs)

  -- what is in the list is in the view
  absorb : (t : ℕ) (xs : List ℕ) → Memᴰ t xs → merge (wrote σ k S t) (view_of σ k S xs) ≡ view_of σ k S xs
  unfolding view_of
  absorb t [] m = absurd (mathlib.Core.List.Memᴰ.not-nil m)
  absorb t (u ∷ xs) m =
      let a = wrote σ k S t in
      let b = wrote σ k S u in
      let c = view_of σ k S xs in
      ⊎_elim
      (λ q. rw q (merge_again b c))
      (λ n. merge_swap a b c (of_agree σ k (wrote_by σ k S) a b (of_wrote t) (of_wrote u)) ∙ ap (merge b) (absorb t xs n))
      (mathlib.Core.List.Memᴰ.cases_cons m)

  within : (xs ys : List ℕ) → ((t : ℕ) → Memᴰ t xs → Memᴰ t ys) → merge (view_of σ k S xs) (view_of σ k S ys) ≡ view_of σ k S ys
  unfolding view_of
  within [] ys f = refl
  within (t ∷ xs) ys f =
      rw (merge_assoc (wrote σ k S t) (view_of σ k S xs) (view_of σ k S ys), within xs ys (λ u m. f u (mathlib.Core.List.Memᴰ.tail m)))
      (absorb t ys (f t (mathlib.Core.List.Memᴰ.head refl)))

  -- views of one store merge in either order
  pub view_comm : (xs ys : List ℕ) → merge (view_of σ k S xs) (view_of σ k S ys) ≡ merge (view_of σ k S ys) (view_of σ k S xs)
  view_comm xs ys =
      merge_comm (view_of σ k S xs) (view_of σ k S ys) (of_agree σ k (wrote_by σ k S) (view_of σ k S xs) (view_of σ k S ys) (of_view xs)
      (of_view ys))

  -- Two lists with the same members give the same view, whatever their order, their grouping and their repeats.
  pub same_view : (xs ys : List ℕ) → ((t : ℕ) → Memᴰ t xs ↔ Memᴰ t ys) → view_of σ k S xs ≡ view_of σ k S ys
  same_view xs ys f = sym (within ys xs (λ t. (f t).1)) ∙ (view_comm ys xs ∙ within xs ys (λ t. (f t).0))

  pub listing_view : (n : ℕ) (ok : ℕ → Bool) → merge_all n (λ t. ok t && wrote_by σ k S t) (version σ k) ≡ view_of σ k S (listing n ok)
  unfolding merge_all view_of listing
  listing_view zero ok = refl
  listing_view (suc n) ok =
      let a = wrote σ k S n in
      let b = view_of σ k S (listing n ok) in
      by_test (ok n)
      (λ c. rw (c, listing_view n ok) (merge_comm b a (of_agree σ k (wrote_by σ k S) b a (of_view (listing n ok)) (of_wrote n))))
      (λ c. rw c (merge_nothing _ ∙ listing_view n ok))

  -- a merge of versions is nothing, or one of them
  pub of_all : (n : ℕ) (ok : ℕ → Bool) → Of σ k ok (merge_all n ok (version σ k))
  unfolding merge_all
  of_all zero ok = inl refl
  of_all (suc n) ok = merge_either (Of σ k ok) (merge_all n ok (version σ k)) _ (of_all n ok) (of_test σ k ok n)

  -- the view of a set with a write of the key is the version of one of the set, and no stamp in the set is later
  pub latest : (ok : ℕ → Bool) (t : ℕ) → t < places_max → ok t ≡ true → wrote_by σ k S t ≡ true
      → (u : ℕ) × ((ok u && wrote_by σ k S u) ≡ true) × (view_of_set σ k S ok ≡ version σ k u) × (later (stamp_of σ t) (stamp_of σ u) ≡ false)
  latest ok t l e w =
      let x : merge (version σ k t) (view_of_set σ k S ok) ≡ view_of_set σ k S ok =
      rw (listing_view places_max ok) (rw w at (absorb t (listing places_max ok) (listed_i places_max ok t l e))) in
      ⊎_elim
      (λ n. let y : version σ k t ≡ Nothing = rw n at x in let z : ◌≡◌ {A = ℕ} 0 1 = cc in absurd (omega arith))
      (λ (u, c, q). (
        u,
        c,
        q,
        by_test (later (stamp_of σ u) (stamp_of σ t))
            (λ d. one_later (stamp_of σ u) (stamp_of σ t) d)
            (λ d. let y : version σ k t ≡ version σ k u = rw (q, d) at x in
            let z : stamp_of σ t ≡ stamp_of σ u = cc in
            rw (equal_stamps σ k t u z).0 (later_self (stamp_of σ u))),
      ))
      (of_all places_max (λ t. ok t && wrote_by σ k S t))
