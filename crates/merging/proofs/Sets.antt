-- Views of sets of transactions are those of lists with their members; the view of two sets joined.
use Prim.Native.Nat.{ℕ, ◌<◌}
use Rattle.std.specs.Prelude.{Bool, true, false, ◌||◌, ◌≡◌, ◌↔◌}
use Rattle.std.proofs.Math.Path.{refl}
use Rattle.std.proofs.Common.{◌∙◌}
use Rattle.std.proofs.Math.Logic.{⊎_elim}
use mathlib.Core.List.{List, [], ◌∷◌, ◌++◌, Memᴰ}
use Rattle.book.specs.Sizes.{places_max}
use Rattle.book.specs.Cells.{Store}
use Rattle.book.specs.Cases.{by_test}
use Rattle.book.specs.Views.{merge, decided, decided_view}
use Rattle.merging.specs.Merge.{view_of, view_of_set}
use Rattle.merging.proofs.Merge.{listing, listed_in, listed_i, listing_view, view_join, same_view}

or_right : (a : Bool) {b : Bool} → b ≡ true → (a || b) ≡ true
or_right true e = refl
or_right false e = e

module _ (σ : Store) (k S : ℕ) where
  -- the view of a set is that of any list with just its members
  pub set_view : (ok : ℕ → Bool) (xs : List ℕ) → ((t : ℕ) → Memᴰ t xs ↔ ((t < places_max) × (ok t ≡ true)))
      → view_of_set σ k S ok ≡ view_of σ k S xs
  set_view ok xs f =
      listing_view σ k S places_max ok
      ∙ same_view σ k S (listing places_max ok) xs
      (λ t. (λ m. (f t).1 (listed_in places_max ok t m), λ m. let w = (f t).0 m in listed_i places_max ok t w.0 w.1))

  -- "Decided so far": the book's view of all decided transactions is that of any list of them
  pub decided_view_lem : (xs : List ℕ) → ((t : ℕ) → Memᴰ t xs ↔ ((t < places_max) × (decided σ t ≡ true)))
      → decided_view σ k S ≡ view_of σ k S xs
  decided_view_lem = set_view (decided σ)

  -- "The view of two sets joined is the merge of their two views": sets given by tests
  pub set_join : (a b : ℕ → Bool) → view_of_set σ k S (λ t. a t || b t) ≡ merge (view_of_set σ k S a) (view_of_set σ k S b)
  set_join a b =
      let xs = listing places_max a in
      let ys = listing places_max b in
      set_view (λ t. a t || b t) (xs ++ ys) (λ t. (
        λ m. ⊎_elim
            (λ (n : Memᴰ t xs). let w = listed_in places_max a t n in (w.0, rw w.1))
            (λ n. let w = listed_in places_max b t n in (w.0, or_right (a t) w.1))
            (mathlib.Core.List.Memᴰ.append_cases xs m),
        λ (l, e). by_test (a t)
            (λ c. mathlib.Core.List.Memᴰ.append_left ys (listed_i places_max a t l c))
            (λ c. mathlib.Core.List.Memᴰ.append_right xs (listed_i places_max b t l (rw c at e))),
      ))
      ∙ (view_join σ k S xs ys ∙ rw (listing_view σ k S places_max a, listing_view σ k S places_max b))
