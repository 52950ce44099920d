-- What the laws of merging speak of: views that agree, and views as they come from lists and sets of transactions.
use Prim.Native.Nat.{ℕ}
use Rattle.std.specs.Prelude.{Bool, true, cond, ◌&&◌, ◌≡◌, ◌⊎◌}
use mathlib.Core.List.{List, [], ◌∷◌}
use Rattle.book.specs.declared.View.{View}
use Rattle.book.specs.declared.View.TheVariants.{Nothing, Seen}
use Rattle.book.specs.Sizes.{places_max}
use Rattle.book.specs.Cells.{Store}
use Rattle.book.specs.Views.{merge, merge_all, version, wrote_by}

-- views that, where their stamps are equal, have equal values
abbrev pub Agree : View → View → Type 0
Agree Nothing b = Unit {0}
Agree (Seen v s) Nothing = Unit {0}
Agree (Seen v s) (Seen w t) = s ≡ t → v ≡ w

-- what transaction t adds to the view of key k at S
abbrev pub wrote : Store → ℕ → ℕ → ℕ → View
wrote σ k S t = cond (wrote_by σ k S t) (version σ k t) Nothing

-- "The view at S of a set of decided transactions merges their writes with commit time at or below S": along a list of their places
unfoldable pub view_of : Store → ℕ → ℕ → List ℕ → View
view_of σ k S [] = Nothing
view_of σ k S (t ∷ ts) = merge (wrote σ k S t) (view_of σ k S ts)

-- a view of the store is nothing, or the version of a transaction that passes
abbrev pub Of : Store → ℕ → (ℕ → Bool) → View → Type 0
Of σ k ok a = (a ≡ Nothing) ⊎ ((t : ℕ) × (ok t ≡ true) × (a ≡ version σ k t))

-- the view of the set of the transactions that pass a test: decided_view and held_view are such views
abbrev pub view_of_set : Store → ℕ → ℕ → (ℕ → Bool) → View
view_of_set σ k S ok = merge_all places_max (λ t. ok t && wrote_by σ k S t) (version σ k)
