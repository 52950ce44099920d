-- The rows that a setup writes, and the room of zeros that it writes them into.
use Rattle.std.specs.Prelude.{ℕ, ◌+◌, ◌*◌, ◌/◌, ◌≤◌, ◌<◌, List, ◌≡◌, ltb, length, get_or, replicate}
use Rattle.std.proofs.Common.{sym, ap, ◌∙◌, arith, mul-le-mul, ltb-true, lt-ltb}
use Rattle.std.proofs.lemmas.List.{get_or-replicate}
use Rattle.book.specs.Sizes.{halls_max, sessions_max}
use Rattle.book.specs.Cells.{Cell, cell, Store, ◌⟨◌≔◌⟩, each1, Halls, Sessions, Mask, HomeHall, HomePartition}
use Rattle.book.specs.Cases.{by_test}
use Rattle.book.specs.Setup.{numbers_set}
use Rattle.room.specs.Bulk.{up_to, row1, begin, puts, done}
use Rattle.room.specs.Layout.{size, at, valid, store}
use Rattle.room.proofs.Words.{valid_within, within_lt}

-- the first `count` cells of a kind, given every `step`th of the numbers from `start` on, and 0 past their end
abbrev pub row : ℕ → ℕ → List ℕ → ℕ → ℕ → Store → Store
row kind count numbers step start =
    each1 (λ i. cell kind i 0 0 0) (λ i. ltb i count) (λ i. get_or numbers (step * i + start) 0)

-- its first n cells: where the loop over it stands
abbrev pub row_to : ℕ → ℕ → List ℕ → ℕ → ℕ → ℕ → Store → Store
row_to kind count numbers step start =
    up_to (row1 kind) (λ d. ltb d.i count) (λ d. get_or numbers (step * d.i + start) 0)

module _ (kind count : ℕ) (numbers : List ℕ) (step start : ℕ) (σ : Store) where
  pub row_none : σ ≡ row_to kind count numbers step start 0 σ
  row_none = sym (begin (row1 kind) (λ d. ltb d.i count) (λ d. get_or numbers (step * d.i + start) 0) σ)

  pub row_next : (n : ℕ) → n < count
      → row_to kind count numbers step start n σ ⟨ cell kind n 0 0 0 ≔ get_or numbers (step * n + start) 0 ⟩
      ≡ row_to kind count numbers step start (n + 1) σ
  row_next n h =
      puts (row1 kind) (λ d. ltb d.i count) (λ d. get_or numbers (step * d.i + start) 0) n σ (lt-ltb n count h)

  pub row_done : row_to kind count numbers step start count σ ≡ row kind count numbers step start σ
  row_done =
      done (row1 kind) (λ d. ltb d.i count) (λ d. get_or numbers (step * d.i + start) 0) count σ
      (λ i l e. absurd (omega (arith, ltb-true i count e)))

-- each mask in its turn; each home's first number
pub masks_row : (masks : List ℕ) (σ : Store)
    → row (Mask 0).kind halls_max masks 1 0 σ ≡ each1 Mask (λ h. ltb h halls_max) (λ h. get_or masks h 0) σ
masks_row masks σ =
    let e : (h : ℕ) → 1 * h + 0 ≡ h = λ h. omega arith in
    λ x. each1 Mask (λ h. ltb h halls_max) (λ h. get_or masks (e h x) 0) σ

pub halls_row : (homes : List ℕ) (σ : Store)
    → row (HomeHall 0).kind sessions_max homes 2 0 σ ≡ each1 HomeHall (λ s. ltb s sessions_max) (λ s. get_or homes (2 * s) 0) σ
halls_row homes σ =
    let e : (s : ℕ) → 2 * s + 0 ≡ 2 * s = λ s. omega arith in
    λ x. each1 HomeHall (λ s. ltb s sessions_max) (λ s. get_or homes (e s x) 0) σ

-- the two counts, and the three rows one after the other: the numbers of a setup
pub rows_numbers : (masks homes : List ℕ) {σ τ₁ τ₂ τ₃ : Store}
    → σ ≡ ((λ d. 0) ⟨ Halls ≔ length masks ⟩) ⟨ Sessions ≔ length homes / 2 ⟩
    → τ₁ ≡ row (HomePartition 0).kind sessions_max homes 2 1 σ
    → τ₂ ≡ row (HomeHall 0).kind sessions_max homes 2 0 τ₁
    → τ₃ ≡ row (Mask 0).kind halls_max masks 1 0 τ₂
    → τ₃ ≡ numbers_set masks homes
rows_numbers masks homes {τ₁ = τ₁} {τ₂ = τ₂} e₀ e₁ e₂ e₃ =
    e₃ ∙ masks_row masks τ₂ ∙ ap (each1 Mask (λ h. ltb h halls_max) (λ h. get_or masks h 0))
    (e₂ ∙ halls_row homes τ₁ ∙ ap (each1 HomeHall (λ s. ltb s sessions_max) (λ s. get_or homes (2 * s) 0))
    (e₁ ∙ ap (row (HomePartition 0).kind sessions_max homes 2 1) e₀))

-- the places of a row's numbers are small
pub place_le : (step i : ℕ) → step ≤ 2 → i ≤ sessions_max → step * i ≤ 2 * sessions_max
place_le step i a b = mul-le-mul a b

pub zeros_store : store (replicate size 0) ≡ λ (d : Cell). 0
unfolding store
zeros_store = λ x d. none d x where
  none : (d : Cell) → store (replicate size 0) d ≡ 0
  none d =
      by_test (valid d)
      (λ e. rw e (get_or-replicate size (at d) 0 0 (within_lt d (valid_within d e))))
      (λ e. rw e)
