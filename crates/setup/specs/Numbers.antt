-- A row of cells, given the numbers of a function of the index.
use Rattle.std.specs.Prelude.{ℕ, ◌+◌, ◌*◌, List, ◌≡◌, ltb, get_or}
use Rattle.std.proofs.Common.{arith, ltb-true}
use Rattle.book.specs.Cells.{cell, Store, each1}
use Rattle.room.specs.Bulk.{up_to, row1, done}

-- the first `count` cells of a kind are given v's numbers
abbrev pub cells : ℕ → ℕ → (ℕ → ℕ) → Store → Store
cells kind count v = each1 (λ i. cell kind i 0 0 0) (λ i. ltb i count) v

-- its first n cells: where the loop over it stands
abbrev pub cells_to : ℕ → ℕ → (ℕ → ℕ) → ℕ → Store → Store
cells_to kind count v = up_to (row1 kind) (λ d. ltb d.i count) (λ d. v d.i)

-- a setup's numbers: session s's hall and partition, hall h's mask
abbrev pub hall_of : List ℕ → ℕ → ℕ
hall_of homes s = get_or homes (2 * s) 0

abbrev pub partition_of : List ℕ → ℕ → ℕ
partition_of homes s = get_or homes (2 * s + 1) 0

abbrev pub mask_of : List ℕ → ℕ → ℕ
mask_of masks h = get_or masks h 0

pub cells_done : (kind count : ℕ) (v : ℕ → ℕ) (σ : Store) → cells_to kind count v count σ ≡ cells kind count v σ
cells_done kind count v σ =
    done (row1 kind) (λ d. ltb d.i count) (λ d. v d.i) count σ (λ i l e. absurd (omega (arith, ltb-true i count e)))
