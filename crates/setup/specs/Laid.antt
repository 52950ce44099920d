-- The room that a good setup leaves has the store of its numbers.
use Rattle.std.specs.Prelude.{ℕ, ◌+◌, ◌*◌, ◌/◌, ◌<◌, true, false, ◌&&◌, List, ◌≡◌, refl, ltb, length, get_or}
use Rattle.std.proofs.Common.{true≢false, sym, ap, ◌∙◌, arith, ltb-true}
use Rattle.book.specs.Sizes.{halls_max, sessions_max}
use Rattle.book.specs.Cells.{Cell, cell, Store, ◌⟨◌≔◌⟩, each1, Halls, Partitions, Sessions, Mask, HomeHall, HomePartition}
use Rattle.book.specs.Cases.{by_test, and_true}
use Rattle.book.specs.Updates.{is, one_cell}
use Rattle.book.specs.Setup.{partitions_held, numbers_set, first_store}
use Rattle.room.specs.Bulk.{row1}
use Rattle.room.specs.Layout.{Within, valid, store}
use Rattle.room.proofs.Words.{within}
use Rattle.room.specs.Lay.{lay}
use Rattle.room.proofs.Lay.{store_lay}

-- a store that has nothing but in the cells of a room
abbrev Inside : Store → Type 0
Inside σ = (d : Cell) → valid d ≡ false → σ d ≡ 0

outside : (c d : Cell) → Within c → is c d ≡ true → valid d ≡ false → ⊥
outside c d h q e = true≢false (sym (within c h) ∙ ap valid (one_cell c d q) ∙ e)

put_inside : {σ : Store} (c : Cell) (v : ℕ) → Within c → Inside σ → Inside (σ ⟨ c ≔ v ⟩)
put_inside c v h f d e = by_test (is c d) (λ q. absurd (outside c d h q e)) (λ q. rw q (f d e))

row_inside : {σ : Store} (n count : ℕ) (v : ℕ → ℕ) → ((i : ℕ) → i < count → Within (cell n i 0 0 0)) → Inside σ
    → Inside (each1 (λ i. cell n i 0 0 0) (λ i. ltb i count) v σ)
row_inside n count v h f d e =
    rw ((row1 n).only (λ c. ltb c.i count) d)
    (by_test (is (cell n d.i 0 0 0) d && ltb d.i count)
    (λ q. let w = and_true (is (cell n d.i 0 0 0) d) _ q in
    absurd (outside (cell n d.i 0 0 0) d (h d.i (ltb-true d.i count w.1)) w.0 e))
    (λ q. rw q (f d e)))

pub first_laid : (masks homes : List ℕ) → store (lay (first_store masks homes)) ≡ first_store masks homes
first_laid masks homes =
    store_lay (first_store masks homes)
    (put_inside Partitions (partitions_held (numbers_set masks homes)) (omega arith, omega arith, omega arith, omega arith, omega arith)
    (row_inside (Mask 0).kind halls_max (λ h. get_or masks h 0) (λ i l. (omega arith, omega arith, omega arith, omega arith, omega arith))
    (row_inside (HomeHall 0).kind sessions_max (λ s. get_or homes (2 * s) 0) (λ i l. (omega arith, omega arith, omega arith, omega arith, omega arith))
    (row_inside (HomePartition 0).kind sessions_max (λ s. get_or homes (2 * s + 1) 0) (λ i l. (omega arith, omega arith, omega arith, omega arith, omega arith))
    (put_inside Sessions (length homes / 2) (omega arith, omega arith, omega arith, omega arith, omega arith) (put_inside Halls (length masks) (omega arith, omega arith, omega arith, omega arith, omega arith) (λ d e. refl)))))))
