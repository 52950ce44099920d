-- "Each server writes only its own stretch of the lent room", of rooms: a step leaves every word of every other server's.
use Rattle.std.specs.Prelude.{ℕ, ◌+◌, ◌≤◌, ◌<◌, false, ◌≡◌, List, eqb, leb, get_or}
use Rattle.std.proofs.Common.{sym, ap, ◌∙◌, arith, eqb-true, leb-true}
use Rattle.book.specs.declared.Answer.{Answer}
use Rattle.book.specs.Sizes.{halls_max, partitions_max}
use Rattle.book.specs.Cells.{cell, Store}
use Rattle.book.specs.Cases.{by_test, and_true}
use Rattle.progress.specs.Stretches.{is_at, SameStretch}
use Rattle.progress.proofs.Stretches.{own_stretch}
use Rattle.room.specs.Layout.{Within, store, cell_at, stretch, start}
use Rattle.room.proofs.Words.{valid_within, covers, store_get}
use Rattle.room.proofs.StretchLaws.{five, own_i, stretch_cells}
use Rattle.store.specs.Face.{Stepped, sound}

-- a cell of a server whose stretch stays
same_cell : (σ τ : Store) (h p k l : ℕ) → SameStretch σ τ h p → (n : ℕ) → 5 ≤ n → n ≤ 9 → Within (cell n h p k l)
    → τ (cell n h p k l) ≡ σ (cell n h p k l)
same_cell σ τ h p k l S =
    five (λ n. Within (cell n h p k l) → τ (cell n h p k l) ≡ σ (cell n h p k l))
    (λ w. let a : k ≡ 0 = omega (arith, w.3) in let b : l ≡ 0 = omega (arith, w.4) in rw (a, b) S.reading)
    (λ w. let a : k ≡ 0 = omega (arith, w.3) in let b : l ≡ 0 = omega (arith, w.4) in rw (a, b) S.hybrid)
    (λ w. let a : k ≡ 0 = omega (arith, w.3) in let b : l ≡ 0 = omega (arith, w.4) in rw (a, b) S.stable)
    (λ w. let b : l ≡ 0 = omega (arith, w.4) in rw b (S.entries k))
    (λ w. let b : l ≡ 0 = omega (arith, w.4) in rw b (S.held k))

-- For any room and any four numbers, and every server that the step is not at.
pub room_own_stretch : {r : List ℕ} {code a b c : ℕ} {x : Answer} {late : List ℕ} → Stepped r code a b c x late → (h p : ℕ)
    → h < halls_max → p < partitions_max → is_at (store r) code a b c h p ≡ false
    → (w : ℕ) → start h p ≤ w → w < start h p + stretch → get_or late w 0 ≡ get_or r w 0
room_own_stretch {r} {code} {a} {b} {c} {x} {late} s h p hh hp e w low high =
    by_test (sound r)
    (λ t. let d = cell_at w in
    let v = covers w (omega arith) in
    let o = own_i h p d (record { cell = valid_within d v.1; low = rw v.0 low; high = rw v.0 high }) in
    let f = sym (stretch_cells h p d hh hp v.1) ∙ o in
    let k1 = and_true (leb 5 d.kind) _ f in
    let k2 = and_true (leb d.kind 9) _ k1.1 in
    let k3 = and_true (eqb h d.i) _ k2.1 in
    let qi = eqb-true h d.i k3.0 in
    let qj = eqb-true p d.j k3.1 in
    let S : SameStretch (store r) (store late) d.i d.j = rw (← qi, ← qj)
    (rw (s.store, t) (own_stretch (store r) code a b c h p e)) in
    let q = same_cell (store r) (store late) d.i d.j d.k d.l S d.kind (leb-true _ _ k1.0) (leb-true _ _ k2.0)
    (valid_within d v.1) in
    ap (λ (z : ℕ). get_or late z 0) (sym v.0) ∙ store_get late d (valid_within d v.1) ∙ q
    ∙ sym (store_get r d (valid_within d v.1)) ∙ ap (λ (z : ℕ). get_or r z 0) v.0)
    (λ t. ap (λ (y : List ℕ). get_or y w 0) (rw t at s.room))
