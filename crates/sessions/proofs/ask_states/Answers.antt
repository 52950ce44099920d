use Rattle.std.proofs.Common.{◌≡◌, sym, ◌∙◌, arith}
use Rattle.book.specs.Sizes.{partitions_max}
use Rattle.book.specs.Cells.{State}
use Rattle.book.specs.Updates.{keep}
use Rattle.room.specs.Layout.{store}
use Rattle.room.specs.Loops.{count_next}
use Rattle.sessions.specs.Asking.{asked_next, asked_done}
use Rattle.sessions.proofs.ask_states.Goals.{then-touches, else-touches}
use Rattle.sessions.proofs.ask_states.Goals as goal

pub loop-p-preserved : goal.loop-p-preserved
loop-p-preserved c = let a = c.args in
    let i = c.loop-p in
    let t = rw c.new-partition.ensures at c.touches.ensures in
    let q = rw i.invariant.2 at t in
    elim c.if-touches.branch [
      | then-touches w ↦ (
        omega (arith, w.n-is, i.invariant.0),
        rw (w.n-is, count_next, ← q, w.if-touches.true, ← i.invariant.1),
        asked_next i.p (store a.room.now) a.t.index a.m
            (rw (w.room-is, w.put.ensures, c.new-partition.ensures, ← t, w.if-touches.true))
            i.invariant.2,
      )
      | else-touches w ↦ (
        omega (arith, w.n-is, i.invariant.0),
        rw (w.n-is, count_next, ← q, w.if-touches.false, ← i.invariant.1),
        asked_next i.p (store a.room.now) a.t.index a.m
            (rw (w.room-is, ← t, w.if-touches.false) (sym (keep (store i.room) (State a.t.index i.p))))
            i.invariant.2,
      )
    ]

pub returns : goal.returns
returns c = let a = c.args in
    let i = c.loop-p in
    let e : i.p ≡ partitions_max = omega arith in
    (rw e at i.invariant.1, rw e at i.invariant.2 ∙ asked_done (store a.room.now) a.t.index a.m c.requires)
