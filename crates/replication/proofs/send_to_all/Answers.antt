use Rattle.std.proofs.Common.{◌≡◌, sym, ◌∙◌, arith}
use Rattle.book.specs.Sizes.{halls_max}
use Rattle.room.specs.Layout.{store}
use Rattle.replication.specs.Sending.{sent_on, skipped, sent_all}
use Rattle.replication.proofs.send_to_all.Goals.{then-other_holder, else-other_holder}
use Rattle.replication.proofs.send_to_all.Goals as goal

pub loop-g-preserved : goal.loop-g-preserved
loop-g-preserved c = let i = c.loop-g in
    let a = c.args in
    let σ = store a.room.now in
    let h = a.s.hall.index in
    let p = a.s.partition.index in
    let holder = sym (rw i.invariant at c.other_holder.ensures) in
    elim c.if-other_holder.branch [
      | then-other_holder w ↦ rw (w.room-is, w.send.ensures, w.new.ensures, i.invariant) (sent_on σ h p a.m.clock.0 a.m.set i.g (holder ∙ w.if-other_holder.true))
      | else-other_holder w ↦ rw (w.room-is, i.invariant) (skipped σ h p a.m.clock.0 a.m.set i.g (holder ∙ w.if-other_holder.false))
    ]

pub returns : goal.returns
returns c = let a = c.args in
    let e : c.loop-g.g ≡ halls_max = omega arith in
    rw e at c.loop-g.invariant ∙ sent_all a.room.now a.s.hall.index a.s.partition.index a.m.clock.0 a.m.set
