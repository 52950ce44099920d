use Rattle.std.proofs.Common.{◌+◌, ◌-◌, arith}
use Rattle.room.specs.Layout.{stretch}
use Rattle.room.specs.Stretch.{held_all, with_entries}
use Rattle.room.proofs.StretchLaws.{keeps_held, keeps_entries, keeps_then, lift}
use Rattle.room.proofs.stretch.deliver.Goals as goal

pub returns : goal.returns
returns c =
    let a = c.args in
    let h = a.s.hall.index in
    let p = a.s.partition.index in
    let hh = a.s.hall.below in
    let hp = a.s.partition.below in
    let w = c.server_at-a in
    let e = c.deliver_at.ensures in
    lift a.room.now h p w.result (w.result + stretch - w.result) c.told-room hh hp (omega (arith, w.ensures)) (omega arith)
    (λ σ. held_all a.set h p (with_entries a.v h p σ))
    (keeps_then h p (held_all a.set h p) (with_entries a.v h p) (keeps_held a.set h p hh hp) (keeps_entries a.v h p hh hp))
    _ e.0 (e.1 h p hh hp)
