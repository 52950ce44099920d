use Rattle.std.proofs.Common.{◌+◌, ◌-◌, arith}
use Rattle.book.specs.Cells.{◌⟨◌≔◌⟩, Hybrid, Entry}
use Rattle.room.specs.Layout.{stretch}
use Rattle.room.specs.Stretch.{held_all}
use Rattle.room.proofs.StretchLaws.{keeps_held, keeps_put, keeps_then, lift}
use Rattle.room.proofs.stretch.install.Goals as goal

pub returns : goal.returns
returns c =
    let a = c.args in
    let h = a.s.hall.index in
    let p = a.s.partition.index in
    let hh = a.s.hall.below in
    let hp = a.s.partition.below in
    let w = c.server_at-a in
    let e = c.install_at.ensures in
    lift a.room.now h p w.result (w.result + stretch - w.result) c.told-room hh hp (omega (arith, w.ensures)) (omega arith)
    (λ σ. held_all a.set h p (σ ⟨ Hybrid h p ≔ a.hybrid.0 ⟩ ⟨ Entry h p h ≔ a.version.0 ⟩))
    (keeps_then h p (held_all a.set h p) (λ σ. σ ⟨ Hybrid h p ≔ a.hybrid.0 ⟩ ⟨ Entry h p h ≔ a.version.0 ⟩)
    (keeps_held a.set h p hh hp)
    (keeps_then h p (λ σ. σ ⟨ Entry h p h ≔ a.version.0 ⟩) (λ σ. σ ⟨ Hybrid h p ≔ a.hybrid.0 ⟩)
    (keeps_put h p (Entry h p h) a.version.0 (omega (arith, hh, hp)))
    (keeps_put h p (Hybrid h p) a.hybrid.0 (omega (arith, hh, hp)))))
    _ e.0 (e.1 h p hh hp)
