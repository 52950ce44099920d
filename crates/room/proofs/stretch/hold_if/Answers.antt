use Rattle.std.proofs.Common.{◌+◌, ◌-◌, arith, rules}
use Rattle.book.specs.Cells.{Held}
use Rattle.room.specs.Layout.{servers_at, base}
use Rattle.room.proofs.StretchLaws.{local_set}
use Rattle.room.proofs.stretch.hold_if.Goals as goal

pub returns-then-test : goal.returns-then-test
returns-then-test c =
    let a = c.args in
    let t = a.t.index in
    let word = base (Held 0 0 0).kind - servers_at + t in
    (search rules, λ h p hh hp. rw c.if-test.true (local_set h p a.part.now word 1 (Held h p t) c.told-part (omega (arith, a.t.below)) (omega (arith, a.t.below)) (omega arith)))
