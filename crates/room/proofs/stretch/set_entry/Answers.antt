use Rattle.std.proofs.Common.{◌+◌, ◌-◌, arith, rules}
use Rattle.book.specs.Cells.{Entry}
use Rattle.room.specs.Layout.{servers_at, base}
use Rattle.room.proofs.StretchLaws.{local_set}
use Rattle.room.proofs.stretch.set_entry.Goals as goal

pub returns : goal.returns
returns c = let a = c.args in
    (search rules, λ h p hh hp. local_set h p a.part.now (base (Entry 0 0 0).kind - servers_at + a.g.index) a.x.0 (Entry h p a.g.index) c.told-part (omega (arith, a.g.below)) (omega (arith, a.g.below)) (omega arith))
