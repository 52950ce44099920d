use Rattle.std.proofs.Common.{◌-◌, arith, rules}
use Rattle.book.specs.Cells.{Hybrid}
use Rattle.room.specs.Layout.{servers_at, base}
use Rattle.room.proofs.StretchLaws.{local_set}
use Rattle.room.proofs.stretch.set_hybrid.Goals as goal

pub returns : goal.returns
returns c = let a = c.args in
    (search rules, λ h p hh hp. local_set h p a.part.now (base (Hybrid 0 0).kind - servers_at) a.x.0 (Hybrid h p) c.told-part (omega arith) (omega arith) (omega arith))
