use Rattle.std.proofs.Common.{◌≡◌, ne_eqb}
use Rattle.book.specs.Cells.{WriteSet}
use Rattle.room.specs.Layout.{store}
use Rattle.sessions.proofs.end.Goals as goal

pub returns : goal.returns
returns c =
    let n : store c.args.room.now (WriteSet c.args.s.index) ≡ 0 → ⊥ = rw c.get-m.ensures at c.if-m-eq0.false in
    let asked = rw (c.copy_values.ensures, c.request.ensures, c.new-t.ensures, c.get.ensures, c.get-m.ensures) at c.ask_states-n.ensures in
    (rw (ne_eqb _ _ n, c.number_of.ensures, c.new-t.ensures, c.get.ensures, asked.0), rw (ne_eqb _ _ n) asked.1)
