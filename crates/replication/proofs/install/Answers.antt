use borrow.Author.Tests.{not-true, not-false}
use Rattle.replication.specs.Installed.{all_parts}
use Rattle.replication.proofs.install.Goals as goal

pub send_to_all-requires : goal.send_to_all-requires
send_to_all-requires c =
    rw
    (c.mark_installed.ensures, c.install.ensures)
    (record { channels = λ g l. let C = c.requires.2.channels g l in record { first = C.first; waiting = C.waiting } })

pub returns-then-not-o : goal.returns-then-not-o
returns-then-not-o c = let a = c.args in
    let o = c.outcome_of-o in (
      rw o.ensures,
      rw
          (c.send_to_all.ensures, c.mark_installed.ensures, c.install.ensures)
          (rw (not-true o.result.quiet c.if-not-o.true) at (all_parts a.room.now a.s.hall.index a.s.partition.index o.result o.ensures)),
    )

pub returns-else-not-o : goal.returns-else-not-o
returns-else-not-o c = let a = c.args in
    let o = c.outcome_of-o in (
      rw o.ensures,
      rw
          (c.mark_installed.ensures, c.install.ensures)
          (rw (not-false o.result.quiet c.if-not-o.false) at (all_parts a.room.now a.s.hall.index a.s.partition.index o.result o.ensures)),
    )
