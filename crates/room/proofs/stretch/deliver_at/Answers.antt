use Rattle.std.proofs.Common.{rules}
use Rattle.room.proofs.stretch.deliver_at.Goals as goal

pub returns-in-Some : goal.returns-in-Some
returns-in-Some c = (
  search rules,
  λ h p hh hp. rw (c.hold_all.ensures.1 h p hh hp, c.set_entries.ensures.1 h p hh hp, c.in-Some.ensures.cases.same),
)
