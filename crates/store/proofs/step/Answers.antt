use Rattle.std.proofs.Common.{sym}
use Rattle.store.specs.Face.{moved_stepped}
use Rattle.store.proofs.step.Goals as goal

pub returns-in-Some : goal.returns-in-Some
returns-in-Some c = rw (← c.in-Some.ensures.cases.same) (moved_stepped (sym c.if-well_formed.ensures) c.step_inner.ensures)
