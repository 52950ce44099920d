use Rattle.cranktimber.specs.Told.{tells}
use Rattle.cranktimber.proofs.cranktimber_step.Goals as goal

pub returns : goal.returns
returns c = tells c.step.ensures.answer c.step.ensures.room c.step.ensures.store c.from.ensures
