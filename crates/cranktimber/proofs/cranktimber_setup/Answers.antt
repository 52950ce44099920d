use Rattle.cranktimber.specs.Told.{tells}
use Rattle.cranktimber.proofs.cranktimber_setup.Goals as goal

pub returns : goal.returns
returns c = tells c.setup.ensures.answer c.setup.ensures.room c.setup.ensures.store c.from.ensures
