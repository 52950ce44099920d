use Rattle.masks.specs.Bits.{or_shl}
use Rattle.masks.proofs.with.Goals as goal

pub returns : goal.returns
returns c = or_shl c.args.m c.args.i c.requires
