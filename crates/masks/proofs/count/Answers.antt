use Rattle.std.proofs.Common.{rules}
use Rattle.masks.specs.Bits.{ones_count}
use Rattle.masks.proofs.count.Goals as goal

pub returns : goal.returns
returns c = ones_count 64 c.args.m (search rules)
