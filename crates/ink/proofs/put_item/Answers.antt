use Rattle.ink.specs.Written.{then}
use Rattle.ink.proofs.put_item.Goals as goal

pub returns : goal.returns
returns c = then c.put_number-next.ensures c.put_byte.ensures
