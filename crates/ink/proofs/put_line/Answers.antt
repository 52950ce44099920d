use Rattle.ink.specs.Written.{then}
use Rattle.ink.proofs.put_line.Goals as goal

pub returns : goal.returns
returns c =
    then c.put_item-after_step.ensures
    (then c.put_item-after_refusal.ensures (then c.put_item-after_first.ensures c.put_item.ensures))
