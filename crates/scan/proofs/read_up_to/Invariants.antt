use Rattle.std.proofs.Common.{length, drop, ◌-◌, ◌≡◌}
use Rattle.scan.specs.Number.{more, start}
use Rattle.scan.proofs.read_up_to.Given as goal

abbrev pub invariant-loop-b : goal.invariant-loop-b
invariant-loop-b l =
    more l.most l.early l.from (drop l.at l.text) l.at l.v ≡ start l.most l.early l.from (drop l.from l.text)

abbrev pub decreases-loop-b : goal.decreases-loop-b
decreases-loop-b l = length l.text - l.at
