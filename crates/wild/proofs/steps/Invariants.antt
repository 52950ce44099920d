use Rattle.std.proofs.Common.{◌+◌, ◌≡◌}
use Rattle.wild.proofs.steps.Given as goal

abbrev pub invariant-loop : goal.invariant-loop
invariant-loop g l = l.count.taken + l.count.away ≡ l.counter
