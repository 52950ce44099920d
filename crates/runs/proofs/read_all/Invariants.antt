use Rattle.std.proofs.Common.{length, ◌+◌, ◌≤◌}
use Rattle.runs.proofs.read_all.Given as goal

abbrev pub invariant-loop-line : goal.invariant-loop-line
invariant-loop-line g l = (l.lines + length l.rest ≤ length l.list) × (l.at ≤ length l.bytes)

abbrev pub decreases-loop-line : goal.decreases-loop-line
decreases-loop-line g l = length l.rest
