use Rattle.std.proofs.Common.{◌≡◌}
use Rattle.book.specs.Folds.{count}
use Rattle.tally.specs.Agrees.{agrees}
use Rattle.tally.proofs.Scripts.tally.Given as goal

abbrev pub invariant-loop-i : goal.invariant-loop-i
invariant-loop-i l = l.n ≡ count l.i (agrees l.self.bytes.now l.self.cuts.now)
