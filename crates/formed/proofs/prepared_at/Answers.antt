use Rattle.std.specs.Prelude.{ℕ, Bool, cond, leb}
use Rattle.std.proofs.Common.{rules, arith, ◌∙◌}
use borrow.Author.Tests.{tests}
use Rattle.book.specs.Sizes.{partitions_max}
use Rattle.book.specs.Cells.{Store, State, prepared}
use Rattle.room.specs.Layout.{store}
use Rattle.formed.specs.Counts.{prepared_le}
use Rattle.formed.specs.Sums.{sum_counts, sum_in_range, sum_fits_in_range}
use Rattle.formed.proofs.prepared_at.Goals as goal

abbrev passes : Store → ℕ → ℕ → Bool
passes σ t p = leb prepared (σ (State t p))

pub sum-requires-clause-fits : goal.sum-requires-clause-fits
sum-requires-clause-fits c =
    sum_fits_in_range {f = λ p. cond (passes (store c.args.room.now) c.args.t.index p) 1 0} c.map.ensures.source c.map.ensures.closure
    (λ x y q k. search (rules, tests))
    (rw (sum_counts partitions_max (passes (store c.args.room.now) c.args.t.index))
    (omega (arith, prepared_le (store c.args.room.now) c.args.t.index)))

pub returns : goal.returns
returns c =
    sum_in_range {f = λ p. cond (passes (store c.args.room.now) c.args.t.index p) 1 0} c.map.ensures.source c.map.ensures.closure
    (λ x y q k. search (rules, tests)) c.sum.ensures.ran
    ∙ sum_counts partitions_max (passes (store c.args.room.now) c.args.t.index)
