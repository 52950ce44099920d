use Rattle.std.proofs.Common.{rules, arith}
use borrow.Author.Tests.{tests}
use Rattle.book.specs.Sizes.{places_max}
use Rattle.room.specs.Layout.{store}
use Rattle.formed.specs.Blocks.{prepared_at}
use Rattle.formed.specs.Counts.{pairs_le}
use Rattle.formed.specs.Sums.{sum_in_range, sum_fits_in_range}
use Rattle.formed.proofs.pairs_prepared.Goals as goal

pub sum-requires-clause-fits : goal.sum-requires-clause-fits
sum-requires-clause-fits c =
    sum_fits_in_range {f = prepared_at (store c.args.room.now)} c.map.ensures.source c.map.ensures.closure (λ x y q k. search (rules, tests)) (omega (arith, pairs_le places_max (store c.args.room.now)))

pub returns : goal.returns
returns c = sum_in_range c.map.ensures.source c.map.ensures.closure (λ x y q k. search (rules, tests)) c.sum.ensures.ran
