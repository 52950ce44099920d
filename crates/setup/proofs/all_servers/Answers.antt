use Rattle.std.proofs.Common.{ℕ, rules, arith}
use borrow.Author.Tests.{tests}
use Rattle.book.specs.Sizes.{halls_max, partitions_max}
use Rattle.book.specs.Folds.{count, sum_most}
use Rattle.book.specs.Servers.{holds}
use Rattle.room.specs.Layout.{store}
use Rattle.room.specs.Loops.{count_le}
use Rattle.formed.specs.Sums.{sum_in_range, sum_fits_in_range}
use Rattle.setup.proofs.all_servers.Goals as goal

pub sum-requires-clause-fits : goal.sum-requires-clause-fits
sum-requires-clause-fits c =
    let of_hall = λ (h : ℕ). count partitions_max (holds (store c.args.room.now) h) in
    let most = sum_most halls_max partitions_max of_hall (λ h. count_le partitions_max (holds (store c.args.room.now) h)) in
    sum_fits_in_range {f = of_hall} c.map.ensures.source c.map.ensures.closure (λ x y q k. search (rules, tests)) (omega (arith, most))

pub returns : goal.returns
returns c = sum_in_range c.map.ensures.source c.map.ensures.closure (λ x y q k. search (rules, tests)) c.sum.ensures.ran
