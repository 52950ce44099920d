use Rattle.std.proofs.Common.{rules, refl}
use borrow.Author.Tests.{tests}
use Rattle.book.specs.Ranges.{lowest_in_range}
use Rattle.replication.proofs.lowest_prepared.Goals as goal

pub returns : goal.returns
returns c =
    lowest_in_range (λ x. record { 0 = x }) (λ t. refl) c.min.ensures.ran c.filter.ensures.source c.filter.ensures.closure
    c.map.ensures.source c.map.ensures.closure (λ x b q k. search (rules, tests)) (λ x y q k. search (rules, tests))
