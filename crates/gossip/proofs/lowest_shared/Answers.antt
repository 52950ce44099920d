use Rattle.std.proofs.Common.{rules, refl}
use borrow.Author.Tests.{tests}
use Rattle.book.specs.Ranges.{lowest_or_in_range}
use Rattle.gossip.proofs.lowest_shared.Goals as goal

pub returns : goal.returns
returns c =
    rw c.unwrap_or.ensures (lowest_or_in_range (λ t. t.0) c.min.result _ refl c.min.ensures.ran c.filter.ensures.source c.filter.ensures.closure
    c.map.ensures.source c.map.ensures.closure (λ x b q k. search (rules, tests)) (λ x y q k. search (rules, tests)))
