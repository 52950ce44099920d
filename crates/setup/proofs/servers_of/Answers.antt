use Rattle.std.proofs.Common.{rules}
use borrow.Author.Tests.{tests}
use Rattle.book.specs.Ranges.{count_in_range}
use Rattle.setup.proofs.servers_of.Goals as goal

pub returns : goal.returns
returns c = count_in_range c.count.ensures.ran c.filter.ensures.source c.filter.ensures.closure (λ x b q k. search (rules, tests))
