use Rattle.std.proofs.Common.{rules}
use borrow.Author.Tests.{tests}
use Rattle.book.specs.Ranges.{set_in_range}
use Rattle.replication.proofs.due_set.Goals as goal

pub returns : goal.returns
returns c = set_in_range c.fold.ensures.ran c.filter.ensures.source c.filter.ensures.closure (λ x b q k. search (rules, tests)) (λ a x b q k. search (rules, tests))
