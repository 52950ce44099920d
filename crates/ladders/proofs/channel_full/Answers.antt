use Rattle.std.proofs.Common.{rules, refl}
use borrow.Author.Tests.{tests}
use Rattle.book.specs.Ranges.{any_in_range}
use Rattle.ladders.proofs.channel_full.Goals as goal

pub returns : goal.returns
returns c = any_in_range c.any.ensures.ran refl (λ x b q k. search (rules, tests))
