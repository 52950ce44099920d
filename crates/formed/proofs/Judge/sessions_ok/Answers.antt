use Rattle.std.proofs.Common.{rules, refl}
use borrow.Author.Tests.{tests}
use Rattle.book.specs.Ranges.{all_in_range}
use Rattle.formed.proofs.Judge.sessions_ok.Goals as goal

pub returns : goal.returns
returns c = all_in_range c.all.ensures.ran refl (λ x b q k. search (rules, tests))
