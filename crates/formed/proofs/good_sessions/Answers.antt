use Rattle.std.proofs.Common.{◌∙◌, rules, refl}
use borrow.Author.Tests.{tests}
use Rattle.book.specs.Ranges.{all_in_range}
use Rattle.formed.specs.Blocks.{home_ok}
use Rattle.room.specs.Layout.{store}
use Rattle.formed.proofs.good_sessions.Goals as goal

pub returns-then-sessions : goal.returns-then-sessions
returns-then-sessions c =
    let a = c.args in
    all_in_range {ok = home_ok (store a.room.now)} c.all.ensures.ran refl (λ x b q k. search (rules, tests)) ∙ search (rules, tests)
