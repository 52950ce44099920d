use Rattle.std.proofs.Common.{◌∙◌, rules, refl}
use borrow.Author.Tests.{tests}
use Rattle.book.specs.Ranges.{all_in_range}
use Rattle.formed.specs.Blocks.{cached_ok}
use Rattle.room.specs.Layout.{store}
use Rattle.formed.proofs.Judge.session_ok.Goals as goal

pub returns-then-get-lt-KEY_SETS-2 : goal.returns-then-get-lt-KEY_SETS-2
returns-then-get-lt-KEY_SETS-2 c =
    let a = c.args in
    all_in_range {ok = cached_ok (store a.self.room.now) a.self.latest.0 a.s.index} c.all.ensures.ran refl (λ x b q k. search (rules, tests)) ∙ search (rules, tests)
