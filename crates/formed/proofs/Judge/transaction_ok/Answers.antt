use Rattle.std.proofs.Common.{◌∙◌, rules, refl}
use borrow.Author.Tests.{tests}
use Rattle.book.specs.Ranges.{all_in_range}
use Rattle.book.specs.WellFormed.{pair_ok}
use Rattle.room.specs.Layout.{store}
use Rattle.formed.proofs.Judge.transaction_ok.Goals as goal

pub returns-then-get-lt-KEY_SETS : goal.returns-then-get-lt-KEY_SETS
returns-then-get-lt-KEY_SETS c =
    let a = c.args in
    all_in_range {ok = pair_ok (store a.self.room.now) a.self.latest.0 a.t.index} c.all.ensures.ran refl (λ x b q k. search (rules, tests)) ∙ search (rules, tests)
