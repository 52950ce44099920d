use Rattle.std.proofs.Common.{◌∙◌, rules, refl}
use borrow.Author.Tests.{tests}
use Rattle.book.specs.Ranges.{all_in_range}
use Rattle.formed.specs.Blocks.{entry_ok}
use Rattle.room.specs.Layout.{store}
use Rattle.formed.proofs.Judge.server_ok.Goals as goal

pub returns-then-in_time-3 : goal.returns-then-in_time-3
returns-then-in_time-3 c =
    let a = c.args in
    all_in_range {ok = entry_ok (store a.self.room.now) a.self.latest.0 a.s.hall.index a.s.partition.index} c.all.ensures.ran refl (λ x b q k. search (rules, tests)) ∙ search (rules, tests)
