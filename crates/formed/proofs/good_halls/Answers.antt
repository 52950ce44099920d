use Rattle.std.proofs.Common.{◌∙◌, rules, refl}
use borrow.Author.Tests.{tests}
use Rattle.book.specs.Ranges.{all_in_range}
use Rattle.formed.specs.Blocks.{partition_ok}
use Rattle.room.specs.Layout.{store}
use Rattle.formed.proofs.good_halls.Goals as goal

pub returns-then-partitions-partitions_held : goal.returns-then-partitions-partitions_held
returns-then-partitions-partitions_held c =
    let a = c.args in
    all_in_range {ok = partition_ok (store a.room.now)} c.all.ensures.ran refl (λ x b q k. search (rules, tests)) ∙ search (rules, tests)
