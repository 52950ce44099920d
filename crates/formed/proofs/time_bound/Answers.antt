use Rattle.std.proofs.Common.{arith}
use Rattle.book.specs.Sizes.{places_max}
use Rattle.room.specs.Layout.{store}
use Rattle.formed.specs.Counts.{pairs_le}
use Rattle.formed.proofs.time_bound.Goals as goal

pub overflow_add-result : goal.overflow_add-result
overflow_add-result c = omega (arith, pairs_le places_max (store c.args.room.now))
