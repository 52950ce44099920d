use Rattle.std.proofs.Common.{◌≡◌}
use Rattle.room.specs.Layout.{store}
use Rattle.vectors.specs.Vectors.{entries}
use Rattle.vectors.proofs.vector_of.Given as goal

abbrev pub invariant-loop-f : goal.invariant-loop-f
invariant-loop-f l = l.times ≡ entries (store l.room) l.s.hall.index l.s.partition.index l.f
