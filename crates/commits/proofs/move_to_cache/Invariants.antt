use Rattle.std.proofs.Common.{◌≡◌}
use Rattle.room.specs.Layout.{store}
use Rattle.commits.specs.Cache.{cached_to}
use Rattle.commits.proofs.move_to_cache.Given as goal

abbrev pub invariant-loop-k : goal.invariant-loop-k
invariant-loop-k l = store l.room ≡ cached_to l.t.index l.s.index l.time.0 l.keys l.k (store l.initial.room)
