use Rattle.std.proofs.Common.{◌≡◌}
use Rattle.room.specs.Layout.{store}
use Rattle.sessions.specs.Starting.{cleaned_to}
use Rattle.sessions.proofs.clean_cache.Given as goal

abbrev pub invariant-loop-k : goal.invariant-loop-k
invariant-loop-k l = store l.room ≡ cleaned_to l.k (store l.initial.room) l.s.index l.snapshot.0
