use Rattle.std.proofs.Common.{◌≡◌}
use Rattle.room.specs.Layout.{store}
use Rattle.sessions.specs.Asking.{copied_to}
use Rattle.sessions.proofs.copy_values.Given as goal

abbrev pub invariant-loop-k : goal.invariant-loop-k
invariant-loop-k l = store l.room ≡ copied_to l.k (store l.initial.room) l.s.index l.t.index
