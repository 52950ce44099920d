use Rattle.std.proofs.Common.{ℕ, Bool, List, ◌<◌, ◌≡◌}
use Rattle.book.specs.Servers.{holds, first_from}
use Rattle.room.specs.Layout.{store}
use Rattle.servers.proofs.writing_hall.Given as goal

abbrev pub held : List ℕ → ℕ → ℕ → Bool
held room p h = holds (store room) h p

-- what is left to find from here is what was to be found at first
abbrev pub invariant-loop-left : goal.invariant-loop-left
invariant-loop-left l = (l.h < l.halls) × (first_from (held l.room l.p) l.halls l.left l.h ≡ first_from (held l.room l.p) l.halls l.halls l.initial.h)

abbrev pub decreases-loop-left : goal.decreases-loop-left
decreases-loop-left l = l.left
