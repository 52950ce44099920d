use Rattle.std.proofs.Common.{◌≤◌, ◌≡◌}
use Rattle.book.specs.Folds.{count}
use Rattle.book.specs.SessionSteps.{touches}
use Rattle.room.specs.Layout.{store}
use Rattle.sessions.specs.Asking.{asked_to}
use Rattle.sessions.proofs.ask_states.Given as goal

abbrev pub invariant-loop-p : goal.invariant-loop-p
invariant-loop-p l = (l.n ≤ l.p) × (l.n ≡ count l.p (touches (store l.initial.room) l.m)) × (store l.room ≡ asked_to l.p (store l.initial.room) l.t.index l.m)
