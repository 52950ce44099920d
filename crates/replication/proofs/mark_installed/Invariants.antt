use Rattle.std.proofs.Common.{ℕ, Bool, ◌≡◌}
use Rattle.book.specs.Cells.{Cell, State, installed}
use Rattle.book.specs.Sets.{member}
use Rattle.room.specs.Layout.{store}
use Rattle.room.specs.Bulk.{row2i, up_to}
use Rattle.replication.proofs.mark_installed.Given as goal

abbrev pub among : ℕ → Cell → Bool
among m d = member m d.i

abbrev pub invariant-loop-t : goal.invariant-loop-t
invariant-loop-t l = store l.room ≡ up_to (row2i (State 0 0).kind l.p.index) (among l.set) (λ d. installed) l.t (store l.initial.room)
