use Rattle.std.proofs.Common.{◌-◌, ◌≤◌}
use Rattle.book.specs.Sizes.{places_max}
use Rattle.book.specs.Cells.{Held}
use Rattle.book.specs.Sets.{member}
use Rattle.room.specs.Bulk.{row3k, up_to}
use Rattle.room.specs.Stretch.{Changed}
use Rattle.room.proofs.stretch.hold_all.Given as goal

abbrev pub invariant-loop-t : goal.invariant-loop-t
invariant-loop-t l = (l.t ≤ places_max) × Changed (λ h p σ. up_to (row3k (Held 0 0 0).kind h p) (λ d. member l.set d.k) (λ d. 1) l.t σ) l.initial.part l.part

abbrev pub decreases-loop-t : goal.decreases-loop-t
decreases-loop-t l = places_max - l.t
