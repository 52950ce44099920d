use Rattle.std.proofs.Common.{◌-◌, ◌≤◌, true, get_or}
use Rattle.book.specs.Sizes.{halls_max}
use Rattle.book.specs.Cells.{Entry}
use Rattle.room.specs.Bulk.{row3k, up_to}
use Rattle.room.specs.Stretch.{Changed}
use Rattle.room.proofs.stretch.set_entries.Given as goal

abbrev pub invariant-loop-g : goal.invariant-loop-g
invariant-loop-g l = (l.g ≤ halls_max)
    × Changed (λ h p σ. up_to (row3k (Entry 0 0 0).kind h p) (λ d. true) (λ d. (get_or l.times d.k (record { 0 = 0 })).0) l.g σ) l.initial.part l.part

abbrev pub decreases-loop-g : goal.decreases-loop-g
decreases-loop-g l = halls_max - l.g
