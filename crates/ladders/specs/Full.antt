-- 10: "now only when a message would be sent"
use Rattle.std.specs.Prelude.{ℕ, Bool, true, false, ◌&&◌, not, ◌≡◌, leb}
use Rattle.std.proofs.Math.Bool.{and-true, and-false}
use Rattle.book.specs.Sizes.{halls_max, slots}
use Rattle.book.specs.Cells.{Store, Waiting}
use Rattle.book.specs.Folds.{any}
use Rattle.book.specs.ReplicationSteps.{is_quiet, other_holder, sends_to}

-- the channel from h to g holds 8 messages, where there is one
abbrev pub full_to : Store → ℕ → ℕ → ℕ → Bool
full_to σ h p g = other_holder σ h p g && leb slots (σ (Waiting g p h))

by_quiet : (quiet : Bool) (other full : ℕ → Bool)
    → any halls_max (λ g. (not quiet && other g) && full g) ≡ (any halls_max (λ g. other g && full g) && not quiet)
unfolding any
by_quiet true other full = rw and-false
by_quiet false other full = rw and-true

-- whether an install is quiet may be asked once, and only where a channel is full
pub asked_once : (σ : Store) (h p : ℕ)
    → any halls_max (λ g. sends_to σ h p g && leb slots (σ (Waiting g p h)))
    ≡ (any halls_max (full_to σ h p) && not (is_quiet σ h p))
asked_once σ h p = by_quiet (is_quiet σ h p) (other_holder σ h p) (λ g. leb slots (σ (Waiting g p h)))
