-- A quiet install: taken whatever waits in its channels, and no cell of a reached store moves.
use Rattle.std.specs.Prelude.{ℕ, true, ◌≡◌, refl, eqb}
use Rattle.std.proofs.Common.{◌∙◌}
use Rattle.book.specs.Cells.{Store, Entry}
use Rattle.book.specs.Folds.{any}
use Rattle.book.specs.Servers.{holds}
use Rattle.book.specs.ReplicationSteps.{version_clock, is_quiet}
use Rattle.book.specs.Steps.{rule_of, install_rule, refusal, after}
use Rattle.book.specs.Reached.{Reached}
use Rattle.invariant.proofs.Reach.{reached_inv}
use Rattle.facts.specs.Calls.{call, by_rule}
use Rattle.rounds.proofs.QuietClock.{by_clock}
use Rattle.rounds.proofs.QuietStays.{quiet_stays}

-- In a reached store an install is quiet just where its clock stays: "installs nothing" follows.
pub quiet_by_clock : {σ : Store} → Reached σ → (h p : ℕ) → is_quiet σ h p ≡ eqb (version_clock σ h p) (σ (Entry h p h))
quiet_by_clock {σ} r = by_clock σ (reached_inv r)

-- "shall send no message, and then also pass when a channel holds 8", with no cell changed
pub quiet_install : {σ : Store} → Reached σ → (h p : ℕ) → holds σ h p ≡ true → is_quiet σ h p ≡ true
    → (refusal σ 9 h p 0 ≡ 0) × (after σ 9 h p 0 ≡ σ)
unfolding rule_of any
quiet_install {σ} r h p e quiet =
    let w = by_rule σ (call 9 h p 0) (install_rule σ h p 0) refl (rw (e, quiet)) in
    (w.0, w.1 ∙ quiet_stays σ (reached_inv r) h p quiet)
