-- A quiet install: taken whatever waits in its channels, and no cell of a reached store moves.
use Rattle.std.specs.Prelude.{ℕ, true, ◌≡◌}
use Rattle.std.proofs.Math.Bool.{and-false}
use Rattle.std.proofs.Common.{arith}
use Rattle.book.specs.Cells.{Cell, Store, ◌⟨◌≔◌⟩, Hybrid, Entry}
use Rattle.book.specs.Cases.{by_test}
use Rattle.book.specs.Updates.{keep}
use Rattle.book.specs.ReplicationSteps.{has_prepared, version_clock, hybrid_after, is_quiet, install}
use Rattle.invariant.specs.Inv.{Inv}
use Rattle.invariant.proofs.Sent.{quiet_clock, quiet_silent}
use Rattle.rounds.proofs.QuietClock.{none}

module _ (σ : Store) (I : Inv σ) (h p : ℕ) (quiet : is_quiet σ h p ≡ true) where
  -- with nothing prepared: the version clock is at most the hybrid clock, which so has come to the present already
  hybrid_stays : hybrid_after σ h p ≡ σ (Hybrid h p)
  hybrid_stays =
      by_test (has_prepared σ h p)
      (λ c. rw c)
      (λ c. let o = I.clocks.own h p in
      let q = rw c at (quiet_clock σ h p quiet) in
      rw c (omega arith))

  pub clocks_stay : σ ⟨ Hybrid h p ≔ hybrid_after σ h p ⟩ ⟨ Entry h p h ≔ version_clock σ h p ⟩ ≡ σ
  clocks_stay = rw (hybrid_stays, quiet_clock σ h p quiet, keep σ (Hybrid h p)) (keep σ (Entry h p h))

  pub quiet_cell : (d : Cell)
      → install σ h p d ≡ (σ ⟨ Hybrid h p ≔ hybrid_after σ h p ⟩ ⟨ Entry h p h ≔ version_clock σ h p ⟩) d
  quiet_cell d =
      let silent = quiet_silent σ h p quiet d.i d.j d.k in
      let never = none σ I h p (quiet_clock σ h p quiet) in
      rw (never d.i, never d.k, silent) (simp and-false)
