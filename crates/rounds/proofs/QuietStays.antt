-- A quiet install: taken whatever waits in its channels, and no cell of a reached store moves.
use Rattle.std.specs.Prelude.{ℕ, true, ◌≡◌}
use Rattle.std.proofs.Common.{◌∙◌}
use Rattle.book.specs.Cells.{Store}
use Rattle.book.specs.ReplicationSteps.{is_quiet, install}
use Rattle.invariant.specs.Inv.{Inv}
use Rattle.rounds.proofs.QuietCells.{clocks_stay, quiet_cell}

module _ (σ : Store) (I : Inv σ) (h p : ℕ) (quiet : is_quiet σ h p ≡ true) where
  pub quiet_stays : install σ h p ≡ σ
  quiet_stays = (λ x d. quiet_cell σ I h p quiet d x) ∙ clocks_stay σ I h p quiet
