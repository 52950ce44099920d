-- Document 02, d: "Show that S is never the larger, so the special 0 goes."
use Rattle.std.specs.Prelude.{ℕ, ◌≤◌, ◌<◌, ◌≡◌}
use Rattle.std.proofs.Common.{arith}
use Rattle.book.specs.Cells.{Store, HomeHall, HomePartition, CommitTime, prepared, waiting, Proposed}
use Rattle.book.specs.SessionSteps.{snapshot}
use Rattle.book.specs.Steps.{refusal}
use Rattle.book.specs.Reached.{Reached}
use Rattle.invariant.proofs.Gossip.{snapshot_below}
use Rattle.invariant.proofs.Reach.{reached_inv, reached_gossip}
use Rattle.rounds.specs.Lag.{told, WritesFor, state_there}
use Rattle.rounds.proofs.NeverLarger.{home}
use Rattle.rounds.proofs.LagWhole.{lag_whole}

module _ {σ : Store} (r : Reached σ) (s : ℕ) where
  module _ (taken : refusal σ 2 s 0 0 ≡ 0) where
    module _ (t : ℕ) (w : WritesFor σ s t) where
      -- What the coordinator has committed, installed or not, is at S or within the lag above it.
      pub lag_committed : waiting ≤ state_there σ s t → σ (CommitTime t) ≤ told σ s
      lag_committed l =
          let c = rw w at ((reached_inv r).clocks.committed t (σ (HomePartition s)) l) in
          rw (lag_whole r s taken) (omega arith)

      -- What is prepared there was proposed a time above S, within the lag.
      pub lag_prepared : state_there σ s t ≡ prepared
          → (snapshot σ s < σ (Proposed t (σ (HomePartition s)))) × (σ (Proposed t (σ (HomePartition s))) ≤ told σ s)
      lag_prepared e =
          let I = reached_inv r in
          let there = home r s taken in
          let k = snapshot_below σ I (reached_gossip r) s (σ (HomeHall s)) (σ (HomePartition s)) (σ (HomeHall s)) there there in
          let a = rw w at (I.clocks.above t (σ (HomePartition s)) e) in
          let b = rw w at (I.clocks.proposed t (σ (HomePartition s)) e) in
          rw (lag_whole r s taken) (omega arith, omega arith)
