-- Document 02, d: "Show that S is never the larger, so the special 0 goes."
use Rattle.std.specs.Prelude.{ℕ, ◌≤◌, true, ◌≡◌}
use Rattle.std.proofs.Common.{le_trans}
use Rattle.book.specs.Cells.{Store, Hybrid, HomeHall, HomePartition}
use Rattle.book.specs.Servers.{holds}
use Rattle.book.specs.SessionSteps.{snapshot}
use Rattle.book.specs.Steps.{rule_of, refusal}
use Rattle.book.specs.Reached.{Reached}
use Rattle.facts.specs.Facts.{start_facts}
use Rattle.invariant.specs.Inv.{Inv}
use Rattle.invariant.proofs.Gossip.{snapshot_below}
use Rattle.invariant.proofs.Reach.{reached_inv, reached_gossip}

-- the coordinator of a session whose start is taken is a server
coordinator_holds : (σ : Store) → Inv σ → (s : ℕ) → refusal σ 2 s 0 0 ≡ 0 → holds σ (σ (HomeHall s)) (σ (HomePartition s)) ≡ true
unfolding refusal rule_of
coordinator_holds σ I s e = I.setup.homes s (start_facts σ s 0 0 e).there

module _ {σ : Store} (r : Reached σ) (s : ℕ) where
  -- The S of a start is at most the hybrid clock of every server, so of the coordinator, wherever the session was carried.
  pub never_larger : (h p : ℕ) → holds σ h p ≡ true → snapshot σ s ≤ σ (Hybrid h p)
  never_larger h p e =
      let I = reached_inv r in
      le_trans (snapshot_below σ I (reached_gossip r) s h p h e e) (I.clocks.own h p)

  module _ (taken : refusal σ 2 s 0 0 ≡ 0) where
    pub home : holds σ (σ (HomeHall s)) (σ (HomePartition s)) ≡ true
    home = coordinator_holds σ (reached_inv r) s taken
