-- What halls tell one another, over the steps.
use Rattle.std.specs.Prelude.{ℕ, ◌≤◌, ltb}
use Rattle.std.proofs.Common.{le_trans, arith, lt-ltb}
use Rattle.book.specs.Sizes.{halls_max, partitions_max}
use Rattle.book.specs.Cells.{Store, Halls, Stable, Entry, HomeHall, HomePartition, Snapshot, Note, Shared}
use Rattle.book.specs.Cases.{by_cell}
use Rattle.book.specs.Folds.{lowest_le}
use Rattle.book.specs.Servers.{holds, holds_hall, at_home}
use Rattle.book.specs.SessionSteps.{snapshot, start}
use Rattle.book.specs.GossipSteps.{report, share, learn}
use Rattle.facts.specs.Setup.{server_small}
use Rattle.invariant.specs.Inv.{GossipOver, Gossip, Inv, Below}

-- The rest of the invariant says nothing of gossip, and gossip needs no more of it than which servers there are.
module _ (σ : Store) (I : Inv σ) (G : Gossip σ) where
  pub report_gossip : (h p : ℕ) → Gossip (report σ h p)
  report_gossip h p = record {
    note = λ h' p' g e.
        by_cell (Note h p) (Note h' p')
        (λ q c. rw (c, ← q.i, ← q.j) (lowest_le _ _ _ g (server_small σ I.setup g p' e).0 (rw q.j e)))
        (λ c. rw c (G.note h' p' g e));
    shared = G.shared;
    stable = G.stable;
    snapshot = G.snapshot;
  }

  pub share_gossip : (f to : ℕ) → Gossip (share σ f to)
  share_gossip f to = record {
    note = G.note;
    shared = λ to' f' p g e e'.
        by_cell (Shared to f) (Shared to' f')
        (λ q c. let b = lowest_le partitions_max (λ p. holds σ f p) (λ p. σ (Note f p)) p (server_small σ I.setup f' p e).1
        (rw q.j e) in
        let n = G.note f p g e' in
        rw (c, ← q.j) (omega arith))
        (λ c. rw c (G.shared to' f' p g e e'));
    stable = G.stable;
    snapshot = G.snapshot;
  }

  pub learn_gossip : (h p : ℕ) → Gossip (learn σ h p)
  learn_gossip h p = record {
    note = G.note;
    shared = G.shared;
    stable = λ a b h' p' g e e'.
        by_cell (Stable h p) (Stable a b)
        (λ q c. let b = lt-ltb h' (σ Halls) (holds_hall σ h' p' e) in
        let l = lowest_le halls_max (λ f. ltb f (σ Halls)) (λ f. σ (Shared h f)) h' (server_small σ I.setup h' p' e).0 b in
        let n = G.shared h h' p' g e e' in
        let o = G.stable h p h' p' g e e' in
        rw c (omega arith))
        (λ c. rw c (G.stable a b h' p' g e e'));
    snapshot = G.snapshot;
  }

  -- the S of a start is at most every entry of every server
  pub snapshot_below : (s : ℕ) → Below σ (snapshot σ s)
  snapshot_below s h p g e e' =
      let x = G.stable (σ (HomeHall s)) (σ (HomePartition s)) h p g e e' in
      let y = G.snapshot s h p g e e' in
      omega arith

  pub start_gossip : (s : ℕ) → Gossip (start σ s)
  start_gossip s = record {
    note = G.note;
    shared = G.shared;
    stable = λ a b h p g e e'.
        by_cell (at_home σ Stable s) (Stable a b)
        (λ q c. rw c (snapshot_below s h p g e e'))
        (λ c. rw c (G.stable a b h p g e e'));
    snapshot = λ s' h p g e e'.
        by_cell (Snapshot s) (Snapshot s')
        (λ q c. rw c (snapshot_below s h p g e e'))
        (λ c. rw c (G.snapshot s' h p g e e'));
  }

-- entries that grow keep it
pub grow_gossip : (σ : Store) (E : ℕ → ℕ → ℕ → ℕ) → Gossip σ → ((h p g : ℕ) → σ (Entry h p g) ≤ E h p g) → GossipOver σ E
grow_gossip σ E I G = record {
  note = λ h p g e. le_trans (I.note h p g e) (G h p g);
  shared = λ to f p g e e'. le_trans (I.shared to f p g e e') (G f p g);
  stable = λ a b h p g e e'. le_trans (I.stable a b h p g e e') (G h p g);
  snapshot = λ s h p g e e'. le_trans (I.snapshot s h p g e e') (G h p g);
}
