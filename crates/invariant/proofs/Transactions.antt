-- The steps of a transaction: the rest of what they keep.
use Rattle.std.specs.Prelude.{ℕ, ◌≤◌, ◌<◌, true, ◌&&◌, ◌≡◌, ◌⊎◌, eqb}
use Rattle.std.proofs.Common.{le_trans, arith}
use Rattle.book.specs.Sizes.{partitions_max, keys, places_max}
use Rattle.book.specs.Cells.{Store, same, ◌⟨◌≔◌⟩, Sessions, Transactions, HomeHall, WriteSet, From, CommitTime, State, prepared, installed}
use Rattle.book.specs.Cases.{by_test, eqb_refl, unwritten}
use Rattle.book.specs.Folds.{any_i}
use Rattle.book.specs.Sets.{member}
use Rattle.book.specs.Servers.{holds_hall, partition_of}
use Rattle.book.specs.SessionSteps.{touches, ask}
use Rattle.book.specs.CommitSteps.{decide}
use Rattle.invariant.specs.Inv.{Channels, Holding, Writes, Inv}
use Rattle.invariant.proofs.Clocks.{state_stays, decide_grows, ask_other, ask_old}

-- a set that has key k has one of k's partition
pub touches_i : (σ : Store) (m k : ℕ) → k < keys → member m k ≡ true → touches σ m (partition_of σ k) ≡ true
touches_i σ m k b e =
    any_i keys (λ k'. member m k' && eqb (partition_of σ k') (partition_of σ k)) k b (rw (e, eqb_refl (partition_of σ k)))

module _ (σ : Store) (I : Inv σ) where
  -- Prepare and Commit: a pair's state becomes v, which is neither none nor installed
  module _ (t p v : ℕ) (some : 0 < v) (other : v ≡ installed → ⊥) where
    pub state_holding : Holding (σ ⟨ State t p ≔ v ⟩)
    state_holding = record {
      home = λ t' p' e. I.holding.home t' p' (unwritten (same (State t p) (State t' p')) v _ installed other e).1;
      away = λ t' p' g e. I.holding.away t' p' g (unwritten (same (State t p) (State t' p')) v _ installed other e).1;
      done = I.holding.done;
    }

    pub state_writes : Writes (σ ⟨ State t p ≔ v ⟩)
    state_writes = record {
      from = I.writes.from;
      written = λ t' k b e. state_stays (same (State t p) (State t' (partition_of σ k))) v _ some (I.writes.written t' k b e);
    }

  module _ (t : ℕ) (tb : t < σ Transactions) (un : σ (CommitTime t) ≡ 0)
      (all : (p : ℕ) → p < partitions_max → (σ (State t p) ≡ 0) ⊎ (σ (State t p) ≡ prepared)) where
    grows : (t' : ℕ) → σ (CommitTime t') ≤ decide σ t (CommitTime t')
    grows = decide_grows σ I t tb un all

    pub decide_channels : Channels (decide σ t)
    decide_channels = record {
      seen = I.channels.seen;
      low = I.channels.low;
      high = I.channels.high;
      order = I.channels.order;
      fresh = λ g p f i t' n l e. le_trans (I.channels.fresh g p f i t' n l e) (grows t');
      later = λ g p f i j t' n l m e. le_trans (I.channels.later g p f i j t' n l m e) (grows t');
      heard = I.channels.heard;
      newest = I.channels.newest;
    }

    pub decide_holding : Holding (decide σ t)
    decide_holding = record {
      home = I.holding.home;
      away = I.holding.away;
      done = λ h p t' e. le_trans (I.holding.done h p t' e) (grows t');
    }

  module _ (s : ℕ) (there : s < σ Sessions) (room : σ Transactions < places_max) where
    pub ask_holding : Holding (ask σ s)
    ask_holding = record {
      home = λ t p e.
          let o = ask_old σ I s room t p installed (omega arith) e in
          rw (ask_other σ I s room t p (omega arith)) (I.holding.home t p o);
      away = λ t p g e k n.
          let o = ask_old σ I s room t p installed (omega arith) e in
          let c = ask_other σ I s room t p (omega arith) in
          rw c (I.holding.away t p g o k (rw c at n));
      done = I.holding.done;
    }

    pub ask_writes : Writes (ask σ s)
    ask_writes = record {
      from = λ t.
          by_test (same (From (σ Transactions)) (From t))
          (λ c. rw c (holds_hall σ (σ (HomeHall s)) _ (I.setup.homes s there)))
          (λ c. rw c (I.writes.from t));
      written = λ t k b e.
          by_test (eqb (σ Transactions) t)
          (λ c. rw (c, touches_i σ (σ (WriteSet s)) k b (rw c at e)) (omega arith))
          (λ c. rw c (I.writes.written t k b (rw c at e)));
    }
