-- Deliver.
use Rattle.std.specs.Prelude.{ℕ, zero, suc, ◌+◌, ◌%◌, ◌<◌, Bool, true, false, ◌&&◌, ◌≡◌, ◌⊎◌, eqb, ltb}
use Rattle.std.proofs.Common.{sym, ◌∙◌, inl, inr, ⊎_elim, le_refl, arith, eq-eqb, lt-ltb}
use Rattle.book.specs.Sizes.{places_max, slots}
use Rattle.book.specs.Cells.{Store, same, Entry, Held, First, Waiting}
use Rattle.book.specs.Cases.{by_test, by_cell, and_true}
use Rattle.book.specs.Sets.{member}
use Rattle.book.specs.Servers.{writer}
use Rattle.book.specs.ReplicationSteps.{deliver}
use Rattle.invariant.specs.Inv.{Clocks, clock_at, set_at, Channels, Queued, Holding, Inv, Grown}
use Rattle.invariant.proofs.Install.{has_place}

-- once the oldest is taken, the i-th message is the one that was the next
pub shift : (a i : ℕ) → ((a + 1) % slots + i) % slots ≡ (a + suc i) % slots
shift a i = omega arith

module _ (σ : Store) (I : Inv σ) (p f g : ℕ) (apart : f ≡ g → ⊥) (some : 0 < σ (Waiting g p f)) where
  -- a server's own entry stays
  deliver_own : (h q : ℕ) → deliver σ p f g (Entry h q h) ≡ σ (Entry h q h)
  deliver_own h q = by_cell (Entry g p f) (Entry h q h) (λ r c. absurd (apart (r.k ∙ sym r.i))) (λ c. rw c)

  pub deliver_grown : Grown σ (deliver σ p f g)
  deliver_grown h q k =
      by_cell (Entry g p f) (Entry h q k)
      (λ r c. rw (c, ← r.i, ← r.j, ← r.k) (I.channels.low g p f 0 apart some))
      (λ c. rw c (le_refl _))

  pub deliver_clocks : Clocks (deliver σ p f g)
  deliver_clocks = record {
    own = λ h q. rw (deliver_own h q) (I.clocks.own h q);
    proposed = I.clocks.proposed;
    above = λ t q e. rw (deliver_own (writer σ t q) q) (I.clocks.above t q e);
    waits = λ t q e. rw (deliver_own (writer σ t q) q) (I.clocks.waits t q e);
    committed = I.clocks.committed;
  }

  -- the channel that is read, after it: each message has moved up by one, and the oldest is the entry
  Moved : ℕ → ℕ → ℕ → Type 0
  Moved g' q f' = record {
    entry : deliver σ p f g (Entry g' q f') ≡ clock_at σ g' q f' 0;
    count : σ (Waiting g' q f') ≡ suc (deliver σ p f g (Waiting g' q f'));
    clock : (i : ℕ) → clock_at (deliver σ p f g) g' q f' i ≡ clock_at σ g' q f' (suc i);
    set : (i : ℕ) → set_at (deliver σ p f g) g' q f' i ≡ set_at σ g' q f' (suc i);
  }

  by_channel : {G : Type 0} (g' q f' : ℕ) → (Moved g' q f' → G) → (same (Entry g p f) (Entry g' q f') ≡ false → G) → G
  unfolding Moved
  by_channel g' q f' y n =
      by_cell (Entry g p f) (Entry g' q f')
      (λ r c. y (record {
        entry = rw (c, r.i, r.j, r.k);
        count = rw (c, ← r.i, ← r.j, ← r.k) (omega arith);
        clock = λ i. rw (c, r.i, r.j, r.k, shift (σ (First g' q f')) i);
        set = λ i. rw (c, r.i, r.j, r.k, shift (σ (First g' q f')) i);
      }))
      n

  pub deliver_channels : Channels (deliver σ p f g)
  unfolding Moved
  deliver_channels = record {
    seen = λ g' q f'. rw (deliver_own f' q) (by_cell (Entry g p f) (Entry g' q f')
        (λ r c. rw (c, ← r.j, ← r.k) (I.channels.high g p f 0 apart some))
        (λ c. rw c (I.channels.seen g' q f')));
    low = λ g' q f' i n l. by_channel g' q f'
        (λ m. rw (m.entry, m.clock i) (I.channels.order g' q f' 0 (suc i) n (omega arith) (rw m.count (omega arith))))
        (λ c. rw c (I.channels.low g' q f' i n (rw c at l)));
    high = λ g' q f' i n l. rw (deliver_own f' q) (by_channel g' q f'
        (λ m. rw (m.clock i) (I.channels.high g' q f' (suc i) n (rw m.count (omega arith))))
        (λ c. rw c (I.channels.high g' q f' i n (rw c at l))));
    order = λ g' q f' i j n l k. by_channel g' q f'
        (λ m. rw (m.clock i, m.clock j) (I.channels.order g' q f' (suc i) (suc j) n (omega arith) (rw m.count (omega arith))))
        (λ c. rw c (I.channels.order g' q f' i j n l (rw c at k)));
    fresh = λ g' q f' i t n l e. by_channel g' q f'
        (λ m. rw m.entry (I.channels.later g' q f' 0 (suc i) t n (omega arith) (rw m.count (omega arith)) (rw (m.set i) at e)))
        (λ c. rw c (I.channels.fresh g' q f' i t n (rw c at l) (rw c at e)));
    later = λ g' q f' i j t n l k e. by_channel g' q f'
        (λ m. rw (m.clock i) (I.channels.later g' q f' (suc i) (suc j) t n (omega arith) (rw m.count (omega arith))
        (rw (m.set j) at e)))
        (λ c. rw c (I.channels.later g' q f' i j t n l (rw c at k) (rw c at e)));
    heard = λ g' q f' n k w. rw (deliver_own f' q) (by_channel g' q f'
        (λ m. rw m.entry (I.channels.newest g' q f' 0 n k (rw (m.count, w))))
        (λ c. rw c (I.channels.heard g' q f' n k (rw c at w))));
    newest = λ g' q f' i n k w. rw (deliver_own f' q) (by_channel g' q f'
        (λ m. rw (m.clock i) (I.channels.newest g' q f' (suc i) n k (rw (m.count, w))))
        (λ c. rw c (I.channels.newest g' q f' i n k (rw c at w))));
  }

  -- server (h, q) takes transaction t from the message
  abbrev takes : ℕ → ℕ → ℕ → Bool
  takes h q t = eqb g h && (eqb p q && (ltb t places_max && member (set_at σ g p f 0) t))

  held_grows : (h q t : ℕ) → σ (Held h q t) ≡ 1 → deliver σ p f g (Held h q t) ≡ 1
  held_grows h q t e = by_test (takes h q t) (λ c. rw c) (λ c. rw c e)

  -- one that waited is held now, or waits still
  deliver_queued : (g' q f' t i : ℕ) → t < places_max → i < σ (Waiting g' q f') → member (set_at σ g' q f' i) t ≡ true
      → (deliver σ p f g (Held g' q t) ≡ 1) ⊎ Queued (deliver σ p f g) g' q f' t
  deliver_queued g' q f' t zero b l m =
      by_cell (Entry g p f) (Entry g' q f')
      (λ r c. let m' : member (set_at σ g p f 0) t ≡ true = rw (r.i, r.j, r.k) m in
      inl (rw (eq-eqb g g' r.i, eq-eqb p q r.j, lt-ltb t places_max b, m')))
      (λ c. inr (0, rw c l, rw c m))
  deliver_queued g' q f' t (suc i) b l m =
      by_cell (Entry g p f) (Entry g' q f')
      (λ r c. inr (i, rw (c, r.i, r.j, r.k) (omega arith), rw (c, r.i, r.j, r.k, shift (σ (First g' q f')) i) m))
      (λ c. inr (suc i, rw c l, rw c m))

  pub deliver_holding : Holding (deliver σ p f g)
  deliver_holding = record {
    home = λ t q e. held_grows (writer σ t q) q t (I.holding.home t q e);
    away = λ t q g' e k n.
        ⊎_elim
        (λ x. inl (held_grows g' q t x))
        (λ (i, l, m). deliver_queued g' q (writer σ t q) t i (has_place σ I t q (omega arith)) l m)
        (I.holding.away t q g' e k n);
    done = λ h q t e.
        by_test (takes h q t)
        (λ c. let m = (and_true (ltb t places_max) _ (and_true (eqb p q) _ (and_true (eqb g h) _ c).1).1).1 in
        let x = I.channels.fresh g p f 0 t apart some m in omega arith)
        (λ c. I.holding.done h q t (rw c at e));
  }
