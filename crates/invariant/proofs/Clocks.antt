-- Clocks and states, over the steps of a transaction.
use Rattle.std.specs.Prelude.{ℕ, ◌≤◌, ◌<◌, Bool, true, false, cond, ◌&&◌, ◌≡◌, ◌⊎◌, eqb}
use Rattle.std.proofs.Common.{⊎_elim, le_trans, le_refl, arith, eq-eqb}
use Rattle.book.specs.Sizes.{partitions_max, places_max}
use Rattle.book.specs.Cells.{Store, same, ◌⟨◌≔◌⟩, Transactions, Hybrid, WriteSet, CommitTime, State, asked, prepared, waiting, installed, Proposed}
use Rattle.book.specs.Cases.{by_test, by_eq, by_cell, at_same, unwritten}
use Rattle.book.specs.Folds.{largest_ge}
use Rattle.book.specs.Servers.{writer}
use Rattle.book.specs.SessionSteps.{touches, ask}
use Rattle.book.specs.CommitSteps.{proposal, prepare, decide, commitment, commit}
use Rattle.invariant.specs.Inv.{Clocks, States, Inv}

-- a hybrid clock that rises
pub hybrid_rises : (σ : Store) (h p x : ℕ) → σ (Hybrid h p) ≤ x → (h' p' : ℕ) → σ (Hybrid h' p') ≤ (σ ⟨ Hybrid h p ≔ x ⟩) (Hybrid h' p')
hybrid_rises σ h p x l h' p' =
    by_cell (Hybrid h p) (Hybrid h' p')
    (λ q c. rw (c, ← q.i, ← q.j) l)
    (λ c. rw c (le_refl _))

-- a state that is there stays there
pub state_stays : (b : Bool) (v n : ℕ) → 0 < v → 0 < n → 0 < cond b v n
state_stays true v n l m = l
state_stays false v n l m = m

-- a pair's state that becomes v
module _ (σ : Store) (I : Inv σ) (t p v : ℕ) where
  state_free : t < σ Transactions → (t' p' : ℕ) → σ Transactions ≤ t' → (σ ⟨ State t p ≔ v ⟩) (State t' p') ≡ 0
  state_free tb t' p' l =
      by_cell (State t p) (State t' p')
      (λ q c. let z = q.i in absurd (omega arith))
      (λ c. rw c (I.states.free t' p' l))

  state_range : v ≤ installed → (t' p' : ℕ) → (σ ⟨ State t p ≔ v ⟩) (State t' p') ≤ installed
  state_range l t' p' = by_test (same (State t p) (State t' p')) (λ c. rw c l) (λ c. rw c (I.states.range t' p'))

-- Prepare
module _ (σ : Store) (I : Inv σ) (t p : ℕ) (tb : t < σ Transactions) (pb : p < partitions_max) (is : σ (State t p) ≡ asked) where
  prepare_hybrid : (h' p' : ℕ) → σ (Hybrid h' p') ≤ prepare σ t p (Hybrid h' p')
  prepare_hybrid = hybrid_rises σ (writer σ t p) p (proposal σ t p) (omega arith)

  pub prepare_clocks : Clocks (prepare σ t p)
  prepare_clocks = record {
    own = λ h' p'. le_trans (I.clocks.own h' p') (prepare_hybrid h' p');
    proposed = λ t' p' e.
        by_cell (State t p) (State t' p')
        (λ q c. rw (c, ← q.i, ← q.j, at_same (Hybrid (writer σ t p) p)) (omega arith))
        (λ c. rw c (le_trans (I.clocks.proposed t' p' (rw c at e)) (prepare_hybrid (writer σ t' p') p')));
    above = λ t' p' e.
        by_cell (State t p) (State t' p')
        (λ q c. let o = I.clocks.own (writer σ t p) p in
        rw (c, ← q.i, ← q.j) (omega arith))
        (λ c. rw c (I.clocks.above t' p' (rw c at e)));
    waits = λ t' p' e. I.clocks.waits t' p' (unwritten (same (State t p) (State t' p')) prepared _ waiting (λ x. omega arith) e).1;
    committed = λ t' p' l.
        by_test (same (State t p) (State t' p'))
        (λ c. let y = rw c at l in absurd (omega arith))
        (λ c. le_trans (I.clocks.committed t' p' (rw c at l)) (prepare_hybrid (writer σ t' p') p'));
  }

  pub prepare_states : States (prepare σ t p)
  prepare_states = record {
    places = I.states.places;
    free = state_free σ I t p prepared tb;
    undecided = I.states.undecided;
    range = state_range σ I t p prepared (omega arith);
    early = λ t' p' b e. I.states.early t' p' b (unwritten (same (State t p) (State t' p')) prepared _ asked (λ x. omega arith) e).1;
    decided = λ t' p' b e d.
        by_cell (State t p) (State t' p')
        (λ q c. let z = I.states.early t p pb is in let y : 0 < σ (CommitTime t) = rw q.i d in absurd (omega arith))
        (λ c. rw c (I.states.decided t' p' b (rw c at e) d));
    late = λ t' p' l.
        by_test (same (State t p) (State t' p'))
        (λ c. let y = rw c at l in absurd (omega arith))
        (λ c. I.states.late t' p' (rw c at l));
  }

-- Commit
module _ (σ : Store) (I : Inv σ) (t p : ℕ) (tb : t < σ Transactions) (pb : p < partitions_max) (is : σ (State t p) ≡ prepared)
    (d : 0 < σ (CommitTime t)) where
  commit_hybrid : (h' p' : ℕ) → σ (Hybrid h' p') ≤ commit σ t p (Hybrid h' p')
  commit_hybrid = hybrid_rises σ (writer σ t p) p (commitment σ t p) (omega arith)

  pub commit_clocks : Clocks (commit σ t p)
  commit_clocks = record {
    own = λ h' p'. le_trans (I.clocks.own h' p') (commit_hybrid h' p');
    proposed = λ t' p' e.
        le_trans (I.clocks.proposed t' p' (unwritten (same (State t p) (State t' p')) waiting _ prepared (λ x. omega arith) e).1)
        (commit_hybrid (writer σ t' p') p');
    above = λ t' p' e. I.clocks.above t' p' (unwritten (same (State t p) (State t' p')) waiting _ prepared (λ x. omega arith) e).1;
    waits = λ t' p' e.
        by_cell (State t p) (State t' p')
        (λ q c. let a = I.clocks.above t p is in let b = I.states.decided t p pb is d in
        rw (← q.i, ← q.j) (omega arith))
        (λ c. I.clocks.waits t' p' (rw c at e));
    committed = λ t' p' l.
        by_cell (State t p) (State t' p')
        (λ q c. rw (← q.i, ← q.j, at_same (Hybrid (writer σ t p) p)) (omega arith))
        (λ c. le_trans (I.clocks.committed t' p' (rw c at l)) (commit_hybrid (writer σ t' p') p'));
  }

  pub commit_states : States (commit σ t p)
  commit_states = record {
    places = I.states.places;
    free = state_free σ I t p waiting tb;
    undecided = I.states.undecided;
    range = state_range σ I t p waiting (omega arith);
    early = λ t' p' b e. I.states.early t' p' b (unwritten (same (State t p) (State t' p')) waiting _ asked (λ x. omega arith) e).1;
    decided = λ t' p' b e. I.states.decided t' p' b (unwritten (same (State t p) (State t' p')) waiting _ prepared
        (λ x. omega arith) e).1;
    late = λ t' p' l.
        by_cell (State t p) (State t' p')
        (λ q c. rw (← q.i) d)
        (λ c. I.states.late t' p' (rw c at l));
  }

-- Decide
module _ (σ : Store) (I : Inv σ) (t : ℕ) (tb : t < σ Transactions) (un : σ (CommitTime t) ≡ 0)
    (all : (p : ℕ) → p < partitions_max → (σ (State t p) ≡ 0) ⊎ (σ (State t p) ≡ prepared)) where
  pub decide_grows : (t' : ℕ) → σ (CommitTime t') ≤ decide σ t (CommitTime t')
  decide_grows t' =
      by_cell (CommitTime t) (CommitTime t')
      (λ q c. let z : σ (CommitTime t') ≡ 0 = rw (← q.i) un in rw c (omega arith))
      (λ c. rw c (omega arith))

  pub decide_clocks : Clocks (decide σ t)
  decide_clocks = record {
    own = I.clocks.own;
    proposed = I.clocks.proposed;
    above = I.clocks.above;
    waits = λ t' p' e. le_trans (I.clocks.waits t' p' e) (decide_grows t');
    committed = λ t' p' l.
        by_cell (CommitTime t) (CommitTime t')
        (λ q c. let y : σ (CommitTime t') ≡ 0 = rw (← q.i) un in let z = I.states.late t' p' l in absurd (omega arith))
        (λ c. rw c (I.clocks.committed t' p' l));
  }

  pub decide_states : States (decide σ t)
  decide_states = record {
    places = I.states.places;
    free = I.states.free;
    undecided = λ t' l.
        by_cell (CommitTime t) (CommitTime t')
        (λ q c. let z = q.i in absurd (omega arith))
        (λ c. rw c (I.states.undecided t' l));
    range = I.states.range;
    early = λ t' p' b e.
        by_cell (CommitTime t) (CommitTime t')
        (λ q c. let e' : σ (State t p') ≡ asked = rw q.i e in ⊎_elim (λ z. absurd (omega arith)) (λ z. absurd (omega arith)) (all p' b))
        (λ c. rw c (I.states.early t' p' b e));
    decided = λ t' p' b e d.
        by_cell (CommitTime t) (CommitTime t')
        (λ q c. rw (c, ← q.i)
        (largest_ge partitions_max (λ p. eqb (σ (State t p)) prepared) (λ p. σ (Proposed t p)) p' b
        (eq-eqb (σ (State t p')) prepared (rw q.i e))))
        (λ c. rw c (I.states.decided t' p' b e (rw c at d)));
    late = λ t' p' l. le_trans (I.states.late t' p' l) (decide_grows t');
  }

-- End, with writes
module _ (σ : Store) (I : Inv σ) (s : ℕ) (room : σ Transactions < places_max) where
  -- a state that is there before it is of another transaction
  pub ask_other : (t p : ℕ) → 0 < σ (State t p) → eqb (σ Transactions) t ≡ false
  ask_other t p l = by_eq (σ Transactions) t (λ q c. let z = I.states.free t p (omega arith) in absurd (omega arith)) (λ q c. c)

  -- a state past asked is an old one
  pub ask_old : (t p n : ℕ) → asked < n → ask σ s (State t p) ≡ n → σ (State t p) ≡ n
  ask_old t p n l e = (unwritten (eqb (σ Transactions) t && touches σ (σ (WriteSet s)) p) asked (σ (State t p)) n (λ x. omega arith) e).1

  pub ask_clocks : Clocks (ask σ s)
  ask_clocks = record {
    own = I.clocks.own;
    proposed = λ t p e. let o = ask_old t p prepared (omega arith) e in rw (ask_other t p (omega arith)) (I.clocks.proposed t p o);
    above = λ t p e. let o = ask_old t p prepared (omega arith) e in rw (ask_other t p (omega arith)) (I.clocks.above t p o);
    waits = λ t p e. let o = ask_old t p waiting (omega arith) e in rw (ask_other t p (omega arith)) (I.clocks.waits t p o);
    committed = λ t p l.
        by_test (eqb (σ Transactions) t && touches σ (σ (WriteSet s)) p)
        (λ c. let y = rw c at l in absurd (omega arith))
        (λ c. let o = rw c at l in rw (ask_other t p (omega arith)) (I.clocks.committed t p o));
  }

  pub ask_states : States (ask σ s)
  ask_states = record {
    places = room;
    free = λ t p l.
        by_eq (σ Transactions) t
        (λ q c. absurd (omega arith))
        (λ q c. rw c (I.states.free t p (omega arith)));
    undecided = λ t l. I.states.undecided t (omega arith);
    range = λ t p.
        by_test (eqb (σ Transactions) t && touches σ (σ (WriteSet s)) p)
        (λ c. rw c (omega arith))
        (λ c. rw c (I.states.range t p));
    early = λ t p b e.
        by_eq (σ Transactions) t
        (λ q c. I.states.undecided t (omega arith))
        (λ q c. I.states.early t p b (rw c at e));
    decided = λ t p b e. I.states.decided t p b (ask_old t p prepared (omega arith) e);
    late = λ t p l.
        by_test (eqb (σ Transactions) t && touches σ (σ (WriteSet s)) p)
        (λ c. let y = rw c at l in absurd (omega arith))
        (λ c. I.states.late t p (rw c at l));
  }
