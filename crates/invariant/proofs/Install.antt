-- Install: the version clock that it comes to, and the clocks and states after it.
use Rattle.std.specs.Prelude.{ℕ, suc, ◌≤◌, ◌<◌, true, false, ◌&&◌, ◌≡◌, eqb, leb}
use Rattle.std.proofs.Common.{sym, ◌∙◌, le_trans, le_refl, arith, eqb-true, eq-eqb, leb-true, leb-false}
use Rattle.book.specs.Sizes.{places_max}
use Rattle.book.specs.Cells.{Store, Transactions, Hybrid, Entry, CommitTime, State, asked, prepared, waiting, installed, Proposed}
use Rattle.book.specs.Cases.{by_test, by_cell, and_true, at_same, unwritten}
use Rattle.book.specs.Folds.{lowest, lowest_le, lowest_ge, any_true, any_i}
use Rattle.book.specs.Servers.{writer}
use Rattle.book.specs.ReplicationSteps.{prepared_at, has_prepared, version_clock, hybrid_after, installs, install}
use Rattle.invariant.specs.Inv.{Clocks, States, Inv, Grown}
use Rattle.invariant.proofs.Clocks.{hybrid_rises}

-- what a transaction that is installed was
pub installs_is : (σ : Store) (h p t : ℕ) → installs σ h p t ≡ true
    → (σ (State t p) ≡ waiting) × (writer σ t p ≡ h) × (σ (CommitTime t) ≤ version_clock σ h p)
installs_is σ h p t e =
    let a = and_true (eqb (σ (State t p)) waiting) _ e in
    let b = and_true (eqb (writer σ t p) h) _ a.1 in
    (eqb-true _ _ a.0, eqb-true _ _ b.0, leb-true _ _ b.1)

-- a waiting one of this server that is not installed is above the version clock
stays_above : (σ : Store) (h p t : ℕ) → installs σ h p t ≡ false → σ (State t p) ≡ waiting → writer σ t p ≡ h
    → version_clock σ h p < σ (CommitTime t)
stays_above σ h p t e s w = leb-false (σ (CommitTime t)) (version_clock σ h p) (rw (eq-eqb _ _ s, eq-eqb _ _ w) at e)

-- a transaction with a state has been asked for, and has a place
pub has_asked : (σ : Store) → Inv σ → (t p : ℕ) → 0 < σ (State t p) → t < σ Transactions
has_asked σ I t p l =
    by_test (leb (σ Transactions) t)
    (λ c. let z = I.states.free t p (leb-true (σ Transactions) t c) in absurd (omega arith))
    (λ c. leb-false (σ Transactions) t c)

pub has_place : (σ : Store) → Inv σ → (t p : ℕ) → 0 < σ (State t p) → t < places_max
has_place σ I t p l = le_trans (has_asked σ I t p l) I.states.places

pub install_hybrid : (σ : Store) (h p h' p' : ℕ) → σ (Hybrid h' p') ≤ install σ h p (Hybrid h' p')
install_hybrid σ h p =
    hybrid_rises σ h p (hybrid_after σ h p) (by_test (has_prepared σ h p) (λ c. rw c (omega arith)) (λ c. rw c (omega arith)))

-- what a server knows of another hall stays
pub install_other : (σ : Store) (h p g q f : ℕ) → (f ≡ g → ⊥) → install σ h p (Entry g q f) ≡ σ (Entry g q f)
install_other σ h p g q f n = by_cell (Entry h p h) (Entry g q f) (λ r c. absurd (n (sym r.k ∙ r.i))) (λ c. rw c)

module _ (σ : Store) (I : Inv σ) (h p : ℕ) where
  -- what is installed has a commit time above the version clock before
  pub installs_above : (t : ℕ) → installs σ h p t ≡ true → σ (Entry h p h) < σ (CommitTime t)
  installs_above t e = let m = installs_is σ h p t e in rw m.1 at (I.clocks.waits t p m.0)

  pub clock_grows : σ (Entry h p h) ≤ version_clock σ h p
  clock_grows =
      let o = I.clocks.own h p in
      by_test (has_prepared σ h p)
      (λ c. let l : σ (Entry h p h) < lowest places_max (prepared_at σ h p) (λ t. σ (Proposed t p)) =
      lowest_ge places_max (prepared_at σ h p) (λ t. σ (Proposed t p)) (suc (σ (Entry h p h))) c
      (λ t b e. let a = and_true (eqb (σ (State t p)) prepared) _ e in
      rw (eqb-true (writer σ t p) h a.1) at (I.clocks.above t p (eqb-true _ _ a.0))) in
      rw c (omega arith))
      (λ c. rw c (omega arith))

  clock_below : (t : ℕ) → σ (State t p) ≡ prepared → writer σ t p ≡ h → version_clock σ h p < σ (Proposed t p)
  clock_below t s w =
      let b = has_place σ I t p (omega arith) in
      let r : prepared_at σ h p t ≡ true = rw (eq-eqb _ _ s, eq-eqb _ _ w) in
      let y : has_prepared σ h p ≡ true = any_i places_max (prepared_at σ h p) t b r in
      let l = lowest_le places_max (prepared_at σ h p) (λ t. σ (Proposed t p)) t b r in
      let x = I.clocks.above t p s in
      rw y (omega arith)

  clock_hybrid : version_clock σ h p ≤ install σ h p (Hybrid h p)
  clock_hybrid =
      by_test (has_prepared σ h p)
      (λ c. let w = any_true places_max (prepared_at σ h p) c in
      let l = lowest_le places_max (prepared_at σ h p) (λ t. σ (Proposed t p)) w.0 w.1 w.2 in
      let a = and_true (eqb (σ (State w.0 p)) prepared) _ w.2 in
      let x = rw (eqb-true (writer σ w.0 p) h a.1) at (I.clocks.proposed w.0 p (eqb-true _ _ a.0)) in
      rw (c, at_same (Hybrid h p)) (omega arith))
      (λ c. rw (c, at_same (Hybrid h p)) (omega arith))

  pub install_grown : Grown σ (install σ h p)
  install_grown h' p' g' =
      by_cell (Entry h p h) (Entry h' p' g')
      (λ q c. rw (c, ← q.i, ← q.j, ← q.k) clock_grows)
      (λ c. rw c (le_refl _))

  pub install_clocks : Clocks (install σ h p)
  install_clocks = record {
    own = λ h' p'.
        by_cell (Entry h p h) (Entry h' p' h')
        (λ q c. rw (c, ← q.i, ← q.j) clock_hybrid)
        (λ c. rw c (le_trans (I.clocks.own h' p') (install_hybrid σ h p h' p')));
    proposed = λ t p' e.
        let u = unwritten (eqb p p' && installs σ h p t) installed _ prepared (λ x. omega arith) e in
        le_trans (I.clocks.proposed t p' u.1) (install_hybrid σ h p (writer σ t p') p');
    above = λ t p' e.
        let u = unwritten (eqb p p' && installs σ h p t) installed _ prepared (λ x. omega arith) e in
        by_cell (Entry h p h) (Entry (writer σ t p') p' (writer σ t p'))
        (λ q c. rw (c, ← q.j) (clock_below t (rw q.j u.1) (rw q.j (sym q.i))))
        (λ c. rw c (I.clocks.above t p' u.1));
    waits = λ t p' e.
        let u = unwritten (eqb p p' && installs σ h p t) installed _ waiting (λ x. omega arith) e in
        by_cell (Entry h p h) (Entry (writer σ t p') p' (writer σ t p'))
        (λ q c. rw c (stays_above σ h p t (rw (eq-eqb p p' q.j) at u.0) (rw q.j u.1) (rw q.j (sym q.i))))
        (λ c. rw c (I.clocks.waits t p' u.1));
    committed = λ t p' l.
        by_test (eqb p p' && installs σ h p t)
        (λ c. let b = and_true (eqb p p') _ c in
        let w = (installs_is σ h p t b.1).0 in
        rw (← eqb-true p p' b.0) (le_trans (I.clocks.committed t p (omega arith)) (install_hybrid σ h p (writer σ t p) p)))
        (λ c. le_trans (I.clocks.committed t p' (rw c at l)) (install_hybrid σ h p (writer σ t p') p'));
  }

  pub install_states : States (install σ h p)
  install_states = record {
    places = I.states.places;
    free = λ t p' l.
        let z = I.states.free t p l in
        by_test (eqb p p' && installs σ h p t)
        (λ c. let w = (installs_is σ h p t (and_true (eqb p p') _ c).1).0 in absurd (omega arith))
        (λ c. rw c (I.states.free t p' l));
    undecided = I.states.undecided;
    range = λ t p'. by_test (eqb p p' && installs σ h p t) (λ c. rw c (omega arith)) (λ c. rw c (I.states.range t p'));
    early = λ t p' b e. I.states.early t p' b (unwritten (eqb p p' && installs σ h p t) installed _ asked (λ x. omega arith) e).1;
    decided = λ t p' b e. I.states.decided t p' b (unwritten (eqb p p' && installs σ h p t) installed _ prepared (λ x. omega arith) e).1;
    late = λ t p' l.
        by_test (eqb p p' && installs σ h p t)
        (λ c. let w = (installs_is σ h p t (and_true (eqb p p') _ c).1).0 in I.states.late t p (omega arith))
        (λ c. I.states.late t p' (rw c at l));
  }
