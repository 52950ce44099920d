-- What a session wrote in earlier transactions it still sees: at its snapshot, or in its cache.
use Rattle.std.specs.Prelude.{ℕ, ◌≤◌, ◌<◌, true, ◌&&◌, ◌≡◌, ◌⊎◌, [], ◌∷◌, eqb, leb}
use Rattle.std.proofs.lemmas.Bool.{false≢true}
use Rattle.std.proofs.Common.{sym, ◌∙◌, inl, inr, ⊎_elim, le_trans, le_refl, mod-lt, arith, eqb-true, eq-eqb, ne_eqb, leb-true}
use Rattle.book.specs.Sizes.{partitions_max, keys}
use Rattle.book.specs.Cells.{Store, same, ◌⟨◌≔◌⟩, Transactions, Status, idle, running, committing, Snapshot, LastCommit, WriteSet, CacheValue, CacheTime, By, CommitTime, KeySet, Value, State, asked, prepared, waiting, installed, Proposed}
use Rattle.book.specs.Cases.{by_test, by_eq, by_cell, and_true, unwritten, eqb_refl, at_same}
use Rattle.book.specs.Folds.{largest_ge}
use Rattle.book.specs.Sets.{member, include_lt}
use Rattle.book.specs.Servers.{partition_of, place_of}
use Rattle.book.specs.SessionSteps.{snapshot, touches}
use Rattle.book.specs.CommitSteps.{decision, decide}
use Rattle.book.specs.ReplicationSteps.{installs}
use Rattle.book.specs.Reached.{Reached}
use Rattle.facts.specs.Facts.{Ends, Decides}
use Rattle.facts.specs.Step.{Step, Writing, Taken, over, by_reached}
use Rattle.invariant.specs.Inv.{Inv}
use Rattle.invariant.proofs.Clocks.{state_stays}
use Rattle.invariant.proofs.Install.{has_asked}
use Rattle.invariant.proofs.Transactions.{touches_i}
use Rattle.facts.specs.Setup.{some_bit}
use Rattle.invariant.proofs.Reach.{reached_inv}
use Rattle.invariant.specs.OwnWrites.{Sets, Some, Busy, One, Ahead, Last, Apart, FromCache, Kept, Own}

module _ (σ : Store) (I : Inv σ) (O : Own σ) where
  -- End, with writes: the session has none that is undecided
  done_before : (s : ℕ) → Ends σ s → (u : ℕ) → u < σ Transactions → σ (CommitTime u) ≡ 0 → s ≡ σ (By u) → ⊥
  done_before s f u b z q =
      let x = O.busy u b z in
      let y : σ (Status (σ (By u))) ≡ running = rw (← q) f.runs in
      omega arith

  -- Decide
  module _ (n : ℕ) (f : Decides σ n) where
    abbrev t : ℕ
    t = place_of n

    -- the commit time is above the session's last
    decision_above : σ (LastCommit (σ (By t))) < decision σ t
    decision_above =
        let w = O.some t f.there in
        let e : σ (State t w.0) ≡ prepared = ⊎_elim (λ z. absurd (omega arith)) (λ z. z) (f.states w.0 w.1) in
        le_trans (O.ahead t w.0 e f.undecided)
        (largest_ge partitions_max (λ p. eqb (σ (State t p)) prepared) (λ p. σ (Proposed t p)) w.0 w.1
        (eq-eqb (σ (State t w.0)) prepared e))

    -- one that is undecided after it is another, of another session
    still : (u : ℕ) → u < σ Transactions → decide σ t (CommitTime u) ≡ 0 → (σ (CommitTime u) ≡ 0) × (σ (By t) ≡ σ (By u) → ⊥)
    still u b z =
        let d = decision_above in
        by_cell (CommitTime t) (CommitTime u)
        (λ q c. let z' : decision σ t ≡ 0 = rw c at z in absurd (omega arith))
        (λ c. let z' : σ (CommitTime u) ≡ 0 = rw c at z in
        (z', λ q. let e = O.one t u f.there b q f.undecided z' in false≢true (sym c ∙ rw e (at_same (CommitTime u)))))

    -- of this session, all that was decided is below it
    before : (u : ℕ) → σ (By t) ≡ σ (By u) → σ (CommitTime u) < decision σ t
    before u q =
        let d = decision_above in
        let l : σ (CommitTime u) ≤ σ (LastCommit (σ (By t))) = rw q (O.last u) in
        omega arith

    -- so none is above it
    most : (u : ℕ) → σ (By t) ≡ σ (By u) → decide σ t (CommitTime u) ≤ decision σ t
    most u q =
        let l = before u q in
        by_test (same (CommitTime t) (CommitTime u)) (λ c. rw c (le_refl _)) (λ c. rw c (omega arith))

    other : (u : ℕ) → (σ (By t) ≡ σ (By u) → ⊥) → decide σ t (CommitTime u) ≡ σ (CommitTime u)
    other u x = by_cell (CommitTime t) (CommitTime u) (λ q c. absurd (x (rw q.i))) (λ c. rw c)

  step_sets : {τ : Store} → Writing σ (WriteSet 0 ∷ []) τ → Sets τ
  step_sets (Step.starts s f) s' = by_test (same (WriteSet s) (WriteSet s')) (λ c. rw c (omega arith)) (λ c. rw c (O.sets s'))
  step_sets (Step.writes s k v f) s' =
      by_cell (WriteSet s) (WriteSet s')
      (λ q c. rw c (include_lt keys (σ (WriteSet s)) k (O.sets s) f.key))
      (λ c. rw c (O.sets s'))
  step_sets (Step.decides n f) s =
      by_test (same (WriteSet (σ (By (place_of n)))) (WriteSet s)) (λ c. rw c (omega arith)) (λ c. rw c (O.sets s))

  -- Prepare and Commit: a pair's state becomes v
  state_some : (t p v : ℕ) → 0 < v → Some (σ ⟨ State t p ≔ v ⟩)
  state_some t p v l t' b = let w = O.some t' b in (w.0, w.1, state_stays (same (State t p) (State t' w.0)) v _ l w.2)

  step_some : {τ : Store} → Writing σ (Transactions ∷ State 0 0 ∷ []) τ → Some τ
  step_some (Step.asks s f q) = λ t b.
      by_eq (σ Transactions) t
      (λ _ c.
      let k = some_bit keys (σ (WriteSet s)) (omega arith) (O.sets s) in
      let l = mod-lt k.0 I.setup.partition in
      let z = touches_i σ (σ (WriteSet s)) k.0 k.1 k.2 in
      (partition_of σ k.0, le_trans l I.setup.partitions, rw (c, z) (omega arith)))
      (λ q c. let w = O.some t (omega arith) in (w.0, w.1, rw c w.2))
  step_some (Step.prepares n p f) = state_some (place_of n) p prepared (omega arith)
  step_some (Step.commits n p f) = state_some (place_of n) p waiting (omega arith)
  step_some (Step.installs h p f) = λ t b.
      let w = O.some t b in (w.0, w.1, state_stays (eqb p w.0 && installs σ h p t) installed _ (omega arith) w.2)

  -- a session that is not committing gets another status: it had none that is undecided
  status_busy : (s v x : ℕ) → σ (Status s) ≡ x → (x ≡ committing → ⊥) → Busy (σ ⟨ Status s ≔ v ⟩)
  status_busy s v x is n t b u =
      let y = O.busy t b u in
      by_cell (Status s) (Status (σ (By t)))
      (λ q c. let z : σ (Status (σ (By t))) ≡ x = rw (← q.i) is in absurd (n (omega arith)))
      (λ c. rw c y)

  step_busy : {τ : Store} → Writing σ (Transactions ∷ Status 0 ∷ By 0 ∷ CommitTime 0 ∷ []) τ → Busy τ
  step_busy (Step.starts s f) = status_busy s running idle f.rests (λ e. omega arith)
  step_busy (Step.asks s f w) = λ t b u.
      by_eq (σ Transactions) t
      (λ q c. rw (c, eqb_refl s))
      (λ q c. let b' : t < σ Transactions = omega arith in
      by_cell (Status s) (Status (σ (By t)))
      (λ r d. absurd (done_before s f t b' u r.i))
      (λ d. rw (c, d) (O.busy t b' u)))
  step_busy (Step.rests s f q) = status_busy s idle running f.runs (λ e. omega arith)
  step_busy (Step.decides n f) = λ u b z.
      let w = still n f u b z in
      by_cell (Status (σ (By (place_of n)))) (Status (σ (By u)))
      (λ q c. absurd (w.1 q.i))
      (λ c. rw c (O.busy u b w.0))

  step_one : {τ : Store} → Writing σ (Transactions ∷ By 0 ∷ CommitTime 0 ∷ []) τ → One τ
  step_one (Step.asks s f w) t u a b e x y =
      by_eq (σ Transactions) t
      (λ q c. by_eq (σ Transactions) u
      (λ q' c'. sym q ∙ q')
      (λ q' c'. absurd (done_before s f u (omega arith) y (rw (c, c') at e))))
      (λ q c. by_eq (σ Transactions) u
      (λ q' c'. absurd (done_before s f t (omega arith) x (sym (rw (c, c') at e))))
      (λ q' c'. O.one t u (omega arith) (omega arith) (rw (c, c') at e) x y))
  step_one (Step.decides n f) u v a b e x y = O.one u v a b e (still n f u a x).0 (still n f v b y).0

  step_ahead : {τ : Store} → Writing σ (LastCommit 0 ∷ By 0 ∷ CommitTime 0 ∷ State 0 0 ∷ Proposed 0 0 ∷ []) τ → Ahead τ
  step_ahead (Step.asks s f w) t p e u =
      let e' = (unwritten (eqb (σ Transactions) t && touches σ (σ (WriteSet s)) p) asked (σ (State t p)) prepared (λ x. omega arith) e).1 in
      let b = has_asked σ I t p (omega arith) in
      rw (ne_eqb (σ Transactions) t (λ q. omega arith)) (O.ahead t p e' u)
  step_ahead (Step.prepares n p f) t' p' e u =
      by_cell (State (place_of n) p) (State t' p')
      (λ q c. rw (c, ← q.i) (omega arith))
      (λ c. rw c (O.ahead t' p' (rw c at e) u))
  step_ahead (Step.decides n f) u p e z =
      let w = still n f u (has_asked σ I u p (omega arith)) z in
      by_cell (LastCommit (σ (By (place_of n)))) (LastCommit (σ (By u)))
      (λ q c. absurd (w.1 q.i))
      (λ c. rw c (O.ahead u p e w.0))
  step_ahead (Step.commits n p f) t' p' e u =
      O.ahead t' p' (unwritten (same (State (place_of n) p) (State t' p')) waiting _ prepared (λ x. omega arith) e).1 u
  step_ahead (Step.installs h p f) t p' e u =
      O.ahead t p' (unwritten (eqb p p' && installs σ h p t) installed _ prepared (λ x. omega arith) e).1 u

  step_last : {τ : Store} → Writing σ (LastCommit 0 ∷ By 0 ∷ CommitTime 0 ∷ []) τ → Last τ
  step_last (Step.asks s f w) t =
      by_eq (σ Transactions) t
      (λ q c. let z = I.states.undecided t (omega arith) in omega arith)
      (λ q c. rw c (O.last t))
  step_last (Step.decides n f) u =
      by_eq (σ (By (place_of n))) (σ (By u))
      (λ q c. rw c (most n f u q))
      (λ q c. rw (other n f u q, c) (O.last u))

  step_apart : {τ : Store} → Writing σ (By 0 ∷ CommitTime 0 ∷ []) τ → Apart τ
  step_apart (Step.asks s f w) t u e i z =
      by_eq (σ Transactions) t
      (λ q c. let y = I.states.undecided t (omega arith) in absurd (omega arith))
      (λ q c. by_eq (σ Transactions) u
      (λ q' c'. let y = I.states.undecided u (omega arith) in absurd (omega arith))
      (λ q' c'. O.apart t u (rw (c, c') at e) i z))
  step_apart (Step.decides n f) u v e i z =
      by_cell (CommitTime (place_of n)) (CommitTime u)
      (λ q c. by_cell (CommitTime (place_of n)) (CommitTime v)
      (λ q' c'. sym q.i ∙ q'.i)
      (λ c'. let l = before n f v (rw q.i e) in let y = rw (c, c') at z in absurd (omega arith)))
      (λ c. by_cell (CommitTime (place_of n)) (CommitTime v)
      (λ q' c'. let l = before n f u (rw q'.i (sym e)) in let y = rw (c, c') at z in absurd (omega arith))
      (λ c'. O.apart u v e (rw c at i) (rw (c, c') at z)))

  step_cache : {τ : Store} → Writing σ (Transactions ∷ CacheValue 0 0 ∷ CacheTime 0 0 ∷ By 0 ∷ CommitTime 0 ∷ KeySet 0 ∷ Value 0 0 ∷ []) τ
      → FromCache τ
  step_cache (Step.starts s f) s' k i =
      by_test (eqb s s' && leb (σ (CacheTime s' k)) (snapshot σ s))
      (λ c. absurd (let z : 0 < 0 = rw c at i in omega arith))
      (λ c. rw c (O.cached s' k (rw c at i)))
  step_cache (Step.asks s f q) s' k i =
      let w = O.cached s' k i in
      let l = w.1.there in
      let c = ne_eqb (σ Transactions) w.0 (λ q. omega arith) in (
        w.0,
        record {
          there = omega arith;
          by = rw c w.1.by;
          wrote = rw c w.1.wrote;
          time = w.1.time;
          value = rw c
              w.1.value;
        },
      )
  step_cache (Step.decides n f) s k i =
      let t = place_of n in
      by_test (eqb (σ (By t)) s && member (σ (KeySet t)) k)
      (λ c. (
        t,
        record {
          there = f.there;
          by = eqb-true (σ (By t)) s (and_true (eqb (σ (By t)) s) _ c).0;
          wrote = (and_true (eqb (σ (By t)) s) _ c).1;
          time = rw (c, at_same (CommitTime t));
          value = rw c;
        },
      ))
      (λ c.
      let w = O.cached s k (rw c at i) in
      by_cell (CommitTime t) (CommitTime w.0)
      (λ q d. let l = rw c at i in let z : σ (CommitTime w.0) ≡ 0 = rw (← q.i) f.undecided in absurd (omega arith))
      (λ d. (w.0, rw (c, d) w.1)))

  step_kept : {τ : Store} → Writing σ (Snapshot 0 ∷ CacheTime 0 0 ∷ By 0 ∷ CommitTime 0 ∷ KeySet 0 ∷ []) τ → Kept τ
  step_kept (Step.starts s f) t k m =
      by_eq s (σ (By t))
      (λ q c. ⊎_elim
      (λ l. let l' : σ (CommitTime t) ≤ σ (Snapshot s) = rw q l in inl (rw c (omega arith)))
      (λ l. by_test (leb (σ (CacheTime (σ (By t)) k)) (snapshot σ s))
      (λ d. inl (rw c (le_trans l (leb-true (σ (CacheTime (σ (By t)) k)) (snapshot σ s) d))))
      (λ d. inr (rw (c, d) l)))
      (O.kept t k m))
      (λ q c. rw c (O.kept t k m))
  step_kept (Step.asks s f w) t k m =
      by_eq (σ Transactions) t
      (λ q c. let z = I.states.undecided t (omega arith) in inl (omega arith))
      (λ q c. rw c (O.kept t k (rw c at m)))
  step_kept (Step.decides n f) u k m =
      let t = place_of n in
      by_eq (σ (By t)) (σ (By u))
      (λ q c. by_test (member (σ (KeySet t)) k)
      (λ e. inr (rw (c, e) (most n f u q)))
      (λ e. by_cell (CommitTime t) (CommitTime u)
      (λ r d. absurd (false≢true (sym e ∙ rw r.i m)))
      (λ d. rw (d, c, e) (O.kept u k m))))
      (λ q c. rw (other n f u q, c) (O.kept u k m))

  step_own : (τ : Store) → Taken σ τ → Own τ
  step_own τ x = record {
    sets = over Sets x step_sets O.sets;
    some = over Some x step_some O.some;
    busy = over Busy x step_busy O.busy;
    one = over One x step_one O.one;
    ahead = over Ahead x step_ahead O.ahead;
    last = over Last x step_last O.last;
    apart = over Apart x step_apart O.apart;
    cached = over FromCache x step_cache O.cached;
    kept = over Kept x step_kept O.kept;
  }

pub reached_own : {σ : Store} → Reached σ → Own σ
reached_own =
    by_reached Own
    (λ masks homes z. record {
      sets = λ s. omega arith;
      some = λ t b. absurd (omega arith);
      busy = λ t b u. absurd (omega arith);
      one = λ t u a b e x y. absurd (omega arith);
      ahead = λ t p e u. absurd (omega arith);
      last = λ t. omega arith;
      apart = λ t u e i z. absurd (omega arith);
      cached = λ s k i. absurd (omega arith);
      kept = λ t k m. inl (omega arith);
    })
    (λ σ r O. step_own σ (reached_inv r) O)

-- Each transaction of a running session is decided, and what it wrote to a key is at or below the session's snapshot, or the
-- key is cached at that time or later.
pub own_writes : {σ : Store} → Reached σ → (s t : ℕ) → σ (Status s) ≡ running → t < σ Transactions → σ (By t) ≡ s
    → (0 < σ (CommitTime t))
    × ((k : ℕ) → member (σ (KeySet t)) k ≡ true → (σ (CommitTime t) ≤ σ (Snapshot s)) ⊎ (σ (CommitTime t) ≤ σ (CacheTime s k)))
own_writes {σ} r s t runs b q =
    let O = reached_own r in (
      by_eq (σ (CommitTime t)) 0
          (λ z _. let y : σ (Status s) ≡ committing = rw q at (O.busy t b z) in absurd (omega arith))
          (λ z _. omega arith),
      λ k m. rw q at (O.kept t k m),
    )
