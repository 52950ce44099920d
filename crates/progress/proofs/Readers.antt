-- Nobody is stuck for a reason that is not in the table: what is taken, and where it leaves the session or the transaction.
use Rattle.std.specs.Prelude.{ℕ, zero, suc, ◌≤◌, ◌<◌, Bool, ◌&&◌, ◌≡◌, [], ◌∷◌, ◌++◌, ◌⊎◌, eqb, ltb, leb}
use Rattle.std.proofs.Math.Bool.{true}
use Rattle.std.proofs.Math.Path.{refl}
use Rattle.std.proofs.Common.{sym, ◌∙◌, inl, inr, le_trans, le_refl, mod-lt, arith, length-append}
use borrow.Author.Tests.{eqb-true, eqb-false, ltb-true, ltb-false, leb-true, leb-false, ne_eqb, lt-ltb}
use Rattle.book.specs.Sizes.{halls_max, partitions_max, keys, places_max, slots}
use Rattle.book.specs.Cells.{Store, same, Sessions, Transactions, Status, idle, running, committing, By, CommitTime, KeySet, State, asked, prepared, waiting, Waiting}
use Rattle.book.specs.Cases.{by_test, by_eq, by_cell, and_true, unwritten, eqb_refl}
use Rattle.book.specs.Folds.{any, any_true, any_false}
use Rattle.book.specs.Servers.{holds, partition_of, place_of, number_of}
use Rattle.book.specs.SessionSteps.{has_writes, touches, ask}
use Rattle.book.specs.CommitSteps.{decide}
use Rattle.book.specs.ReplicationSteps.{sends_to, outgoing}
use Rattle.book.specs.Steps.{rule_of, refusal, after, deliver_rule}
use Rattle.book.specs.Reached.{Reached}
use Rattle.facts.specs.Frame.{servers}
use Rattle.facts.specs.Step.{Step, Writing, over, by_reached}
use Rattle.invariant.specs.Inv.{Inv}
use Rattle.bounds.specs.Formed.{formed}
use Rattle.bounds.proofs.Pairs.{reached_stated}
use Rattle.bounds.proofs.WellFormedKept.{reached_well_formed}
use Rattle.invariant.proofs.Sent.{sends_to_is, outgoing_is}
use Rattle.invariant.proofs.Reach.{reached_inv}
use Rattle.invariant.proofs.OwnWrites.{reached_own}
use Rattle.facts.specs.Calls.{Call, call, refusal_of, after_of, run, AllTaken, by_rule, run_append, taken_append}
use Rattle.progress.specs.Readers.{Awaits, CanGoOn, Leads}
use Rattle.progress.proofs.Taken.{start_taken, read_taken, end_without, end_with, started, pair_there, prepares, prepare_taken, decides}
use Rattle.progress.proofs.DecideTaken.{decide_taken}

module _ {σ : Store} (r : Reached σ) where
  -- Some hall holds the key, so a running session can read it.
  pub read_somewhere : (s k : ℕ) → s < σ Sessions → σ (Status s) ≡ running → k < keys
      → (h : ℕ) × (refusal σ 3 s k h ≡ 0) × (after σ 3 s k h (Status s) ≡ running)
  read_somewhere s k there runs kb =
      let U = (reached_inv r).setup in
      let w = U.covered (partition_of σ k) (mod-lt k U.partition) in
      let x = read_taken σ s there runs k w.0 kb w.1 in
      (w.0, x.0, x.1)

abbrev Waits : Store → Type 0
Waits σ = (s : ℕ) → σ (Status s) ≡ committing → (t : ℕ) × Awaits σ s t

module _ (σ : Store) (I : Inv σ) (W : Waits σ) where
  ask_waits : (s₀ : ℕ) → Waits (ask σ s₀)
  ask_waits s₀ s st =
      by_eq s₀ s
      (λ q c. (
        σ Transactions,
        record {
          there = omega arith;
          by = rw (eqb_refl (σ Transactions)) q;
          undecided = I.states.undecided (σ Transactions) (le_refl _);
        },
      ))
      (λ q c.
      let w = W s (rw c at st) in
      let l = w.1.there in
      let n = ne_eqb (σ Transactions) w.0 (λ e. omega arith) in
      (w.0, record { there = omega arith; by = rw n w.1.by; undecided = w.1.undecided }))

  decide_waits : (t₀ : ℕ) → Waits (decide σ t₀)
  decide_waits t₀ s st =
      by_eq (σ (By t₀)) s
      (λ q c. let z = rw c at st in absurd (omega arith))
      (λ q c.
      let w = W s (rw c at st) in
      by_cell (CommitTime t₀) (CommitTime w.0)
      (λ e d. absurd (q (rw e.i w.1.by)))
      (λ d. (w.0, record { there = w.1.there; by = w.1.by; undecided = rw d w.1.undecided })))

  step_waits : {τ : Store} → Writing σ (Status 0 ∷ Transactions ∷ By 0 ∷ CommitTime 0 ∷ []) τ → Waits τ
  step_waits (Step.starts s₀ f) = λ s st. W s (unwritten (same (Status s₀) (Status s)) running (σ (Status s)) committing
      (λ x. omega arith) st).1
  step_waits (Step.asks s₀ f q) = ask_waits s₀
  step_waits (Step.rests s₀ f q) = λ s st. W s (unwritten (same (Status s₀) (Status s)) idle (σ (Status s)) committing
      (λ x. omega arith) st).1
  step_waits (Step.decides n f) = decide_waits (place_of n)

-- A committing session waits for a transaction of its own that is undecided, and for no other.
pub awaits : {σ : Store} → Reached σ → (s : ℕ) → σ (Status s) ≡ committing → (t : ℕ) × Awaits σ s t × ((u : ℕ) → Awaits σ s u → u ≡ t)
awaits {σ} r s st =
    let w = by_reached Waits (λ masks homes e s st. absurd (omega arith)) (λ σ r W τ x. over Waits x
    (step_waits σ (reached_inv r) W) W) r s st in
    let A = w.1 in
    (w.0, A, λ u B. (reached_own r).one u w.0 B.there A.there (B.by ∙ sym A.by) B.undecided A.undecided)

-- nothing of an undecided transaction is past prepared
ready : {σ : Store} → Reached σ → (s t : ℕ) → Awaits σ s t → ((p : ℕ) → p < partitions_max → σ (State t p) ≡ asked → ⊥)
    → (p : ℕ) → touches σ (σ (KeySet t)) p ≡ true → σ (State t p) ≡ prepared
ready {σ} r s t A none p e =
    let I = reached_inv r in
    let some : 0 < σ (State t p) = ltb-true 0 (σ (State t p)) (reached_stated r t p ∙ rw (lt-ltb t (σ Transactions) A.there, e)) in
    let small = le_trans (pair_there r t p some).1 I.setup.partitions in
    by_test (leb waiting (σ (State t p)))
    (λ c. let z = I.states.late t p (leb-true waiting (σ (State t p)) c) in let y = A.undecided in absurd (omega arith))
    (λ c. let z = leb-false waiting (σ (State t p)) c in
    by_eq (σ (State t p)) asked (λ q _. absurd (none p small q)) (λ q _. omega arith))

-- Each session of a reached store can go on.
pub never_stuck : {σ : Store} → Reached σ → (s : ℕ) → s < σ Sessions → CanGoOn σ s
never_stuck {σ} r s there =
    let F = formed σ (reached_well_formed r) in
    let l = F.status s (le_trans there (reached_inv r).setup.sessions) in
    by_eq (σ (Status s)) idle
    (λ q _. inl (q, (start_taken σ s there q).0))
    (λ n _. by_eq (σ (Status s)) running
    (λ q _. inr (inl (
      q,
      by_test (has_writes σ s)
          (λ w. by_test (ltb (σ Transactions) places_max)
          (λ c. inl (end_with σ s there q w (ltb-true _ _ c)).0)
          (λ c. inr (w, ltb-false _ _ c)))
          (λ w. inl (end_without σ s there q w).0),
    )))
    (λ m _.
    let q : σ (Status s) ≡ committing = omega arith in
    let x = awaits r s q in
    let t = x.0 in
    inr (inr (
      q,
      (
        t,
        x.1,
        by_test (any partitions_max (λ p. eqb (σ (State t p)) asked))
            (λ c. let w = any_true partitions_max (λ p. eqb (σ (State t p)) asked) c in
            inl (w.0, (prepare_taken r t w.0 (eqb-true _ _ w.2)).0))
            (λ c. inr (decide_taken r t x.1.there x.1.undecided
            (ready r s t x.1 (λ p b e. eqb-false (σ (State t p)) asked (any_false partitions_max
            (λ p. eqb (σ (State t p)) asked) p b c) e))).0),
      ),
    ))))

-- one more
leads_on : (σ : Store) (n : ℕ) (P Q : Store → Type 0) (x : Call) → Leads σ n P
    → ((τ : Store) → P τ → (refusal_of τ x ≡ 0) × Q (after_of τ x)) → Leads σ (suc n) Q
unfolding run AllTaken
leads_on σ n P Q x L f =
    let l = L.0 in
    let w = f (run σ l) L.3 in
    let short = L.1 in (
      l ++ (x ∷ []),
      rw (length-append l (x ∷ [])) (omega arith),
      taken_append l (x ∷ []) σ L.2 (w.0, tt),
      rw (run_append l (x ∷ []) σ) w.1,
    )

-- session s is there and waits for t, of which no partition below n is still to be prepared
abbrev Nearer : ℕ → ℕ → ℕ → Store → Type 0
Nearer s t n σ = record {
  reached : Reached σ;
  there : s < σ Sessions;
  awaits : Awaits σ s t;
  none : (p : ℕ) → p < n → σ (State t p) ≡ asked → ⊥;
}

nearer : {σ : Store} → Reached σ → (s t : ℕ) → s < σ Sessions → Awaits σ s t → (n : ℕ) → Leads σ n (Nearer s t n)
unfolding run AllTaken
nearer r s t there A zero = ([], omega arith, tt, record { reached = r; there = there; awaits = A; none = λ p b e. omega arith })
nearer {σ} r s t there A (suc n) =
    let L = nearer r s t there A n in
    let τ = run σ L.0 in
    let short = L.1 in
    by_eq (τ (State t n)) asked
    (λ q _. leads_on σ n (λ υ. Nearer s t n υ × (υ (State t n) ≡ asked)) (Nearer s t (suc n)) (call 6 (number_of t) n 0)
    (L.0, L.1, L.2, (L.3, q))
    (λ υ N. let w = prepares N.0.reached t n N.1 in (
      w.0,
      record {
        reached = Reached.onward N.0.reached 6 (number_of t) n 0;
        there = rw w.1 N.0.there;
        awaits = rw w.1 N.0.awaits;
        none = λ p b e. by_eq n p
            (λ _ c. let z : ◌≡◌ {A = ℕ} prepared asked = rw (w.1, eqb_refl t, c) at e in omega arith)
            (λ m c. N.0.none p (omega arith) (rw (w.1, eqb_refl t, c) at e));
      },
    )))
    (λ q _. (
      L.0,
      omega arith,
      L.2,
      record {
        reached = L.3.reached;
        there = L.3.there;
        awaits = L.3.awaits;
        none = λ p b e. by_eq n p (λ m _. q (rw (← m) at e)) (λ m _. L.3.none p (omega arith) e);
      },
    ))

abbrev Rests : ℕ → Store → Type 0
Rests s σ = record { reached : Reached σ; there : s < σ Sessions; is : σ (Status s) ≡ idle }

back : {σ : Store} → Reached σ → (s : ℕ) → σ (Status s) ≡ committing → Leads σ (suc partitions_max) (Rests s)
back {σ} r s st =
    let F = formed σ (reached_well_formed r) in
    let x = awaits r s st in
    let t = x.0 in
    let A = x.1 in
    let there : s < σ Sessions = rw (← A.by) (F.session t (le_trans A.there F.places)) in
    leads_on σ partitions_max (Nearer s t partitions_max) (Rests s) (call 7 (number_of t) 0 0) (nearer r s t there A partitions_max)
    (λ τ N.
    let B = N.awaits in
    let w = decides N.reached t B.there B.undecided (ready N.reached s t B N.none) in (
      w.0,
      record {
        reached = Reached.onward N.reached 7 (number_of t) 0 0;
        there = rw w.1 N.there;
        is = rw (w.1, B.by, eqb_refl s);
      },
    ))

-- A committing session comes back: at most a prepare for each partition, and the decide.
pub comes_back : {σ : Store} → Reached σ → (s : ℕ) → σ (Status s) ≡ committing → Leads σ 5 (λ τ. τ (Status s) ≡ idle)
comes_back r s st = let L = back r s st in (L.0, L.1, L.2, L.3.is)

-- Each session of each reached store comes, by at most six steps, to run and to have a read of key k taken.
pub readers_exist : {σ : Store} → Reached σ → (s k : ℕ) → s < σ Sessions → k < keys
    → Leads σ 6 (λ τ. (τ (Status s) ≡ running) × ((h : ℕ) × (refusal τ 3 s k h ≡ 0)))
unfolding run AllTaken
readers_exist {σ} r s k there kb =
    let F = formed σ (reached_well_formed r) in
    let l = F.status s (le_trans there (reached_inv r).setup.sessions) in
    let reads : (τ : Store) → Reached τ → s < τ Sessions → τ (Status s) ≡ running → (τ (Status s) ≡ running) ×
    ((h : ℕ) × (refusal τ 3 s k h ≡ 0)) =
    λ τ r' b q. let w = read_somewhere r' s k b q kb in (q, (w.0, w.1)) in
    let starts : (τ : Store) → Rests s τ
    → (refusal τ 2 s 0 0 ≡ 0) × ((after τ 2 s 0 0 (Status s) ≡ running) × ((h : ℕ) × (refusal (after τ 2 s 0 0) 3 s k h ≡ 0))) =
    λ τ R. let w = start_taken τ s R.there R.is in
    (w.0, reads (after τ 2 s 0 0) (Reached.onward R.reached 2 s 0 0) (rw (started τ s w.0) R.there) w.1) in
    by_eq (σ (Status s)) running
    (λ q _. ([], omega arith, tt, reads σ r there q))
    (λ n _. by_eq (σ (Status s)) idle
    (λ q _. let w = starts σ (record { reached = r; there = there; is = q }) in
    (call 2 s 0 0 ∷ [], omega arith, (w.0, tt), w.1))
    (λ m _. leads_on σ 5 (Rests s) (λ τ. (τ (Status s) ≡ running) × ((h : ℕ) × (refusal τ 3 s k h ≡ 0))) (call 2 s 0 0)
    (back r s (omega arith)) starts))

-- a message waits from one holder to another
abbrev Between : Store → Type 0
Between σ = (g p f : ℕ) → 0 < σ (Waiting g p f) → (holds σ f p ≡ true) × (holds σ g p ≡ true) × (f ≡ g → ⊥)

step_between : (σ : Store) → Between σ → {τ : Store} → Writing σ (Waiting 0 0 0 ∷ servers) τ → Between τ
step_between σ B (Step.installs h p w) = λ g q f l.
    by_test (outgoing σ h p g q f)
    (λ c. let o = outgoing_is σ h p g q f c in
    let x = sends_to_is σ h p g o.2 in
    rw (← o.0, ← o.1) (w.server, x.1, x.0))
    (λ c. B g q f (rw c at l))
step_between σ B (Step.delivers p f g w) = λ g' q f' l.
    by_cell (Waiting g p f) (Waiting g' q f')
    (λ e x. rw (← e.i, ← e.j, ← e.k) (w.sender, w.receiver, w.apart))
    (λ x. B g' q f' (rw x at l))

-- Each message that waits can be delivered.
pub deliver_taken : {σ : Store} → Reached σ → (p f g : ℕ) → 0 < σ (Waiting g p f) → refusal σ 10 p f g ≡ 0
unfolding rule_of
deliver_taken {σ} r p f g l =
    let w = by_reached Between (λ masks homes e g p f l. absurd (omega arith))
    (λ σ r B τ x. over Between x (step_between σ B) B) r g p f l in
    (by_rule σ (call 10 p f g) (deliver_rule σ p f g) refl
    (rw (w.0, w.1, ne_eqb f g w.2, ne_eqb (σ (Waiting g p f)) 0 (λ e. omega arith)))).0

-- A server can install, or one of its channels is full and can be delivered from.
pub install_or_deliver : (σ : Store) (h p : ℕ) → holds σ h p ≡ true
    → (refusal σ 9 h p 0 ≡ 0) ⊎ ((refusal σ 9 h p 0 ≡ 10) × ((g : ℕ) × (slots ≤ σ (Waiting g p h)) × (refusal σ 10 p h g ≡ 0)))
unfolding refusal rule_of
install_or_deliver σ h p e =
    let full : ℕ → Bool = λ g. sends_to σ h p g && leb slots (σ (Waiting g p h)) in
    by_test (any halls_max full)
    (λ c. let w = any_true halls_max full c in
    let g = w.0 in
    let x = and_true (sends_to σ h p g) _ w.2 in
    let s = sends_to_is σ h p g x.0 in
    let l = leb-true slots (σ (Waiting g p h)) x.1 in
    inr (rw (e, c), (g, l, rw (e, s.1, ne_eqb h g s.0, ne_eqb (σ (Waiting g p h)) 0 (λ z. omega arith)))))
    (λ c. inl (rw (e, c)))
