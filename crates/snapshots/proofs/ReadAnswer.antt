-- What a session's read answers, wherever it looks.
use Rattle.std.specs.Prelude.{ℕ, ◌<◌, Bool, true, false, ◌||◌, ◌≡◌, [], ◌∷◌, eqb, ltb, leb}
use Rattle.std.proofs.Common.{true≢false, sym, ◌∙◌, ap, arith, eqb-true, leb-false, lt-ltb}
use Rattle.std.proofs.lemmas.Bool.{false≢true}
use Rattle.book.specs.Sizes.{keys}
use Rattle.book.specs.Cells.{Store, same, Sessions, Status, idle, running, committing, Snapshot, WriteSet, ReadSet, ReadValue, CacheValue, CacheTime, By, From, CommitTime, KeySet, Value}
use Rattle.book.specs.Cases.{by_test, by_eq, unwritten}
use Rattle.book.specs.Sets.{member, member_none, member_include}
use Rattle.book.specs.declared.Numbers.{Numbers}
use Rattle.book.specs.Answers.{triple, numbers}
use Rattle.book.specs.Servers.{holds, partition_of, place_of}
use Rattle.book.specs.Views.{decided_view}
use Rattle.book.specs.SessionSteps.{snapshot, start, read_answer, read, write}
use Rattle.book.specs.Steps.{rule_of, refusal, answer, view_taken}
use Rattle.book.specs.Reached.{Reached}
use Rattle.facts.specs.Step.{Step, Writing, over, by_reached}
use Rattle.invariant.specs.Inv.{Gossip, Inv}
use Rattle.invariant.proofs.Reach.{reached_inv, reached_gossip}
use Rattle.snapshots.proofs.SnapshotRead.{held_decided}
use Rattle.snapshots.proofs.LaterView.{ask_view, decide_view}
use Rattle.snapshots.specs.ReadAnswer.{found, due, Reads, Cached}

-- found, with nothing turned away: 0, 1 and the value
as_found : (x y : Numbers) → x ≡ y → y.refusal ≡ 0 → x.first ≡ 1 → triple 0 1 x.second ≡ y
as_found x y p r f =
    let q : y.first ≡ 1 = sym (ap (λ (z : Numbers). z.first) p) ∙ f in
    let v = ap (λ (z : Numbers). z.second) p in
    λ i. record { refusal = sym r i; first = sym q i; second = v i }

or_false_right : (a b : Bool) → (a || b) ≡ false → b ≡ false
or_false_right true b e = absurd (true≢false e)
or_false_right false b e = e

module _ (σ : Store) (I : Inv σ) (G : Gossip σ) (R : Reads σ) where
  -- a read of a key that is not in the write set
  read_found : (s k h : ℕ) → k < keys → σ (Status s) ≡ running → holds σ h (partition_of σ k) ≡ true → member (σ (WriteSet s)) k ≡ false
      → numbers (read_answer σ s k h) ≡ numbers (found σ s k)
  read_found s k h kb st e w =
      by_test (member (σ (ReadSet s)) k)
      (λ c. rw (w, c) (R s k kb st w c))
      (λ c. rw (w, c, held_decided σ I (σ (Snapshot s)) (G.snapshot s) k h kb e))

  found_taken : (s k : ℕ) → (numbers (found σ s k)).refusal ≡ 0
  found_taken s k = by_test (ltb 0 (σ (CacheTime s k))) (λ c. rw c) (λ c. rw c (view_taken (decided_view σ k (σ (Snapshot s)))))

  -- a read adds what it finds, over an older entry
  read_reads : (s₀ k₀ h : ℕ) → holds σ h (partition_of σ k₀) ≡ true → Reads (read σ s₀ k₀ h)
  read_reads s₀ k₀ h e s k kb st w i =
      by_eq s₀ s
      (λ q c. by_eq k₀ k
      (λ q' c'.
      let a = read_found s k h kb st (rw (← q') e) w in
      by_test (eqb (numbers (read_answer σ s k h)).first 1)
      (λ f. rw (c, c', q, q', f) (as_found _ _ a (found_taken s k) (eqb-true _ _ f)))
      (λ f. rw (c, c', q, q', f) (R s k kb st w (rw (c, q, q', f) at i))))
      (λ q' c'. rw (c, c') (R s k kb st w
      (by_test (eqb (numbers (read_answer σ s₀ k₀ h)).first 1)
      (λ f. rw (q) at (rw (c, f, member_include (σ (ReadSet s₀)) k₀ k, c') at i))
      (λ f. rw q at (rw (c, f) at i))))))
      (λ q c. rw c (R s k kb st w (rw c at i)))

  -- a key that is not in the write set after a write was not in it before
  write_reads : (s₀ k₀ v : ℕ) → Reads (write σ s₀ k₀ v)
  write_reads s₀ k₀ v s k kb st w i =
      by_eq s₀ s
      (λ q c. let m : (eqb k₀ k || member (σ (WriteSet s₀)) k) ≡ false = rw (c, member_include (σ (WriteSet s₀)) k₀ k) at w in
      R s k kb st (rw (← q) (or_false_right (eqb k₀ k) _ m)) i)
      (λ q c. R s k kb st (rw c at w) i)

  start_reads : (s₀ : ℕ) → Reads (start σ s₀)
  start_reads s₀ s k kb st w i =
      by_eq s₀ s
      (λ q c. absurd (false≢true (sym (member_none k) ∙ rw c at i)))
      (λ q c. rw c (R s k kb (rw c at st) (rw c at w) (rw c at i)))

  -- a running session's view stays, and its sets stay
  step_reads : {τ : Store}
      → Writing σ (Status 0 ∷ Snapshot 0 ∷ WriteSet 0 ∷ ReadSet 0 ∷ ReadValue 0 0 ∷ CacheValue 0 0 ∷ CacheTime 0 0
      ∷ From 0 ∷ CommitTime 0 ∷ KeySet 0 ∷ Value 0 0 ∷ []) τ → Reads τ
  step_reads (Step.starts s f) = start_reads s
  step_reads (Step.reads s k h f) = read_reads s k h f.server
  step_reads (Step.writes s k v f) = write_reads s k v
  step_reads (Step.asks s₀ f q) = λ s k kb st w i.
      rw (ask_view σ I (σ (Snapshot s)) (G.snapshot s) s₀ k)
      (R s k kb (unwritten (same (Status s₀) (Status s)) committing (σ (Status s)) running (λ x. omega arith) st).1 w i)
  step_reads (Step.rests s₀ f q) = λ s k kb st w i.
      R s k kb (unwritten (same (Status s₀) (Status s)) idle (σ (Status s)) running (λ x. omega arith) st).1 w i
  step_reads (Step.decides n f) = λ s k kb st w i.
      by_eq (σ (By (place_of n))) s
      (λ q e. let n = rw e at st in absurd (omega arith))
      (λ q e. rw (decide_view σ I (σ (Snapshot s)) (G.snapshot s) (place_of n) k kb f.undecided f.states, e)
      (R s k kb (rw e at st) (rw e at w) i))

reached_reads : {σ : Store} → Reached σ → Reads σ
reached_reads =
    by_reached Reads (λ masks homes z s k kb st w i. absurd (omega arith)) (λ σ r R τ x. over Reads x
    (step_reads σ (reached_inv r) (reached_gossip r) R) R)

-- Every read of a running session of a reached store is taken where the hall holds the key, and answers the session's own write of this
-- transaction, else its cached write, else the merge of all that is decided at or below its snapshot. Neither the hall nor the read set
-- matters.
pub read_answer_lem : {σ : Store} → Reached σ → (s k h : ℕ) → ltb s (σ Sessions) ≡ true → σ (Status s) ≡ running → k < keys
    → holds σ h (partition_of σ k) ≡ true → (refusal σ 3 s k h ≡ 0) × (numbers (answer σ 3 s k h) ≡ numbers (due σ s k))
unfolding refusal answer rule_of
read_answer_lem {σ} r s k h there runs kb e =
    let l = lt-ltb k keys kb in (
      rw (there, l, e, runs),
      rw (there, l, e, runs) (by_test (member (σ (WriteSet s)) k)
          (λ c. rw c)
          (λ c. rw c (rw c at (read_found σ (reached_inv r) (reached_gossip r) (reached_reads r) s k h kb runs e c)))),
    )

step_cached : (σ : Store) → Cached σ → {τ : Store} → Writing σ (Status 0 ∷ Snapshot 0 ∷ CacheTime 0 0 ∷ []) τ → Cached τ
step_cached σ C (Step.starts s₀ f) = λ s k st i.
    by_eq s₀ s
    (λ q e. by_test (leb (σ (CacheTime s k)) (snapshot σ s₀))
    (λ l. let n = rw (e, l) at i in absurd (omega arith))
    (λ l. rw (e, l) (leb-false (σ (CacheTime s k)) (snapshot σ s₀) l)))
    (λ q e. rw e (C s k (rw e at st) (rw e at i)))
step_cached σ C (Step.asks s₀ f q) = λ s k st.
    C s k (unwritten (same (Status s₀) (Status s)) committing (σ (Status s)) running (λ x. omega arith) st).1
step_cached σ C (Step.rests s₀ f q) = λ s k st.
    C s k (unwritten (same (Status s₀) (Status s)) idle (σ (Status s)) running (λ x. omega arith) st).1
step_cached σ C (Step.decides n f) = λ s k st i.
    by_eq (σ (By (place_of n))) s
    (λ q e. let n = rw e at st in absurd (omega arith))
    (λ q e. rw e (C s k (rw e at st) (rw e at i)))

pub reached_cached : {σ : Store} → Reached σ → Cached σ
reached_cached = by_reached Cached (λ masks homes z s k st i. absurd (omega arith)) (λ σ r C τ x. over Cached x (step_cached σ C) C)
