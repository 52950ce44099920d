-- What later steps leave as it was: the view at a snapshot.
use Rattle.std.specs.Prelude.{ℕ, ◌≤◌, ◌<◌, true, false, ◌&&◌, ◌≡◌, refl, ◌⊎◌, [], ◌∷◌, eqb, ltb, leb}
use Rattle.std.proofs.lemmas.Bool.{false≢true, lt-leb}
use Rattle.std.proofs.Math.Bool.{and-false}
use Rattle.std.proofs.Common.{◌∙◌, ⊎_elim, mod-lt, le_trans, le_refl, arith, eq-eqb}
use Rattle.book.specs.Sizes.{partitions_max, keys, places_max}
use Rattle.book.specs.Cells.{Store, Entry, Transactions, Snapshot, CommitTime, KeySet, State, prepared, Proposed, From, Value}
use Rattle.book.specs.Cases.{by_test, by_eq, by_cell}
use Rattle.book.specs.Folds.{largest_ge}
use Rattle.book.specs.Sets.{member}
use Rattle.book.specs.Servers.{partition_of, writer, place_of}
use Rattle.book.specs.Views.{decided_view}
use Rattle.book.specs.SessionSteps.{ask}
use Rattle.book.specs.CommitSteps.{decision, decide}
use Rattle.book.specs.Reached.{Reached, Later}
use Rattle.facts.specs.Step.{Step, Writing, over, by_later}
use Rattle.invariant.specs.Inv.{Inv, Below}
use Rattle.invariant.proofs.Writer.{writer_holds}
use Rattle.invariant.proofs.Reach.{reached_inv, reached_gossip, later_inv, later_below}
use Rattle.snapshots.proofs.SnapshotRead.{merge_all_agree}

-- a transaction that writes a key and is decided now is decided above its writing server's version clock
pub decide_past : (σ : Store) → Inv σ → (S t k : ℕ) → k < keys
    → ((p : ℕ) → p < partitions_max → (σ (State t p) ≡ 0) ⊎ (σ (State t p) ≡ prepared)) → member (σ (KeySet t)) k ≡ true
    → S ≤ σ (Entry (writer σ t (partition_of σ k)) (partition_of σ k) (writer σ t (partition_of σ k))) → S < decision σ t
decide_past σ I S t k kb all w le =
    let p = partition_of σ k in
    let p4 : p < partitions_max = le_trans (mod-lt k I.setup.partition) I.setup.partitions in
    let some = I.writes.written t k kb w in
    let s2 : σ (State t p) ≡ prepared = ⊎_elim (λ z. absurd (omega arith)) (λ z. z) (all p p4) in
    let a = I.clocks.above t p s2 in
    let c = largest_ge partitions_max (λ p. eqb (σ (State t p)) prepared) (λ p. σ (Proposed t p)) p p4
    (eq-eqb (σ (State t p)) prepared s2) in
    omega arith

module _ (σ : Store) (I : Inv σ) (S : ℕ) (B : Below σ S) where
  -- so above what is at most every entry
  decide_above : (t k : ℕ) → k < keys → σ (CommitTime t) ≡ 0
      → ((p : ℕ) → p < partitions_max → (σ (State t p) ≡ 0) ⊎ (σ (State t p) ≡ prepared))
      → member (σ (KeySet t)) k ≡ true → S < decision σ t
  decide_above t k kb un all w =
      let p = partition_of σ k in
      let kw = writer_holds σ I t p (mod-lt k I.setup.partition) in
      decide_past σ I S t k kb all w (B (writer σ t p) p (writer σ t p) kw kw)

  -- so what is decided now is not in the view at S
  decide_hidden : (t k : ℕ) → k < keys → σ (CommitTime t) ≡ 0
      → ((p : ℕ) → p < partitions_max → (σ (State t p) ≡ 0) ⊎ (σ (State t p) ≡ prepared))
      → (member (σ (KeySet t)) k && leb (decision σ t) S) ≡ false
  decide_hidden t k kb un all =
      by_test (member (σ (KeySet t)) k)
      (λ c. rw (c, lt-leb (decision σ t) S (decide_above t k kb un all c)))
      (λ c. rw c)

  pub decide_view : (t k : ℕ) → k < keys → σ (CommitTime t) ≡ 0
      → ((p : ℕ) → p < partitions_max → (σ (State t p) ≡ 0) ⊎ (σ (State t p) ≡ prepared))
      → decided_view (decide σ t) k S ≡ decided_view σ k S
  decide_view t k kb un all =
      let x = decide_hidden t k kb un all in
      let y = and-false (ltb 0 (decision σ t)) in
      merge_all_agree places_max _ _ _ _
      (λ t' tb. by_cell (CommitTime t) (CommitTime t')
      (λ q c. let z : σ (CommitTime t') ≡ 0 = rw (← q.i) un in rw (c, z, ← q.i, x, y))
      (λ c. rw c))
      (λ t' tb e. by_cell (CommitTime t) (CommitTime t')
      (λ q c. absurd (false≢true (rw (c, ← q.i, x, y) at e)))
      (λ c. rw c))

  -- what is asked for now is not decided
  pub ask_view : (s k : ℕ) → decided_view (ask σ s) k S ≡ decided_view σ k S
  ask_view s k =
      let u = I.states.undecided (σ Transactions) (le_refl _) in
      merge_all_agree places_max _ _ _ _
      (λ t tb. by_eq (σ Transactions) t (λ q c. let z : σ (CommitTime t) ≡ 0 = rw (← q) u in rw z) (λ q c. rw c))
      (λ t tb e. by_eq (σ Transactions) t (λ q c. let z : σ (CommitTime t) ≡ 0 = rw (← q) u in absurd (false≢true (rw z at e)))
      (λ q c. rw c))

  -- the view at S of all that is decided is the same after a step
  step_view : (k : ℕ) → k < keys → {τ : Store} → Writing σ (From 0 ∷ CommitTime 0 ∷ KeySet 0 ∷ Value 0 0 ∷ []) τ
      → decided_view τ k S ≡ decided_view σ k S
  step_view k kb (Step.asks s f q) = ask_view s k
  step_view k kb (Step.decides n f) = decide_view (place_of n) k kb f.undecided f.states

pub later_decided : {σ τ : Store} → Reached σ → Later σ τ → (s k : ℕ) → k < keys
    → decided_view τ k (σ (Snapshot s)) ≡ decided_view σ k (σ (Snapshot s))
later_decided {σ} r w s k kb =
    let I = reached_inv r in
    let S = σ (Snapshot s) in
    by_later (λ τ. decided_view τ k S ≡ decided_view σ k S) refl
    (λ τ v e υ x. over (λ υ. decided_view υ k S ≡ decided_view τ k S) x
    (step_view τ (later_inv I v) S (later_below I S ((reached_gossip r).snapshot s) v) k kb) refl ∙ e) w

step_snapshot : (σ : Store) (s : ℕ) {τ : Store} → Writing σ (Snapshot 0 ∷ []) τ → σ (Snapshot s) ≤ τ (Snapshot s)
step_snapshot σ s (Step.starts s' f) = by_cell (Snapshot s') (Snapshot s) (λ q c. rw (c, ← q.i) (omega arith)) (λ c. rw c (le_refl _))

-- A session's snapshot never goes down, from any store and by any steps, moves among them.
pub snapshots_rise : {σ τ : Store} → Later σ τ → (s : ℕ) → σ (Snapshot s) ≤ τ (Snapshot s)
snapshots_rise {σ} w s =
    by_later (λ τ. σ (Snapshot s) ≤ τ (Snapshot s)) (le_refl _) (λ τ v l υ x.
    le_trans l (over (λ υ. τ (Snapshot s) ≤ υ (Snapshot s)) x (step_snapshot τ s) (le_refl _))) w
