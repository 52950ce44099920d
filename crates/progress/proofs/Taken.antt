-- Nobody is stuck for a reason that is not in the table: what is taken, and where it leaves the session or the transaction.
use Rattle.std.specs.Prelude.{ℕ, suc, ◌≤◌, ◌<◌, false, ◌&&◌, ◌≡◌, eqb, ltb}
use Rattle.std.proofs.Math.Bool.{true}
use Rattle.std.proofs.Math.Path.{refl}
use Rattle.std.proofs.Common.{sym, ◌∙◌, mod-lt, arith}
use borrow.Author.Tests.{eqb-true, ltb-true, eq-eqb, lt-ltb, le-ltb, le-leb, lt-leb}
use Rattle.book.specs.Sizes.{partitions_max, keys, places_max, value_max}
use Rattle.book.specs.Cells.{Store, Partitions, Sessions, Transactions, Status, idle, running, committing, CommitTime, KeySet, State, asked, prepared, waiting}
use Rattle.book.specs.Cases.{by_eq, and_true, eqb_refl, at_same}
use Rattle.book.specs.Folds.{all_i, any_true}
use Rattle.book.specs.Servers.{holds, partition_of, place_of, number_of}
use Rattle.book.specs.Sets.{member}
use Rattle.book.specs.SessionSteps.{start, has_writes, touches}
use Rattle.book.specs.CommitSteps.{prepare, decide}
use Rattle.book.specs.Refusals.{transaction_there, all_prepared}
use Rattle.book.specs.Steps.{rule_of, refusal, after, start_rule, read_rule, write_rule, end_rule, prepare_rule, decide_rule, commit_rule}
use Rattle.book.specs.Reached.{Reached}
use Rattle.bounds.proofs.Pairs.{reached_stated}
use Rattle.invariant.proofs.Reach.{reached_inv}
use Rattle.facts.specs.Calls.{call, by_rule}

-- a session that is there
module _ (σ : Store) (s : ℕ) (there : s < σ Sessions) where
  -- A start on an idle session is taken and leaves it running.
  pub start_taken : σ (Status s) ≡ idle → (refusal σ 2 s 0 0 ≡ 0) × (after σ 2 s 0 0 (Status s) ≡ running)
  unfolding rule_of
  start_taken is =
      let w = by_rule σ (call 2 s 0 0) (start_rule σ s 0 0) refl (rw (lt-ltb s (σ Sessions) there, is)) in
      (w.0, rw (w.1, eqb_refl s))

  module _ (runs : σ (Status s) ≡ running) where
    -- A running session's write of a key and a value that are there is taken and leaves it running.
    pub write_taken : (k v : ℕ) → k < keys → v ≤ value_max → (refusal σ 4 s k v ≡ 0) × (after σ 4 s k v (Status s) ≡ running)
    unfolding rule_of
    write_taken k v kb vb =
        let w = by_rule σ (call 4 s k v) (write_rule σ s k v) refl
        (rw (lt-ltb s (σ Sessions) there, lt-ltb k keys kb, le-ltb value_max v vb, runs)) in
        (w.0, rw w.1 runs)

    -- So is its read at a hall that holds the key.
    pub read_taken : (k h : ℕ) → k < keys → holds σ h (partition_of σ k) ≡ true
        → (refusal σ 3 s k h ≡ 0) × (after σ 3 s k h (Status s) ≡ running)
    unfolding rule_of
    read_taken k h kb e =
        let w = by_rule σ (call 3 s k h) (read_rule σ s k h) refl
        (rw (lt-ltb s (σ Sessions) there, lt-ltb k keys kb, e, runs)) in
        (w.0, rw w.1 runs)

    -- Its end without writes is taken and leaves it idle.
    pub end_without : has_writes σ s ≡ false → (refusal σ 5 s 0 0 ≡ 0) × (after σ 5 s 0 0 (Status s) ≡ idle)
    unfolding rule_of
    end_without n =
        let w = by_rule σ (call 5 s 0 0) (end_rule σ s 0 0) refl (rw (lt-ltb s (σ Sessions) there, runs, n)) in
        (w.0, rw (w.1, n, eqb_refl s))

    -- With writes it is taken while there is room, and leaves it committing.
    pub end_with : has_writes σ s ≡ true → σ Transactions < places_max → (refusal σ 5 s 0 0 ≡ 0) × (after σ 5 s 0 0 (Status s) ≡ committing)
    unfolding rule_of
    end_with y l =
        let w = by_rule σ (call 5 s 0 0) (end_rule σ s 0 0) refl
        (rw (lt-ltb s (σ Sessions) there, runs, y, lt-leb places_max (σ Transactions) l)) in
        (w.0, rw (w.1, y, eqb_refl s))

    -- "end with writes after 64 such requests; the session stays running"
    pub end_full : has_writes σ s ≡ true → places_max ≤ σ Transactions → (refusal σ 5 s 0 0 ≡ 8) × (after σ 5 s 0 0 (Status s) ≡ running)
    unfolding refusal after rule_of
    end_full y l = rw (lt-ltb s (σ Sessions) there, runs, y, le-leb places_max (σ Transactions) l) (refl, runs)

pub started : (σ : Store) (s : ℕ) → refusal σ 2 s 0 0 ≡ 0 → after σ 2 s 0 0 ≡ start σ s
unfolding refusal after rule_of
started σ s e = rw (eq-eqb _ _ e)

-- a set of keys of partition p has p among the partitions
touched_there : (σ : Store) → 0 < σ Partitions → (m p : ℕ) → touches σ m p ≡ true → p < σ Partitions
touched_there σ l m p e =
    let w = any_true keys (λ k. member m k && eqb (partition_of σ k) p) e in
    let q = eqb-true (partition_of σ w.0) p (and_true (member m w.0) _ w.2).1 in
    rw (← q) (mod-lt w.0 l)

-- a pair that has a state is of a transaction and a partition that are there, and the transaction writes the partition
pub pair_there : {σ : Store} → Reached σ → (t p : ℕ) → 0 < σ (State t p)
    → (t < σ Transactions) × (p < σ Partitions) × (touches σ (σ (KeySet t)) p ≡ true)
pair_there {σ} r t p l =
    let a = and_true (ltb t (σ Transactions)) _ (sym (reached_stated r t p) ∙ lt-ltb 0 (σ (State t p)) l) in
    (ltb-true _ _ a.0, touched_there σ (reached_inv r).setup.partition (σ (KeySet t)) p a.1, a.1)

number_there : (σ : Store) (t : ℕ) → t < σ Transactions → transaction_there σ (number_of t) ≡ true
number_there σ t l = rw (le-leb 1 (suc t) (omega arith), le-leb (suc t) (σ Transactions) l)

place_of_lem : (t : ℕ) → place_of (number_of t) ≡ t
place_of_lem t = omega arith

module _ {σ : Store} (r : Reached σ) where
  pub prepares : (t p : ℕ) → σ (State t p) ≡ asked → (refusal σ 6 (number_of t) p 0 ≡ 0) × (after σ 6 (number_of t) p 0 ≡ prepare σ t p)
  unfolding rule_of
  prepares t p e =
      let l = pair_there r t p (omega arith) in
      let w = by_rule σ (call 6 (number_of t) p 0) (prepare_rule σ (number_of t) p 0) refl
      (rw (number_there σ t l.0, place_of_lem t, lt-ltb p (σ Partitions) l.1, e)) in
      (w.0, w.1 ∙ rw (place_of_lem t))

  -- An asked pair can be prepared.
  pub prepare_taken : (t p : ℕ) → σ (State t p) ≡ asked
      → (refusal σ 6 (number_of t) p 0 ≡ 0) × (after σ 6 (number_of t) p 0 (State t p) ≡ prepared)
  prepare_taken t p e = let w = prepares t p e in (w.0, rw (w.1, at_same (State t p)))

  -- a transaction that is undecided, and prepared in each partition that it writes
  module _ (t : ℕ) (there : t < σ Transactions) (un : σ (CommitTime t) ≡ 0)
      (done : (p : ℕ) → touches σ (σ (KeySet t)) p ≡ true → σ (State t p) ≡ prepared) where
    pub decides : (refusal σ 7 (number_of t) 0 0 ≡ 0) × (after σ 7 (number_of t) 0 0 ≡ decide σ t)
    unfolding rule_of
    decides =
        let all : all_prepared σ t ≡ true = all_i partitions_max _ (λ p _. by_eq (σ (State t p)) 0
        (λ q c. rw c)
        (λ q c. rw (c, done p (pair_there r t p (omega arith)).2))) in
        let w = by_rule σ (call 7 (number_of t) 0 0) (decide_rule σ (number_of t) 0 0) refl
        (rw (number_there σ t there, place_of_lem t, all, un)) in
        (w.0, w.1 ∙ rw (place_of_lem t))

  -- A decided pair that is still prepared can be committed.
  pub commit_taken : (t p : ℕ) → σ (State t p) ≡ prepared → 0 < σ (CommitTime t)
      → (refusal σ 8 (number_of t) p 0 ≡ 0) × (after σ 8 (number_of t) p 0 (State t p) ≡ waiting)
  unfolding rule_of
  commit_taken t p e d =
      let l = pair_there r t p (omega arith) in
      let w = by_rule σ (call 8 (number_of t) p 0) (commit_rule σ (number_of t) p 0) refl
      (rw (number_there σ t l.0, place_of_lem t, lt-ltb p (σ Partitions) l.1, lt-ltb 0 (σ (CommitTime t)) d, e)) in
      (w.0, rw (w.1, place_of_lem t, at_same (State t p)))
