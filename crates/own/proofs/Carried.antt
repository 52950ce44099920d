-- Steps go on, and sessions are carried from hall to hall: what goes along, and what stays.
use Rattle.std.specs.Prelude.{ℕ, max, ◌≤◌, ◌<◌, true, ◌≡◌, refl, leb}
use Rattle.std.proofs.Common.{◌∙◌, inl, inr, le_trans, arith, leb-true, leb-false, eq-eqb, lt-ltb}
use Rattle.book.specs.Cells.{Store, Sessions, Stable, Snapshot, By, CommitTime, KeySet}
use Rattle.book.specs.Cases.{by_test, eqb_refl}
use Rattle.book.specs.Sets.{member}
use Rattle.book.specs.Answers.{numbers}
use Rattle.book.specs.Views.{stamp_of}
use Rattle.book.specs.SessionSteps.{move}
use Rattle.book.specs.Steps.{rule_of, refusal, after, answer}
use Rattle.book.specs.Reached.{Reached, Later}
use Rattle.facts.specs.Facts.{move_facts}
use Rattle.facts.specs.Step.{start_answers}
use Rattle.invariant.proofs.Reach.{reached_later, reached_inv}
use Rattle.snapshots.proofs.LaterView.{snapshots_rise}
use Rattle.snapshots.proofs.TransactionKept.{decided_there, transaction_kept}
use Rattle.own.specs.ReadYourWrites.{Looks, Shows, ShowsNoOlder}
use Rattle.own.proofs.ReadYourWrites.{reads_no_older, read_shows}

-- What a start answers for S is no lower than any snapshot that the session had before, wherever it has been carried since.
pub start_rises : {σ τ : Store} → Later σ τ → (s : ℕ) → refusal τ 2 s 0 0 ≡ 0 → σ (Snapshot s) ≤ (numbers (answer τ 2 s 0 0)).first
start_rises {σ} {τ} w s e = let l = snapshots_rise w s in rw (start_answers τ s e) (omega arith)

moved : (σ : Store) (s h p : ℕ) → refusal σ 14 s h p ≡ 0 → after σ 14 s h p ≡ move σ s h p
unfolding refusal after rule_of
moved σ s h p e = rw (eq-eqb _ _ e)

-- A session that a move was taken for can start at once, at the larger of the new coordinator's stable time and its own.
pub start_after_move : (σ : Store) (s h p : ℕ) → refusal σ 14 s h p ≡ 0
    → (refusal (after σ 14 s h p) 2 s 0 0 ≡ 0)
    × ((numbers (answer (after σ 14 s h p) 2 s 0 0)).first ≡ max (σ (Stable h p)) (σ (Snapshot s)))
unfolding refusal answer rule_of
start_after_move σ s h p e =
    let f = move_facts σ s h p e in
    rw (moved σ s h p e, lt-ltb s (σ Sessions) f.there, f.rests, eqb_refl s) (refl, refl)

module _ {σ τ : Store} (r : Reached σ) (w : Later σ τ) where
  -- After a session's transaction t is decided, wherever the session is carried, a read of a key that t wrote, and that the session has not
  -- written since its start, answers what t wrote or what a transaction with a later stamp wrote: from the cache while its commit time is
  -- above S, from the snapshot after (`Shows`).
  pub read_your_writes_later : (t k h : ℕ) → 0 < σ (CommitTime t) → member (σ (KeySet t)) k ≡ true → Looks τ (σ (By t)) k h
      → ShowsNoOlder τ (σ (By t)) k h (stamp_of σ t)
  read_your_writes_later t k h d m L =
      let K = transaction_kept w t (decided_there σ (reached_inv r) t d) in
      let time = K.time d in
      rw (← time, ← K.from)
      (reads_no_older (reached_later r w) (σ (By t)) t k h L (rw time d) (inr K.by) (rw K.keys m))

  -- Two reads of a session of a key that it has not written since its start, wherever it was carried between: what the first finds, the
  -- second finds too, or something with a later stamp.
  pub never_older : (s k g h : ℕ) → Looks σ s k g → (numbers (answer σ 3 s k g)).first ≡ 1 → Looks τ s k h
      → (t : ℕ) × Shows σ s k g t × ShowsNoOlder τ s k h (stamp_of σ t)
  never_older s k g h L one M =
      let f = read_shows r s k g L one in
      let t = f.0 in
      let shows = f.1 in
      let K = transaction_kept w t shows.there in
      let time = K.time shows.done in
      let rise = snapshots_rise w s in (
        t,
        shows,
        rw (← time, ← K.from)
            (reads_no_older (reached_later r w) s t k h M (rw time shows.done)
            (by_test (leb (σ (CommitTime t)) (σ (Snapshot s)))
            (λ c. inl (rw time (le_trans (leb-true _ _ c) rise)))
            (λ c. inr (K.by ∙ (shows.above (leb-false _ _ c)).by)))
            (rw K.keys shows.wrote)),
      )
