-- Nobody is stuck for a reason that is not in the table: what is taken, and where it leaves the session or the transaction.
use Rattle.std.specs.Prelude.{ℕ, ◌<◌, ◌≡◌}
use Rattle.std.proofs.Math.Bool.{true}
use Rattle.std.proofs.Common.{inl, inr, arith}
use Rattle.book.specs.Cells.{Store, Transactions, Status, idle, By, CommitTime, KeySet, State, prepared}
use Rattle.book.specs.Cases.{by_eq, eqb_refl}
use Rattle.book.specs.Servers.{number_of}
use Rattle.book.specs.SessionSteps.{touches}
use Rattle.book.specs.Steps.{refusal, after}
use Rattle.book.specs.Reached.{Reached}
use Rattle.snapshots.proofs.Ever.{decision_some}
use Rattle.progress.proofs.Taken.{pair_there, decides}

module _ {σ : Store} (r : Reached σ) where
  -- a transaction that is undecided, and prepared in each partition that it writes
  module _ (t : ℕ) (there : t < σ Transactions) (un : σ (CommitTime t) ≡ 0)
      (done : (p : ℕ) → touches σ (σ (KeySet t)) p ≡ true → σ (State t p) ≡ prepared) where
    -- It can be decided. It has a commit time then, and its session is idle.
    pub decide_taken : (refusal σ 7 (number_of t) 0 0 ≡ 0)
        × (0 < after σ 7 (number_of t) 0 0 (CommitTime t))
        × (after σ 7 (number_of t) 0 0 (Status (σ (By t))) ≡ idle)
    decide_taken =
        let z = decision_some r t there (λ p _. by_eq (σ (State t p)) 0 (λ q _. inl q)
        (λ q _. inr (done p (pair_there r t p (omega arith)).2))) in
        let w = decides r t there un done in
        (w.0, rw (w.1, eqb_refl t) z, rw (w.1, eqb_refl (σ (By t))))
