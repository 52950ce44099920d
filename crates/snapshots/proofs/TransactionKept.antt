-- A transaction stays what it is from its end on, and its commit time from its decide on.
use Rattle.std.specs.Prelude.{ℕ, ◌<◌, ◌≡◌, refl, ◌∷◌, ltb}
use Rattle.std.proofs.Common.{◌∙◌, arith, ne_eqb, ltb-true, ltb-false}
use Rattle.book.specs.Cells.{Store, Transactions, By, From, CommitTime, KeySet, Value}
use Rattle.book.specs.Cases.{by_test, by_cell}
use Rattle.book.specs.Servers.{place_of}
use Rattle.book.specs.Views.{stamp_of}
use Rattle.book.specs.Reached.{Later}
use Rattle.facts.specs.Frame.{servers}
use Rattle.facts.specs.Step.{Step, Writing, over, by_later}
use Rattle.invariant.specs.Inv.{Inv}
use Rattle.snapshots.specs.TransactionKept.{Kept}

module _ (σ : Store) (t : ℕ) (b : t < σ Transactions) where
  same : Kept σ σ t
  same = record { there = b; by = refl; from = refl; writers = λ p. refl; keys = refl; values = λ k. refl; time = λ d. refl }

  step_kept : {τ : Store} → Writing σ (Transactions ∷ By 0 ∷ From 0 ∷ CommitTime 0 ∷ KeySet 0 ∷ Value 0 0 ∷ servers) τ → Kept σ τ t
  -- the new one stands at the next place
  step_kept (Step.asks s f q) =
      let n = ne_eqb (σ Transactions) t (λ q. omega arith) in
      record { there = omega arith; by = rw n; from = rw n; writers = λ p. rw n; keys = rw n; values = λ k. rw n; time = λ d. refl }
  -- none is decided twice
  step_kept (Step.decides n f) = record {
    there = b;
    by = refl;
    from = refl;
    writers = λ p. refl;
    keys = refl;
    values = λ k. refl;
    time = λ d. by_cell (CommitTime (place_of n)) (CommitTime t)
        (λ q c. let z : σ (CommitTime t) ≡ 0 = rw (← q.i) f.undecided in absurd (omega arith))
        (λ c. rw c);
  }

kept_kept : (σ τ υ : Store) (t : ℕ) → Kept σ τ t → Kept τ υ t → Kept σ υ t
kept_kept σ τ υ t K L = record {
  there = L.there;
  by = L.by ∙ K.by;
  from = L.from ∙ K.from;
  writers = λ p. L.writers p ∙ K.writers p;
  keys = L.keys ∙ K.keys;
  values = λ k. L.values k ∙ K.values k;
  time = λ d. L.time (rw (K.time d) d) ∙ K.time d;
}

-- "A transaction keeps the coordinator's hall it ended under, for its stamp and writing halls", by whatever steps.
pub transaction_kept : {σ τ : Store} → Later σ τ → (t : ℕ) → t < σ Transactions → Kept σ τ t
transaction_kept {σ} w t b =
    by_later (λ τ. Kept σ τ t) (same σ t b) (λ τ v K υ x.
    let b = K.there in kept_kept σ τ υ t K (over (λ υ. Kept τ υ t) x (step_kept τ t b) (same τ t b))) w

-- and the stamp of one that is decided
pub stamp_kept : {σ τ : Store} → Later σ τ → (t : ℕ) → t < σ Transactions → 0 < σ (CommitTime t) → stamp_of τ t ≡ stamp_of σ t
stamp_kept w t b d = let K = transaction_kept w t b in rw (K.time d, K.from)

-- what is decided was asked for
pub decided_there : (σ : Store) → Inv σ → (t : ℕ) → 0 < σ (CommitTime t) → t < σ Transactions
decided_there σ I t d =
    by_test (ltb t (σ Transactions)) (ltb-true _ _) (λ n. let z = I.states.undecided t (ltb-false _ _ n) in absurd (omega arith))
