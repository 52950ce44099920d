-- Document 02, d: "Show that S is never the larger, so the special 0 goes."
use Rattle.std.specs.Prelude.{ℕ, ◌≤◌, ◌≡◌}
use Rattle.std.proofs.Common.{arith}
use Rattle.book.specs.Cells.{Store, CommitTime, prepared, waiting}
use Rattle.book.specs.Answers.{numbers}
use Rattle.book.specs.SessionSteps.{snapshot}
use Rattle.book.specs.Steps.{refusal, answer}
use Rattle.book.specs.Reached.{Reached}
use Rattle.facts.specs.Step.{start_answers}
use Rattle.rounds.specs.Lag.{WritesFor, state_there}
use Rattle.rounds.proofs.Lag.{lag_committed, lag_prepared}

module _ {σ : Store} (r : Reached σ) (s : ℕ) where
  module _ (taken : refusal σ 2 s 0 0 ≡ 0) where
    module _ (t : ℕ) (w : WritesFor σ s t) where
      -- So a lag of 0 says that nothing is prepared there, and that the snapshot has all that was committed there.
      pub lag_of_0 : (numbers (answer σ 2 s 0 0)).second ≡ 0
          → (state_there σ s t ≡ prepared → ⊥) × (waiting ≤ state_there σ s t → σ (CommitTime t) ≤ snapshot σ s)
      lag_of_0 z =
          let f : (numbers (answer σ 2 s 0 0)).first ≡ snapshot σ s = rw (start_answers σ s taken) in (
            λ e. let b = lag_prepared r s taken t w e in absurd (omega (arith, b.0, b.1)),
            λ l. let b = lag_committed r s taken t w l in omega arith,
          )
