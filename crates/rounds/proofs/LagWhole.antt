-- Document 02, d: "Show that S is never the larger, so the special 0 goes."
use Rattle.std.specs.Prelude.{ℕ, ◌≡◌}
use Rattle.std.proofs.Common.{arith}
use Rattle.book.specs.Cells.{Store, HomeHall, HomePartition}
use Rattle.book.specs.Servers.{present}
use Rattle.book.specs.Steps.{refusal}
use Rattle.book.specs.Reached.{Reached}
use Rattle.facts.specs.Step.{start_answers}
use Rattle.rounds.specs.Lag.{told}
use Rattle.rounds.proofs.NeverLarger.{never_larger, home}

module _ {σ : Store} (r : Reached σ) (s : ℕ) where
  module _ (taken : refusal σ 2 s 0 0 ≡ 0) where
    -- So the lag, its second answer, is all that the present has above S: "the coordinator's hybrid clock, or its reading if larger, minus
    -- S".
    pub lag_whole : told σ s ≡ present σ (σ (HomeHall s)) (σ (HomePartition s))
    lag_whole =
        let l = never_larger r s (σ (HomeHall s)) (σ (HomePartition s)) (home r s taken) in
        rw (start_answers σ s taken) (omega arith)
