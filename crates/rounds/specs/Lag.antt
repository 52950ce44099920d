-- Document 02, d: "Show that S is never the larger, so the special 0 goes."
use Rattle.std.specs.Prelude.{ℕ, ◌+◌, ◌≡◌}
use Rattle.book.specs.Cells.{Store, HomeHall, HomePartition, State}
use Rattle.book.specs.Servers.{writer}
use Rattle.book.specs.Answers.{numbers}
use Rattle.book.specs.Steps.{answer}

-- what a start says of the present: S and the lag together
abbrev pub told : Store → ℕ → ℕ
told σ s = let a = numbers (answer σ 2 s 0 0) in a.first + a.second

-- the coordinator of session s writes for transaction t; and how far t has come there
abbrev pub WritesFor : Store → ℕ → ℕ → Type 0
WritesFor σ s t = writer σ t (σ (HomePartition s)) ≡ σ (HomeHall s)

abbrev pub state_there : Store → ℕ → ℕ → ℕ
state_there σ s t = σ (State t (σ (HomePartition s)))
