-- Nobody is stuck for a reason that is not in the table: what is taken, and where it leaves the session or the transaction.
use Rattle.std.specs.Prelude.{ℕ, ◌≤◌, ◌<◌, ◌≡◌, List, ◌⊎◌, length}
use Rattle.std.proofs.Math.Bool.{true}
use Rattle.book.specs.Sizes.{places_max}
use Rattle.book.specs.Cells.{Store, Transactions, Status, idle, running, committing, By, CommitTime}
use Rattle.book.specs.Servers.{number_of}
use Rattle.book.specs.SessionSteps.{has_writes}
use Rattle.book.specs.Steps.{refusal}
use Rattle.facts.specs.Calls.{Call, run, AllTaken}

-- session s waits for its transaction t to be decided
abbrev pub Awaits : Store → ℕ → ℕ → Type 0
Awaits σ s t = record {
  there : t < σ Transactions;
  by : σ (By t) ≡ s;
  undecided : σ (CommitTime t) ≡ 0;
}

-- the ways on of a session
abbrev pub CanGoOn : Store → ℕ → Type 0
CanGoOn σ s =
    -- it can start
    ((σ (Status s) ≡ idle) × (refusal σ 2 s 0 0 ≡ 0))
    -- it can end, or has writes for which there is no room
    ⊎ (((σ (Status s) ≡ running) × ((refusal σ 5 s 0 0 ≡ 0) ⊎ ((has_writes σ s ≡ true) × (places_max ≤ σ Transactions))))
    -- its transaction can be prepared in some partition, or can be decided
    ⊎ ((σ (Status s) ≡ committing)
    × ((t : ℕ) × Awaits σ s t × (((p : ℕ) × (refusal σ 6 (number_of t) p 0 ≡ 0)) ⊎ (refusal σ 7 (number_of t) 0 0 ≡ 0)))))

-- some steps in a row, each of them taken, and what is then so of the store
abbrev pub Leads : Store → ℕ → (Store → Type 0) → Type 0
Leads σ n P = (l : List Call) × (length l ≤ n) × AllTaken σ l × P (run σ l)
