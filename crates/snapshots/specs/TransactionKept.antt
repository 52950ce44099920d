-- A transaction stays what it is from its end on, and its commit time from its decide on.
use Rattle.std.specs.Prelude.{ℕ, ◌<◌, ◌≡◌}
use Rattle.book.specs.Cells.{Store, Transactions, By, From, CommitTime, KeySet, Value}
use Rattle.book.specs.Servers.{writer}

-- transaction t is in τ what it was in σ; its commit time, once it has one
abbrev pub Kept : Store → Store → ℕ → Type 0
Kept σ τ t = record {
  there : t < τ Transactions;
  by : τ (By t) ≡ σ (By t);
  from : τ (From t) ≡ σ (From t);
  writers : (p : ℕ) → writer τ t p ≡ writer σ t p;
  keys : τ (KeySet t) ≡ σ (KeySet t);
  values : (k : ℕ) → τ (Value t k) ≡ σ (Value t k);
  time : 0 < σ (CommitTime t) → τ (CommitTime t) ≡ σ (CommitTime t);
}
