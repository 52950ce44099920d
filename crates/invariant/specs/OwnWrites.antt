-- What a session wrote in earlier transactions it still sees: at its snapshot, or in its cache.
use Rattle.std.specs.Prelude.{ℕ, ◌^◌, ◌≤◌, ◌<◌, true, ◌≡◌, ◌⊎◌}
use Rattle.book.specs.Sizes.{partitions_max, keys}
use Rattle.book.specs.Cells.{Store, Transactions, Status, committing, Snapshot, LastCommit, WriteSet, CacheValue, CacheTime, By, CommitTime, KeySet, Value, State, prepared, Proposed}
use Rattle.book.specs.Sets.{member}

-- what session s has cached of key k is what its transaction t wrote
abbrev pub CachedFrom : Store → ℕ → ℕ → ℕ → Type 0
CachedFrom σ s k t = record {
  there : t < σ Transactions;
  by : σ (By t) ≡ s;
  wrote : member (σ (KeySet t)) k ≡ true;
  time : σ (CommitTime t) ≡ σ (CacheTime s k);
  value : σ (Value t k) ≡ σ (CacheValue s k);
}

-- A session and its transactions, clause by clause, each with the kinds of cell that it reads.

-- a write set has no key past the last
abbrev pub Sets : Store → Type 0
Sets σ = (s : ℕ) → σ (WriteSet s) < 2 ^ keys

-- a transaction writes a partition
abbrev pub Some : Store → Type 0
Some σ = (t : ℕ) → t < σ Transactions → (p : ℕ) × (p < partitions_max) × (0 < σ (State t p))

-- an undecided transaction's session is committing
abbrev pub Busy : Store → Type 0
Busy σ = (t : ℕ) → t < σ Transactions → σ (CommitTime t) ≡ 0 → σ (Status (σ (By t))) ≡ committing

-- and has no other that is undecided
abbrev pub One : Store → Type 0
One σ = (t u : ℕ) → t < σ Transactions → u < σ Transactions → σ (By t) ≡ σ (By u) → σ (CommitTime t) ≡ 0 → σ (CommitTime u) ≡ 0 → t ≡ u

-- what it proposed is above its session's last commit time
abbrev pub Ahead : Store → Type 0
Ahead σ = (t p : ℕ) → σ (State t p) ≡ prepared → σ (CommitTime t) ≡ 0 → σ (LastCommit (σ (By t))) < σ (Proposed t p)

-- a commit time is at most its session's last
abbrev pub Last : Store → Type 0
Last σ = (t : ℕ) → σ (CommitTime t) ≤ σ (LastCommit (σ (By t)))

-- no two decided transactions of a session have one commit time
abbrev pub Apart : Store → Type 0
Apart σ = (t u : ℕ) → σ (By t) ≡ σ (By u) → 0 < σ (CommitTime t) → σ (CommitTime t) ≡ σ (CommitTime u) → t ≡ u

-- what is cached is what one of the session's transactions wrote
abbrev pub FromCache : Store → Type 0
FromCache σ = (s k : ℕ) → 0 < σ (CacheTime s k) → (t : ℕ) × CachedFrom σ s k t

-- what was written is at or below the session's snapshot, or its key is cached at that time or later
abbrev pub Kept : Store → Type 0
Kept σ = (t k : ℕ) → member (σ (KeySet t)) k ≡ true
    → (σ (CommitTime t) ≤ σ (Snapshot (σ (By t)))) ⊎ (σ (CommitTime t) ≤ σ (CacheTime (σ (By t)) k))

abbrev pub Own : Store → Type 0
Own σ = record {
  sets : Sets σ;
  some : Some σ;
  busy : Busy σ;
  one : One σ;
  ahead : Ahead σ;
  last : Last σ;
  apart : Apart σ;
  cached : FromCache σ;
  kept : Kept σ;
}
