-- Document 02, c: no desk takes a value above 100,000, so none is kept, and no read answers one.
use Rattle.std.specs.Prelude.{ℕ, ◌≤◌}
use Rattle.book.specs.Sizes.{value_max}
use Rattle.book.specs.Cells.{Store, WriteValue, ReadValue, CacheValue, Value}

-- a desk could have entered it
abbrev pub Enterable : ℕ → Type 0
Enterable v = v ≤ value_max

-- every value of a write set, a read set, a cache and a transaction; those that a key left behind when it went from a set, too
abbrev pub Ceiling : Store → Type 0
Ceiling σ = record {
  written : (s k : ℕ) → Enterable (σ (WriteValue s k));
  read : (s k : ℕ) → Enterable (σ (ReadValue s k));
  cached : (s k : ℕ) → Enterable (σ (CacheValue s k));
  asked : (t k : ℕ) → Enterable (σ (Value t k));
}
