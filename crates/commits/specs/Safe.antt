-- What each step asks of the store: what keeps its places in the room and its sums in a word.
use Rattle.std.specs.Prelude.{ℕ, ◌≤◌, ◌<◌, ◌^◌}
use Rattle.book.specs.Sizes.{halls_max, sessions_max, keys, time_max}
use Rattle.book.specs.Cells.{Store, Halls, Hybrid, Snapshot, LastCommit, By, From, KeySet}

-- the transaction at place t comes from one of the halls
pub record Coordinated (σ : Store) (t : ℕ) : Type 0 where
  pub halls : σ Halls ≤ halls_max
  pub from : σ (From t) < σ Halls

-- the times that its session and a server of p bring to a proposal leave room for one more
pub record Timely (σ : Store) (t p : ℕ) : Type 0 where
  pub session : σ (By t) < sessions_max
  pub last : σ (LastCommit (σ (By t))) ≤ time_max
  pub snapshot : σ (Snapshot (σ (By t))) ≤ time_max
  pub hybrid : (h : ℕ) → h < halls_max → σ (Hybrid h p) ≤ time_max

-- its session is one of the room's, and it writes keys of the room alone
pub record Writing (σ : Store) (t : ℕ) : Type 0 where
  pub session : σ (By t) < sessions_max
  pub key_set : σ (KeySet t) < 2 ^ keys
