-- What install and deliver ask of the store: what keeps their places in the room and their sums in a word.
use Rattle.std.specs.Prelude.{ℕ, ◌≤◌, ◌<◌, ◌≡◌}
use Rattle.book.specs.Sizes.{halls_max, places_max, slots}
use Rattle.book.specs.Cells.{Store, Halls, From, State, prepared, Proposed, First, Waiting}

-- every transaction comes from one of the halls
pub record AllCoordinated (σ : Store) : Type 0 where
  pub halls : σ Halls ≤ halls_max
  pub from : (t : ℕ) → t < places_max → σ (From t) < σ Halls

-- the channel to g for p from f has its oldest message at one of its places, and no more messages than places
pub record Channel (σ : Store) (g p f : ℕ) : Type 0 where
  pub first : σ (First g p f) < slots
  pub waiting : σ (Waiting g p f) ≤ slots

-- what is prepared for p was proposed a time above 0
pub record AllTimely (σ : Store) (p : ℕ) : Type 0 where
  pub proposed : (t : ℕ) → t < places_max → σ (State t p) ≡ prepared → 1 ≤ σ (Proposed t p)

-- so has every channel that server (h, p) may send through
pub record Outgoing (σ : Store) (h p : ℕ) : Type 0 where
  pub channels : (g : ℕ) → g < halls_max → Channel σ g p h
