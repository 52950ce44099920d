-- Transaction numbers that have a place.
use Rattle.std.specs.Prelude.{ℕ, ◌≤◌}
use Rattle.book.specs.Sizes.{places_max}

-- transaction number n may be there
pub record Numbered (n : ℕ) : Type 0 where
  pub first : 1 ≤ n
  pub last : n ≤ places_max
