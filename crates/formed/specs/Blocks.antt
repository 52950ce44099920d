-- Names for the blocks of the book's two tests, each of which a function of the code answers.
use Rattle.std.specs.Prelude.{ℕ, Bool, cond, ◌&&◌, ltb, leb}
use Rattle.book.specs.Sizes.{halls_max, partitions_max, sessions_max, places_max, mask_max}
use Rattle.book.specs.Cells.{Store, Halls, Partitions, Sessions, Transactions, Mask, Entry, HomeHall, HomePartition, CacheTime, State, prepared, ClockSent}
use Rattle.book.specs.Cases.{implies}
use Rattle.book.specs.Folds.{all, count}
use Rattle.book.specs.Sets.{member}
use Rattle.book.specs.Servers.{holds}
use Rattle.book.specs.Setup.{held_somewhere}
use Rattle.book.specs.WellFormed.{channel_ok, server_ok, session_ok, transaction_ok, shared_ok}

-- hall h is there, and has p's bit
abbrev pub has_bit : Store → ℕ → ℕ → Bool
has_bit σ p h = ltb h (σ Halls) && member (σ (Mask h)) p

abbrev pub mask_ok : Store → ℕ → Bool
mask_ok σ h = implies (ltb h (σ Halls)) (leb 1 (σ (Mask h)) && leb (σ (Mask h)) mask_max)

abbrev pub partition_ok : Store → ℕ → Bool
partition_ok σ p = implies (ltb p (σ Partitions)) (held_somewhere σ p)

abbrev pub home_ok : Store → ℕ → Bool
home_ok σ s = implies (ltb s (σ Sessions)) (holds σ (σ (HomeHall s)) (σ (HomePartition s)))

-- the partitions that transaction t has prepared
abbrev pub prepared_at : Store → ℕ → ℕ
prepared_at σ t = count partitions_max (λ p. leb prepared (σ (State t p)))

abbrev pub clock_ok : Store → ℕ → ℕ → ℕ → ℕ → ℕ → Bool
clock_ok σ b g p f n = leb (σ (ClockSent g p f n)) b

abbrev pub entry_ok : Store → ℕ → ℕ → ℕ → ℕ → Bool
entry_ok σ b h p g = leb (σ (Entry h p g)) b && channel_ok σ b h p g

abbrev pub hall_ok : Store → ℕ → ℕ → Bool
hall_ok σ b h = all partitions_max (λ p. server_ok σ b h p)

abbrev pub cached_ok : Store → ℕ → ℕ → ℕ → Bool
cached_ok σ b s k = leb (σ (CacheTime s k)) b

-- at most m at a place that a transaction has, and nothing at another
abbrev pub most_at : Store → ℕ → ℕ → ℕ
most_at σ t m = cond (ltb t (σ Transactions)) m 0

abbrev pub shares_ok : Store → ℕ → ℕ → Bool
shares_ok σ b to = all halls_max (λ f. shared_ok σ b to f)

-- every timestamp is at most b, and the rest of each block is in its bounds
abbrev pub kept_ok : Store → ℕ → Bool
kept_ok σ b =
    all halls_max (λ h. hall_ok σ b h)
    && (all sessions_max (λ s. session_ok σ b s)
    && (all places_max (λ t. transaction_ok σ b t)
    && all halls_max (λ to. shares_ok σ b to)))
