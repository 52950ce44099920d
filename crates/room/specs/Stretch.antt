-- "Each server writes only its own stretch of the lent room for clocks, vector and versions held": what is written to the stretch, lent on
-- as a part of the room, said of the room's cells.
use Rattle.std.specs.Prelude.{ℕ, ◌+◌, ◌-◌, ◌≤◌, ◌<◌, Bool, true, cond, ◌&&◌, ◌≡◌, List, eqb, ltb, leb, length, get_or}
use Rattle.book.specs.declared.Vector.{Vector}
use Rattle.book.specs.Sizes.{halls_max, partitions_max, places_max}
use Rattle.book.specs.Cells.{Cell, Store, each3, Entry, Held}
use Rattle.book.specs.Sets.{member}
use Rattle.room.specs.Layout.{at, Within, valid, stretch, start}
use Rattle.room.specs.Bulk.{up_to, row3k}

-- the cells of the room whose words are in that server's stretch
unfoldable pub own : ℕ → ℕ → Cell → Bool
own h p c = valid c && (leb (start h p) (at c) && ltb (at c) (start h p + stretch))

-- a part lent on, read as that server's cells
unfoldable pub local : ℕ → ℕ → List ℕ → Store
local h p ys c = cond (own h p c) (get_or ys (at c - start h p) 0) 0

pub record Own (h p : ℕ) (c : Cell) : Type 0 where
  pub cell : Within c
  pub low : start h p ≤ at c
  pub high : at c < start h p + stretch

-- that server's cells from τ, and every other cell from σ
abbrev pub glue : ℕ → ℕ → Store → Store → Store
glue h p τ σ = λ c. cond (own h p c) (τ c) (σ c)

-- a change that keeps to that server's cells: it writes and reads no others
abbrev pub Keeps : ℕ → ℕ → (Store → Store) → Type 0
Keeps h p F = (τ σ : Store) → F (glue h p τ σ) ≡ glue h p (F τ) σ

-- What a function on a part did: read as any server's stretch, it was changed by F.
abbrev pub Changed : (ℕ → ℕ → Store → Store) → List ℕ → List ℕ → Type 0
Changed F xs ys = (length ys ≡ stretch) × ((h p : ℕ) → h < halls_max → p < partitions_max → local h p ys ≡ F h p (local h p xs))

-- server (h, p) holds the transactions of a set
abbrev pub held_all : ℕ → ℕ → ℕ → Store → Store
held_all m h p σ = each3 Held (λ a q t. eqb h a && (eqb p q && (ltb t places_max && member m t))) (λ a q t. 1) σ

-- what a version vector says of hall g
abbrev pub entry_of : Vector → ℕ → ℕ
entry_of v g = (get_or v.times g (record { 0 = 0 })).0

-- server (h, p)'s entries from a version vector
abbrev pub with_entries : Vector → ℕ → ℕ → Store → Store
with_entries v h p σ = up_to (row3k (Entry 0 0 0).kind h p) (λ d. true) (λ d. entry_of v d.k) halls_max σ
