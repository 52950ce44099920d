-- Step 2 in its two parts: the session's own cells, and its cache.
use Rattle.std.specs.Prelude.{ℕ, ◌+◌, ◌<◌, Bool, cond, ◌&&◌, ◌≡◌, List, eqb, leb}
use Rattle.std.proofs.Common.{ap, sym, ◌∙◌, arith}
use Rattle.book.specs.Sizes.{halls_max, partitions_max, sessions_max, keys}
use Rattle.book.specs.Cells.{Cell, Store, ◌⟨◌≔◌⟩, each2, HomeHall, HomePartition, Stable, Status, running, Snapshot, WriteSet, ReadSet, CacheTime}
use Rattle.room.specs.Layout.{store}
use Rattle.room.proofs.Words.{store_beyond}
use Rattle.room.specs.Bulk.{Row, row2j, up_to, begin, ahead, next, done}

-- session s is there, and its coordinator is a server of the room
abbrev pub Homed : Store → ℕ → Type 0
Homed σ s = (s < sessions_max) × (σ (HomeHall s) < halls_max) × (σ (HomePartition s) < partitions_max)

-- "both keep it. Write and read sets are emptied"
abbrev pub begun : Store → ℕ → ℕ → ℕ → ℕ → Store
begun σ s h p S =
    σ ⟨ Stable h p ≔ S ⟩ ⟨ Snapshot s ≔ S ⟩ ⟨ WriteSet s ≔ 0 ⟩ ⟨ ReadSet s ≔ 0 ⟩ ⟨ Status s ≔ running ⟩

-- "cache entries with time at or below S go": one key, the first n keys, all of them
abbrev pub cleaned_at : ℕ → Store → ℕ → ℕ → Store
cleaned_at k σ s S = σ ⟨ CacheTime s k ≔ cond (leb (σ (CacheTime s k)) S) 0 (σ (CacheTime s k)) ⟩

-- the cache times of session s, by key; and which of them go
abbrev times : ℕ → Row
times s = row2j (CacheTime 0 0).kind s

abbrev goes : Store → ℕ → Cell → Bool
goes σ S d = leb (σ (CacheTime d.i d.j)) S

abbrev pub cleaned_to : ℕ → Store → ℕ → ℕ → Store
cleaned_to n σ s S = up_to (times s) (goes σ S) (λ d. 0) n σ

abbrev pub cleaned : Store → ℕ → ℕ → Store
cleaned σ s S = each2 CacheTime (λ a k. eqb s a && leb (σ (CacheTime a k)) S) (λ a k. 0) σ

-- no key: nothing is done
pub cleaned_none : (σ : Store) (s S : ℕ) → cleaned_to 0 σ s S ≡ σ
cleaned_none σ s S = begin (times s) (goes σ S) (λ d. 0) σ

-- a round of the loop is one key more
pub cleaned_next : {ρ τ : Store} (n : ℕ) (σ : Store) (s S : ℕ) → ρ ≡ cleaned_at n τ s S → τ ≡ cleaned_to n σ s S
    → ρ ≡ cleaned_to (n + 1) σ s S
cleaned_next n σ s S q e =
    q
    ∙ ap (λ (ρ : Store). cleaned_at n ρ s S) e
    ∙ ap (λ (x : ℕ). cleaned_to n σ s S ⟨ CacheTime s n ≔ cond (leb x S) 0 x ⟩)
    (ahead (times s) (goes σ S) (λ d. 0) n n σ (omega arith))
    ∙ next (times s) (goes σ S) (λ d. 0) n σ

-- all keys: a time past the last key is 0 as it was
pub cleaned_done : (r : List ℕ) (s S : ℕ) → cleaned_to keys (store r) s S ≡ cleaned (store r) s S
cleaned_done r s S =
    done (times s) (goes (store r) S) (λ d. 0) keys (store r)
    (λ i l e. sym (store_beyond r (CacheTime s i) (λ w. omega (arith, w.2))))
