-- Step 5 in its parts: the request, its values, its states.
use Rattle.std.specs.Prelude.{ℕ, suc, ◌+◌, ◌≤◌, ◌<◌, true, false, cond, ◌&&◌, ◌≡◌, eqb, ltb, leb}
use Rattle.std.proofs.Common.{ap, ◌∙◌, arith, eqb-true, ltb-true, leb-false, ne_eqb, lt-ltb}
use Rattle.book.specs.Sizes.{partitions_max, keys, places_max}
use Rattle.book.specs.Cells.{Store, ◌⟨◌≔◌⟩, each2, Transactions, HomeHall, Status, committing, WriteSet, WriteValue, By, From, KeySet, Value, State, asked}
use Rattle.book.specs.Cases.{and_true}
use Rattle.book.specs.Folds.{any_true}
use Rattle.book.specs.Sets.{member}
use Rattle.book.specs.Servers.{partition_of}
use Rattle.book.specs.SessionSteps.{touches, has_writes}
use Rattle.room.specs.Bulk.{Row, row2j, up_to, begin, ahead, puts, next, done}
use Rattle.views.specs.Partitions.{Parted, partition_lt}

-- an end that is not turned away for want of a place has one
pub place_left : (σ : Store) (s : ℕ) → (has_writes σ s && leb places_max (σ Transactions)) ≡ false → (σ (WriteSet s) ≡ 0 → ⊥)
    → σ Transactions < places_max
place_left σ s e n = leb-false places_max (σ Transactions) (rw (ne_eqb (σ (WriteSet s)) 0 n) at e)

-- the request of session s with the keys m, at place t
abbrev pub requested : Store → ℕ → ℕ → ℕ → Store
requested σ s t m =
    σ ⟨ By t ≔ s ⟩ ⟨ From t ≔ σ (HomeHall s) ⟩ ⟨ KeySet t ≔ m ⟩ ⟨ Status s ≔ committing ⟩ ⟨ Transactions ≔ suc t ⟩

-- the values that session s wrote: one key, the first n keys, all of them
abbrev pub copied_at : ℕ → Store → ℕ → ℕ → Store
copied_at k σ s t = σ ⟨ Value t k ≔ σ (WriteValue s k) ⟩

-- the values of transaction t, by key
abbrev values : ℕ → Row
values t = row2j (Value 0 0).kind t

abbrev pub copied_to : ℕ → Store → ℕ → ℕ → Store
copied_to n σ s t = up_to (values t) (λ d. ltb d.j keys) (λ d. σ (WriteValue s d.j)) n σ

abbrev pub copied : Store → ℕ → ℕ → Store
copied σ s t = each2 Value (λ u k. eqb t u && ltb k keys) (λ u k. σ (WriteValue s k)) σ

-- no key: nothing is done
pub copied_none : (σ : Store) (s t : ℕ) → copied_to 0 σ s t ≡ σ
copied_none σ s t = begin (values t) _ _ σ

-- a round of the loop is one key more
pub copied_next : {ρ τ : Store} (n : ℕ) (σ : Store) (s t : ℕ) → n < keys → ρ ≡ copied_at n τ s t → τ ≡ copied_to n σ s t
    → ρ ≡ copied_to (n + 1) σ s t
copied_next n σ s t l q e = q ∙ ap (λ (ρ : Store). copied_at n ρ s t) e ∙ puts (values t) _ _ n σ (lt-ltb n keys l)

-- all keys: there are no more
pub copied_done : (σ : Store) (s t : ℕ) → copied_to keys σ s t ≡ copied σ s t
copied_done σ s t = done (values t) _ _ keys σ (λ i l e. absurd (omega (arith, ltb-true i keys e)))

-- "each becomes asked", of the partitions that have a key of m: one partition, the first n, all of them
abbrev pub asked_at : ℕ → Store → ℕ → ℕ → Store
asked_at p σ t m = σ ⟨ State t p ≔ cond (touches σ m p) asked (σ (State t p)) ⟩

-- the states of transaction t, by partition
abbrev states : ℕ → Row
states t = row2j (State 0 0).kind t

abbrev pub asked_to : ℕ → Store → ℕ → ℕ → Store
asked_to n σ t m = up_to (states t) (λ d. touches σ m d.j) (λ d. asked) n σ

abbrev pub asked_all : Store → ℕ → ℕ → Store
asked_all σ t m = each2 State (λ u p. eqb t u && touches σ m p) (λ u p. asked) σ

-- no partition: nothing is done
pub asked_none : (σ : Store) (t m : ℕ) → asked_to 0 σ t m ≡ σ
asked_none σ t m = begin (states t) _ _ σ

-- a round of the loop is one partition more
pub asked_next : {ρ τ : Store} (n : ℕ) (σ : Store) (t m : ℕ) → ρ ≡ asked_at n τ t m → τ ≡ asked_to n σ t m
    → ρ ≡ asked_to (n + 1) σ t m
asked_next n σ t m q e =
    q
    ∙ ap (λ (ρ : Store). asked_at n ρ t m) e
    ∙ ap (λ (x : ℕ). asked_to n σ t m ⟨ State t n ≔ cond (touches σ m n) asked x ⟩)
    (ahead (states t) (λ d. touches σ m d.j) (λ d. asked) n n σ (omega arith))
    ∙ next (states t) _ _ n σ

-- no key is of a partition past the last
touches_beyond : (σ : Store) (m p : ℕ) → Parted σ → partitions_max ≤ p → touches σ m p ≡ true → ⊥
touches_beyond σ m p h l e =
    let w = any_true keys (λ k. member m k && eqb (partition_of σ k) p) e in
    let q = and_true (member m w.0) (eqb (partition_of σ w.0) p) w.2 in
    omega (arith, eqb-true (partition_of σ w.0) p q.1, partition_lt σ w.0 h)

-- all partitions: no more are touched
pub asked_done : (σ : Store) (t m : ℕ) → Parted σ → asked_to partitions_max σ t m ≡ asked_all σ t m
asked_done σ t m h = done (states t) _ _ partitions_max σ (λ i l e. absurd (touches_beyond σ m i h l e))
