-- How far counts go, and the highest that passes.
use Rattle.std.specs.Prelude.{ℕ, suc, ◌+◌, ◌*◌, ◌≤◌, Bool, false, cond, ◌≡◌, refl, leb}
use Rattle.std.proofs.Common.{add-one, arith}
use Rattle.book.specs.Sizes.{partitions_max}
use Rattle.book.specs.Cells.{Store, State, prepared}
use Rattle.book.specs.Cases.{by_test}
use Rattle.book.specs.Folds.{any, count, sum, largest, largest_within, sum_most}
use Rattle.room.specs.Loops.{count_le}
use Rattle.formed.specs.Blocks.{prepared_at}

-- at most each partition of a transaction, so at most so many of n transactions
pub prepared_le : (σ : Store) (t : ℕ) → prepared_at σ t ≤ partitions_max
prepared_le σ t = count_le partitions_max (λ p. leb prepared (σ (State t p)))

pub pairs_le : (n : ℕ) (σ : Store) → sum n (prepared_at σ) ≤ n * partitions_max
pairs_le n σ = sum_most n partitions_max (prepared_at σ) (prepared_le σ)

-- one more than the highest below n that passes, 0 where none does
abbrev pub highest : ℕ → (ℕ → Bool) → ℕ
highest n ok = largest n ok (λ p. suc p)

pub highest_next : (n : ℕ) (ok : ℕ → Bool) → highest (n + 1) ok ≡ cond (ok n) (n + 1) (highest n ok)
unfolding largest
highest_next n ok =
    let l = largest_within n ok (λ p. suc p) n (λ t b. b) in
    rw (add-one n) (by_test (ok n) (λ e. rw e (omega arith)) (λ e. rw e))

-- where a loop begins, each fold is of none
pub any_none : (ok : ℕ → Bool) → any 0 ok ≡ false
unfolding any
any_none ok = refl

pub count_none : (ok : ℕ → Bool) → 0 ≡ count 0 ok
unfolding count
count_none ok = refl

pub sum_none : (f : ℕ → ℕ) → 0 ≡ sum 0 f
unfolding sum
sum_none f = refl

pub highest_none : (ok : ℕ → Bool) → 0 ≡ highest 0 ok
unfolding largest
highest_none ok = refl
