-- "For each transaction and each partition it writes, exactly one state holds .. Their numbers add up to the pairs ever asked."
use Rattle.std.specs.Prelude.{ℕ, ◌&&◌, ◌≡◌, eqb, ltb}
use Rattle.book.specs.Sizes.{places_max, partitions_max}
use Rattle.book.specs.Cells.{Store, Transactions, KeySet, State}
use Rattle.book.specs.Folds.{sum, count}
use Rattle.book.specs.SessionSteps.{touches}

-- how many pairs of a transaction and a partition are in state n
abbrev pub pairs_in : Store → ℕ → ℕ
pairs_in σ n = sum places_max (λ t. count partitions_max (λ p. eqb (σ (State t p)) n))

-- the pairs ever asked: for each transaction so far, the partitions that it writes
abbrev pub pairs_asked : Store → ℕ
pairs_asked σ = sum (σ Transactions) (λ t. count partitions_max (touches σ (σ (KeySet t))))

-- a pair has a state where its transaction was asked and writes the partition, and nowhere else
abbrev pub Stated : Store → Type 0
Stated σ = (t p : ℕ) → ltb 0 (σ (State t p)) ≡ (ltb t (σ Transactions) && touches σ (σ (KeySet t)) p)
