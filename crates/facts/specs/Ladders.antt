-- The numbers that a step may get.
use Rattle.std.specs.Prelude.{ℕ, ◌≤◌, Bool, true, false, cond, ◌≡◌, refl, ◌⊎◌}
use Rattle.std.proofs.Common.{inl, inr, arith, rules}
use Rattle.book.specs.Cells.{Store}
use Rattle.book.specs.Steps.{by_code, refusal}

-- 0, or one of the table's from 3 to 12: 1 is for a room, and 2 for a setup
abbrev pub InTable : ℕ → Type 0
InTable n = (n ≡ 0) ⊎ ((3 ≤ n) × (n ≤ 12))

rung : (b : Bool) (n m : ℕ) → 3 ≤ n → n ≤ 12 → InTable m → InTable (cond b n m)
rung true n m h l r = inr (h, l)
rung false n m h l r = r

top : InTable 0
top = inl refl

last : (b : Bool) (n : ℕ) → 3 ≤ n → n ≤ 12 → InTable (cond b n 0)
last b n h l = rung b n 0 h l top

-- Whatever the step, what its ladder gives is in the table.
pub in_table : (σ : Store) (code a b c : ℕ) → InTable (refusal σ code a b c)
unfolding refusal
in_table σ code a b c =
    by_code (λ _ r. InTable r.refusal) σ code a b c (search (rung, last, rules) depth 60 fits 100000) (inr (omega arith, omega arith))
