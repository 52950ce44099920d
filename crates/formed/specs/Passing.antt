-- A loop over 0, 1, .. n - 1 that stops at the first that does not pass: what holds where it begins, stops, goes on and ends.
use Rattle.std.specs.Prelude.{ℕ, ◌+◌, ◌≤◌, ◌<◌, Bool, true, false, not, ◌≡◌}
use Rattle.std.proofs.Common.{sym, ◌∙◌, arith}
use Rattle.std.proofs.lemmas.Bool.{not-true, not-false}
use Rattle.book.specs.Folds.{all}
use Rattle.room.specs.Loops.{all_none, all_next, all_fails}

-- the first i of n pass
abbrev pub Passed : ℕ → (ℕ → Bool) → ℕ → Type 0
Passed n ok i = (i ≤ n) × (all i ok ≡ true)

pub begins : (n : ℕ) (ok : ℕ → Bool) → Passed n ok 0
begins n ok = (omega arith, all_none ok)

pub stops : (n : ℕ) (ok : ℕ → Bool) (i : ℕ) {r : Bool} → i < n → r ≡ ok i → not r ≡ true → false ≡ all n ok
stops n ok i {r} l e q = sym (all_fails n ok i l (sym e ∙ not-true r q))

pub goes_on : (n : ℕ) (ok : ℕ → Bool) (i : ℕ) {r : Bool} → all i ok ≡ true → i < n → r ≡ ok i → not r ≡ false
    → Passed n ok (i + 1)
goes_on n ok i {r} a l e q = (omega arith, rw (all_next, sym e ∙ not-false r q) a)

pub ends : (n : ℕ) (ok : ℕ → Bool) (i : ℕ) → Passed n ok i → n ≤ i → true ≡ all n ok
ends n ok i p l = let e : i ≡ n = omega arith in sym (rw e at p.1)
