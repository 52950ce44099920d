-- 3: "unknown code"
use Rattle.std.specs.Prelude.{ℕ, zero, suc, ◌≤◌, ◌<◌, ◌≡◌, refl, List, [], ◌∷◌, length}
use Rattle.std.proofs.Common.{ap, ◌∙◌, arith, ne_eqb}
use Rattle.book.specs.Cells.{Store}
use Rattle.book.specs.Cases.{by_eq}
use Rattle.book.specs.Steps.{Rule, rules, rule_from, rule_of, refusal, no_rule}

-- code is none of 1 to n, as the last arm of a match on it knows
abbrev pub NoneOf : ℕ → ℕ → Type 0
NoneOf code zero = Unit {0}
NoneOf code (suc n) = NoneOf code n × (code ≡ suc n → ⊥)

none_of : (code n : ℕ) → NoneOf code n → (m : ℕ) → 0 < m → m ≤ n → code ≡ m → ⊥
none_of code zero x m l k = absurd (omega arith)
none_of code (suc n) x m l k = by_eq m (suc n) (λ q _. λ e. x.1 (e ∙ q)) (λ q _. none_of code n x.0 m l (omega arith))

-- a table's codes are among 1 to n
abbrev Within : ℕ → List (ℕ × (Store → ℕ → ℕ → ℕ → Rule)) → Type 0
Within n [] = Unit {0}
Within n (r ∷ rs) = (0 < r.0) × (r.0 ≤ n) × Within n rs

unlisted : (σ : Store) (code a b c n : ℕ) (rs : List (ℕ × (Store → ℕ → ℕ → ℕ → Rule))) → Within n rs → NoneOf code n
    → rule_from rs σ code a b c ≡ no_rule σ
unlisted σ code a b c n [] w x = refl
unlisted σ code a b c n (r ∷ rs) w x =
    rw (ne_eqb code r.0 (none_of code n x r.0 w.0 w.1)) (unlisted σ code a b c n rs w.2 x)

unknown_rule : (σ : Store) (code a b c : ℕ) → NoneOf code (length rules) → rule_of σ code a b c ≡ no_rule σ
unfolding rule_of
unknown_rule σ code a b c = unlisted σ code a b c (length rules) rules (search arith depth 40)

pub unknown : (σ : Store) (code a b c : ℕ) → NoneOf code (length rules) → refusal σ code a b c ≡ 3
unfolding refusal
unknown σ code a b c n = ap (λ (x : Rule). x.refusal) (unknown_rule σ code a b c n)
