-- A list written over another, element by element.
use Rattle.std.specs.Prelude.{ℕ, ◌+◌, ◌<◌, List, ◌≡◌, length, get_or, set}
use Rattle.std.proofs.Common.{arith, get_or-set_same, get_or-set_other}
use Rattle.book.specs.Cases.{by_eq}

-- the first n elements of r are those of s
abbrev pub Copied : List ℕ → List ℕ → ℕ → Type 0
Copied r s n = (i : ℕ) → i < n → get_or r i 0 ≡ get_or s i 0

pub copied_next : (r s : List ℕ) (n : ℕ) → n < length r → Copied r s n → Copied (set r n (get_or s n 0)) s (n + 1)
copied_next r s n l h i b =
    by_eq i n
    (λ q _. rw q (get_or-set_same r n (get_or s n 0) 0 l))
    (λ q _. rw (get_or-set_other r n i (get_or s n 0) 0 q) (h i (omega arith)))
