-- What follows of digits, lines and script lines (specs/Decimal.antt): these theorems stand here so that a wrong definition is refused at the contracts.
use Rattle.std.specs.Prelude.{ℕ, zero, suc, ◌+◌, ◌^◌, ◌/◌, ◌%◌, ◌<◌, ◌≤◌, Bool, true, false, cond, ◌≡◌, List, [], ◌∷◌, ◌++◌, length, ltb}
use Rattle.std.specs.Fmt.{decimal as text, digits as all_digits, digits_onto}
use Rattle.std.proofs.Common.{refl, sym, ◌∙◌, arith, append_assoc, append-nil, length-append, lt-ltb, le-ltb, ltb-true, ltb-false, ne_eqb}
use Rattle.std.proofs.Math.Nat.{div-eq_of_lt, mod-eq_of_lt}
use Rattle.ink.specs.Decimal.{decimal, digits, line, script, line_max, script_max}

-- a digit more changes nothing where there are enough
deeper : (k n : ℕ) → n < 10 ^ suc k → decimal (suc (suc k)) n ≡ decimal (suc k) n
unfolding decimal
deeper zero n h = rw (lt-ltb n 10 (omega arith))
deeper (suc k) n h = rw (deeper k (n / 10) (omega arith))

decimal_more : (k n : ℕ) → n < 10 ^ suc k → 10 ≤ n → decimal (suc k) n ≡ decimal (suc k) (n / 10) ++ ((48 + n % 10) ∷ [])
unfolding decimal
decimal_more zero n h l = absurd (omega arith)
decimal_more (suc k) n h l = rw (le-ltb n 10 l, deeper k (n / 10) (omega arith))

-- one digit; and the digits of a tenth, with one more after them
pub digits_one : (n : ℕ) → n < 10 → digits n ≡ (48 + n) ∷ []
unfolding digits decimal
digits_one n h = rw (lt-ltb n 10 h)

pub digits_more : (n : ℕ) → n < 2 ^ 64 → 10 ≤ n → digits n ≡ digits (n / 10) ++ ((48 + n % 10) ∷ [])
unfolding digits
digits_more n h l = decimal_more 19 n (omega arith) l

by_test : {G : Type 0} (b : Bool) → (b ≡ true → G) → (b ≡ false → G) → G
by_test true f g = f refl
by_test false f g = g refl

-- the digits as the library writes them, in front of what follows
onto : (j k n : ℕ) (rest : List ℕ) → n < 10 ^ suc j → j ≤ k → digits_onto (suc k) 10 false n rest ≡ decimal (suc j) n ++ rest
unfolding decimal
onto zero k n rest h l = rw (div-eq_of_lt h, mod-eq_of_lt h, lt-ltb n 10 h)
onto (suc j) zero n rest h l = absurd (omega arith)
onto (suc j) (suc k) n rest h l =
    by_test (ltb n 10)
    (λ e. let small = ltb-true n 10 e in rw (div-eq_of_lt small, mod-eq_of_lt small, e))
    (λ e.
    let large = ltb-false n 10 e in
    rw (ne_eqb (n / 10) 0 (λ z. omega arith), e, lt-ltb (n % 10) 10 (omega arith), append_assoc)
    (onto j k (n / 10) ((48 + n % 10) ∷ rest) (omega arith) (omega arith)))

pub digits_is : (n : ℕ) → n < 2 ^ 64 → digits n ≡ text n
unfolding digits all_digits
digits_is n h = sym (onto 19 63 n [] (omega arith) (omega arith) ∙ append-nil (decimal 20 n))

-- lengths: at most twenty digits, and at most k of a number below 10^k
either : (xs ys : List ℕ) (k : ℕ) (b : Bool) → length xs ≤ k → length ys ≤ k → length (cond b xs ys) ≤ k
either xs ys k true h l = h
either xs ys k false h l = l

short : (k j n : ℕ) → n < 10 ^ suc k → length (decimal j n) ≤ suc k
unfolding decimal
short k zero n h = omega arith
short zero (suc j) n h = rw (lt-ltb n 10 (omega arith)) (omega arith)
short (suc k) (suc j) n h = either _ _ _ (ltb n 10) (omega arith)
    (rw (length-append (decimal j (n / 10)) ((48 + n % 10) ∷ [])) (omega (arith, short k j (n / 10) (omega arith))))

most : (k n : ℕ) → length (decimal k n) ≤ k
unfolding decimal
most zero n = omega arith
most (suc k) n = either _ _ _ (ltb n 10) (omega arith)
    (rw (length-append (decimal k (n / 10)) ((48 + n % 10) ∷ [])) (omega (arith, most k (n / 10))))

pub digits_most : (n : ℕ) → length (digits n) ≤ 20
unfolding digits
digits_most n = most 20 n

pub digits_short : (k n : ℕ) → n < 10 ^ suc k → length (digits n) ≤ suc k
unfolding digits
digits_short k n h = short k 20 n h

-- a line and a script line are short
pub length_line : (step refusal first second : ℕ) → step < 10 ^ 4 → refusal < 10 ^ 2 → length (line step refusal first second) ≤ line_max
length_line step refusal first second hs hr =
    simp length-append (omega (arith, digits_short 3 step hs, digits_short 1 refusal hr, digits_most first, digits_most second))

pub length_script : (offset : ℕ) → offset < 10 ^ 5 → length (script offset) ≤ script_max
length_script offset h = simp length-append (omega (arith, digits_short 4 offset h))
