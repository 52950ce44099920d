-- What is printed is read back: the definitions of reading and of printing agree.
use Rattle.std.specs.Prelude.{ℕ, zero, suc, ◌+◌, ◌-◌, ◌*◌, ◌^◌, ◌/◌, ◌%◌, ◌<◌, ◌≤◌, Bool, true, false, cond, List, [], ◌∷◌, ◌++◌, ◌≡◌, refl, ltb}
use Rattle.std.proofs.Common.{append_assoc, ◌∙◌, length-append}
use native.Mathlib.Omega.{arith}
use Rattle.std.proofs.Math.ListN.{length}
use Rattle.std.proofs.Math.Seq.{drop-append_seam}
use borrow.Author.Tests.{lt-ltb, le-leb, ltb-true, ltb-false, ne_eqb}
use Rattle.scan.specs.Number.{value, digit, closing, grows, more, start, number_max, count_max, number_at, count_at}
use Rattle.ink.specs.Decimal.{decimal, digits}

-- the bytes 48 to 57 are digits, close nothing, and can follow a number that is not 0
is_digit : (d : ℕ) → d < 10 → digit (48 + d) ≡ true
unfolding digit
is_digit d h = rw (le-leb 48 (48 + d) (omega arith), le-leb (48 + d) 57 (omega arith))

no_close : (d : ℕ) → closing (48 + d) ≡ false
unfolding closing
no_close d = rw (ne_eqb (48 + d) 32 (omega arith), ne_eqb (48 + d) 10 (omega arith))

can_grow : (v d : ℕ) → 0 < v → d < 10 → grows v (48 + d) ≡ true
unfolding grows
can_grow v d h l = rw (ne_eqb v 0 (omega arith)) (is_digit d l)

decimal_suc : (k n : ℕ) → decimal (suc k) n ≡ cond (ltb n 10) ((48 + n) ∷ []) (decimal k (n / 10) ++ ((48 + n % 10) ∷ []))
unfolding decimal
decimal_suc k n = refl

module _ (most : ℕ) (early : Bool) (from : ℕ) where
  -- the first digit, a digit more, the closing byte
  one : (n : ℕ) (bs : List ℕ) → n < 10 → start most early from ((48 + n) ∷ bs) ≡ more most early from bs (from + 1) n
  unfolding start
  one n bs h = let e : 48 + n - 48 ≡ n = omega arith in rw (is_digit n h, e)

  next : (v d at : ℕ) (bs : List ℕ) → 0 < v → d < 10 → v * 10 + d ≤ most
      → more most early from ((48 + d) ∷ bs) at v ≡ more most early from bs (at + 1) (v * 10 + d)
  unfolding more
  next v d at bs h l m =
      let e : v * 10 + (48 + d - 48) ≡ v * 10 + d = omega arith in
      rw (no_close d, can_grow v d h l, e, le-leb (v * 10 + d) most m)

  close : (end : ℕ) (rest : List ℕ) (at v : ℕ) → closing end ≡ true
      → more most early from (end ∷ rest) at v ≡ value v (at + 1)
  unfolding more
  close end rest at v e = rw e

  -- a digit more, once the digits before it are read
  tested : (k n : ℕ) (bs : List ℕ) → n ≤ most
      → start most early from (decimal (suc k) (n / 10) ++ ((48 + n % 10) ∷ bs))
      ≡ more most early from ((48 + n % 10) ∷ bs) (from + length (decimal (suc k) (n / 10))) (n / 10)
      → (b : Bool) → ltb n 10 ≡ b
      → start most early from (decimal (suc (suc k)) n ++ bs) ≡ more most early from bs (from + length (decimal (suc (suc k)) n)) n
  tested k n bs m ih true e = rw (decimal_suc (suc k) n, e) (one n bs (ltb-true n 10 e))
  tested k n bs m ih false e =
      let l : 10 ≤ n = ltb-false n 10 e in
      let xs = decimal (suc k) (n / 10) in
      let a : from + (length xs + 1) ≡ from + length xs + 1 = omega arith in
      let v : n / 10 * 10 + n % 10 ≡ n = omega arith in
      rw (decimal_suc (suc k) n, e, append_assoc xs ((48 + n % 10) ∷ []) bs, length-append xs ((48 + n % 10) ∷ []), a)
      (ih ∙ next (n / 10) (n % 10) (from + length xs) bs (omega arith) (omega arith) (omega arith) ∙ rw v)

  -- all digits
  read_back : (k n : ℕ) (bs : List ℕ) → n < 10 ^ suc k → n ≤ most
      → start most early from (decimal (suc k) n ++ bs) ≡ more most early from bs (from + length (decimal (suc k) n)) n
  read_back zero n bs h m = rw (decimal_suc zero n, lt-ltb n 10 (omega arith)) (one n bs (omega arith))
  read_back (suc k) n bs h m = tested k n bs m (read_back k (n / 10) ((48 + n % 10) ∷ bs) (omega arith) (omega arith)) (ltb n 10) refl

  -- and the closing byte
  printed_start : (n end : ℕ) (rest : List ℕ) → n < 2 ^ 64 → n ≤ most → closing end ≡ true
      → start most early from (digits n ++ (end ∷ rest)) ≡ value n (from + length (digits n) + 1)
  unfolding digits
  printed_start n end rest h m e = read_back 19 n (end ∷ rest) (omega arith) m ∙ close end rest (from + length (decimal 20 n)) n e

-- A number printed anywhere in a text, with a space or a line feed after it, is read there as that number, and the place is the one after that byte;
-- as a step count likewise, up to 8,000.
module _ (before : List ℕ) (n end : ℕ) (rest : List ℕ) (e : closing end ≡ true) where
  pub printed_read : n < 2 ^ 64
      → number_at (before ++ (digits n ++ (end ∷ rest))) (length before) ≡ value n (length before + length (digits n) + 1)
  printed_read h = rw (drop-append_seam before (digits n ++ (end ∷ rest))) (printed_start number_max false (length before) n end rest h (omega arith) e)

  pub printed_count : n ≤ count_max
      → count_at (before ++ (digits n ++ (end ∷ rest))) (length before) ≡ value n (length before + length (digits n) + 1)
  printed_count h = rw (drop-append_seam before (digits n ++ (end ∷ rest))) (printed_start count_max true (length before) n end rest (omega arith) h e)
