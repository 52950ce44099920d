-- What text reads as what number. "Decimal numbers up to 2^64 - 1, no extra leading zero, each followed by one space or line feed."
use Rattle.std.specs.Prelude.{ℕ, ◌+◌, ◌-◌, ◌*◌, ◌^◌, ◌≤◌, Bool, true, false, cond, ◌&&◌, ◌||◌, not, Result, Ok, Err, ◌≡◌, refl, length, drop, eqb, leb}
use Rattle.std.specs.Option.{option_map_or}
use Rattle.std.proofs.Math.Bool.{and-eq-true_iff}
use mathlib.Core.List.{List, [], ◌∷◌}
use native.Mathlib.Omega.{arith}
use Rattle.std.proofs.Common.{length-drop, leb-true}
use Rattle.reader.specs.Sign.{sign_at, from_sign}
use Rattle.scan.specs.declared.Cursor.{Cursor}
use Rattle.scan.specs.declared.Bad.{Bad}

-- what is read, with the place after its closing byte, or where the text is bad
abbrev pub Read : Type 0 → Type 0
Read T = Result (T × Cursor) Bad

abbrev pub value : {T : Type 0} → T → ℕ → Read T
value x at = Ok (x, record { at = at })

abbrev pub bad : {T : Type 0} → ℕ → Result T Bad
bad k = Err (record { 0 = k })

-- the bytes `0` to `9`
unfoldable pub digit : ℕ → Bool
digit b = leb 48 b && leb b 57

-- "one space or line feed"
unfoldable pub closing : ℕ → Bool
closing b = eqb b 32 || eqb b 10

-- "no extra leading zero": whether b is a digit that can follow digits of value v, which is 0 after a first digit 0 only
unfoldable pub grows : ℕ → ℕ → Bool
grows v b = not (eqb v 0) && digit b

-- v with the digit b after it
abbrev pub joined : ℕ → ℕ → ℕ
joined v b = v * 10 + (b - 48)

-- A number from the place `from` on, and at most `most`. Bad is "the offset of the first byte that can't stand there (the text's length if it ends
-- early; a step count's first digit once its digits pass 8,000; in any other number the digit that takes it past 2^64 - 1 ..)": of a number that
-- passes `most` it is the first digit's where `early`, and else that digit's.
module _ (most : ℕ) (early : Bool) (from : ℕ) where
  -- the number whose digits so far have value v, and whose other bytes, from `at` on, are these
  unfoldable pub more : List ℕ → ℕ → ℕ → Read ℕ
  more [] at v = bad at
  more (b ∷ bs) at v =
      cond (closing b) (value v (at + 1))
      (cond (grows v b)
      (cond (leb (joined v b) most) (more bs (at + 1) (joined v b)) (bad (cond early from at)))
      (bad at))

  -- the number whose bytes are these
  unfoldable pub start : List ℕ → Read ℕ
  start [] = bad from
  start (b ∷ bs) = cond (digit b) (more bs (from + 1) (b - 48)) (bad from)

-- "up to 2^64 - 1"
abbrev pub number_max : ℕ
number_max = 2 ^ 64 - 1

-- "count at most 8,000"
abbrev pub count_max : ℕ
count_max = 8000

abbrev pub number_at : List ℕ → ℕ → Read ℕ
number_at text at = start number_max false at (drop at text)

-- a step count
abbrev pub count_at : List ℕ → ℕ → Read ℕ
count_at text at = start count_max true at (drop at text)

-- the same at a place of the whole text, by what a reader finds there
module _ (most : ℕ) (early : Bool) (from : ℕ) (text : List ℕ) where
  pub more_at : (at v : ℕ) → more most early from (drop at text) at v ≡ option_map_or (λ b.
      cond (closing b) (value v (at + 1))
      (cond (grows v b)
      (cond (leb (joined v b) most) (more most early from (drop (at + 1) text) (at + 1) (joined v b)) (bad (cond early from at)))
      (bad at))) (sign_at text at) (bad at)
  unfolding more
  more_at at v = from_sign text at (λ bs. more most early from bs at v)

  pub start_at : start most early from (drop from text) ≡ option_map_or (λ b.
      cond (digit b) (more most early from (drop (from + 1) text) (from + 1) (b - 48)) (bad from)) (sign_at text from) (bad from)
  unfolding start
  start_at = from_sign text from (start most early from)

pub digit_facts : (b : ℕ) → digit b ≡ true → (48 ≤ b) × (b ≤ 57)
unfolding digit
digit_facts b e = let p = (and-eq-true_iff (leb 48 b) _).0 e in (leb-true _ _ p.0, leb-true _ _ p.1)

pub grows_digit : (v b : ℕ) → grows v b ≡ true → digit b ≡ true
unfolding grows
grows_digit v b e = ((and-eq-true_iff (not (eqb v 0)) _).0 e).1

-- No number is past `most`, and no place past the end: of the text, or any place that covers the text and where the number starts.
abbrev pub Within : ℕ → ℕ → Read ℕ → Type 0
Within most end (Ok x) = (x.0 ≤ most) × (x.1.at ≤ end)
Within most end (Err k) = k.0 ≤ end

pub either : {A : Type 0} (P : A → Type 0) (b : Bool) {x y : A} → (b ≡ true → P x) → P y → P (cond b x y)
either P true h l = h refl
either P false h l = l

at_most : (from at end : ℕ) (early : Bool) → from ≤ end → at ≤ end → cond early from at ≤ end
at_most from at end true h l = h
at_most from at end false h l = l

module _ (most : ℕ) (early : Bool) (from end : ℕ) (here : from ≤ end) where
  more_within : (bs : List ℕ) (at v : ℕ) → v ≤ most → at + length bs ≤ end → Within most end (more most early from bs at v)
  unfolding more
  more_within [] at v h l = omega arith
  more_within (b ∷ bs) at v h l =
      either (Within most end) (closing b) (λ e. (h, omega arith))
      (either (Within most end) (grows v b)
      (λ e. either (Within most end) (leb (joined v b) most)
      (λ f. more_within bs (at + 1) (joined v b) (leb-true (joined v b) most f) (omega arith))
      (at_most from at end early here (omega arith)))
      (omega arith))

  start_within : (bs : List ℕ) → 9 ≤ most → from + length bs ≤ end → Within most end (start most early from bs)
  unfolding start
  start_within [] h l = omega arith
  start_within (b ∷ bs) h l =
      either (Within most end) (digit b)
      (λ e. more_within bs (from + 1) (b - 48) (omega (arith, digit_facts b e)) (omega arith))
      here

module _ (text : List ℕ) (end : ℕ) (covers : length text ≤ end) (at : ℕ) (inside : at ≤ end) where
  pub number_within : Within number_max end (number_at text at)
  number_within = start_within number_max false at end inside (drop at text) (omega arith) (omega (arith, length-drop at text))

  pub count_within : Within count_max end (count_at text at)
  count_within = start_within count_max true at end inside (drop at text) (omega arith) (omega (arith, length-drop at text))
