-- "Turned away", of the code's steps: the numbers that a step stands for, and what a ladder answers.
use Rattle.std.specs.Prelude.{ℕ, ◌+◌, Bool, true, false, ◌≡◌, Result, Ok, Err}
use denote.Enum.Declared.{tag_of}
use Rattle.book.specs.contracts.Refusal.{the_type}
use Rattle.book.specs.declared.Refusal.{Refusal}
use Rattle.book.specs.declared.Refusal.TheVariants.{NotThere}
use Rattle.book.specs.declared.Step.{Step}
use Rattle.book.specs.declared.Step.TheVariants.{Tick, Start, Read, Write, End, Prepare, Decide, Commit, Install, Deliver, Report, Share, Learn, Move}
use Rattle.book.specs.Cells.{Store}
use Rattle.book.specs.Servers.{number_of}
use Rattle.book.specs.Steps.{refusal}

-- a step's code and its three numbers, 0 where one is not used
abbrev pub numbers_of : Step → ℕ × ℕ × ℕ × ℕ
numbers_of (Tick s x) = (1, s.hall.index, s.partition.index, x.0)
numbers_of (Start s) = (2, s.index, 0, 0)
numbers_of (Read s k h) = (3, s.index, k.index, h.index)
numbers_of (Write s k v) = (4, s.index, k.index, v)
numbers_of (End s) = (5, s.index, 0, 0)
numbers_of (Prepare t p) = (6, number_of t.index, p.index, 0)
numbers_of (Decide t) = (7, number_of t.index, 0, 0)
numbers_of (Commit t p) = (8, number_of t.index, p.index, 0)
numbers_of (Install s) = (9, s.hall.index, s.partition.index, 0)
numbers_of (Deliver s f) = (10, s.partition.index, f.index, s.hall.index)
numbers_of (Report s) = (11, s.hall.index, s.partition.index, 0)
numbers_of (Share f h) = (12, f.index, h.index, 0)
numbers_of (Learn s) = (13, s.hall.index, s.partition.index, 0)
numbers_of (Move s h) = (14, s.index, h.hall.index, h.partition.index)

-- what a number names is there, and is that one; or it gets 3
abbrev pub Found : {A : Type 0} → Bool → (A → Type 0) → Result A Refusal → Type 0
Found there Is (Ok x) = (there ≡ true) × Is x
Found there Is (Err r) = (there ≡ false) × (r ≡ NotThere)

-- the rules' own number of a refusal, `r as u64` in code: the first variant is 1
abbrev pub number : Refusal → ℕ
number r = tag_of the_type r + 1

-- "Checked in this order; the first that applies is given, and only then": of these numbers, for which the rules' ladder comes to n
abbrev pub Laddered : ℕ → ℕ × ℕ × ℕ × ℕ → Result Step Refusal → Type 0
Laddered n numbers (Ok step) = (n ≡ 0) × (numbers_of step ≡ numbers)
Laddered n numbers (Err r) = (number r ≡ n) × (n ≡ 0 → ⊥)

-- of any code and any three numbers
abbrev pub Checked : Store → ℕ → ℕ → ℕ → ℕ → Result Step Refusal → Type 0
Checked σ code a b c = Laddered (refusal σ code a b c) (code, a, b, c)
