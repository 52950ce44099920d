-- The bytes of a number, of a line and of a script line.
use Rattle.std.specs.Prelude.{ℕ, zero, suc, ◌+◌, ◌/◌, ◌%◌, cond, List, [], ◌∷◌, ◌++◌, ltb}

-- n in decimal, its last k digits at most
unfoldable pub decimal : ℕ → ℕ → List ℕ
decimal zero n = []
decimal (suc k) n = cond (ltb n 10) ((48 + n) ∷ []) (decimal k (n / 10) ++ ((48 + n % 10) ∷ []))

-- twenty digits are enough for a number below 2^64
unfoldable pub digits : ℕ → List ℕ
digits n = decimal 20 n

-- a number and the byte after it
abbrev pub item : ℕ → ℕ → List ℕ
item n end = digits n ++ (end ∷ [])

-- "step number, refusal or 0, first answer, second answer. Every line ends in a line feed."
abbrev pub line : ℕ → ℕ → ℕ → ℕ → List ℕ
line step refusal first second = item step 32 ++ (item refusal 32 ++ (item first 32 ++ item second 10))

-- the word `script` and a space
abbrev pub word : List ℕ
word = 115 ∷ 99 ∷ 114 ∷ 105 ∷ 112 ∷ 116 ∷ 32 ∷ []

-- "`script` and the offset"
abbrev pub script : ℕ → List ℕ
script offset = word ++ item offset 10

-- a line and a script line are short
abbrev pub line_max : ℕ
line_max = 50

abbrev pub script_max : ℕ
script_max = 13
