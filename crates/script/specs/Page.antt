-- The page's script and printout, byte for byte, and a small text for each way to stop.
use Rattle.std.specs.Prelude.{ℕ, List, [], ◌∷◌, ◌++◌, ◌≡◌, refl}
use Rattle.scan.specs.Number.{digit, closing, grows, more, start}
use Rattle.scan.specs.Groups.{four_at, many_at}
use Rattle.scan.specs.Sections.{among, numbers_at, section_at}
use Rattle.ink.specs.Decimal.{decimal, digits, item, script}
use Rattle.book.specs.Folds.{any, all, count, sum, lowest, largest}
use Rattle.book.specs.Sets.{member, include, set_of}
use Rattle.book.specs.Servers.{first_from}
use Rattle.book.specs.Views.{merge_all}
use Rattle.book.specs.Setup.{setup_refusal, setup_answer}
use Rattle.book.specs.Steps.{rule_of, refusal, after, answer}
use Rattle.script.specs.Printout.{steps_from, counted_from, setup_from, sessions_from, halls_from, outcome, printed}

-- numbers with a space between two and a line feed after the last, row by row
abbrev row : List ℕ → List ℕ
row [] = []
row (n ∷ []) = item n 10
row (n ∷ (m ∷ ns)) = item n 32 ++ row (m ∷ ns)

abbrev rows : List (List ℕ) → List ℕ
rows [] = []
rows (r ∷ rs) = row r ++ rows rs

abbrev example : List (List ℕ)
example =
    (2 ∷ 3 ∷ 2 ∷ [])
    ∷ (2 ∷ 0 ∷ 0 ∷ 1 ∷ 1 ∷ [])
    ∷ (33 ∷ [])
    ∷ (1 ∷ 0 ∷ 0 ∷ 100 ∷ 1 ∷ 0 ∷ 1 ∷ 90 ∷ 1 ∷ 1 ∷ 1 ∷ 95 ∷ 2 ∷ 0 ∷ 0 ∷ 0 ∷ 4 ∷ 0 ∷ 0 ∷ 205 ∷ 4 ∷ 0 ∷ 1 ∷ 44 ∷ [])
    ∷ (5 ∷ 0 ∷ 0 ∷ 0 ∷ 6 ∷ 1 ∷ 0 ∷ 0 ∷ 6 ∷ 1 ∷ 1 ∷ 0 ∷ 7 ∷ 1 ∷ 0 ∷ 0 ∷ 2 ∷ 0 ∷ 0 ∷ 0 ∷ 3 ∷ 0 ∷ 1 ∷ 1 ∷ [])
    ∷ (2 ∷ 1 ∷ 0 ∷ 0 ∷ 3 ∷ 1 ∷ 1 ∷ 0 ∷ 8 ∷ 1 ∷ 1 ∷ 0 ∷ 9 ∷ 0 ∷ 1 ∷ 0 ∷ 8 ∷ 1 ∷ 0 ∷ 0 ∷ 9 ∷ 0 ∷ 0 ∷ 0 ∷ [])
    ∷ (1 ∷ 1 ∷ 1 ∷ 120 ∷ 9 ∷ 1 ∷ 1 ∷ 0 ∷ 10 ∷ 1 ∷ 0 ∷ 1 ∷ 10 ∷ 1 ∷ 1 ∷ 0 ∷ 11 ∷ 0 ∷ 0 ∷ 0 ∷ 11 ∷ 0 ∷ 1 ∷ 0 ∷ [])
    ∷ (11 ∷ 1 ∷ 1 ∷ 0 ∷ 12 ∷ 0 ∷ 1 ∷ 0 ∷ 12 ∷ 1 ∷ 1 ∷ 0 ∷ 13 ∷ 1 ∷ 1 ∷ 0 ∷ 5 ∷ 1 ∷ 0 ∷ 0 ∷ 2 ∷ 1 ∷ 0 ∷ 0 ∷ [])
    ∷ (3 ∷ 1 ∷ 1 ∷ 0 ∷ 3 ∷ 1 ∷ 0 ∷ 1 ∷ 3 ∷ 1 ∷ 0 ∷ 0 ∷ [])
    ∷ []

abbrev lines : List (List ℕ)
lines =
    (0 ∷ 0 ∷ 2 ∷ 3 ∷ []) ∷ (1 ∷ 0 ∷ 0 ∷ 0 ∷ []) ∷ (2 ∷ 0 ∷ 0 ∷ 0 ∷ []) ∷ (3 ∷ 0 ∷ 0 ∷ 0 ∷ []) ∷ (4 ∷ 0 ∷ 0 ∷ 100 ∷ [])
    ∷ (5 ∷ 0 ∷ 0 ∷ 0 ∷ []) ∷ (6 ∷ 0 ∷ 0 ∷ 0 ∷ []) ∷ (7 ∷ 0 ∷ 1 ∷ 2 ∷ []) ∷ (8 ∷ 0 ∷ 100 ∷ 0 ∷ []) ∷ (9 ∷ 0 ∷ 90 ∷ 0 ∷ [])
    ∷ (10 ∷ 0 ∷ 100 ∷ 0 ∷ []) ∷ (11 ∷ 0 ∷ 0 ∷ 100 ∷ []) ∷ (12 ∷ 0 ∷ 1 ∷ 44 ∷ []) ∷ (13 ∷ 0 ∷ 0 ∷ 95 ∷ []) ∷ (14 ∷ 0 ∷ 0 ∷ 0 ∷ [])
    ∷ (15 ∷ 0 ∷ 100 ∷ 0 ∷ []) ∷ (16 ∷ 0 ∷ 100 ∷ 1 ∷ []) ∷ (17 ∷ 0 ∷ 100 ∷ 0 ∷ []) ∷ (18 ∷ 0 ∷ 100 ∷ 1 ∷ []) ∷ (19 ∷ 0 ∷ 0 ∷ 0 ∷ [])
    ∷ (20 ∷ 0 ∷ 120 ∷ 0 ∷ []) ∷ (21 ∷ 0 ∷ 100 ∷ 1 ∷ []) ∷ (22 ∷ 0 ∷ 120 ∷ 0 ∷ []) ∷ (23 ∷ 0 ∷ 100 ∷ 0 ∷ []) ∷ (24 ∷ 0 ∷ 100 ∷ 0 ∷ [])
    ∷ (25 ∷ 0 ∷ 100 ∷ 0 ∷ []) ∷ (26 ∷ 0 ∷ 100 ∷ 0 ∷ []) ∷ (27 ∷ 0 ∷ 100 ∷ 0 ∷ []) ∷ (28 ∷ 0 ∷ 100 ∷ 0 ∷ []) ∷ (29 ∷ 0 ∷ 0 ∷ 0 ∷ [])
    ∷ (30 ∷ 0 ∷ 100 ∷ 20 ∷ []) ∷ (31 ∷ 0 ∷ 1 ∷ 44 ∷ []) ∷ (32 ∷ 3 ∷ 0 ∷ 0 ∷ []) ∷ (33 ∷ 0 ∷ 1 ∷ 205 ∷ [])
    ∷ []

-- one hall with one partition, and one session: ten bytes
abbrev small : List ℕ
small = rows ((1 ∷ 1 ∷ []) ∷ (1 ∷ 0 ∷ 0 ∷ []) ∷ [])

abbrev begun : List ℕ
begun = row (0 ∷ 0 ∷ 1 ∷ 1 ∷ [])

abbrev turned_away : List ℕ
turned_away = row (0 ∷ 2 ∷ 0 ∷ 0 ∷ [])

-- The page's example. Then: a comma, before the mask is judged; a text that ends early, twice; a hall count of 0, and nothing more is looked
-- at; 17 sessions; a partition that no hall holds; a byte after the last step; a step count past 8,000; a last step with no closing byte, not
-- run; a digit past 2^64 - 1; an extra leading zero.
pub page :
    (printed (rows example) ≡ rows lines)
    × (printed (row (1 ∷ 0 ∷ []) ++ (item 1 32 ++ (item 0 44 ++ row (0 ∷ [])))) ≡ script 7)
    × (printed [] ≡ script 0)
    × (printed (digits 5) ≡ script 1)
    × (printed (row (0 ∷ []) ++ (44 ∷ [])) ≡ turned_away)
    × (printed (rows ((1 ∷ 1 ∷ []) ∷ (17 ∷ []) ∷ [])) ≡ turned_away)
    × (printed (rows ((1 ∷ 2 ∷ []) ∷ (1 ∷ 0 ∷ 0 ∷ []) ∷ (0 ∷ []) ∷ [])) ≡ turned_away)
    × (printed (small ++ (row (0 ∷ []) ++ (10 ∷ []))) ≡ begun ++ script 12)
    × (printed (small ++ digits 8001) ≡ begun ++ script 10)
    × (printed (small ++ (row (1 ∷ []) ++ (item 1 32 ++ (item 0 32 ++ (item 0 32 ++ digits 7))))) ≡ begun ++ script 19)
    × (printed (digits 18446744073709551616) ≡ script 19)
    × (printed (48 ∷ digits 1) ≡ script 1)
unfolding digit closing grows more start four_at many_at among numbers_at section_at decimal digits any all count sum lowest largest member include set_of first_from merge_all setup_refusal setup_answer rule_of refusal after answer steps_from counted_from setup_from sessions_from halls_from outcome
page = (refl, refl, refl, refl, refl, refl, refl, refl, refl, refl, refl, refl)
