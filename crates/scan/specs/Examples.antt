-- The page's cases and the readings' examples, computed. A text is written as its bytes: `0` is 48, a space 32, a line feed 10, a comma 44.
use Rattle.std.specs.Prelude.{ℕ, List, [], ◌∷◌, ◌++◌, Ok, Err, ◌≡◌, refl}
use Rattle.scan.specs.declared.Stop.TheVariants.{Outside}
use Rattle.scan.specs.Number.{value, bad, number_at, count_at, digit, closing, grows, more, start}
use Rattle.scan.specs.Groups.{four_at, series, many_at}
use Rattle.scan.specs.Sections.{part, bad_section, among, numbers_at, section_at}

-- `1844674407370955161`, all digits but the last of 2^64 - 1
abbrev almost : List ℕ
almost = 49 ∷ 56 ∷ 52 ∷ 52 ∷ 54 ∷ 55 ∷ 52 ∷ 52 ∷ 48 ∷ 55 ∷ 51 ∷ 55 ∷ 48 ∷ 57 ∷ 53 ∷ 53 ∷ 49 ∷ 54 ∷ 49 ∷ []

-- a space or a line feed closes a number, here `205 ` and `0\n`; no other byte does, here `2,05`, `7\t`
closed :
    (number_at (50 ∷ 48 ∷ 53 ∷ 32 ∷ []) 0 ≡ value 205 4)
    × (number_at (48 ∷ 10 ∷ []) 0 ≡ value 0 2)
    × (number_at (50 ∷ 44 ∷ 48 ∷ 53 ∷ 32 ∷ []) 0 ≡ bad 1)
    × (number_at (55 ∷ 9 ∷ []) 0 ≡ bad 1)
unfolding digit closing grows more start
closed = (refl, refl, refl, refl)

-- "Decimal numbers up to 2^64 - 1": it is read, and the digit that takes a number past it is bad: `18446744073709551615 `, `18446744073709551616 `, and
-- `184467440737095516100,`
largest :
    (number_at (almost ++ (53 ∷ 32 ∷ [])) 0 ≡ value 18446744073709551615 21)
    × (number_at (almost ++ (54 ∷ 32 ∷ [])) 0 ≡ bad 19)
    × (number_at (almost ++ (48 ∷ 48 ∷ 44 ∷ [])) 0 ≡ bad 20)
unfolding digit closing grows more start
largest = (refl, refl, refl)

-- "the text's length if it ends early": the empty text, `7`, and a step count `80`
early :
    (number_at [] 0 ≡ bad 0)
    × (number_at (55 ∷ []) 0 ≡ bad 1)
    × (count_at (56 ∷ 48 ∷ []) 0 ≡ bad 2)
unfolding digit closing grows more start
early = (refl, refl, refl)

-- after a first digit 0 only a closing byte can stand, also in a step count: `00`, `01 `, the counts `01 ` and `09000`
zeros :
    (number_at (48 ∷ 48 ∷ []) 0 ≡ bad 1)
    × (number_at (48 ∷ 49 ∷ 32 ∷ []) 0 ≡ bad 1)
    × (count_at (48 ∷ 49 ∷ 32 ∷ []) 0 ≡ bad 1)
    × (count_at (48 ∷ 57 ∷ 48 ∷ 48 ∷ 48 ∷ []) 0 ≡ bad 1)
unfolding digit closing grows more start
zeros = (refl, refl, refl, refl)

-- "a step count's first digit once its digits pass 8,000", whatever follows: the counts `8000\n`, `8001 `, `80000000,`, `9000` with no closing byte, all at
-- place 1, and `800,`, bad at the comma
counts :
    (count_at (10 ∷ 56 ∷ 48 ∷ 48 ∷ 48 ∷ 10 ∷ []) 1 ≡ value 8000 6)
    × (count_at (10 ∷ 56 ∷ 48 ∷ 48 ∷ 49 ∷ 32 ∷ []) 1 ≡ bad 1)
    × (count_at (10 ∷ 56 ∷ 48 ∷ 48 ∷ 48 ∷ 48 ∷ 48 ∷ 48 ∷ 48 ∷ 44 ∷ []) 1 ≡ bad 1)
    × (count_at (10 ∷ 57 ∷ 48 ∷ 48 ∷ 48 ∷ []) 1 ≡ bad 1)
    × (count_at (10 ∷ 56 ∷ 48 ∷ 48 ∷ 44 ∷ []) 1 ≡ bad 4)
unfolding digit closing grows more start
counts = (refl, refl, refl, refl, refl)

-- one closing byte exactly: a second one stands where a digit must, `7 ` and `\n`
once : number_at (55 ∷ 32 ∷ 10 ∷ []) 2 ≡ bad 2
unfolding digit start
once = refl

-- a number is read when its closing byte is: the step `9 0 1 0\n`, the same without the line feed, and `9 0 1,0\n`
steps :
    (four_at (57 ∷ 32 ∷ 48 ∷ 32 ∷ 49 ∷ 32 ∷ 48 ∷ 10 ∷ []) 0 ≡ value (record { code = 9; x = 0; y = 1; z = 0 }) 8)
    × (four_at (57 ∷ 32 ∷ 48 ∷ 32 ∷ 49 ∷ 32 ∷ 48 ∷ []) 0 ≡ bad 7)
    × (four_at (57 ∷ 32 ∷ 48 ∷ 32 ∷ 49 ∷ 44 ∷ 48 ∷ 10 ∷ []) 0 ≡ bad 5)
unfolding digit closing grows more start four_at
steps = (refl, refl, refl)

-- the masks of `2 3 2\n`, and the homes of `1 0\n1 0,0\n`, bad at the comma before any is read; of `0 0 1` two are
homes :
    (many_at 2 (50 ∷ 32 ∷ 51 ∷ 32 ∷ 50 ∷ 10 ∷ []) 2 ≡ series (3 ∷ 2 ∷ []) (Ok (record { at = 6 })))
    × (many_at 2 (49 ∷ 32 ∷ 48 ∷ 10 ∷ 49 ∷ 32 ∷ 48 ∷ 44 ∷ 48 ∷ 10 ∷ []) 6 ≡ series [] (bad 7))
    × (many_at 4 (48 ∷ 32 ∷ 48 ∷ 32 ∷ 49 ∷ []) 0 ≡ series (0 ∷ 0 ∷ []) (bad 5))
unfolding digit closing grows more start many_at
homes = (refl, refl, refl)

-- a count outside its range is told once its closing byte is read, before what follows: halls `0\n,`, `5 `, `5` with no closing byte, and `2 3 2\n`; sessions
-- `17 ` and `1 0,`
sections :
    (section_at 4 1 (48 ∷ 10 ∷ 44 ∷ []) 0 ≡ part [] (Err Outside))
    × (section_at 4 1 (53 ∷ 32 ∷ []) 0 ≡ part [] (Err Outside))
    × (section_at 4 1 (53 ∷ []) 0 ≡ part [] (bad_section 1))
    × (section_at 4 1 (50 ∷ 32 ∷ 51 ∷ 32 ∷ 50 ∷ 10 ∷ []) 0 ≡ part (3 ∷ 2 ∷ []) (Ok (2, record { at = 6 })))
    × (section_at 16 2 (49 ∷ 55 ∷ 32 ∷ []) 0 ≡ part [] (Err Outside))
    × (section_at 16 2 (49 ∷ 32 ∷ 48 ∷ 44 ∷ []) 0 ≡ part [] (bad_section 3))
unfolding digit closing grows more start many_at among numbers_at section_at
sections = (refl, refl, refl, refl, refl, refl)
