-- Lines of the page's printout, computed: a space is 32, a line feed 10.
use Rattle.std.specs.Prelude.{[], ◌∷◌, ◌≡◌, refl}
use Rattle.ink.specs.Decimal.{decimal, digits, line, script}

-- `12 0 1 44`, `0 2 0 0`, `script 65536`, and the largest number
examples :
    (line 12 0 1 44 ≡ 49 ∷ 50 ∷ 32 ∷ 48 ∷ 32 ∷ 49 ∷ 32 ∷ 52 ∷ 52 ∷ 10 ∷ [])
    × (line 0 2 0 0 ≡ 48 ∷ 32 ∷ 50 ∷ 32 ∷ 48 ∷ 32 ∷ 48 ∷ 10 ∷ [])
    × (script 65536 ≡ 115 ∷ 99 ∷ 114 ∷ 105 ∷ 112 ∷ 116 ∷ 32 ∷ 54 ∷ 53 ∷ 53 ∷ 51 ∷ 54 ∷ 10 ∷ [])
    × (digits 18446744073709551615
    ≡ 49 ∷ 56 ∷ 52 ∷ 52 ∷ 54 ∷ 55 ∷ 52 ∷ 52 ∷ 48 ∷ 55 ∷ 51 ∷ 55 ∷ 48 ∷ 57 ∷ 53 ∷ 53 ∷ 49 ∷ 54 ∷ 49 ∷ 53 ∷ [])
unfolding digits decimal
examples = (refl, refl, refl, refl)
