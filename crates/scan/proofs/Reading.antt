-- What the readers' proofs stand on.
use Prim.Native.Nat.{ℕ, zero, suc, ◌+◌, ◌-◌, ◌<◌, ◌≤◌}
use Rattle.std.specs.Prelude.{List, [], ◌∷◌, ◌++◌, Ok, ◌≡◌, length, take, drop}
use Rattle.std.proofs.Common.{arith}
use Rattle.std.proofs.lemmas.Bool.Decides.{nat_tests}
use Rattle.std.proofs.lemmas.Grind.{common_steps}
use Rattle.std.proofs.lemmas.List.{set-get_or, take-append-drop, drop-set-lt}
use Rattle.std.proofs.lemmas.List.Edits.{sets}
use Rattle.std.proofs.Math.ListN.{set}
use Rattle.std.proofs.Math.Seq.{take-set-lt, length-take-le}
use Rattle.reader.specs.Sign.{byte_here}
use Rattle.scan.specs.Number.{number_at, start_at, more_at}
use Rattle.scan.specs.Groups.{by_read, Series, series, many_at, many_turn}
use Rattle.scan.specs.Sections.{among_fits}

pub ruleset bytes = (byte_here, start_at, more_at, nat_tests)

-- the loop's end: all are read
pub many_end : (n i : ℕ) (text : List ℕ) (at : ℕ) → n ≤ i → many_at (n - i) text at ≡ series [] (Ok (record { at = at }))
unfolding many_at
many_end n i text at h = let e : n - i ≡ 0 = omega arith in rw e

pub ruleset turns = (many_turn, many_end, set-get_or)

-- at most n are read, so a slice of that length takes them as the whole does
at_most_many : (n : ℕ) (text : List ℕ) (at : ℕ) → length (many_at n text at).got ≤ n
unfolding many_at
at_most_many zero text at = omega arith
at_most_many (suc n) text at =
    by_read (λ (x : Series). length x.got ≤ suc n) (number_at text at) (λ k e. omega arith)
    (λ x e. omega (arith, at_most_many n text x.1.at))

sets_front : (xs into : List ℕ) (i n : ℕ) → i + length xs ≤ n → sets (take n into) i xs ++ drop n into ≡ sets into i xs
sets_front [] into i n h = take-append-drop n into
sets_front (x ∷ xs) into i n h =
    let l : i < n = omega arith in
    rw (← take-set-lt n into i x l, ← drop-set-lt n into i x l) (sets_front xs (set into i x) (suc i) n (omega arith))

pub many_front : (n : ℕ) (text : List ℕ) (at : ℕ) (into : List ℕ) → n ≤ length into
    → sets (take n into) 0 (many_at (length (take n into)) text at).got ++ drop n into ≡ sets into 0 (many_at n text at).got
many_front n text at into h = rw length-take-le (sets_front (many_at n text at).got into 0 n (omega (arith, at_most_many n text at)))

pub ruleset parts = (common_steps, among_fits, many_front)
