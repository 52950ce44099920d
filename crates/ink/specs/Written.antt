-- Bytes written into a buffer, from a place on. Contracts pass these records on, and no writer counts bytes by hand.
use Rattle.std.specs.Prelude.{ℕ, suc, ◌+◌, ◌≤◌, ◌≡◌, refl, List, [], ◌∷◌, ◌++◌, length, take, drop, set}
use Rattle.std.proofs.Common.{sym, ◌∙◌, add-zero, arith, length-append}
use Rattle.std.proofs.lemmas.List.Edits.{sets, sets-eq}

-- there is room for the bytes
pub record Fits (out : List ℕ) (at : ℕ) (bytes : List ℕ) : Type 0 where
  pub enough : at + length bytes ≤ length out

-- `late` is `out` with the bytes stored from `at` on and nothing else changed, and `next` is the place after them
pub record Written (out : List ℕ) (at : ℕ) (bytes : List ℕ) (late : List ℕ) (next : ℕ) : Type 0 where
  pub list : late ≡ sets out at bytes
  pub place : next ≡ at + length bytes
  pub size : length late ≡ length out

-- the same by parts
pub parts : {out bytes late : List ℕ} {at next : ℕ} → Written out at bytes late next → Fits out at bytes
    → late ≡ take at out ++ bytes ++ drop (at + length bytes) out
parts {out} {bytes} {late} {at} w h = w.list ∙ sets-eq bytes out at h.enough

sets_sets : (l : List ℕ) (i : ℕ) (xs ys : List ℕ) → sets (sets l i xs) (i + length xs) ys ≡ sets l i (xs ++ ys)
sets_sets l i [] ys = rw (add-zero i)
sets_sets l i (x ∷ xs) ys =
    let e : i + suc (length xs) ≡ suc i + length xs = omega arith in
    rw e (sets_sets (set l i x) (suc i) xs ys)

-- nothing written
pub none : {out : List ℕ} {at : ℕ} → Written out at [] out at
none {out} {at} = record { list = refl; place = sym (add-zero at); size = refl }

-- one after the other
pub then : {out xs mid ys late : List ℕ} {at m next : ℕ} → Written out at xs mid m → Written mid m ys late next
    → Written out at (xs ++ ys) late next
then {out} {xs} {mid} {ys} {late} {at} {m} {next} v w = record {
  list = w.list ∙ rw (v.list, v.place) (sets_sets out at xs ys);
  place = omega (arith, v.place, w.place, length-append xs ys);
  size = w.size ∙ v.size;
}

-- room for both is room for the first, and room for the second after it
pub first : {out xs : List ℕ} {at : ℕ} (ys : List ℕ) → Fits out at (xs ++ ys) → Fits out at xs
first {out} {xs} ys h = record { enough = omega (arith, length-append xs ys) }

pub second : {out xs mid ys : List ℕ} {at m : ℕ} → Written out at xs mid m → Fits out at (xs ++ ys) → Fits mid m ys
second {out} {xs} {mid} {ys} {at} {m} w h =
    record { enough = omega (arith, length-append xs ys, w.place, w.size) }

-- The invariant of a loop that writes: from `out` and `at` it has come to `mid` and `m`, and what is left to write from there makes the whole.
pub record Left (out : List ℕ) (at : ℕ) (whole : List ℕ) (mid : List ℕ) (m : ℕ) (rest : List ℕ) : Type 0 where
  pub size : length mid ≡ length out
  pub room : Fits mid m rest
  pub ends : (late : List ℕ) (next : ℕ) → Written mid m rest late next → Written out at whole late next

-- before the first turn, after a turn, and at the end
pub begun : {out whole : List ℕ} {at : ℕ} → Fits out at whole → Left out at whole out at whole
begun h = record { size = refl; room = h; ends = λ late next w. w }

pub on : {out whole mid xs ys late : List ℕ} {at m n : ℕ} → Written mid m xs late n → Left out at whole mid m (xs ++ ys)
    → Left out at whole late n ys
on v l = record { size = v.size ∙ l.size; room = second v l.room; ends = λ late next w. l.ends late next (then v w) }

pub ended : {out whole mid rest late : List ℕ} {at m next : ℕ} → Left out at whole mid m rest → Written mid m rest late next
    → Written out at whole late next
ended l w = l.ends _ _ w
