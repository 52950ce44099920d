-- Several numbers, one after the other.
use Prim.Native.Nat.{ℕ, zero, suc, ◌+◌, ◌-◌, ◌<◌, ◌≤◌}
use Rattle.std.specs.Prelude.{List, [], ◌∷◌, Result, Ok, Err, ◌≡◌, refl, length, take}
use Rattle.std.proofs.Common.{arith}
use Rattle.std.proofs.lemmas.List.Edits.{sets, sets-eq}
use Rattle.std.proofs.Math.Seq.{take-append_seam}
use Rattle.scan.specs.declared.Cursor.{Cursor}
use Rattle.scan.specs.declared.Bad.{Bad}
use Rattle.scan.specs.declared.Four.{Four}
use Rattle.scan.specs.Number.{Read, bad, number_at, number_within}

-- by cases: f of the offset of bad text, g of what is read
abbrev pub on_read : {T A : Type 0} → Result T Bad → (ℕ → A) → (T → A) → A
on_read (Err k) f g = f k.0
on_read (Ok x) f g = g x

-- "steps (four numbers each ..)"
unfoldable pub four_at : List ℕ → ℕ → Read Four
four_at text at =
    on_read (number_at text at) bad (λ (code, p).
    on_read (number_at text p.at) bad (λ (x, q).
    on_read (number_at text q.at) bad (λ (y, s).
    on_read (number_at text s.at) bad (λ (z, next). Ok (record { code = code; x = x; y = y; z = z }, next)))))

-- the numbers read, and how that ended
pub record Series : Type 0 where
  pub got : List ℕ
  pub end : Result Cursor Bad

abbrev pub series : List ℕ → Result Cursor Bad → Series
series xs e = record { got = xs; end = e }

-- n numbers: "halls (mask each), sessions (home hall, home partition each)"; where the text is bad, those before that
unfoldable pub many_at : ℕ → List ℕ → ℕ → Series
many_at zero text at = series [] (Ok (record { at = at }))
many_at (suc n) text at =
    on_read (number_at text at) (λ k. series [] (bad k)) (λ (v, p).
    series (v ∷ (many_at n text p.at).got) (many_at n text p.at).end)

-- what holds of each case holds
pub by_read : {T A : Type 0} (P : A → Type 0) (x : Result T Bad) {f : ℕ → A} {g : T → A}
    → ((k : ℕ) → x ≡ bad k → P (f k)) → ((y : T) → x ≡ Ok y → P (g y)) → P (on_read x f g)
by_read P (Err k) h l = h k.0 refl
by_read P (Ok y) h l = l y refl

-- for the loop: i of n are read
pub many_turn : (n i : ℕ) (text : List ℕ) (at : ℕ) → i < n → many_at (n - i) text at ≡
    on_read (number_at text at) (λ k. series [] (bad k)) (λ (v, p).
    series (v ∷ (many_at (n - (i + 1)) text p.at).got) (many_at (n - (i + 1)) text p.at).end)
unfolding many_at
many_turn n i text at h = let e : n - i ≡ suc (n - (i + 1)) = omega arith in rw e

-- no place is past the end, and where no text is bad all n numbers are there
abbrev pub FourWithin : ℕ → Read Four → Type 0
FourWithin end (Err k) = k.0 ≤ end
FourWithin end (Ok x) = x.1.at ≤ end

abbrev pub ManyWithin : ℕ → ℕ → List ℕ → Result Cursor Bad → Type 0
ManyWithin n end xs (Err k) = k.0 ≤ end
ManyWithin n end xs (Ok p) = (length xs ≡ n) × (p.at ≤ end)

one_more : (n end v : ℕ) (xs : List ℕ) (x : Result Cursor Bad) → ManyWithin n end xs x → ManyWithin (suc n) end (v ∷ xs) x
one_more n end v xs (Err k) h = h
one_more n end v xs (Ok p) h = (omega arith, h.1)

module _ (text : List ℕ) (end : ℕ) (covers : length text ≤ end) where
  pub next_inside : (at : ℕ) → at ≤ end → (x : ℕ × Cursor) → number_at text at ≡ Ok x → x.1.at ≤ end
  next_inside at h x e = (rw e at (number_within text end covers at h)).1

  pub bad_inside : (at : ℕ) → at ≤ end → (k : ℕ) → number_at text at ≡ bad k → k ≤ end
  bad_inside at h k e = rw e at (number_within text end covers at h)

  pub four_within : (at : ℕ) → at ≤ end → FourWithin end (four_at text at)
  unfolding four_at
  four_within at h =
      let P = FourWithin end in
      by_read P (number_at text at) (bad_inside at h) (λ code e. let i = next_inside at h code e in
      by_read P (number_at text code.1.at) (bad_inside code.1.at i) (λ x f. let j = next_inside code.1.at i x f in
      by_read P (number_at text x.1.at) (bad_inside x.1.at j) (λ y g. let l = next_inside x.1.at j y g in
      by_read P (number_at text y.1.at) (bad_inside y.1.at l) (next_inside y.1.at l))))

  pub many_within : (n at : ℕ) → at ≤ end → ManyWithin n end (many_at n text at).got (many_at n text at).end
  unfolding many_at
  many_within zero at h = (refl, h)
  many_within (suc n) at h =
      by_read (λ (x : Series). ManyWithin (suc n) end x.got x.end) (number_at text at) (bad_inside at h)
      (λ x e. one_more n end x.0 _ (many_at n text x.1.at).end (many_within n x.1.at (next_inside at h x e)))

-- stored from the front, the numbers are the front
pub stored : (into xs : List ℕ) (n : ℕ) → length xs ≡ n → n ≤ length into → take n (sets into 0 xs) ≡ xs
stored into xs n e h = rw (sets-eq xs into 0 (omega arith), ← e) (take-append_seam xs _)
