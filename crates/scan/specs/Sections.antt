-- "Sections in order, each after its count: halls (mask each), sessions (home hall, home partition each)".
use Rattle.std.specs.Prelude.{ℕ, ◌*◌, ◌≤◌, Bool, true, cond, ◌&&◌, List, [], Result, Ok, Err, ◌≡◌, leb, length}
use Rattle.std.proofs.Math.Bool.{and-eq-true_iff}
use Rattle.std.proofs.Common.{le_refl, le_trans, mul-le-mul_right, leb-true}
use Rattle.scan.specs.declared.Cursor.{Cursor}
use Rattle.scan.specs.declared.Bad.{Bad}
use Rattle.scan.specs.declared.Stop.{Stop}
use Rattle.scan.specs.declared.Stop.TheVariants.{Outside, Bad as BadSection}
use Rattle.scan.specs.Number.{number_at, either}
use Rattle.scan.specs.Groups.{on_read, by_read, many_at, ManyWithin, next_inside, bad_inside, many_within}

-- how many numbers there are and the place after them, or why there are none
abbrev pub Section : Type 0
Section = Result (ℕ × Cursor) Stop

abbrev pub bad_section : ℕ → Section
bad_section k = Err (BadSection (record { 0 = k }))

-- the numbers read, and how that ended
pub record Part : Type 0 where
  pub got : List ℕ
  pub end : Section

abbrev pub part : List ℕ → Section → Part
part xs e = record { got = xs; end = e }

-- by cases: f of the offset of bad text, x for a count outside, g of how many numbers there are and the place after them
abbrev pub on_section : {A : Type 0} → Section → (ℕ → A) → A → (ℕ → Cursor → A) → A
on_section (Err (BadSection k)) f x g = f k.0
on_section (Err Outside) f x g = x
on_section (Ok y) f x g = g y.0 y.1

-- "outside 1 to 4", "outside 1 to 16"
unfoldable pub among : ℕ → ℕ → Bool
among most n = leb 1 n && leb n most

-- what follows a count of n, `each` numbers for each; nothing is looked at where the count is outside
unfoldable pub numbers_at : ℕ → ℕ → ℕ → List ℕ → ℕ → Part
numbers_at most each n text at =
    cond (among most n)
    (let x = many_at (n * each) text at in part x.got (on_read x.end bad_section (λ p. Ok (n * each, p))))
    (part [] (Err Outside))

-- the count ("each once its closing byte is read"), and what follows it
unfoldable pub section_at : ℕ → ℕ → List ℕ → ℕ → Part
section_at most each text at =
    on_read (number_at text at) (λ k. part [] (bad_section k)) (λ (n, p). numbers_at most each n text p.at)

-- room for the most is room for n
pub among_fits : (most each n m : ℕ) → among most n ≡ true → most * each ≤ m → n * each ≤ m
unfolding among
among_fits most each n m e h = le_trans (mul-le-mul_right each (leb-true n most ((and-eq-true_iff (leb 1 n) _).0 e).1)) h

-- no place is past the end, and where no text is bad all numbers are there, as many as fit
abbrev pub SectionWithin : ℕ → ℕ → List ℕ → Section → Type 0
SectionWithin most end xs (Err (BadSection k)) = k.0 ≤ end
SectionWithin most end xs (Err Outside) = Unit {0}
SectionWithin most end xs (Ok y) = (length xs ≡ y.0) × (y.0 ≤ most) × (y.1.at ≤ end)

whole_within : (most n end : ℕ) (xs : List ℕ) (x : Result Cursor Bad) → n ≤ most → ManyWithin n end xs x
    → SectionWithin most end xs (on_read x bad_section (λ p. Ok (n, p)))
whole_within most n end xs (Err k) l h = h
whole_within most n end xs (Ok p) l h = (h.0, l, h.1)

pub section_within : (text : List ℕ) (end : ℕ) → length text ≤ end → (most each at : ℕ) → at ≤ end
    → let x = section_at most each text at in SectionWithin (most * each) end x.got x.end
unfolding section_at numbers_at
section_within text end covers most each at h =
    let P : Part → Type 0 = λ x. SectionWithin (most * each) end x.got x.end in
    by_read P (number_at text at) (bad_inside text end covers at h) (λ x e.
    either P (among most x.0)
    (λ f. whole_within (most * each) (x.0 * each) end _ (many_at (x.0 * each) text x.1.at).end (among_fits most each x.0 _ f (le_refl _))
    (many_within text end covers (x.0 * each) x.1.at (next_inside text end covers at h x e)))
    tt)
