-- "Script and printout": what every text prints, and the store it leaves.
use Rattle.std.specs.Prelude.{ℕ, zero, suc, ◌+◌, ◌-◌, ◌%◌, ◌<◌, cond, ◌&&◌, List, [], ◌++◌, Ok, Err, ◌≡◌, refl, eqb, ltb, length}
use Rattle.std.proofs.Common.{not-suc-le-zero, sub-one}
use Rattle.scan.specs.declared.Cursor.{Cursor}
use Rattle.scan.specs.declared.Stop.TheVariants.{Outside, Bad as BadSection}
use Rattle.scan.specs.Number.{count_at}
use Rattle.scan.specs.Groups.{on_read, four_at}
use Rattle.scan.specs.Sections.{Section, on_section, section_at}
use Rattle.ink.specs.Decimal.{decimal, digits, line, script}
use Rattle.book.specs.Sizes.{halls_max, sessions_max}
use Rattle.book.specs.Cells.{Store}
use Rattle.book.specs.Cases.{by_test}
use Rattle.book.specs.declared.Numbers.{Numbers}
use Rattle.book.specs.Answers.{triple, numbers}
use Rattle.book.specs.Setup.{good_setup, first_store, setup_refusal, setup_answer}
use Rattle.book.specs.Steps.{after, answer}

-- "The text is at most 65,536 bytes"
abbrev pub text_max : ℕ
text_max = 65536

-- what is printed, and the store after it
pub record Outcome : Type 0 where
  pub bytes : List ℕ
  pub store : Store

-- the bytes, and no more
abbrev pub only : List ℕ → Store → Outcome
only xs σ = record { bytes = xs; store = σ }

-- the bytes, and then what o prints
abbrev pub before : List ℕ → Outcome → Outcome
before xs o = record { bytes = xs ++ o.bytes; store = o.store }

-- "Bench prints for setup (step 0) and each step: step number, refusal or 0, first answer, second answer."
abbrev pub line_of : ℕ → Numbers → List ℕ
line_of i x = line i x.refusal x.first x.second

-- "Bad text prints `script` and the offset .. and stops"
abbrev pub stop : Store → ℕ → Outcome
stop σ k = only (script k) σ

-- "prints `0 2 0 0` and stops", "after `0 2 0 0` nothing more is looked at"
abbrev pub refused : Store → Outcome
refused σ = only (line_of 0 (triple 2 0 0)) σ

-- n steps, of which the first has number i, read from `at` on, each taken once its four numbers are read ("Text is taken as it is needed, so lines for
-- setup and steps before that byte are printed first"); after them "the first byte after the last step, if there is one" is bad
unfoldable pub steps_from : ℕ → ℕ → List ℕ → ℕ → Store → Outcome
steps_from zero i text at σ = cond (ltb at (length text)) (stop σ at) (only [] σ)
steps_from (suc n) i text at σ =
    on_read (four_at text at) (stop σ) (λ (four, next).
    before (line_of i (numbers (answer σ four.code four.x four.y four.z)))
    (steps_from n (i + 1) text next.at (after σ four.code four.x four.y four.z)))

-- "steps (four numbers each, count at most 8,000)"
unfoldable pub counted_from : List ℕ → ℕ → Store → Outcome
counted_from text at σ = on_read (count_at text at) (stop σ) (λ (n, p). steps_from n 1 text p.at σ)

-- "Setup runs once the sessions are read, before the step count."; "a refused setup prints `0 2 0 0` and stops": its own line, and nothing after it
unfoldable pub setup_from : List ℕ → List ℕ → List ℕ → ℕ → Store → Outcome
setup_from masks homes text at σ =
    before (line_of 0 (numbers (setup_answer masks homes)))
    (cond (eqb (setup_refusal masks homes) 0) (counted_from text at (first_store masks homes)) (only [] σ))

-- "sessions (home hall, home partition each)"; "a session count outside 1 to 16 .. prints `0 2 0 0` and stops"
unfoldable pub sessions_from : List ℕ → List ℕ → ℕ → Store → Outcome
sessions_from masks text at σ =
    let x = section_at sessions_max 2 text at in
    on_section x.end (stop σ) (refused σ) (λ n p. setup_from masks x.got text p.at σ)

-- "halls (mask each)"; "A hall count outside 1 to 4 .. prints `0 2 0 0` and stops"
unfoldable pub halls_from : List ℕ → Store → Outcome
halls_from text σ =
    let x = section_at halls_max 1 text 0 in
    on_section x.end (stop σ) (refused σ) (λ n p. sessions_from x.got text p.at σ)

-- "a longer one prints `script 65536` and nothing else"
unfoldable pub outcome : List ℕ → Store → Outcome
outcome text σ = cond (ltb text_max (length text)) (stop σ text_max) (halls_from text σ)

-- for the code: one turn of the steps, their end, and the other definitions opened
pub steps_turn : (n i : ℕ) (text : List ℕ) (at : ℕ) (σ : Store) → 0 < n → steps_from n i text at σ ≡
    on_read (four_at text at) (stop σ) (λ (four, next).
    before (line_of i (numbers (answer σ four.code four.x four.y four.z)))
    (steps_from (n - 1) (i + 1) text next.at (after σ four.code four.x four.y four.z)))
unfolding steps_from
steps_turn zero i text at σ h = absurd (not-suc-le-zero h)
steps_turn (suc n) i text at σ h = rw (sub-one (suc n))

pub steps_end : (n i : ℕ) (text : List ℕ) (at : ℕ) (σ : Store) → n ≡ 0
    → steps_from n i text at σ ≡ cond (ltb at (length text)) (stop σ at) (only [] σ)
unfolding steps_from
steps_end n i text at σ h = rw h

pub counted_is : (text : List ℕ) (at : ℕ) (σ : Store)
    → counted_from text at σ ≡ on_read (count_at text at) (stop σ) (λ (n, p). steps_from n 1 text p.at σ)
unfolding counted_from
counted_is text at σ = refl

pub sessions_is : (masks text : List ℕ) (at : ℕ) (σ : Store) → let x = section_at sessions_max 2 text at in sessions_from masks text at σ ≡
    on_section x.end (stop σ) (refused σ) (λ n p. setup_from masks x.got text p.at σ)
unfolding sessions_from
sessions_is masks text at σ = refl

pub halls_is : (text : List ℕ) (σ : Store) → let x = section_at halls_max 1 text 0 in halls_from text σ ≡
    on_section x.end (stop σ) (refused σ) (λ n p. sessions_from x.got text p.at σ)
unfolding halls_from
halls_is text σ = refl

pub outcome_is : (text : List ℕ) (σ : Store) → outcome text σ ≡ cond (ltb text_max (length text)) (stop σ text_max) (halls_from text σ)
unfolding outcome
outcome_is text σ = refl

-- a refused setup prints `0 2 0 0` and leaves the store
pub setup_refused : (masks homes text : List ℕ) (at : ℕ) (σ : Store) → (setup_refusal masks homes ≡ 0 → ⊥)
    → setup_from masks homes text at σ ≡ refused σ
unfolding setup_from setup_answer setup_refusal digits decimal
setup_refused masks homes text at σ h =
    by_test (eqb (length homes % 2) 0 && good_setup (first_store masks homes)) (λ e. absurd (h (rw e))) (λ e. rw e)

-- Nothing of the store before setup is seen in the bytes.
module _ (σ τ : Store) where
  section_same : (x : Section) (g : Store → ℕ → Cursor → Outcome) → ((n : ℕ) (p : Cursor) → (g σ n p).bytes ≡ (g τ n p).bytes)
      → (on_section x (stop σ) (refused σ) (g σ)).bytes ≡ (on_section x (stop τ) (refused τ) (g τ)).bytes
  section_same (Err (BadSection k)) g h = refl
  section_same (Err Outside) g h = refl
  section_same (Ok x) g h = h x.0 x.1

  setup_same : (masks homes text : List ℕ) (at : ℕ) → (setup_from masks homes text at σ).bytes ≡ (setup_from masks homes text at τ).bytes
  unfolding setup_from
  setup_same masks homes text at = by_test (eqb (setup_refusal masks homes) 0) (λ e. rw e) (λ e. rw e)

  sessions_same : (masks text : List ℕ) (at : ℕ) → (sessions_from masks text at σ).bytes ≡ (sessions_from masks text at τ).bytes
  unfolding sessions_from
  sessions_same masks text at =
      let x = section_at sessions_max 2 text at in
      section_same x.end (λ ρ n p. setup_from masks x.got text p.at ρ) (λ n p. setup_same masks x.got text p.at)

  halls_same : (text : List ℕ) → (halls_from text σ).bytes ≡ (halls_from text τ).bytes
  unfolding halls_from
  halls_same text =
      let x = section_at halls_max 1 text 0 in
      section_same x.end (λ ρ n p. sessions_from x.got text p.at ρ) (λ n p. sessions_same x.got text p.at)

  pub outcome_same : (text : List ℕ) → (outcome text σ).bytes ≡ (outcome text τ).bytes
  unfolding outcome
  outcome_same text = by_test (ltb text_max (length text)) (λ e. rw e) (λ e. rw e (halls_same text))

-- so a printout is its text's alone
abbrev pub blank : Store
blank = λ d. 0

abbrev pub printed : List ℕ → List ℕ
printed text = (outcome text blank).bytes
