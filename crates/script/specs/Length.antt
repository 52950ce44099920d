-- How long a printout is at most.
use Prim.Native.Nat.{ℕ, zero, suc, ◌+◌, ◌*◌, ◌%◌, ◌<◌, ◌≤◌}
use Rattle.std.specs.Prelude.{cond, ◌&&◌, Ok, Err, ltb}
use mathlib.Core.List.{List, []}
use Rattle.std.proofs.Common.{⊎_elim, le_refl, ltb-false}
use native.Mathlib.Omega.{arith}
use Rattle.std.proofs.Math.Dec.{eqb}
use Rattle.std.proofs.Math.ListN.{length, length-append}
use Rattle.scan.specs.declared.Cursor.{Cursor}
use Rattle.scan.specs.declared.Stop.TheVariants.{Outside, Bad as BadSection}
use Rattle.scan.specs.Number.{count_max, count_at, either, count_within}
use Rattle.scan.specs.Groups.{by_read, four_at, four_within}
use Rattle.scan.specs.Sections.{Section, on_section, section_at, SectionWithin, section_within}
use Rattle.ink.specs.Decimal.{line_max, script_max}
use Rattle.ink.proofs.Decimal.{length_line, length_script}
use Rattle.ink.specs.Written.{Fits}
use Rattle.book.specs.Sizes.{halls_max, sessions_max}
use Rattle.book.specs.Cells.{Store}
use Rattle.book.specs.Cases.{by_test}
use Rattle.book.specs.Answers.{numbers}
use Rattle.book.specs.Setup.{good_setup, first_store, setup_refusal, setup_answer}
use Rattle.book.specs.Steps.{after, answer, answer_refusal}
use Rattle.facts.specs.Ladders.{in_table}
use Rattle.script.specs.Printout.{text_max, Outcome, only, line_of, stop, refused, steps_from, counted_from, setup_from, sessions_from, halls_from, outcome}

-- a line for setup and for each of 8,000 steps, and a script line
abbrev pub capacity : ℕ
capacity = (count_max + 1) * line_max + script_max

-- every number given has two digits at most
step_small : (σ : Store) (code a b c : ℕ) → (numbers (answer σ code a b c)).refusal < 100
step_small σ code a b c =
    rw (answer_refusal σ code a b c) (⊎_elim (λ z. omega arith) (λ z. omega arith) (in_table σ code a b c))

setup_small : (masks homes : List ℕ) → (numbers (setup_answer masks homes)).refusal < 100
unfolding setup_answer setup_refusal
setup_small masks homes =
    by_test (eqb (length homes % 2) 0 && good_setup (first_store masks homes)) (λ e. rw e (omega arith)) (λ e. rw e (omega arith))

abbrev Short : ℕ → Outcome → Type 0
Short m o = length o.bytes ≤ m

-- what holds in each case holds
module _ (P : Outcome → Type 0) where
  by_section : (most end : ℕ) (xs : List ℕ) (x : Section) {f : ℕ → Outcome} {o : Outcome} {g : ℕ → Cursor → Outcome} → SectionWithin most end xs x
      → ((k : ℕ) → k ≤ end → P (f k)) → P o → ((n : ℕ) (p : Cursor) → p.at ≤ end → P (g n p)) → P (on_section x f o g)
  by_section most end xs (Err (BadSection k)) w h i l = h k.0 w
  by_section most end xs (Err Outside) w h i l = i
  by_section most end xs (Ok y) w h i l = l y.0 y.1 w.2

refused_short : (σ : Store) → Short capacity (refused σ)
refused_short σ = omega (arith, length_line 0 2 0 0 (omega arith) (omega arith))

module _ (text : List ℕ) (fits : length text ≤ text_max) where
  stop_short : (m : ℕ) (σ : Store) → script_max ≤ m → (k : ℕ) → k ≤ length text → Short m (stop σ k)
  stop_short m σ h k l = omega (arith, length_script k (omega arith))

  steps_short : (n i at : ℕ) (σ : Store) → i + n ≤ 10000 → at ≤ length text → Short (n * line_max + script_max) (steps_from n i text at σ)
  unfolding steps_from
  steps_short zero i at σ h l =
      either (Short script_max) (ltb at (length text)) (λ _. stop_short script_max σ (omega arith) at l) (omega arith)
  steps_short (suc n) i at σ h l =
      let m = suc n * line_max + script_max in
      by_read (Short m) (four_at text at)
      (λ k e. stop_short m σ (omega arith) k (rw e at (four_within text (length text) (le_refl _) at l)))
      (λ (four, p) e.
      let x = numbers (answer σ four.code four.x four.y four.z) in
      let τ = after σ four.code four.x four.y four.z in
      omega (
        arith,
        length-append (line_of i x) (steps_from n (i + 1) text p.at τ).bytes,
        length_line i x.refusal x.first x.second (omega arith) (step_small σ four.code four.x four.y four.z),
        steps_short n (i + 1) p.at τ (omega arith) (rw e at (four_within text (length text) (le_refl _) at l)),
      ))

  counted_short : (at : ℕ) (σ : Store) → at ≤ length text → Short (count_max * line_max + script_max) (counted_from text at σ)
  unfolding counted_from
  counted_short at σ l =
      let m = count_max * line_max + script_max in
      by_read (Short m) (count_at text at)
      (λ k e. stop_short m σ (omega arith) k (rw e at (count_within text (length text) (le_refl _) at l)))
      (λ (n, p) e. let w : (n ≤ count_max) × (p.at ≤ length text) = rw e at (count_within text (length text) (le_refl _) at l) in
      omega (arith, steps_short n 1 p.at σ (omega arith) w.1))

  setup_short : (masks homes : List ℕ) (at : ℕ) (σ : Store) → at ≤ length text → Short capacity (setup_from masks homes text at σ)
  unfolding setup_from
  setup_short masks homes at σ l =
      let x = numbers (setup_answer masks homes) in
      let b = eqb (setup_refusal masks homes) 0 in
      let o = counted_from text at (first_store masks homes) in
      omega (
        arith,
        length-append (line_of 0 x) (cond b o (only [] σ)).bytes,
        length_line 0 x.refusal x.first x.second (omega arith) (setup_small masks homes),
        either (Short (count_max * line_max + script_max)) b {x = o} {y = only [] σ} (λ _. counted_short at (first_store masks homes) l) (omega arith),
      )

  sessions_short : (masks : List ℕ) (at : ℕ) (σ : Store) → at ≤ length text → Short capacity (sessions_from masks text at σ)
  unfolding sessions_from
  sessions_short masks at σ l =
      let x = section_at sessions_max 2 text at in
      by_section (Short capacity) _ (length text) x.got x.end (section_within text (length text) (le_refl _) sessions_max 2 at l)
      (stop_short capacity σ (omega arith)) (refused_short σ) (λ n p h. setup_short masks x.got p.at σ h)

  halls_short : (σ : Store) → Short capacity (halls_from text σ)
  unfolding halls_from
  halls_short σ =
      let x = section_at halls_max 1 text 0 in
      by_section (Short capacity) _ (length text) x.got x.end (section_within text (length text) (le_refl _) halls_max 1 0 (omega arith))
      (stop_short capacity σ (omega arith)) (refused_short σ) (λ n p h. sessions_short x.got p.at σ h)

pub outcome_short : (text : List ℕ) (σ : Store) → Short capacity (outcome text σ)
unfolding outcome
outcome_short text σ =
    by_test (ltb text_max (length text))
    (λ e. rw e (omega (arith, length_script text_max (omega arith))))
    (λ e. rw e (halls_short text (ltb-false text_max (length text) e) σ))

-- so a buffer of that length has room for every printout
pub outcome_fits : (text : List ℕ) (σ : Store) (out : List ℕ) → capacity ≤ length out → Fits out 0 (outcome text σ).bytes
outcome_fits text σ out h = record { enough = omega (arith, outcome_short text σ) }
