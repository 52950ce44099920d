-- The store that a text leaves: the one before it, or one reached from the text's setup by its steps.
use Rattle.std.specs.Prelude.{ℕ, zero, suc, ◌+◌, List, Ok, Err, ◌≡◌, refl, ◌⊎◌, ltb, length}
use Rattle.std.proofs.Common.{inl, inr}
use Rattle.scan.specs.declared.Cursor.{Cursor}
use Rattle.scan.specs.declared.Stop.TheVariants.{Outside, Bad as BadSection}
use Rattle.scan.specs.Number.{count_at}
use Rattle.scan.specs.Groups.{by_read, four_at}
use Rattle.scan.specs.Sections.{Section, on_section, section_at}
use Rattle.book.specs.Sizes.{halls_max, sessions_max}
use Rattle.book.specs.Cells.{Store}
use Rattle.book.specs.Cases.{choose, by_test, by_eq}
use Rattle.book.specs.Setup.{first_store, setup_refusal}
use Rattle.book.specs.Steps.{after}
use Rattle.book.specs.Reached.{Reached}
use Rattle.script.specs.Printout.{Outcome, text_max, stop, refused, steps_from, counted_from, setup_from, sessions_from, halls_from, outcome}

abbrev Reaches : Outcome → Type 0
Reaches o = Reached o.store

steps_reached : (n i : ℕ) (text : List ℕ) (at : ℕ) (σ : Store) → Reached σ → Reaches (steps_from n i text at σ)
unfolding steps_from
steps_reached zero i text at σ R = choose Reaches (ltb at (length text)) R R
steps_reached (suc n) i text at σ R =
    by_read Reaches (four_at text at)
    (λ k e. R)
    (λ (four, p) e. steps_reached n (i + 1) text p.at (after σ four.code four.x four.y four.z) (Reached.onward R four.code four.x four.y four.z))

counted_reached : (text : List ℕ) (at : ℕ) (σ : Store) → Reached σ → Reaches (counted_from text at σ)
unfolding counted_from
counted_reached text at σ R = by_read Reaches (count_at text at) (λ k e. R) (λ (n, p) e. steps_reached n 1 text p.at σ R)

module _ (σ : Store) where
  abbrev Leaves : Outcome → Type 0
  Leaves o = (o.store ≡ σ) ⊎ Reaches o

  setup_leaves : (masks homes text : List ℕ) (at : ℕ) → Leaves (setup_from masks homes text at σ)
  unfolding setup_from
  setup_leaves masks homes text at =
      by_eq (setup_refusal masks homes) 0
      (λ q f. rw f (inr (counted_reached text at (first_store masks homes) (Reached.begun masks homes q))))
      (λ q f. rw f (inl refl))

  section_leaves : (x : Section) (g : ℕ → Cursor → Outcome) → ((n : ℕ) (p : Cursor) → Leaves (g n p)) → Leaves (on_section x (stop σ) (refused σ) g)
  section_leaves (Err (BadSection k)) g h = inl refl
  section_leaves (Err Outside) g h = inl refl
  section_leaves (Ok x) g h = h x.0 x.1

  sessions_leave : (masks text : List ℕ) (at : ℕ) → Leaves (sessions_from masks text at σ)
  unfolding sessions_from
  sessions_leave masks text at =
      let x = section_at sessions_max 2 text at in
      section_leaves x.end (λ n p. setup_from masks x.got text p.at σ) (λ n p. setup_leaves masks x.got text p.at)

  halls_leave : (text : List ℕ) → Leaves (halls_from text σ)
  unfolding halls_from
  halls_leave text =
      let x = section_at halls_max 1 text 0 in
      section_leaves x.end (λ n p. sessions_from x.got text p.at σ) (λ n p. sessions_leave x.got text p.at)

pub outcome_reached : (text : List ℕ) (σ : Store) → ((outcome text σ).store ≡ σ) ⊎ Reached (outcome text σ).store
unfolding outcome
outcome_reached text σ = by_test (ltb text_max (length text)) (λ e. rw e (inl refl)) (λ e. rw e (halls_leave σ text))
