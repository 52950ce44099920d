-- What a setup answers and what room it leaves, for any room, masks and homes.
use Rattle.std.specs.Prelude.{ℕ, ◌%◌, true, false, cond, ◌&&◌, List, ◌≡◌, refl, eqb, length}
use borrow.Author.Tests.{eq-eqb, ne_eqb}
use Rattle.book.specs.declared.Answer.{Answer}
use Rattle.book.specs.declared.Answer.TheVariants.{Refused, Answered}
use Rattle.book.specs.Cells.{Store, Partitions}
use Rattle.book.specs.Cases.{by_test}
use Rattle.book.specs.Setup.{good_setup, first_store, setup_refusal, servers, setup_answer}
use Rattle.room.specs.Layout.{size, store}
use Rattle.room.specs.Lay.{lay}
use Rattle.setup.specs.Laid.{first_laid}

-- number 1: "room of wrong length"
abbrev pub setup_given : List ℕ → List ℕ → List ℕ → Answer
setup_given r masks homes = cond (eqb (length r) size) (setup_answer masks homes) (Refused 1)

-- a refused setup leaves the room as it was; a good one writes every word of it, whatever was there
abbrev pub setup_room : List ℕ → List ℕ → List ℕ → List ℕ
setup_room r masks homes = cond (eqb (length r) size && eqb (setup_refusal masks homes) 0) (lay (first_store masks homes)) r

-- the store that its words are read as
abbrev pub setup_store : List ℕ → List ℕ → List ℕ → Store
setup_store r masks homes = cond (eqb (length r) size && eqb (setup_refusal masks homes) 0) (first_store masks homes) (store r)

-- what the contract asks of an answer x and of the room left
pub record SetUp (r masks homes : List ℕ) (x : Answer) (left : List ℕ) : Type 0 where
  pub answer : x ≡ setup_given r masks homes
  pub room : left ≡ setup_room r masks homes
  pub store : store left ≡ setup_store r masks homes

-- one answer and one room meet it, and no other
pub setup_one_outcome : (r masks homes : List ℕ)
    → (x : Answer) × (left : List ℕ) × SetUp r masks homes x left
    × ((y : Answer) (late : List ℕ) → SetUp r masks homes y late → (y ≡ x) × (late ≡ left))
setup_one_outcome r masks homes =
    let laid : store (setup_room r masks homes) ≡ setup_store r masks homes =
    by_test (eqb (length r) size && eqb (setup_refusal masks homes) 0) (λ e. rw e (first_laid masks homes)) (λ e. rw e) in
    (setup_given r masks homes, setup_room r masks homes, record { answer = refl; room = refl; store = laid }, λ y late o. (o.answer, o.room))

-- the four ways that a setup ends
module _ (r masks homes : List ℕ) where
  pub other_size : (length r ≡ size → ⊥) → SetUp r masks homes (Refused 1) r
  other_size e = let f = ne_eqb (length r) size e in record { answer = rw f; room = rw f; store = rw f }

  module _ (fits : length r ≡ size) where
    pub odd_homes : (length homes % 2 ≡ 0 → ⊥) → SetUp r masks homes (Refused 2) r
    unfolding setup_answer setup_refusal
    odd_homes e =
        let f = eq-eqb (length r) size fits in
        let g = ne_eqb (length homes % 2) 0 e in
        record { answer = rw (f, g); room = rw (f, g); store = rw (f, g) }

    pub bad_numbers : length homes % 2 ≡ 0 → good_setup (first_store masks homes) ≡ false → SetUp r masks homes (Refused 2) r
    unfolding setup_answer setup_refusal
    bad_numbers e b =
        let f = eq-eqb (length r) size fits in
        let g = eq-eqb (length homes % 2) 0 e in
        record { answer = rw (f, g, b); room = rw (f, g, b); store = rw (f, g, b) }

    pub good_numbers : length homes % 2 ≡ 0 → good_setup (first_store masks homes) ≡ true
        → SetUp r masks homes (Answered (first_store masks homes Partitions) (servers (first_store masks homes))) (lay (first_store masks homes))
    unfolding setup_answer setup_refusal
    good_numbers e b =
        let f = eq-eqb (length r) size fits in
        let g = eq-eqb (length homes % 2) 0 e in
        record { answer = rw (f, g, b); room = rw (f, g, b); store = rw (f, g, b) (first_laid masks homes) }
