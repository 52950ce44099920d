-- What a caller in C is told, and the room that it is left.
use Rattle.std.specs.Prelude.{ℕ, List, ◌≡◌}
use Rattle.std.proofs.Common.{sym, ap, ◌∙◌}
use Rattle.book.specs.declared.Answer.{Answer}
use Rattle.book.specs.declared.Numbers.{Numbers}
use Rattle.book.specs.Cells.{Store}
use Rattle.book.specs.Answers.{numbers as numbers_of}
use Rattle.room.specs.Layout.{store}

-- what a contract for C asks of the numbers x and of the room left, where an answer, a room and a store are due
pub record Told (answer : Answer) (due : List ℕ) (cells : Store) (x : Numbers) (left : List ℕ) : Type 0 where
  pub numbers : x ≡ numbers_of answer
  pub room : left ≡ due
  pub store : store left ≡ cells

-- No second outcome fits.
pub one_outcome : {answer : Answer} {due : List ℕ} {cells : Store} {x y : Numbers} {left late : List ℕ}
    → Told answer due cells x left → Told answer due cells y late → (x ≡ y) × (left ≡ late)
one_outcome s t = (s.numbers ∙ sym t.numbers, s.room ∙ sym t.room)

-- the numbers of the answer given, which is the one due
pub tells : {a answer : Answer} {due : List ℕ} {cells : Store} {x : Numbers} {left : List ℕ}
    → a ≡ answer → left ≡ due → store left ≡ cells → x ≡ numbers_of a → Told answer due cells x left
tells given room store told = record { numbers = told ∙ ap numbers_of given; room = room; store = store }
