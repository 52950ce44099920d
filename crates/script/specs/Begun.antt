-- What a setup in a room of the right length comes to: it is taken, or turned away.
use Rattle.std.specs.Prelude.{ℕ, true, List, ◌≡◌}
use Rattle.std.proofs.Math.Path.{sym, ap}
use Rattle.std.proofs.Common.{◌∙◌}
use Rattle.std.proofs.Math.ListN.{length}
use borrow.Author.Tests.{eq-eqb, ne_eqb}
use Rattle.book.specs.declared.Answer.{Answer}
use Rattle.book.specs.declared.Answer.TheVariants.{Answered}
use Rattle.book.specs.Cases.{by_eq}
use Rattle.book.specs.Answers.{triple, numbers}
use Rattle.book.specs.Setup.{first_store, setup_refusal, setup_answer}
use Rattle.book.specs.WellFormed.{well_formed}
use Rattle.bounds.proofs.WellFormedKept.{setup_formed}
use Rattle.room.specs.Layout.{size, store}
use Rattle.room.specs.Lay.{lay}
use Rattle.room.proofs.Lay.{length_lay}
use Rattle.setup.specs.SetUp.{SetUp}
use Rattle.script.specs.Printout.{before, line_of, refused, counted_from, setup_from, setup_refused}

module _ (r masks homes text : List ℕ) (at : ℕ) (fits : length r ≡ size) {x : Answer} {left : List ℕ} (o : SetUp r masks homes x left) where
  given : x ≡ setup_answer masks homes
  given = rw (eq-eqb (length r) size fits) at o.answer

  good : {n v : ℕ} → x ≡ Answered n v → setup_refusal masks homes ≡ 0
  unfolding setup_answer
  good e =
      by_eq (setup_refusal masks homes) 0
      (λ q _. q)
      (λ q f. sym (rw f at (ap (λ (y : Answer). (numbers y).refusal) given)) ∙ ap (λ (y : Answer). (numbers y).refusal) e)

  -- it answers n and v: its line, and then the steps, from a well formed room
  pub taken : {n v : ℕ} → x ≡ Answered n v
      → (length left ≡ size)
      × (well_formed (store left) ≡ true)
      × (setup_from masks homes text at (store r) ≡ before (line_of 0 (triple 0 n v)) (counted_from text at (store left)))
  unfolding setup_from
  taken e =
      let z = good e in
      let laid : left ≡ lay (first_store masks homes) = rw (eq-eqb (length r) size fits, z) at o.room in
      let first : store left ≡ first_store masks homes = rw (eq-eqb (length r) size fits, z) at o.store in
      (ap length laid ∙ length_lay (first_store masks homes), rw first (setup_formed masks homes z), rw (← given, e, z, first))

  -- it answers otherwise: `0 2 0 0`, and the room is as it was
  pub turned_away_lem : ((n v : ℕ) → x ≡ Answered n v → ⊥)
      → (left ≡ r) × (setup_from masks homes text at (store r) ≡ refused (store r))
  unfolding setup_answer
  turned_away_lem f =
      let z : setup_refusal masks homes ≡ 0 → ⊥ = λ q. f _ _ (rw q at given) in
      (rw (eq-eqb (length r) size fits, ne_eqb (setup_refusal masks homes) 0 z) at o.room, setup_refused masks homes text at (store r) z)
