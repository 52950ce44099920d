use Rattle.std.proofs.Common.{◌≡◌, ◌+◌, ◌-◌, length, true}
use Rattle.std.proofs.lemmas.List.Edits.{sets}
use Rattle.book.specs.WellFormed.{well_formed}
use Rattle.room.specs.Layout.{size, store}
use Rattle.script.specs.Printout.{steps_from}
use Rattle.script.proofs.steps.Given as goal

abbrev pub invariant-loop-i : goal.invariant-loop-i
invariant-loop-i l =
    let whole = steps_from l.count 1 l.text l.fn.c.at (store l.initial.room) in
    let rest = steps_from (l.count - l.i) (l.i + 1) l.text l.c.at (store l.room) in
    (sets l.out l.place rest.bytes ≡ sets l.initial.out l.start whole.bytes)
    × (l.place + length rest.bytes ≡ l.start + length whole.bytes)
    × (rest.store ≡ whole.store)
    × (length l.room ≡ size)
    × (well_formed (store l.room) ≡ true)
