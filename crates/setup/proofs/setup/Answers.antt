use Rattle.std.proofs.Common.{sym, ap, ◌∙◌, rules}
use Rattle.room.specs.Lay.{lay}
use Rattle.room.proofs.Lay.{lay_store}
use Rattle.setup.specs.SetUp.{other_size, odd_homes, bad_numbers, good_numbers}
use Rattle.setup.specs.Rows.{zeros_store}
use Rattle.setup.proofs.setup.Goals as goal

pub returns-then-room-ne-SIZE : goal.returns-then-room-ne-SIZE
returns-then-room-ne-SIZE c = let a = c.args in other_size a.room.now a.masks.now a.homes.now c.if-room-ne-SIZE.true

pub returns-then-homes-ne0 : goal.returns-then-homes-ne0
returns-then-homes-ne0 c = let a = c.args in odd_homes a.room.now a.masks.now a.homes.now c.if-room-ne-SIZE.false c.if-homes-ne0.true

pub lay_out-requires : goal.lay_out-requires
lay_out-requires c = zeros_store

pub returns-then-not-good_setup : goal.returns-then-not-good_setup
returns-then-not-good_setup c = let a = c.args in
    bad_numbers a.room.now a.masks.now a.homes.now c.if-room-ne-SIZE.false c.if-homes-ne0.false
    (rw c.lay_out.ensures at (sym c.good_setup.ensures ∙ c.if-not-good_setup.true))

pub returns : goal.returns
returns c =
    let a = c.args in
    let laid = c.lay_out.ensures in
    rw (c.get-partitions.ensures, c.all_servers.ensures, laid, c.copy_from_slice.ensures.after ∙ sym (lay_store _ (search rules)) ∙ ap lay laid)
    (good_numbers a.room.now a.masks.now a.homes.now c.if-room-ne-SIZE.false c.if-homes-ne0.false
    (rw laid at (sym c.good_setup.ensures ∙ c.if-not-good_setup.false)))
