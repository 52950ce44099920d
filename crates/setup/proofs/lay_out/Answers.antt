use Rattle.std.proofs.Common.{◌≡◌, ap, ◌∙◌, arith}
use Rattle.book.specs.Sizes.{halls_max, sessions_max}
use Rattle.book.specs.Cells.{Halls, Sessions, Mask, HomeHall, HomePartition}
use Rattle.book.specs.Updates.{upd}
use Rattle.book.specs.Setup.{numbers_set}
use Rattle.room.specs.Layout.{store}
use Rattle.setup.specs.Numbers.{cells, cells_done, hall_of, partition_of, mask_of}
use Rattle.setup.proofs.lay_out.Goals as goal

pub returns : goal.returns
returns c =
    let masks = c.args.masks.now in
    let homes = c.args.homes.now in
    let s : c.loop-s.s ≡ sessions_max = omega arith in
    let t : c.loop-s-2.s ≡ sessions_max = omega arith in
    let h : c.loop-h.h ≡ halls_max = omega arith in
    let counted = c.put-2.ensures ∙ upd Sessions _ (c.put.ensures ∙ upd Halls _ c.requires) in
    let parted = rw s at c.loop-s.invariant ∙ cells_done (HomePartition 0).kind sessions_max (partition_of homes) _ in
    let housed = rw t at c.loop-s-2.invariant ∙ cells_done (HomeHall 0).kind sessions_max (hall_of homes) _ in
    let masked = rw h at c.loop-h.invariant ∙ cells_done (Mask 0).kind halls_max (mask_of masks) _ in
    let numbers : store c.loop-h.fresh ≡ numbers_set masks homes =
    masked ∙ ap (cells (Mask 0).kind halls_max (mask_of masks))
    (housed ∙ ap (cells (HomeHall 0).kind sessions_max (hall_of homes)) (parted ∙ ap (cells (HomePartition 0).kind sessions_max (partition_of homes)) counted)) in
    rw (c.put-3.ensures, c.partitions_held-held.ensures, numbers)
