use Rattle.std.proofs.Common.{◌≡◌}
use Rattle.book.specs.Sizes.{halls_max, sessions_max}
use Rattle.book.specs.Cells.{Mask, HomeHall, HomePartition}
use Rattle.room.specs.Layout.{store}
use Rattle.setup.specs.Numbers.{cells_to, hall_of, partition_of, mask_of}
use Rattle.setup.proofs.lay_out.Given as goal

abbrev pub invariant-loop-s : goal.invariant-loop-s
invariant-loop-s l = store l.fresh ≡ cells_to (HomePartition 0).kind sessions_max (partition_of l.homes) l.s (store l.initial.fresh)

abbrev pub invariant-loop-s-2 : goal.invariant-loop-s-2
invariant-loop-s-2 l = store l.fresh ≡ cells_to (HomeHall 0).kind sessions_max (hall_of l.homes) l.s (store l.initial.fresh)

abbrev pub invariant-loop-h : goal.invariant-loop-h
invariant-loop-h l = store l.fresh ≡ cells_to (Mask 0).kind halls_max (mask_of l.masks) l.h (store l.initial.fresh)
