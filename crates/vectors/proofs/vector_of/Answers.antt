use Rattle.std.proofs.Common.{◌≡◌, arith}
use Rattle.book.specs.Sizes.{halls_max}
use Rattle.room.specs.Layout.{store}
use Rattle.vectors.specs.Vectors.{entries_none, entries_next}
use Rattle.vectors.proofs.vector_of.Goals as goal

pub loop-f-init : goal.loop-f-init
loop-f-init c = let s = c.args.s in entries_none (store c.args.room.now) s.hall.index s.partition.index

pub loop-f-preserved : goal.loop-f-preserved
loop-f-preserved c = rw (entries_next, ← c.loop-f.invariant, ← c.new.ensures, ← c.get.ensures)

pub returns : goal.returns
returns c = let l = c.loop-f in
    let e : l.f ≡ halls_max = omega arith in
    rw (c.holders.ensures, rw e at l.invariant)
