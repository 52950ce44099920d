use Rattle.room.specs.Layout.{store}
use Rattle.replication.specs.Delivering.{all_parts}
use Rattle.replication.proofs.deliver.Goals as goal

pub returns : goal.returns
returns c =
    let a = c.args in
    let m = c.oldest-m.ensures in (
      rw (c.count.ensures, m),
      rw
          (c.free_place.ensures, c.deliver.ensures, c.updated-v.ensures, c.vector_of.ensures, m)
          (all_parts (store a.room.now) a.to.partition.index a.from.index a.to.hall.index a.from.below),
    )
