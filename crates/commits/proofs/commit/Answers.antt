use Rattle.room.specs.Layout.{store}
use Rattle.clocks.specs.Clocks.{hybrid_alone}
use Rattle.commits.proofs.commit.Goals as goal

pub returns : goal.returns
returns c = let e = rw (c.take.ensures, c.get.ensures) at c.after_commit-c.ensures in
    let back = hybrid_alone (store c.args.room.now) c.writing_hall.result.index c.args.p.index c.after_commit-c.result (rw e) (rw e) in (
      rw (e, c.writing_hall.ensures),
      rw (c.put.ensures, c.put_back.ensures, back, e, c.writing_hall.ensures),
    )
