use Rattle.std.proofs.Common.{◌≡◌}
use Rattle.room.specs.Layout.{store}
use Rattle.replication.specs.Sending.{sent_below}
use Rattle.replication.proofs.send_to_all.Given as goal

abbrev pub invariant-loop-g : goal.invariant-loop-g
invariant-loop-g l = store l.room ≡ sent_below (store l.initial.room) l.s.hall.index l.s.partition.index l.m.clock.0 l.m.set l.g
