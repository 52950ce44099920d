use Rattle.std.proofs.Common.{sym}
use Rattle.servers.specs.Holders.{none_beyond}
use Rattle.servers.proofs.holds.Goals as goal

pub returns-then-h-ge-HALLS_MAX : goal.returns-then-h-ge-HALLS_MAX
returns-then-h-ge-HALLS_MAX c = let a = c.args in sym (none_beyond a.room.now a.h a.p c.if-h-ge-HALLS_MAX.true)
