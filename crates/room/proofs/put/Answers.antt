use Rattle.room.proofs.Named.{cell_within}
use Rattle.room.proofs.Words.{store_set}
use Rattle.room.specs.Named.{cell_of}
use Rattle.room.proofs.put.Goals as goal

pub returns : goal.returns
returns c = rw c.word_of.ensures.0 (store_set c.args.room.now (cell_of c.args.c) c.args.v c.told-room (cell_within c.args.c))
