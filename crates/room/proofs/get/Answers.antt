use Rattle.room.proofs.Named.{cell_within}
use Rattle.room.proofs.Words.{store_get}
use Rattle.room.specs.Named.{cell_of}
use Rattle.room.proofs.get.Goals as goal

pub returns : goal.returns
returns c = rw c.word_of.ensures.0 (store_get c.args.room.now (cell_of c.args.c) (cell_within c.args.c))
