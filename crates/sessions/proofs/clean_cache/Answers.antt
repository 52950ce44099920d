use Rattle.std.proofs.Common.{◌≡◌, ◌∙◌, arith}
use Rattle.book.specs.Sizes.{keys}
use Rattle.sessions.specs.Starting.{cleaned_done}
use Rattle.sessions.proofs.clean_cache.Goals as goal

pub returns : goal.returns
returns c = let a = c.args in
    let e : c.loop-k.k ≡ keys = omega arith in
    rw e at c.loop-k.invariant ∙ cleaned_done a.room.now a.s.index a.snapshot.0
