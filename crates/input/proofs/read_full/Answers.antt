use Rattle.std.proofs.Common.{arith}
use Rattle.input.proofs.Reading.{consumes_both, front_more}
use Rattle.input.proofs.read_full.Goals as goal

pub loop-done-preserved : goal.loop-done-preserved
loop-done-preserved g c =
    let l = c.loop-done.invariant in
    let r = c.in_ok-n.ensures in (
      omega arith,
      rw (front_more c.loop-done.done c.in_ok-n.n _ c.loop-done.bytes c.read.new.buf (omega arith) r.bound.0)
          (consumes_both _ _ _ _ _ l.1 r.bytes.0),
    )
