use Rattle.std.proofs.Common.{◌≡◌, sym, ◌∙◌, arith}
use Rattle.book.specs.Sizes.{keys}
use Rattle.room.specs.Layout.{store}
use Rattle.commits.specs.Cache.{cached_none, cached_puts, cached_skips, cached_all}
use Rattle.commits.proofs.move_to_cache.Goals.{then-has, else-has}
use Rattle.commits.proofs.move_to_cache.Goals as goal

pub loop-k-init : goal.loop-k-init
loop-k-init c = cached_none _ _ _ _ _

pub loop-k-preserved : goal.loop-k-preserved
loop-k-preserved c = let a = c.args in
    let l = c.loop-k in
    elim c.if-has.branch [
      | then-has w ↦
          rw (w.room-is, w.put-then-has.ensures, w.put.ensures, w.get-v.ensures, w.new-key.ensures, l.invariant)
          (cached_puts a.t.index _ _ _ l.k (store a.room.now) (sym c.has.ensures ∙ w.if-has.true))
      | else-has w ↦
          rw (w.room-is, l.invariant)
          (cached_skips a.t.index _ a.time.0 _ l.k (store a.room.now) (sym c.has.ensures ∙ w.if-has.false))
    ]

pub returns : goal.returns
returns c = let a = c.args in
    let l = c.loop-k in
    let e : l.k ≡ keys = omega arith in
    let key_set = c.get-keys in
    rw e at l.invariant ∙ cached_all a.t.index _ a.time.0 _ (store a.room.now) key_set.ensures (rw key_set.ensures c.requires)
