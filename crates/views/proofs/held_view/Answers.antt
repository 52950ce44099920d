use Rattle.std.proofs.Common.{◌≡◌, refl, sym, ◌∙◌, arith}
use Rattle.book.specs.Sizes.{places_max}
use Rattle.book.specs.Views.{merge_all, merge_nothing}
use Rattle.room.specs.Loops.{merge_all_next}
use Rattle.views.proofs.held_view.Goals.{then-visible, else-visible}
use Rattle.views.proofs.held_view.Goals as goal

pub loop-t-init : goal.loop-t-init
unfolding merge_all
loop-t-init c = refl

pub loop-t-preserved : goal.loop-t-preserved
loop-t-preserved c =
    rw (merge_all_next, ← c.loop-t.invariant)
    (elim c.if-visible.branch [
      | then-visible w ↦ rw (w.view-is, ← c.new-place.ensures, ← c.visible.ensures, w.if-visible.true) (w.merge-view.ensures ∙ rw w.version_at.ensures)
      | else-visible w ↦ rw (w.view-is, ← c.new-place.ensures, ← c.visible.ensures, w.if-visible.false) (sym (merge_nothing c.loop-t.view))
    ])

pub returns : goal.returns
returns c = let e : c.loop-t.t ≡ places_max = omega arith in rw e at c.loop-t.invariant
