use Rattle.std.proofs.Common.{◌&&◌, ◌≡◌}
use Rattle.book.specs.Views.{merge_all, version, versions_of, wrote_by}
use Rattle.room.specs.Layout.{store}
use Rattle.views.proofs.held_view.Given as goal

abbrev pub invariant-loop-t : goal.invariant-loop-t
invariant-loop-t l = l.view ≡ merge_all l.t (λ u. versions_of (store l.room) l.fn.h.index l.k.index u && wrote_by (store l.room) l.k.index l.snapshot.0 u) (version (store l.room) l.k.index)
