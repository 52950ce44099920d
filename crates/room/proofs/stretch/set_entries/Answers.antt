use Rattle.std.proofs.Common.{true, ◌≡◌, refl, sym, arith, rules}
use Rattle.book.specs.Sizes.{halls_max}
use Rattle.book.specs.Cells.{Entry}
use Rattle.room.specs.Bulk.{row3k, begin, puts}
use Rattle.room.specs.Stretch.{local}
use Rattle.room.proofs.stretch.set_entries.Goals as goal

pub loop-g-init : goal.loop-g-init
loop-g-init c = let s = c in
    (search rules, (c.told-part, λ h p hh hp. sym (begin (row3k (Entry 0 0 0).kind h p) _ _ (local h p s.args.part.now))))

pub loop-g-preserved : goal.loop-g-preserved
loop-g-preserved c = let i = c.loop-g in
    let e = c.set_entry.ensures in (
      search rules,
      (
        e.0,
        λ h p hh hp. rw (e.1 h p hh hp, c.new.ensures, i.invariant.1.1 h p hh hp)
            (puts (row3k (Entry 0 0 0).kind h p) (λ d. true) _ i.g _ refl),
      ),
    )

pub returns : goal.returns
returns c = let i = c.loop-g in
    let e : i.g ≡ halls_max = omega arith in
    rw e at i.invariant.1
