use Rattle.std.proofs.Common.{◌≡◌, sym, arith, rules}
use Rattle.book.specs.Sizes.{places_max}
use Rattle.book.specs.Cells.{Held}
use Rattle.book.specs.Sets.{member}
use Rattle.room.specs.Bulk.{row3k, begin, ahead, next}
use Rattle.room.specs.Stretch.{local}
use Rattle.room.proofs.stretch.hold_all.Goals as goal

pub loop-t-init : goal.loop-t-init
loop-t-init c = let s = c in
    (search rules, (c.told-part, λ h p hh hp. sym (begin (row3k (Held 0 0 0).kind h p) _ _ (local h p s.args.part.now))))

pub loop-t-preserved : goal.loop-t-preserved
loop-t-preserved c = let a = c.args in
    let i = c.loop-t in
    let e = c.hold_if.ensures in (
      search rules,
      (
        e.0,
        λ h p hh hp. let R = row3k (Held 0 0 0).kind h p in
            let σ = local h p a.part.now in
            rw
            (e.1 h p hh hp, c.new.ensures, c.has.ensures, i.invariant.1.1 h p hh hp, ahead R (λ d. member a.set d.k) (λ d. 1) i.t i.t σ (omega arith))
            (next R (λ d. member a.set d.k) (λ d. 1) i.t σ),
      ),
    )

pub returns : goal.returns
returns c = let i = c.loop-t in
    let e : i.t ≡ places_max = omega arith in
    rw e at i.invariant.1
