use Rattle.std.proofs.Common.{refl, sym, ◌∙◌, arith, rules}
use Rattle.servers.specs.Turns.{first_none, first_here, first_on}
use Rattle.servers.proofs.writing_hall.Invariants.{held}
use Rattle.servers.proofs.writing_hall.Goals.{then-left-eq0, else-left-eq0+then-holds}
use Rattle.servers.proofs.writing_hall.Goals as goal

pub loop-left-init : goal.loop-left-init
loop-left-init c = (omega arith, refl)

pub loop-left-preserved : goal.loop-left-preserved
loop-left-preserved c = let l = c.loop-left in
    let a = c.args in
    let e = sym c.holds.ensures ∙ c.if-holds.false in (
      search rules,
      rw (c.hall_after-h.ensures.0, ← (first_on (held a.room.now a.p) _ l.left l.h (omega arith) e)) l.invariant.1,
    )

pub returns : goal.returns
returns c = let l = c.loop-left in
    let found = held c.args.room.now c.args.p in
    let e = rw (c.get-halls.ensures, c.get-h.ensures) at l.invariant.1 in
    c.new.ensures ∙ (elim c.if-left-eq0.branch [
      | then-left-eq0 w ↦ w.w-is ∙ sym (first_none found _ l.h) ∙ rw (w.if-left-eq0.true, c.get-halls.ensures, c.get-h.ensures) at l.invariant.1
      | else-left-eq0+then-holds w ↦ w.w-is ∙ sym (first_here found _ l.left l.h (omega arith) (sym w.holds.ensures ∙ w.if-holds.true)) ∙ e
    ])
