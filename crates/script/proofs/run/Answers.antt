use Rattle.std.specs.Prelude.{◌≡◌, false, leb, length}
use Rattle.std.proofs.Common.{rules, arith}
use Rattle.std.proofs.Math.Bool.{and-false}
use borrow.Author.Tests.{leb-true}
use Rattle.book.specs.Cases.{by_test}
use Rattle.script.specs.Length.{capacity}
use Rattle.script.specs.Run.{all_lent, not_lent}
use Rattle.script.proofs.run.Goals as goal

pub returns-then-out-lt-CAPACITY : goal.returns-then-out-lt-CAPACITY
returns-then-out-lt-CAPACITY c =
    let least = leb capacity (length c.args.out.now) in
    let short : least ≡ false = by_test least (λ e. absurd (omega (arith, leb-true _ _ e, c.if-out-lt-CAPACITY.true))) (λ e. e) in
    rw (← c.in-Some.ensures.cases.same) (not_lent _ _ _ (rw short (and-false _)))

pub returns : goal.returns
returns c = rw (← c.in-Some.ensures.cases.same) (all_lent _ _ _ (search rules) c.if-out-lt-CAPACITY.false c.print.ensures)
