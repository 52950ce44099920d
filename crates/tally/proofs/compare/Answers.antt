use Rattle.std.proofs.Common.{rules, ◌≡◌}
use Rattle.std.specs.List.{position, zip}
use Rattle.std.proofs.lemmas.Iterator.{YieldsList-from_slice, YieldsList-from_zip}
use Rattle.std.proofs.lemmas.Iterator.Search.{position_from_yields_List}
use borrow.Author.Tests.{tests}
use Rattle.tally.proofs.Unequal.{unequal, compared_zip}
use Rattle.tally.proofs.compare.Goals as goal

pub returns : goal.returns
returns c =
    let a = c.args.a.now in
    let b = c.args.b.now in
    let pairs = YieldsList-from_zip {s = c.zip.result} (YieldsList-from_slice a cc) (YieldsList-from_slice b cc) in
    let found : c.position.result ≡ position unequal (zip a b) =
    position_from_yields_List unequal c.position.new.self _ _ c.position.ensures.ran pairs (λ x b q k. search (rules, tests)) in
    rw (compared_zip a b, ← found) cc
