use Rattle.std.proofs.Common.{length, ◌-◌, ◌≡◌}
use Rattle.std.proofs.lemmas.List.Edits.{sets}
use Rattle.scan.specs.Groups.{many_at}
use Rattle.scan.proofs.read_many.Given as goal

abbrev pub invariant-loop-number : goal.invariant-loop-number
invariant-loop-number l =
    let n = length l.initial.into in
    let i = l.number-index in
    (sets l.into i (many_at (n - i) l.text l.c.at).got ≡ sets l.initial.into 0 (many_at n l.text l.fn.c.at).got)
    × ((many_at (n - i) l.text l.c.at).end ≡ (many_at n l.text l.fn.c.at).end)
