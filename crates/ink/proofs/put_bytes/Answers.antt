use Rattle.std.proofs.Common.{refl, arith, rules, ◌≡◌, ◌+◌, ◌-◌, length, append_assoc, drop-drop}
use Rattle.std.proofs.lemmas.List.{places}
use Rattle.std.proofs.lemmas.List.Edits.{sets-eq}
use Rattle.ink.proofs.put_bytes.Goals as goal

pub returns : goal.returns
returns c =
    let out = c.args.out.now in
    let at = c.args.at in
    let s = c.args.s.now in
    let part : at + length s - at ≡ length s = omega arith in
    record {
      list = rw (part, sets-eq s out at c.requires.enough, append_assoc, c.copy_from_slice.ensures.after) (rw drop-drop);
      place = refl;
      size = search (rules, places);
    }
