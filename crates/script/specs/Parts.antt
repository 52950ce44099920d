-- The numbers of a section, once they are read: the front of the array that they were stored in.
use Rattle.std.specs.Prelude.{ℕ, ◌+◌, ◌*◌, ◌≤◌, List, Ok, ◌≡◌, length, take}
use Rattle.std.proofs.Common.{ap, ◌∙◌, arith}
use Rattle.std.proofs.lemmas.List.Edits.{sets}
use Rattle.std.proofs.Math.Seq.{length-sets}
use Rattle.scan.specs.declared.Cursor.{Cursor}
use Rattle.scan.specs.Groups.{stored}
use Rattle.scan.specs.Sections.{Section, section_at, section_within}

pub front : (most each : ℕ) (text : List ℕ) (at : ℕ) (into : List ℕ) {late : List ℕ} {x : Section} {n : ℕ} {p : Cursor}
    → most * each ≤ length into → late ≡ sets into 0 (section_at most each text at).got → x ≡ (section_at most each text at).end → x ≡ Ok (n, p)
    → (n ≤ length late) × (take n late ≡ (section_at most each text at).got)
front most each text at into {late} {x} {n} {p} h e f g =
    let w : (length (section_at most each text at).got ≡ n) × (n ≤ most * each) × (p.at ≤ at + length text) =
    rw (← f, g) at (section_within text (at + length text) (omega arith) most each at (omega arith)) in
    let l : length late ≡ length into = ap length e ∙ length-sets into 0 (section_at most each text at).got in
    (omega arith, rw e (stored into (section_at most each text at).got n w.0 (omega arith)))
