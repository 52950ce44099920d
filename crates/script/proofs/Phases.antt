-- What the phases' proofs stand on.
use Rattle.std.specs.Prelude.{ℕ, ◌+◌, ◌*◌, List, ◌++◌, ◌≡◌, refl, length}
use Rattle.std.proofs.Common.{arith, length-append}
use Rattle.std.proofs.Math.Seq.{length-sets}
use Rattle.std.proofs.lemmas.Bool.Decides.{nat_tests}
use Rattle.std.proofs.lemmas.List.{append-nil}
use Rattle.std.proofs.lemmas.List.Edits.{sets}
use Rattle.bounds.proofs.WellFormedKept.{setup_formed}
use Rattle.room.proofs.Lay.{length_lay}
use Rattle.scan.specs.Groups.{stored}
use Rattle.scan.specs.Sections.{SectionWithin, section_at, section_within}
use Rattle.ink.specs.Written.{then}
use Rattle.script.specs.Printout.{steps_turn, steps_end, counted_is, sessions_is, halls_is, outcome_is}

-- where no text is bad, a section's numbers are there, as many as fit
pub section_inside : (most each : ℕ) (text : List ℕ) (at : ℕ)
    → let x = section_at most each text at in SectionWithin (most * each) (at + length text) x.got x.end
section_inside most each text at = section_within text (at + length text) (omega arith) most each at (omega arith)

-- bytes written after bytes
pub sets_on : (out : List ℕ) (at : ℕ) (xs : List ℕ) (next : ℕ) (ys : List ℕ) → next ≡ at + length xs
    → sets (sets out at xs) next ys ≡ sets out at (xs ++ ys)
sets_on out at xs next ys e =
    (then {out = out} {xs = xs} {at = at} (record { list = refl; place = e; size = length-sets out at xs })
    (record { list = refl; place = refl; size = length-sets (sets out at xs) next ys })).list

pub ruleset lines = (sets_on, append-nil, length-append, nat_tests)

pub ruleset taking = (lines, steps_turn, steps_end)

pub ruleset sections = (sessions_is, halls_is, section_inside, stored, length-sets)

pub ruleset counting = (counted_is, outcome_is, nat_tests)

pub ruleset beginning = (lines, length_lay, setup_formed)
