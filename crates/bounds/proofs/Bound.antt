-- "No timestamp passes 2^48 - 1 + 256; this is shown, so no step is turned away for it."
use Rattle.std.specs.Prelude.{◌≤◌}
use Rattle.std.proofs.Common.{arith}
use Rattle.book.specs.Sizes.{halls_max, partitions_max, reading_max, time_max}
use Rattle.book.specs.Cells.{Store, Reading}
use Rattle.book.specs.WellFormed.{time_bound}
use Rattle.book.specs.Reached.{Reached}
use Rattle.facts.specs.Tally.{prepared_most}
use Rattle.bounds.specs.Formed.{All2, Times, formed}
use Rattle.bounds.proofs.KeptSteps.{times_le}
use Rattle.bounds.proofs.WellFormedKept.{reached_well_formed}

-- in a reached store no reading passes 2^48 - 1 and no timestamp of any kind 2^48 - 1 + 256
pub bound : {σ : Store} → Reached σ → record { readings : All2 (◌≤ reading_max) σ Reading halls_max partitions_max; times : Times σ time_max }
bound {σ} r =
    let F = formed σ (reached_well_formed r) in
    let m = prepared_most σ in
    record { readings = F.reading; times = times_le σ (time_bound σ) _ (omega arith) F.times }
