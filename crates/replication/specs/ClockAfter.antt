-- The clock of a server after an install.
use Rattle.std.specs.Prelude.{ℕ, ◌-◌, ◌≤◌, max, cond, ◌≡◌}
use Rattle.std.specs.Option.{ForSome, is_some, unwrap_or}
use Rattle.std.specs.declared.option.Option.{Option}
use Rattle.std.specs.declared.option.Option.TheVariants.{Some, None}
use Rattle.std.proofs.Common.{true≢false, sym, ap, subst, eqb-true}
use Rattle.book.specs.declared.Clock.{Clock}
use Rattle.book.specs.declared.Timestamp.{Timestamp}
use Rattle.book.specs.Sizes.{places_max}
use Rattle.book.specs.Cells.{Store, Reading, State, prepared, Proposed}
use Rattle.book.specs.Cases.{by_test, and_true}
use Rattle.book.specs.Folds.{lowest, lowest_ge}
use Rattle.book.specs.ReplicationSteps.{prepared_at, has_prepared, version_clock, hybrid_after}
use Rattle.clocks.specs.Clocks.{clock, clock_of}
use Rattle.vectors.specs.Vectors.{time}
use Rattle.replication.specs.Safe.{AllTimely}

-- the lowest proposed time of those that are prepared at server (h, p), if there are any
abbrev pub lowest_proposed : Store → ℕ → ℕ → Option Timestamp
lowest_proposed σ h p =
    cond (has_prepared σ h p) (Some (time (lowest places_max (prepared_at σ h p) (λ t. σ (Proposed t p))))) None

-- what is prepared was proposed a time above 0, so the lowest of them is above 0
pub lowest_above : (σ : Store) (h p : ℕ) (o : Option Timestamp) → AllTimely σ p → o ≡ lowest_proposed σ h p → ForSome o (λ l. 1 ≤ l.0)
lowest_above σ h p o T m =
    rw m
    (by_test (has_prepared σ h p)
    (λ a. rw a (λ x q. subst (λ o. 1 ≤ (unwrap_or o (time 0)).0) q
    (lowest_ge places_max (prepared_at σ h p) (λ t. σ (Proposed t p)) 1 a
    (λ t l e. T.proposed t l (eqb-true (σ (State t p)) prepared (and_true _ _ e).0)))))
    (λ a. rw a (λ x q. absurd (true≢false (sym (ap is_some q))))))

-- "version clock = lowest proposed time - 1; else hybrid clock and version clock both become the larger of reading and hybrid clock"
abbrev pub installed_clock : Clock → Option Timestamp → Clock
installed_clock c (Some l) = clock c.reading.0 c.hybrid.0 (l.0 - 1)
installed_clock c None = clock c.reading.0 (max c.reading.0 c.hybrid.0) (max c.reading.0 c.hybrid.0)

-- which is the book's clock after an install
pub clock_after : (σ : Store) (h p : ℕ)
    → installed_clock (clock_of σ h p) (lowest_proposed σ h p) ≡ clock (σ (Reading h p)) (hybrid_after σ h p) (version_clock σ h p)
clock_after σ h p = by_test (has_prepared σ h p) (λ e. rw e) (λ e. rw e)
