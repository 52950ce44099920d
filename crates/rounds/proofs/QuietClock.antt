-- A quiet install: taken whatever waits in its channels, and no cell of a reached store moves.
use Rattle.std.specs.Prelude.{ℕ, false, ◌≡◌, eqb}
use Rattle.std.proofs.Math.Bool.{and-false}
use Rattle.std.proofs.Common.{arith}
use Rattle.book.specs.Sizes.{places_max}
use Rattle.book.specs.Cells.{Store, Entry}
use Rattle.book.specs.Cases.{by_test, by_eq}
use Rattle.book.specs.Folds.{count_none}
use Rattle.book.specs.ReplicationSteps.{version_clock, installs, number_installed, is_quiet}
use Rattle.invariant.specs.Inv.{Inv}
use Rattle.invariant.proofs.Install.{installs_is, installs_above}

module _ (σ : Store) (I : Inv σ) (h p : ℕ) where
  -- a waiting transaction is above the version clock, so where that stays none is installed
  pub none : version_clock σ h p ≡ σ (Entry h p h) → (t : ℕ) → installs σ h p t ≡ false
  none stays t =
      by_test (installs σ h p t)
      (λ c. let m = installs_is σ h p t c in
      let w = installs_above σ I h p t c in
      absurd (omega arith))
      (λ c. c)

  -- so the clock alone tells
  pub by_clock : is_quiet σ h p ≡ eqb (version_clock σ h p) (σ (Entry h p h))
  by_clock =
      by_eq (version_clock σ h p) (σ (Entry h p h))
      (λ q c. rw (c, count_none places_max (installs σ h p) (none q)))
      (λ q c. rw c (and-false (eqb (number_installed σ h p) 0)))
