-- "every step keeps it", and it is "true of every room reached from setup"
use Rattle.std.specs.Prelude.{ℕ, ◌%◌, Bool, true, false, cond, ◌&&◌, ◌≡◌, refl, List, eqb, length}
use Rattle.std.proofs.Common.{⊎_elim, arith}
use Rattle.book.specs.Cells.{Store}
use Rattle.book.specs.Cases.{and_true}
use Rattle.book.specs.Setup.{good_setup, first_store, setup_refusal}
use Rattle.book.specs.WellFormed.{well_formed}
use Rattle.book.specs.Reached.{Reached}
use Rattle.facts.specs.Setup.{good_setup_lem}
use Rattle.bounds.specs.Formed.{formed, well_formed_lem}
use Rattle.book.specs.Steps.{after}
use Rattle.facts.specs.Step.{step_or_same}
use Rattle.bounds.proofs.StepFormed.{step_formed}

-- Whatever the four numbers, taken or turned away: a well formed store stays well formed.
pub well_formed_kept : (σ : Store) (code a b c : ℕ) → well_formed σ ≡ true → well_formed (after σ code a b c) ≡ true
well_formed_kept σ code a b c w =
    ⊎_elim
    (λ x. well_formed_lem (after σ code a b c) (step_formed σ (formed σ w) x))
    (λ q. rw q w)
    (step_or_same σ code a b c)

not_refused : (b : Bool) → ◌≡◌ {A = ℕ} (cond b 0 2) 0 → b ≡ true
not_refused true e = refl
not_refused false e = absurd (omega arith)

pub setup_good : (masks homes : List ℕ) → setup_refusal masks homes ≡ 0 → good_setup (first_store masks homes) ≡ true
unfolding setup_refusal
setup_good masks homes e =
    let pairs = eqb (length homes % 2) 0 in
    (and_true pairs _ (not_refused (pairs && good_setup (first_store masks homes)) e)).1

-- a good setup's store is well formed
pub setup_formed : (masks homes : List ℕ) → setup_refusal masks homes ≡ 0 → well_formed (first_store masks homes) ≡ true
setup_formed masks homes e =
    let σ = first_store masks homes in
    let good = setup_good masks homes e in
    let U = good_setup_lem σ good in
    well_formed_lem σ (search arith)

-- "true of every room reached from setup"
pub reached_well_formed : {σ : Store} → Reached σ → well_formed σ ≡ true
reached_well_formed (Reached.begun masks homes e) = setup_formed masks homes e
reached_well_formed (Reached.onward {σ} r code a b c) = well_formed_kept σ code a b c (reached_well_formed r)
