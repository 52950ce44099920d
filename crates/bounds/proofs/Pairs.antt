-- "For each transaction and each partition it writes, exactly one state holds .. Their numbers add up to the pairs ever asked."
use Rattle.std.specs.Prelude.{ℕ, zero, suc, ◌+◌, ◌≤◌, ◌<◌, Bool, true, false, cond, ◌&&◌, ◌≡◌, refl, ◌↔◌, [], ◌∷◌, eqb, ltb}
use Rattle.std.proofs.Common.{ap, sym, ◌∙◌, le_trans, arith, ltb-true, ltb-false, lt-ltb, le-ltb, eqb-true}
use Rattle.book.specs.Sets.{lt_suc}
use Rattle.book.specs.Servers.{place_of}
use Rattle.book.specs.Sizes.{places_max, partitions_max}
use Rattle.book.specs.Cells.{Store, ◌⟨◌≔◌⟩, Partitions, Transactions, WriteSet, KeySet, State, asked, prepared, waiting, installed}
use Rattle.book.specs.Cases.{by_test, by_eq, by_cell, and_true}
use Rattle.book.specs.Folds.{count}
use Rattle.book.specs.SessionSteps.{touches, ask}
use Rattle.book.specs.ReplicationSteps.{installs, install}
use Rattle.book.specs.Reached.{Reached}
use Rattle.facts.specs.Step.{Step, Writing, over, by_reached}
use Rattle.facts.specs.Tally.{one, count_sum, sum_eq, sum_add, sum_cut}
use Rattle.facts.specs.Setup.{good_setup_lem}
use Rattle.bounds.specs.Formed.{formed}
use Rattle.bounds.proofs.WellFormedKept.{reached_well_formed}
use Rattle.bounds.specs.Pairs.{pairs_in, pairs_asked, Stated}

module _ (σ : Store) (I : Stated σ) where
  ask_stated : (s : ℕ) → Stated (ask σ s)
  ask_stated s u p =
      let t = σ Transactions in
      by_eq t u
      (λ q c. rw (c, lt-ltb u (suc t) (omega arith))
      (by_test (touches σ (σ (WriteSet s)) p)
      (λ d. rw d)
      (λ d. rw d (I u p ∙ rw (le-ltb u t (omega arith))))))
      (λ q c. rw (c, lt_suc u t q) (I u p))

  -- a state that goes on to another
  put_stated : (t p v : ℕ) → 0 < σ (State t p) → 0 < v → Stated (σ ⟨ State t p ≔ v ⟩)
  put_stated t p v l m u q =
      by_cell (State t p) (State u q)
      (λ k c. rw (c, lt-ltb 0 v m) (sym (lt-ltb 0 (σ (State u q)) (rw (← k.i, ← k.j) l)) ∙ I u q))
      (λ c. rw c (I u q))

  install_stated : (h p : ℕ) → Stated (install σ h p)
  install_stated h p t q =
      by_test (eqb p q && installs σ h p t)
      (λ c. let a = and_true (eqb p q) _ c in
      let e = eqb-true (σ (State t p)) 3 (and_true (eqb (σ (State t p)) 3) _ a.1).0 in
      let f : σ (State t q) ≡ 3 = rw (← eqb-true p q a.0) e in
      rw c (sym (lt-ltb 0 (σ (State t q)) (omega arith)) ∙ I t q))
      (λ c. rw c (I t q))

step_stated : (σ : Store) → Stated σ → {τ : Store} → Writing σ (Partitions ∷ Transactions ∷ KeySet 0 ∷ State 0 0 ∷ []) τ → Stated τ
step_stated σ I (Step.asks s f q) = ask_stated σ I s
step_stated σ I (Step.prepares n p f) = put_stated σ I (place_of n) p 2 (omega arith) (omega arith)
step_stated σ I (Step.commits n p f) = put_stated σ I (place_of n) p 3 (omega arith) (omega arith)
step_stated σ I (Step.installs h p f) = install_stated σ I h p

pub reached_stated : {σ : Store} → Reached σ → Stated σ
reached_stated =
    by_reached Stated (λ masks homes e t p. rw (le-ltb t 0 (omega arith))) (λ σ r I τ x. over Stated x (step_stated σ I) I)

-- a number from 0 to 4 is just one of 1, 2, 3 and 4, or 0
one_of : (x : ℕ) → x ≤ 4 → one (eqb x 1) + (one (eqb x 2) + (one (eqb x 3) + one (eqb x 4))) ≡ one (ltb 0 x)
one_of zero l = refl
one_of (suc zero) l = refl
one_of (suc (suc zero)) l = refl
one_of (suc (suc (suc zero))) l = refl
one_of (suc (suc (suc (suc zero)))) l = refl
one_of (suc (suc (suc (suc (suc x))))) l = absurd (omega arith)

limit_most : (b : Bool) → cond b 4 0 ≤ 4
limit_most true = omega arith
limit_most false = omega arith

module _ (σ : Store) (r : Reached σ) where
  at_most : (t p : ℕ) → t < places_max → p < partitions_max → σ (State t p) ≤ 4
  at_most t p i j = le_trans ((formed σ (reached_well_formed r)).state t p i j) (limit_most (ltb t (σ Transactions)))

  -- how many pairs of transaction t have a state
  abbrev row : ℕ → ℕ
  row t = count partitions_max (λ p. ltb t (σ Transactions) && touches σ (σ (KeySet t)) p)

  row_cut : (t : ℕ) → σ Transactions ≤ t → row t ≡ 0
  unfolding count
  row_cut t l = rw (le-ltb t (σ Transactions) l)

  -- "Their numbers add up to the pairs ever asked."
  pub pairs_add_up : pairs_in σ asked + (pairs_in σ prepared + (pairs_in σ waiting + pairs_in σ installed)) ≡ pairs_asked σ
  pairs_add_up =
      let F = formed σ (reached_well_formed r) in
      let T = σ Transactions in
      simp sum_add
      (sum_eq places_max _ row (λ t i. simp (count_sum, sum_add)
      (sum_eq partitions_max _ _ (λ p j. one_of (σ (State t p)) (at_most t p i j) ∙ ap one (reached_stated r t p))))
      ∙ (sum_cut places_max T row F.places (λ t i j. row_cut t i)
      ∙ sum_eq T row _ (λ t i. rw (lt-ltb t T i))))

  -- "exactly one state holds": a pair that a transaction writes has one of the four, and any other has none
  pub one_state : (t p : ℕ) → t < σ Transactions → p < σ Partitions
      → (touches σ (σ (KeySet t)) p ≡ true ↔ ((asked ≤ σ (State t p)) × (σ (State t p) ≤ installed)))
      × (touches σ (σ (KeySet t)) p ≡ false → σ (State t p) ≡ 0)
  one_state t p l m =
      let F = formed σ (reached_well_formed r) in
      let U = good_setup_lem σ F.setup in
      let x = at_most t p (omega (arith, F.places)) (omega arith) in
      let e : ltb 0 (σ (State t p)) ≡ touches σ (σ (KeySet t)) p = rw (lt-ltb t (σ Transactions) l) at (reached_stated r t p) in (
        (λ w. (ltb-true 0 (σ (State t p)) (e ∙ w), x), λ w. sym e ∙ lt-ltb 0 (σ (State t p)) w.0),
        λ w. let z = ltb-false 0 (σ (State t p)) (e ∙ w) in omega arith,
      )
