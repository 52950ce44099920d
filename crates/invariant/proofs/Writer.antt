-- The writing hall is a holder.
use Rattle.std.specs.Prelude.{ℕ, zero, suc, ◌+◌, ◌≤◌, ◌<◌, Bool, true, ◌≡◌, leb}
use Rattle.std.proofs.lemmas.Bool.{false≢true}
use Rattle.std.proofs.Common.{sym, ◌∙◌, arith, leb-true, leb-false}
use Rattle.book.specs.Cells.{Store, Halls, Partitions, From}
use Rattle.book.specs.Cases.{by_test}
use Rattle.book.specs.Servers.{holds, holds_hall, first_from, writer}
use Rattle.invariant.specs.Inv.{Inv}

-- if hall h passes and is among the n halls looked at, one that passes is found
found : (ok : ℕ → Bool) (halls h n c : ℕ) → ok h ≡ true → h < halls → c < halls
    → (c ≤ h → h < c + n) → (h < c → h + halls < c + n) → ok (first_from ok halls n c) ≡ true
unfolding first_from
found ok halls h zero c e a b f g =
    absurd (by_test (leb c h)
    (λ l. let x = leb-true c h l in let y = f x in omega arith)
    (λ l. let x = leb-false c h l in let y = g x in omega arith))
found ok halls h (suc n) c e a b f g =
    by_test (ok c) (λ y. rw y y)
    (λ y. let d : c ≡ h → ⊥ = λ q. let z : ok c ≡ true = rw q e in false≢true (sym y ∙ z) in
    rw y (by_test (leb halls (suc c))
    (λ l. let x = leb-true halls (suc c) l in
    rw l (found ok halls h n 0 e a (omega arith) (λ _. let z = g (omega arith) in omega arith) (λ u. absurd (omega arith))))
    (λ l. let x = leb-false halls (suc c) l in
    rw l (found ok halls h n (suc c) e a x (λ u. let z = f (omega arith) in omega arith) (λ u. let z = g (omega arith) in omega arith)))))

pub writer_holds : (σ : Store) → Inv σ → (t p : ℕ) → p < σ Partitions → holds σ (writer σ t p) p ≡ true
writer_holds σ I t p b =
    let w = I.setup.covered p b in
    found (λ h. holds σ h p) (σ Halls) w.0 (σ Halls) (σ (From t)) w.1 (holds_hall σ w.0 p w.1) (I.writes.from t)
    (λ x. let l = holds_hall σ w.0 p w.1 in omega arith) (λ x. omega arith)
