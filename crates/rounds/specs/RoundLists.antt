-- The five groups of a full round can be listed, so the round is no empty word.
use Rattle.std.specs.Prelude.{ℕ, zero, suc, ◌+◌, ◌<◌, Bool, true, false, cond, ◌&&◌, ◌≡◌, refl, List, [], ◌∷◌, ◌++◌, eqb, ltb}
use Rattle.std.proofs.Common.{sym, ◌∙◌, arith, lt-ltb, le-ltb, ltb-true, ltb-false, eqb-true, eq-eqb}
use Rattle.book.specs.Cells.{Store, Halls}
use Rattle.book.specs.Servers.{holds}
use Rattle.book.specs.Cases.{by_test, by_eq, and_true}
use Rattle.book.specs.Reached.{Reached}
use Rattle.facts.specs.Calls.{Call, call, same_call, same_call_lem, times, EachOnce}
use Rattle.rounds.specs.Round.{at_server, in_channel, with_message, between_halls}
use Rattle.invariant.proofs.Reach.{reached_inv}
use Rattle.facts.specs.Setup.{server_small}

-- f's lists for n - 1, .. 1, 0, one after another
unfoldable up_to : ℕ → (ℕ → List Call) → List Call
up_to zero f = []
up_to (suc n) f = f n ++ up_to n f

-- x where it passes
abbrev one : (Call → Bool) → Call → List Call
one ok x = cond (ok x) (x ∷ []) []

-- all that pass with this code and three numbers below 4
abbrev box : (Call → Bool) → ℕ → List Call
box ok n = up_to 4 (λ a. up_to 4 (λ b. up_to 4 (λ c. one ok (call n a b c))))

times_append : (x : Call) (l m : List Call) → times x (l ++ m) ≡ times x l + times x m
unfolding times
times_append x [] m = omega arith
times_append x (y ∷ l) m =
    let ih = times_append x l m in
    by_test (same_call y x) (λ e. rw (e, ih) (omega arith)) (λ e. rw (e, ih))

nothing_either_way : (b : Bool) → ◌≡◌ {A = ℕ} (cond b 0 0) 0
nothing_either_way true = refl
nothing_either_way false = refl

-- where f's list for v alone has x, and k times
up_times : (x : Call) (f : ℕ → List Call) (v k : ℕ) → ((i : ℕ) → times x (f i) ≡ cond (eqb i v) k 0)
    → (n : ℕ) → times x (up_to n f) ≡ cond (ltb v n) k 0
unfolding up_to times
up_times x f v k h zero = rw (le-ltb v 0 (omega arith))
up_times x f v k h (suc n) =
    let ih = up_times x f v k h n in
    rw (times_append x (f n) (up_to n f), h n, ih)
    (by_eq n v
    (λ q e. rw (e, le-ltb v n (omega arith), lt-ltb v (suc n) (omega arith)) (omega arith))
    (λ q e. by_test (ltb v n)
    (λ l. let b = ltb-true v n l in rw (e, l, lt-ltb v (suc n) (omega arith)) (omega arith))
    (λ l. let b = ltb-false v n l in rw (e, l, le-ltb v (suc n) (omega arith)))))

once : (ok : Call → Bool) (x y : Call) → times x (one ok y) ≡ cond (same_call y x) (cond (ok x) 1 0) 0
unfolding times
once ok x y =
    by_test (same_call y x)
    (λ e. let q = same_call_lem y x e in
    by_test (ok y)
    (λ o. let o' : ok x ≡ true = rw q at o in rw (o, o', e))
    (λ o. let o' : ok x ≡ false = rw q at o in rw (o, o', e)))
    (λ e. by_test (ok y) (λ o. rw (o, e)) (λ o. rw (o, e)))

-- four tests joined, one after another from the last
apart : (p q r s : Bool) (k : ℕ) → cond (p && (q && (r && s))) k 0 ≡ cond s (cond r (cond q (cond p k 0) 0) 0) 0
apart true true true s k = refl
apart true true false s k = sym (nothing_either_way s)
apart true false r s k = sym (rw (nothing_either_way r) (nothing_either_way s))
apart false q r s k = sym (rw (nothing_either_way q, nothing_either_way r) (nothing_either_way s))

swap : (p q : Bool) (k : ℕ) → cond p (cond q k 0) 0 ≡ cond q (cond p k 0) 0
swap true q k = refl
swap false q k = sym (nothing_either_way q)

module _ (ok : Call → Bool) (n : ℕ) (x : Call) where
  -- once, where x passes and has this code
  abbrev due : ℕ
  due = cond (eqb n x.code) (cond (ok x) 1 0) 0

  times_c : (a b : ℕ)
      → times x (up_to 4 (λ c. one ok (call n a b c))) ≡ cond (eqb b x.b) (cond (ltb x.c 4) (cond (eqb a x.a) due 0) 0) 0
  times_c a b =
      up_times x (λ c. one ok (call n a b c)) x.c (cond (eqb b x.b) (cond (eqb a x.a) due 0) 0)
      (λ c. once ok x (call n a b c) ∙ apart (eqb n x.code) (eqb a x.a) (eqb b x.b) (eqb c x.c) (cond (ok x) 1 0)) 4
      ∙ swap (ltb x.c 4) (eqb b x.b) _

  times_b : (a : ℕ)
      → times x (up_to 4 (λ b. up_to 4 (λ c. one ok (call n a b c)))) ≡ cond (eqb a x.a)
      (cond (ltb x.b 4) (cond (ltb x.c 4) due 0) 0) 0
  times_b a =
      up_times x (λ b. up_to 4 (λ c. one ok (call n a b c))) x.b (cond (ltb x.c 4) (cond (eqb a x.a) due 0) 0) (times_c a) 4
      ∙ (rw (swap (ltb x.c 4) (eqb a x.a) due) (swap (ltb x.b 4) (eqb a x.a) _))

  box_times : times x (box ok n) ≡ cond (ltb x.a 4) (cond (ltb x.b 4) (cond (ltb x.c 4) due 0) 0) 0
  box_times = up_times x (λ a. up_to 4 (λ b. up_to 4 (λ c. one ok (call n a b c)))) x.a _ times_b 4

-- what passes has this code and three numbers below 4
abbrev Boxed : (Call → Bool) → ℕ → Type 0
Boxed ok n = (x : Call) → ok x ≡ true → (n ≡ x.code) × (x.a < 4) × (x.b < 4) × (x.c < 4)

box_each : (ok : Call → Bool) (n : ℕ) → Boxed ok n → EachOnce ok (box ok n)
box_each ok n f x =
    by_test (ok x)
    (λ o. let w = f x o in
    box_times ok n x ∙ rw (o, lt-ltb x.a 4 w.1, lt-ltb x.b 4 w.2, lt-ltb x.c 4 w.3, eq-eqb n x.code w.0))
    (λ o. box_times ok n x
    ∙ (rw (o, nothing_either_way (eqb n x.code), nothing_either_way (ltb x.c 4), nothing_either_way (ltb x.b 4))
    (nothing_either_way (ltb x.a 4))))

module _ {σ : Store} (r : Reached σ) where
  at_servers : (n : ℕ) → Boxed (at_server σ n) n
  at_servers n x e =
      let w = and_true (eqb x.code n) _ e in
      let v = and_true (holds σ x.a x.b) _ w.1 in
      let U = (reached_inv r).setup in
      let z = eqb-true x.c 0 v.1 in
      (sym (eqb-true _ _ w.0), (server_small σ U x.a x.b v.0).0, (server_small σ U x.a x.b v.0).1, omega arith)

  in_channels : Boxed (in_channel σ) 10
  in_channels x e =
      let w = and_true (eqb x.code 10) _ e in
      let v = and_true (holds σ x.b x.a) _ w.1 in
      let u = and_true (holds σ x.c x.a) _ v.1 in
      let U = (reached_inv r).setup in (
        sym (eqb-true _ _ w.0),
        (server_small σ U x.b x.a v.0).1,
        (server_small σ U x.b x.a v.0).0,
        (server_small σ U
            x.c x.a u.0).0,
      )

  between : Boxed (between_halls σ) 12
  between x e =
      let w = and_true (eqb x.code 12) _ e in
      let v = and_true (ltb x.a (σ Halls)) _ w.1 in
      let u = and_true (ltb x.b (σ Halls)) _ v.1 in
      let a = ltb-true x.a (σ Halls) v.0 in
      let b = ltb-true x.b (σ Halls) u.0 in
      let z = eqb-true x.c 0 u.1 in
      let m = (reached_inv r).setup.halls in
      (sym (eqb-true _ _ w.0), omega arith, omega arith, omega arith)

  -- each of the five groups has a list with each of its steps once
  pub round_lists : (n : ℕ) → record {
    servers : (l : List Call) × EachOnce (at_server σ n) l;
    channels : (τ : Store) → (l : List Call) × EachOnce (with_message σ τ) l;
    halls : (l : List Call) × EachOnce (between_halls σ) l;
  }
  round_lists n = record {
    servers = (box (at_server σ n) n, box_each _ n (at_servers n));
    channels = λ τ. (box (with_message σ τ) 10, box_each (with_message σ τ) 10 (λ x e. in_channels x (and_true (in_channel σ x) _ e).0));
    halls = (box (between_halls σ) 12, box_each _ 12 between);
  }
