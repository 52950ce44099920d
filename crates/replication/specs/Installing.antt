-- The transactions that an install installs, as a set.
use Rattle.std.specs.Prelude.{ℕ, zero, suc, ◌<◌, ◌≤◌, Bool, true, false, ◌&&◌, ◌≡◌, refl, List, eqb, ltb, leb}
use Rattle.std.proofs.Common.{◌∙◌, arith, ltb-false, lt-ltb, le-ltb}
use Rattle.book.specs.Sizes.{places_max}
use Rattle.book.specs.Cells.{Store, each2, CommitTime, State, waiting, installed}
use Rattle.book.specs.Cases.{by_test, by_eq}
use Rattle.book.specs.Folds.{count}
use Rattle.book.specs.Sets.{member, set_of, member_set_of, size}
use Rattle.book.specs.Servers.{writer}
use Rattle.book.specs.ReplicationSteps.{installs}
use Rattle.room.specs.Layout.{store}
use Rattle.room.proofs.Words.{store_beyond}

-- how many of the first n pass does not go by what the others do
count_same : (n : ℕ) (f g : ℕ → Bool) → ((t : ℕ) → t < n → f t ≡ g t) → count n f ≡ count n g
unfolding count
count_same zero f g e = refl
count_same (suc n) f g e = rw (e n (omega arith), count_same n f g (λ t l. e t (omega arith)))

-- nor by those from n on, where none of them passes
count_past : (m n : ℕ) (f : ℕ → Bool) → n ≤ m → ((t : ℕ) → n ≤ t → f t ≡ false) → count m f ≡ count n f
unfolding count
count_past zero n f l e = let q : n ≡ 0 = omega arith in rw q
count_past (suc m) n f l e =
    by_eq n (suc m) (λ q _. rw q) (λ q _. rw (e m (omega (arith, q))) (count_past m n f (omega (arith, q)) e))

-- a set has as many as pass
pub size_set_of : (ok : ℕ → Bool) → size (set_of places_max ok) ≡ count places_max ok
size_set_of ok =
    count_past _ places_max (member (set_of places_max ok)) (omega arith) (λ t l. rw (member_set_of places_max ok t, le-ltb t places_max l))
    ∙ count_same places_max (member (set_of places_max ok)) ok (λ t l. rw (member_set_of places_max ok t, lt-ltb t places_max l))

-- "Every waiting transaction with commit time at or below the version clock", v
abbrev pub due : Store → ℕ → ℕ → ℕ → ℕ → Bool
due σ h p v t = eqb (σ (State t p)) waiting && (eqb (writer σ t p) h && leb (σ (CommitTime t)) v)

-- the tests of `due`, the first two of them together
pub both_first : (a b x : Bool) → (a && (b && x)) ≡ ((a && b) && x)
both_first true b x = refl
both_first false b x = refl

-- the set's transactions installed for p
abbrev pub marked : ℕ → ℕ → Store → Store
marked p m σ = each2 State (λ t q. eqb p q && (ltb t places_max && member m t)) (λ t q. installed) σ

module _ (r : List ℕ) (h p : ℕ) where
  -- a room has no transaction past its places
  none_beyond : (t : ℕ) → places_max ≤ t → installs (store r) h p t ≡ false
  none_beyond t l = rw (store_beyond r (State t p) (λ w. omega (arith, w.1)))

  -- so the set says of every number whether it is installed
  pub in_set : (t : ℕ) → (ltb t places_max && member (set_of places_max (installs (store r) h p)) t) ≡ installs (store r) h p t
  in_set t =
      rw (member_set_of places_max (installs (store r) h p) t)
      (by_test (ltb t places_max)
      (λ e. rw e)
      (λ e. rw (e, none_beyond t (ltb-false t places_max e))))
