-- Install: the channels and the versions held after it.
use Rattle.std.specs.Prelude.{ℕ, suc, ◌+◌, ◌%◌, ◌≤◌, ◌<◌, true, false, ◌&&◌, not, ◌≡◌, eqb, ltb}
use Rattle.std.proofs.Common.{true≢false, sym, ◌∙◌, inr, le_trans, le_refl, arith, eqb-true, eq-eqb, ne_eqb, lt-ltb}
use Rattle.std.proofs.Math.Logic.{⊎_map}
use Rattle.std.proofs.lemmas.Bool.{eqb-false, not-true}
use Rattle.book.specs.Sizes.{halls_max, places_max, slots}
use Rattle.book.specs.Cells.{Store, Entry, Held, CommitTime, installed, First, Waiting}
use Rattle.book.specs.Cases.{by_test, by_eq, by_cell, and_true, eqb_refl, at_same}
use Rattle.book.specs.Sets.{member, set_of, member_set_of}
use Rattle.book.specs.Servers.{holds, partition_of, writer}
use Rattle.book.specs.ReplicationSteps.{version_clock, installs, number_installed, is_quiet, sends_to, outgoing, slot_of, next_slot, install}
use Rattle.invariant.specs.Inv.{clock_at, set_at, Channels, Holding, Writes, Inv}
use Rattle.facts.specs.Setup.{server_small}
use Rattle.invariant.proofs.Clocks.{state_stays}
use Rattle.invariant.proofs.Install.{installs_is, has_place, install_other, installs_above, clock_grows, install_grown}

-- slots of one ring: the next is none of those in use
slot_old : (a i c : ℕ) → i < c → c < slots → eqb ((a + c) % slots) ((a + i) % slots) ≡ false
slot_old a i c l b = ne_eqb ((a + c) % slots) ((a + i) % slots) (λ (e : (a + c) % slots ≡ (a + i) % slots). omega arith)

-- a quiet install leaves the version clock; so one that moves it is not quiet
pub quiet_clock : (σ : Store) (h p : ℕ) → is_quiet σ h p ≡ true → version_clock σ h p ≡ σ (Entry h p h)
quiet_clock σ h p e = eqb-true (version_clock σ h p) (σ (Entry h p h)) (and_true (eqb (number_installed σ h p) 0) _ e).1

loud : (σ : Store) (h p : ℕ) → σ (Entry h p h) < version_clock σ h p → is_quiet σ h p ≡ false
loud σ h p l =
    by_test (is_quiet σ h p)
    (λ c. let q = quiet_clock σ h p c in absurd (omega arith))
    (λ c. c)

-- whom a message goes to
pub sends_to_is : (σ : Store) (h p g : ℕ) → sends_to σ h p g ≡ true → (h ≡ g → ⊥) × (holds σ g p ≡ true)
sends_to_is σ h p g e =
    let c = and_true (not (eqb h g)) _ (and_true (not (is_quiet σ h p)) _ e).1 in
    (eqb-false h g (not-true (eqb h g) c.0), c.1)

pub sends_to_i : (σ : Store) (h p g : ℕ) → is_quiet σ h p ≡ false → (h ≡ g → ⊥) → holds σ g p ≡ true → sends_to σ h p g ≡ true
sends_to_i σ h p g q n e = rw (q, ne_eqb h g n, e)

pub outgoing_is : (σ : Store) (h p g q f : ℕ) → outgoing σ h p g q f ≡ true → (p ≡ q) × (h ≡ f) × (sends_to σ h p g ≡ true)
outgoing_is σ h p g q f e =
    let a = and_true (eqb p q) _ e in
    let b = and_true (eqb h f) _ a.1 in
    (eqb-true _ _ a.0, eqb-true _ _ b.0, b.1)

pub outgoing_i : (σ : Store) (h p g q f : ℕ) → p ≡ q → h ≡ f → sends_to σ h p g ≡ true → outgoing σ h p g q f ≡ true
outgoing_i σ h p g q f a b c = rw (eq-eqb p q a, eq-eqb h f b, c)

-- a quiet install sends none
pub quiet_silent : (σ : Store) (h p : ℕ) → is_quiet σ h p ≡ true → (g q f : ℕ) → outgoing σ h p g q f ≡ false
quiet_silent σ h p e g q f =
    by_test (outgoing σ h p g q f)
    (λ c. absurd (true≢false (sym e ∙ not-true (is_quiet σ h p) (and_true (not (is_quiet σ h p)) _ (outgoing_is σ h p g q f c).2).0)))
    (λ c. c)

module _ (σ : Store) (I : Inv σ) (h p : ℕ) (room : (g : ℕ) → g < halls_max → sends_to σ h p g ≡ true → σ (Waiting g p h) < slots) where
  has_room : (g q f : ℕ) → outgoing σ h p g q f ≡ true → σ (Waiting g q f) < slots
  has_room g q f e =
      let o = outgoing_is σ h p g q f e in
      rw (← o.0, ← o.1) (room g (server_small σ I.setup g p (sends_to_is σ h p g o.2).1).0 o.2)

  -- a message that waited is where it was
  old_place : (g q f i : ℕ) → i < σ (Waiting g q f) → (outgoing σ h p g q f && eqb (next_slot σ g q f) (slot_of σ g q f i)) ≡ false
  old_place g q f i l =
      by_test (outgoing σ h p g q f)
      (λ c. rw c (slot_old (σ (First g q f)) i (σ (Waiting g q f)) l (has_room g q f c)))
      (λ c. rw c)

  old_clock : (g q f i : ℕ) → i < σ (Waiting g q f) → clock_at (install σ h p) g q f i ≡ clock_at σ g q f i
  old_clock g q f i l = rw (old_place g q f i l)

  old_set : (g q f i : ℕ) → i < σ (Waiting g q f) → set_at (install σ h p) g q f i ≡ set_at σ g q f i
  old_set g q f i l = rw (old_place g q f i l)

  -- a message that waits after it is an old one or the one that it adds
  by_message : {G : Type 0} (g q f i : ℕ) → i < install σ h p (Waiting g q f)
      → (i < σ (Waiting g q f) → clock_at (install σ h p) g q f i ≡ clock_at σ g q f i → set_at (install σ h p) g q f i ≡ set_at σ g q f i → G)
      → (i ≡ σ (Waiting g q f) → p ≡ q → h ≡ f → clock_at (install σ h p) g q f i ≡ version_clock σ h p
      → set_at (install σ h p) g q f i ≡ set_of places_max (installs σ h p) → G)
      → G
  by_message g q f i l old new =
      by_test (outgoing σ h p g q f)
      (λ c. let l' : i < suc (σ (Waiting g q f)) = rw c at l in
      let o = outgoing_is σ h p g q f c in
      by_eq i (σ (Waiting g q f))
      (λ e _. let s : eqb (next_slot σ g q f) (slot_of σ g q f i) ≡ true = rw e (eqb_refl (next_slot σ g q f)) in
      new e o.0 o.1 (rw (c, s)) (rw (c, s)))
      (λ e _. old (omega arith) (old_clock g q f i (omega arith)) (old_set g q f i (omega arith))))
      (λ c. let l' : i < σ (Waiting g q f) = rw c at l in old l' (old_clock g q f i l') (old_set g q f i l'))

  -- where no message goes to another holder, neither has the sender's version clock moved
  own_stays : (g q f : ℕ) → (f ≡ g → ⊥) → holds σ g q ≡ true → outgoing σ h p g q f ≡ false → install σ h p (Entry f q f) ≡ σ (Entry f q f)
  own_stays g q f n k o =
      by_cell (Entry h p h) (Entry f q f)
      (λ r c. by_test (is_quiet σ h p)
      (λ z. rw (c, ← r.i, ← r.j) (quiet_clock σ h p z))
      (λ z. let x = outgoing_i σ h p g q f r.j r.i (sends_to_i σ h p g z (rw r.i n) (rw r.j k)) in
      absurd (true≢false (sym x ∙ o))))
      (λ c. rw c)

  pub install_channels : Channels (install σ h p)
  install_channels = record {
    seen = λ g q f.
        by_cell (Entry h p h) (Entry g q f)
        (λ r c. let e : g ≡ f = sym r.i ∙ r.k in rw e (le_refl _))
        (λ c. rw c (le_trans (I.channels.seen g q f) (install_grown σ I h p f q f)));
    low = λ g q f i n l.
        rw (install_other σ h p g q f n)
        (by_message g q f i l
        (λ l' c s. rw c (I.channels.low g q f i n l'))
        (λ e a b c s. let x : σ (Entry g q f) ≤ σ (Entry h p h) = rw (a, b) (I.channels.seen g q f) in
        rw c (le_trans x (clock_grows σ I h p))));
    high = λ g q f i n l.
        by_message g q f i l
        (λ l' c s. rw c (le_trans (I.channels.high g q f i n l') (install_grown σ I h p f q f)))
        (λ e a b c s. rw (c, ← a, ← b, at_same (Entry h p h)) (le_refl _));
    order = λ g q f i j n l m.
        by_message g q f j m
        (λ m' c s. rw (c, old_clock g q f i (omega arith)) (I.channels.order g q f i j n l m'))
        (λ e a b c s. let l' : i < σ (Waiting g q f) = omega arith in
        let x : clock_at σ g q f i ≤ σ (Entry h p h) = rw (a, b) (I.channels.high g q f i n l') in
        rw (c, old_clock g q f i l') (le_trans x (clock_grows σ I h p)));
    fresh = λ g q f i t n l e.
        rw (install_other σ h p g q f n)
        (by_message g q f i l
        (λ l' c s. I.channels.fresh g q f i t n l' (rw s at e))
        (λ _ a b c s. let x : σ (Entry g q f) ≤ σ (Entry h p h) = rw (a, b) (I.channels.seen g q f) in
        let y = moving t (rw s at e) in
        omega arith));
    later = λ g q f i j t n l m e.
        by_message g q f j m
        (λ m' c s. rw (old_clock g q f i (omega arith)) (I.channels.later g q f i j t n l m' (rw s at e)))
        (λ r a b c s. let l' : i < σ (Waiting g q f) = omega arith in
        let x : clock_at σ g q f i ≤ σ (Entry h p h) = rw (a, b) (I.channels.high g q f i n l') in
        let y = moving t (rw s at e) in
        rw (old_clock g q f i l') (omega arith));
    heard = λ g q f n k w.
        by_test (outgoing σ h p g q f)
        (λ o. let w' = rw o at w in absurd (omega arith))
        (λ o. rw (own_stays g q f n k o, install_other σ h p g q f n) (I.channels.heard g q f n k (rw o at w)));
    newest = λ g q f i n k w.
        by_test (outgoing σ h p g q f)
        (λ o. let w' : suc i ≡ suc (σ (Waiting g q f)) = rw o at w in
        by_message g q f i (omega arith)
        (λ l c s. absurd (omega arith))
        (λ e a b c s. rw (c, ← a, ← b, at_same (Entry h p h)) (le_refl _)))
        (λ o. let w' : suc i ≡ σ (Waiting g q f) = rw o at w in
        rw (own_stays g q f n k o, old_clock g q f i (omega arith)) (I.channels.newest g q f i n k w'));
  }
    where
      moving : (t : ℕ) → member (set_of places_max (installs σ h p)) t ≡ true → σ (Entry h p h) < σ (CommitTime t)
      moving t e =
          installs_above σ I h p t (and_true (ltb t places_max) _ (sym (member_set_of places_max (installs σ h p) t) ∙ e)).1

  held_grows : (h' p' t : ℕ) → σ (Held h' p' t) ≡ 1 → install σ h p (Held h' p' t) ≡ 1
  held_grows h' p' t e = by_test (eqb h h' && (eqb p p' && installs σ h p t)) (λ c. rw c) (λ c. rw c e)

  count_grows : (g q f : ℕ) → σ (Waiting g q f) ≤ install σ h p (Waiting g q f)
  count_grows g q f = by_test (outgoing σ h p g q f) (λ c. rw c (omega arith)) (λ c. rw c (omega arith))

  pub install_holding : Holding (install σ h p)
  install_holding = record {
    home = λ t p' e.
        by_test (eqb p p' && installs σ h p t)
        (λ c. let a = and_true (eqb p p') _ c in
        let w : h ≡ writer σ t p' = rw (← eqb-true p p' a.0) (sym (installs_is σ h p t a.1).1) in
        rw (eq-eqb h (writer σ t p') w, c))
        (λ c. held_grows (writer σ t p') p' t (I.holding.home t p' (rw c at e)));
    away = λ t p' g e k n.
        by_test (eqb p p' && installs σ h p t)
        (λ c. let a = and_true (eqb p p') _ c in
        let q = eqb-true p p' a.0 in
        let m = installs_is σ h p t a.1 in
        let w : h ≡ writer σ t p' = rw (← q) (sym m.1) in
        let z : is_quiet σ h p ≡ false = let x = installs_above σ I h p t a.1 in loud σ h p (omega arith) in
        let o = outgoing_i σ h p g p' (writer σ t p') q w (sends_to_i σ h p g z (λ x. n (sym w ∙ x)) (rw q k)) in
        let b = has_place σ I t p (omega arith) in
        inr (
          σ (Waiting g p' (writer σ t p')),
          rw o (omega arith),
          rw (o, eqb_refl (next_slot σ g p' (writer σ t p')), member_set_of places_max (installs σ h p) t, lt-ltb t places_max b) a.1,
        ))
        (λ c. ⊎_map
        (held_grows g p' t)
        (λ (i, l, m). (i, le_trans l (count_grows g p' (writer σ t p')), rw (old_set g p' (writer σ t p') i l) m))
        (I.holding.away t p' g (rw c at e) k n));
    done = λ h' p' t e.
        by_test (eqb h h' && (eqb p p' && installs σ h p t))
        (λ c. let a = and_true (eqb p p') _ (and_true (eqb h h') _ c).1 in
        let w = (installs_is σ h p t a.1).0 in
        I.states.late t p (omega arith))
        (λ c. I.holding.done h' p' t (rw c at e));
  }

  pub install_writes : Writes (install σ h p)
  install_writes = record {
    from = I.writes.from;
    written = λ t k b e. state_stays (eqb p (partition_of σ k) && installs σ h p t) installed _ (omega arith) (I.writes.written t k b e);
  }
