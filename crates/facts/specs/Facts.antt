-- What a step that its ladder lets through may rely on: one record for each step, read off its ladder. The theorems and the code use the
-- same.
use Rattle.std.specs.Prelude.{ℕ, zero, suc, ◌≤◌, ◌<◌, Bool, true, false, cond, ◌&&◌, ◌||◌, ◌≡◌, refl, ◌⊎◌, eqb, leb}
use Rattle.std.proofs.Common.{inl, inr, arith, eqb-true, ltb-true, ltb-false, leb-true, leb-false, ne_eqb}
use Rattle.std.proofs.Math.Logic.{⊎_map}
use Rattle.std.proofs.lemmas.Bool.{eqb-false, not-true, not-false}
use Rattle.book.specs.Sizes.{halls_max, partitions_max, keys, places_max, slots, value_max, reading_max}
use Rattle.book.specs.Cells.{Store, Halls, Partitions, Sessions, Transactions, Reading, Status, idle, running, WriteSet, CommitTime, State, asked, prepared, Waiting}
use Rattle.book.specs.Cases.{and_true, passed}
use Rattle.book.specs.Folds.{any, all_at, any_false}
use Rattle.book.specs.Servers.{holds, partition_of, place_of}
use Rattle.book.specs.SessionSteps.{has_writes}
use Rattle.book.specs.ReplicationSteps.{sends_to}
use Rattle.book.specs.Refusals.{unused, all_prepared, tick_refusal, start_refusal, read_refusal, write_refusal, end_refusal, prepare_refusal, decide_refusal, commit_refusal, install_refusal, deliver_refusal, server_refusal, share_refusal, move_refusal}

pub record Ticks (σ : Store) (h p x : ℕ) : Type 0 where
  pub server : holds σ h p ≡ true
  pub most : x ≤ reading_max
  pub last : σ (Reading h p) ≤ x

pub record Starts (σ : Store) (s : ℕ) : Type 0 where
  pub there : s < σ Sessions
  pub rests : σ (Status s) ≡ idle

pub record Reads (σ : Store) (s k h : ℕ) : Type 0 where
  pub there : s < σ Sessions
  pub key : k < keys
  pub server : holds σ h (partition_of σ k) ≡ true
  pub runs : σ (Status s) ≡ running

pub record Writes (σ : Store) (s k v : ℕ) : Type 0 where
  pub there : s < σ Sessions
  pub key : k < keys
  pub value : v ≤ value_max
  pub runs : σ (Status s) ≡ running

pub record Ends (σ : Store) (s : ℕ) : Type 0 where
  pub there : s < σ Sessions
  pub runs : σ (Status s) ≡ running
  pub room : (has_writes σ s && leb places_max (σ Transactions)) ≡ false

-- transaction number n, and partition p of it
pub record Prepares (σ : Store) (n p : ℕ) : Type 0 where
  pub first : 1 ≤ n
  pub there : place_of n < σ Transactions
  pub partition : p < σ Partitions
  pub state : σ (State (place_of n) p) ≡ asked

pub record Decides (σ : Store) (n : ℕ) : Type 0 where
  pub first : 1 ≤ n
  pub there : place_of n < σ Transactions
  pub undecided : σ (CommitTime (place_of n)) ≡ 0
  pub states : (p : ℕ) → p < partitions_max → (σ (State (place_of n) p) ≡ 0) ⊎ (σ (State (place_of n) p) ≡ prepared)

pub record Commits (σ : Store) (n p : ℕ) : Type 0 where
  pub first : 1 ≤ n
  pub there : place_of n < σ Transactions
  pub partition : p < σ Partitions
  pub state : σ (State (place_of n) p) ≡ prepared
  pub decided : 0 < σ (CommitTime (place_of n))

pub record Installs (σ : Store) (h p : ℕ) : Type 0 where
  pub server : holds σ h p ≡ true
  pub room : (g : ℕ) → g < halls_max → sends_to σ h p g ≡ true → σ (Waiting g p h) < slots

pub record Delivers (σ : Store) (p f g : ℕ) : Type 0 where
  pub sender : holds σ f p ≡ true
  pub receiver : holds σ g p ≡ true
  pub apart : f ≡ g → ⊥
  pub some : 0 < σ (Waiting g p f)

-- Report and Learn
pub record Serves (σ : Store) (h p : ℕ) : Type 0 where
  pub server : holds σ h p ≡ true

pub record Shares (σ : Store) (f to : ℕ) : Type 0 where
  pub sender : f < σ Halls
  pub receiver : to < σ Halls

pub record Moves (σ : Store) (s h p : ℕ) : Type 0 where
  pub there : s < σ Sessions
  pub server : holds σ h p ≡ true
  pub rests : σ (Status s) ≡ idle

-- What a ladder that gives 0 says: none of its tests was passed. (A number that a rung gives is not 0, which is seen once the number is
-- written out.)
abbrev Given : ℕ → Type 0 → Type 0
Given zero A = Unit {0}
Given (suc n) A = A

rung : (b : Bool) (n r : ℕ) → cond b n r ≡ 0 → Given n (b ≡ false)
rung b zero r e = tt
rung b (suc n) r e = (passed b (suc n) r (omega arith) e).0

rest : (b : Bool) (n r : ℕ) → cond b n r ≡ 0 → Given n (r ≡ 0)
rest b zero r e = tt
rest b (suc n) r e = (passed b (suc n) r (omega arith) e).1

and_l : (a b : Bool) → (a && b) ≡ true → a ≡ true
and_l a b e = (and_true a b e).0

and_r : (a b : Bool) → (a && b) ≡ true → b ≡ true
and_r a b e = (and_true a b e).1

either : (a b : Bool) → (a || b) ≡ true → (a ≡ true) ⊎ (b ≡ true)
either true b e = inl refl
either false b e = inr e

ruleset ladder = (rung, rest, and_l, and_r, not-true, not-false, ltb-true, ltb-false, leb-true, leb-false, eqb-true, eqb-false)

module _ (σ : Store) where
  pub tick_facts : (h p x : ℕ) → tick_refusal σ h p x ≡ 0 → Ticks σ h p x
  tick_facts h p x e = search ladder

  pub start_facts : (s y z : ℕ) → start_refusal σ s y z ≡ 0 → Starts σ s
  start_facts s y z e = search ladder

  pub read_facts : (s k h : ℕ) → read_refusal σ s k h ≡ 0 → Reads σ s k h
  read_facts s k h e = search ladder

  pub write_facts : (s k v : ℕ) → write_refusal σ s k v ≡ 0 → Writes σ s k v
  write_facts s k v e = search ladder

  pub end_facts : (s y z : ℕ) → end_refusal σ s y z ≡ 0 → Ends σ s
  end_facts s y z e = search ladder

  -- what it does not use is 0
  pub end_alone : (s y z : ℕ) → end_refusal σ s y z ≡ 0 → (y ≡ 0) × (z ≡ 0)
  end_alone s y z e =
      let a : unused y ≡ true = search ladder in
      let b : unused z ≡ true = search ladder in
      (eqb-true y 0 a, eqb-true z 0 b)

  -- a transaction number that is there is one more than a place in use
  place_there : (n : ℕ) → leb n (σ Transactions) ≡ true → leb 1 n ≡ true → place_of n < σ Transactions
  place_there n a b =
      let x = leb-true n (σ Transactions) a in
      let y = leb-true 1 n b in
      omega arith

  pub prepare_facts : (n p z : ℕ) → prepare_refusal σ n p z ≡ 0 → Prepares σ n p
  prepare_facts n p z e = search (ladder, place_there)

  pub decide_facts : (n y z : ℕ) → decide_refusal σ n y z ≡ 0 → Decides σ n
  decide_facts n y z e =
      let t = place_of n in
      let undecided : σ (CommitTime t) ≤ 0 = search ladder in
      let every : all_prepared σ t ≡ true = search ladder in
      record {
        first = search ladder;
        there = search (ladder, place_there);
        undecided = omega arith;
        states = λ p l. ⊎_map (eqb-true _ _) (eqb-true _ _) (either (eqb (σ (State t p)) 0) _ (all_at partitions_max _ every p l));
      }

  pub commit_facts : (n p z : ℕ) → commit_refusal σ n p z ≡ 0 → Commits σ n p
  commit_facts n p z e = search (ladder, place_there)

  pub install_facts : (h p z : ℕ) → install_refusal σ h p z ≡ 0 → Installs σ h p
  install_facts h p z e =
      let full : ℕ → Bool = λ g. sends_to σ h p g && leb slots (σ (Waiting g p h)) in
      let none : any halls_max full ≡ false = search ladder in
      record {
        server = search ladder;
        room = λ g l c. leb-false slots (σ (Waiting g p h)) (rw c at (any_false halls_max full g l none));
      }

  pub deliver_facts : (p f g : ℕ) → deliver_refusal σ p f g ≡ 0 → Delivers σ p f g
  deliver_facts p f g e =
      let n : σ (Waiting g p f) ≡ 0 → ⊥ = search ladder in
      let some : 0 < σ (Waiting g p f) = omega arith in
      search ladder

  pub server_facts : (h p z : ℕ) → server_refusal σ h p z ≡ 0 → Serves σ h p
  server_facts h p z e = search ladder

  pub share_facts : (f to z : ℕ) → share_refusal σ f to z ≡ 0 → Shares σ f to
  share_facts f to z e = search ladder

  pub move_facts : (s h p : ℕ) → move_refusal σ s h p ≡ 0 → Moves σ s h p
  move_facts s h p e = search ladder

-- an end with writes has a place for them
pub room_left : (σ : Store) (s : ℕ) → Ends σ s → (σ (WriteSet s) ≡ 0 → ⊥) → σ Transactions < places_max
room_left σ s f n = leb-false places_max (σ Transactions) (rw (ne_eqb (σ (WriteSet s)) 0 n) at f.room)
