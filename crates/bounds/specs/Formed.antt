-- What a well formed store has: the yes or no of `well_formed` as plain facts.
use Rattle.std.specs.Prelude.{ℕ, zero, suc, ◌≤◌, ◌<◌, ◌^◌, Bool, true, false, cond, ◌&&◌, ◌≡◌, refl, eqb, ltb, leb}
use Rattle.std.proofs.Common.{arith, eqb-true, eq-eqb, leb-true, leb-false, ltb-true, ltb-false, le-leb, lt-ltb, le-ltb}
use Rattle.book.specs.Sizes.{halls_max, partitions_max, sessions_max, keys, places_max, slots, reading_max}
use Rattle.book.specs.Cells.{Cell, Store, Halls, Sessions, Transactions, Reading, Hybrid, Stable, Entry, Status, Snapshot, LastCommit, WriteSet, ReadSet, CacheTime, By, From, CommitTime, KeySet, State, Proposed, First, Waiting, ClockSent, Note, Shared}
use Rattle.book.specs.Cases.{by_test, and_true, and_i, implies, implies_true}
use Rattle.book.specs.Folds.{all, all_at, all_i}
use Rattle.book.specs.Setup.{good_setup}
use Rattle.book.specs.Servers.{holds, first_from, writer}
use Rattle.book.specs.WellFormed.{time_bound, channel_ok, server_ok, session_ok, pair_ok, transaction_ok, shared_ok, well_formed}
use Rattle.facts.specs.Setup.{good_setup_lem}

-- P holds of the cells c i, c i j, .. with i below l, j below m, ..
abbrev pub All1 : (ℕ → Type 0) → Store → (ℕ → Cell) → ℕ → Type 0
All1 P σ c l = (i : ℕ) → i < l → P (σ (c i))

abbrev pub All2 : (ℕ → Type 0) → Store → (ℕ → ℕ → Cell) → ℕ → ℕ → Type 0
All2 P σ c l m = (i j : ℕ) → i < l → j < m → P (σ (c i j))

abbrev pub All3 : (ℕ → Type 0) → Store → (ℕ → ℕ → ℕ → Cell) → ℕ → ℕ → ℕ → Type 0
All3 P σ c l m n = (i j k : ℕ) → i < l → j < m → k < n → P (σ (c i j k))

-- every timestamp is at most b
abbrev pub Times : Store → ℕ → Type 0
Times σ b = record {
  hybrid : All2 (◌≤ b) σ Hybrid halls_max partitions_max;
  stable : All2 (◌≤ b) σ Stable halls_max partitions_max;
  entry : All3 (◌≤ b) σ Entry halls_max partitions_max halls_max;
  snapshot : All1 (◌≤ b) σ Snapshot sessions_max;
  last : All1 (◌≤ b) σ LastCommit sessions_max;
  cached : All2 (◌≤ b) σ CacheTime sessions_max keys;
  commit : All1 (◌≤ b) σ CommitTime places_max;
  proposed : All2 (◌≤ b) σ Proposed places_max partitions_max;
  sent : (g p f n : ℕ) → g < halls_max → p < partitions_max → f < halls_max → n < slots → σ (ClockSent g p f n) ≤ b;
  note : All2 (◌≤ b) σ Note halls_max partitions_max;
  shared : All2 (◌≤ b) σ Shared halls_max halls_max;
}

abbrev pub Formed : Store → Type 0
Formed σ = record {
  setup : good_setup σ ≡ true;
  times : Times σ (time_bound σ);
  reading : All2 (◌≤ reading_max) σ Reading halls_max partitions_max;
  first : All3 (◌< slots) σ First halls_max partitions_max halls_max;
  waiting : All3 (◌≤ slots) σ Waiting halls_max partitions_max halls_max;
  status : All1 (◌≤ 2) σ Status sessions_max;
  writes : All1 (◌< 2 ^ keys) σ WriteSet sessions_max;
  reads : All1 (◌< 2 ^ keys) σ ReadSet sessions_max;
  places : σ Transactions ≤ places_max;
  session : All1 (◌< σ Sessions) σ By places_max;
  hall : All1 (◌< σ Halls) σ From places_max;
  undecided : (t : ℕ) → t < places_max → σ Transactions ≤ t → σ (CommitTime t) ≡ 0;
  keys : All1 (◌< 2 ^ keys) σ KeySet places_max;
  state : (t p : ℕ) → t < places_max → p < partitions_max → σ (State t p) ≤ cond (ltb t (σ Transactions)) 4 0;
  prepared : (t p : ℕ) → t < places_max → p < partitions_max → σ (State t p) ≡ 2 → 1 ≤ σ (Proposed t p);
}

and_l : (a b : Bool) → (a && b) ≡ true → a ≡ true
and_l a b e = (and_true a b e).0

and_r : (a b : Bool) → (a && b) ≡ true → b ≡ true
and_r a b e = (and_true a b e).1

-- a limit of b, or of 0 where the test fails
limit : (c : Bool) (b n : ℕ) → n ≤ cond c b 0 → n ≤ b
limit true b n l = l
limit false b n l = omega arith

-- from a test that joins tests to a part of it, and to what that says
ruleset parts = (and_l, and_r, leb-true, ltb-true)

-- the facts of a store that passes
pub formed : (σ : Store) → well_formed σ ≡ true → Formed σ
unfolding well_formed
formed σ w =
    let b = time_bound σ in
    let servers : all halls_max (λ h. all partitions_max (λ p. server_ok σ b h p)) ≡ true = search parts in
    let sessions : all sessions_max (λ s. session_ok σ b s) ≡ true = search parts in
    let transactions : all places_max (λ t. transaction_ok σ b t) ≡ true = search parts in
    let notes : all halls_max (λ to. all halls_max (λ f. shared_ok σ b to f)) ≡ true = search parts in
    let server : (h p : ℕ) → h < halls_max → p < partitions_max → server_ok σ b h p ≡ true = λ h p i j. all_at partitions_max _
    (all_at halls_max _ servers h i) p j in
    let halls : (h p : ℕ) → h < halls_max → p < partitions_max → all halls_max (λ g. leb (σ (Entry h p g)) b && channel_ok σ b h p g) ≡ true =
    λ h p i j. let c = server h p i j in search parts in
    let hall : (h p g : ℕ) → h < halls_max → p < partitions_max → g < halls_max → (leb (σ (Entry h p g)) b && channel_ok σ b h p g) ≡ true =
    λ h p g i j l. all_at halls_max _ (halls h p i j) g l in
    let session : (s : ℕ) → s < sessions_max → session_ok σ b s ≡ true = all_at sessions_max _ sessions in
    let transaction : (t : ℕ) → t < places_max → transaction_ok σ b t ≡ true = all_at places_max _ transactions in
    let decided : (t : ℕ) → t < places_max → σ (CommitTime t) ≤ cond
    (ltb t (σ Transactions)) b 0 = λ t i. let c = transaction t i in search parts in
    let pairs : (t : ℕ) → t < places_max → all partitions_max (λ p. pair_ok σ b t p) ≡ true = λ t i. let c = transaction t i in search parts in
    let pair : (t p : ℕ) → t < places_max → p < partitions_max → pair_ok σ b t p ≡ true = λ t p i j. all_at partitions_max _ (pairs t i) p j in
    record {
      setup = search parts;
      times = record {
        hybrid = λ h p i j. let c = server h p i j in search parts;
        stable = λ h p i j. let c = server h p i j in search parts;
        entry = λ h p g i j l. let c = hall h p g i j l in search parts;
        snapshot = λ s i. let c = session s i in search parts;
        last = λ s i. let c = session s i in search parts;
        cached = λ s k i j. let c = session s i in leb-true _ _ (all_at keys (λ k. leb (σ (CacheTime s k)) b) (search parts) k j);
        commit = λ t i. limit (ltb t (σ Transactions)) b _ (decided t i);
        proposed = λ t p i j. let c = pair t p i j in search parts;
        sent = λ g p f n i j l m.
            let c = hall g p f i j l in leb-true _ _ (all_at slots (λ n. leb (σ (ClockSent g p f n)) b) (search parts) n m);
        note = λ h p i j. let c = server h p i j in search parts;
        shared = λ to f i j. leb-true _ _ (all_at halls_max _ (all_at halls_max _ notes to i) f j);
      };
      reading = λ h p i j. let c = server h p i j in search parts;
      first = λ g p f i j l. let c = hall g p f i j l in search parts;
      waiting = λ g p f i j l. let c = hall g p f i j l in search parts;
      status = λ s i. let c = session s i in search parts;
      writes = λ s i. let c = session s i in search parts;
      reads = λ s i. let c = session s i in search parts;
      places = search parts;
      session = λ t i. let c = transaction t i in search parts;
      hall = λ t i. let c = transaction t i in search parts;
      undecided = λ t i l. let x = rw (le-ltb t (σ Transactions) l) at (decided t i) in omega arith;
      keys = λ t i. let c = transaction t i in search parts;
      state = λ t p i j. let c = pair t p i j in search parts;
      prepared = λ t p i j e.
          let c = pair t p i j in
          leb-true _ _
          (implies_true (eqb (σ (State t p)) 2) (leb 1 (σ (Proposed t p))) (search parts) (eq-eqb (σ (State t p)) 2 e));
    }

implies_i : (a b : Bool) → (a ≡ true → b ≡ true) → implies a b ≡ true
implies_i true b f = f refl
implies_i false b f = refl

-- a store with the facts passes
pub well_formed_lem : (σ : Store) → Formed σ → well_formed σ ≡ true
unfolding well_formed
well_formed_lem σ F =
    let T = F.times in
    let decided : (t : ℕ) → t < places_max → σ (CommitTime t) ≤ cond (ltb t (σ Transactions)) (time_bound σ) 0 = λ t i. by_test
    (ltb t (σ Transactions))
    (λ c. rw c (T.commit t i))
    (λ c. let x = F.undecided t i (ltb-false t (σ Transactions) c) in rw c (omega arith)) in
    search (
      and_i,
      all_i,
      le-leb,
      lt-ltb,
      implies_i,
      eqb-true,
      T.hybrid,
      T.stable,
      T.entry,
      T.snapshot,
      T.last,
      T.cached,
      decided,
      T.proposed,
      T.sent,
      T.note,
      T.shared,
      F.reading,
      F.first,
      F.waiting,
      F.status,
      F.writes,
      F.reads,
      F.session,
      F.hall,
      F.keys,
      F.state,
      F.prepared,
    ) depth 20 fits 4000

from_small : (ok : ℕ → Bool) (m n h : ℕ) → h < m → first_from ok m n h < m
unfolding first_from
from_small ok m zero h l = l
from_small ok m (suc n) h l =
    by_test (ok h)
    (λ c. rw c l)
    (λ c. rw c (from_small ok m n _ (by_test (leb m (suc h)) (λ d. rw d (omega arith))
    (λ d. let x = leb-false m (suc h) d in rw d (omega arith)))))

-- the writing hall of a transaction is small
pub writer_small : (σ : Store) → Formed σ → (t p : ℕ) → t < places_max → writer σ t p < halls_max
writer_small σ F t p i =
    let a = (good_setup_lem σ F.setup).halls in
    let b = from_small (λ h. holds σ h p) (σ Halls) (σ Halls) (σ (From t)) (F.hall t i) in
    omega arith
