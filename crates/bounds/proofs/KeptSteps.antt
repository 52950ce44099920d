-- Each step keeps the facts of a well formed store.
use Rattle.std.specs.Prelude.{ℕ, suc, ◌-◌, ◌≤◌, ◌<◌, ◌^◌, Bool, true, false, cond, ◌&&◌, ◌≡◌, eqb, ltb, leb}
use Rattle.std.proofs.Common.{le_trans, arith, lt-ltb, le-ltb, ltb-true, eqb-true}
use Rattle.book.specs.Sizes.{halls_max, partitions_max, sessions_max, keys, places_max, slots, reading_max}
use Rattle.book.specs.Cells.{Cell, Store, same, ◌⟨◌≔◌⟩, Halls, Partitions, Sessions, Transactions, Reading, Hybrid, Stable, Entry, HomeHall, HomePartition, Status, Snapshot, LastCommit, WriteSet, ReadSet, CacheTime, By, From, CommitTime, KeySet, State, Proposed, First, Waiting, ClockSent, Note, Shared}
use Rattle.book.specs.Cases.{by_test, choose, by_eq, by_cell, and_true, unwritten, at_same}
use Rattle.book.specs.Folds.{lowest_within, largest_within}
use Rattle.book.specs.Sets.{member, include_lt}
use Rattle.book.specs.Servers.{holds, holds_hall, writer}
use Rattle.book.specs.WellFormed.{time_bound}
use Rattle.book.specs.Answers.{numbers}
use Rattle.book.specs.SessionSteps.{snapshot, start, read, write, ask, read_answer, touches, move}
use Rattle.book.specs.CommitSteps.{tick, proposal, prepare, decision, decide, commitment, commit}
use Rattle.book.specs.ReplicationSteps.{prepared_at, has_prepared, version_clock, hybrid_after, installs, sends_to, outgoing, next_slot, slot_of, install, deliver}
use Rattle.book.specs.GossipSteps.{lowest_entry, report, lowest_of, share, lowest_shared, stable_after, learn}
use Rattle.facts.specs.Tally.{prepared_le, prepared_lt}
use Rattle.facts.specs.Setup.{Setup, good_setup_lem, server_small, move_good}
use Rattle.bounds.specs.Formed.{All1, All2, All3, Times, Formed, writer_small}

-- a number that passes, written to one cell or to several, leaves cells that all pass
module _ (P : ℕ → Type 0) (σ : Store) where
  put1 : {l : ℕ} (c : ℕ → Cell) (i v : ℕ) → P v → All1 P σ c l → All1 P (σ ⟨ c i ≔ v ⟩) c l
  put1 c i v x A = λ a r. choose P (eqb (c i).kind (c a).kind && same (c i) (c a)) x (A a r)

  put2 : {l m : ℕ} (c : ℕ → ℕ → Cell) (i j v : ℕ) → P v → All2 P σ c l m → All2 P (σ ⟨ c i j ≔ v ⟩) c l m
  put2 c i j v x A = λ a b r s. choose P (eqb (c i j).kind (c a b).kind && same (c i j) (c a b)) x (A a b r s)

  put3 : {l m n : ℕ} (c : ℕ → ℕ → ℕ → Cell) (i j k v : ℕ) → P v → All3 P σ c l m n → All3 P (σ ⟨ c i j k ≔ v ⟩) c l m n
  put3 c i j k v x A =
      λ a b d r s t. choose P (eqb (c i j k).kind (c a b d).kind && same (c i j k) (c a b d)) x (A a b d r s t)

-- a higher bound is one too
pub times_le : (σ : Store) (b c : ℕ) → b ≤ c → Times σ b → Times σ c
times_le σ b c l T =
    search (
      le_trans,
      T.hybrid,
      T.stable,
      T.entry,
      T.snapshot,
      T.last,
      T.cached,
      T.commit,
      T.proposed,
      T.sent,
      T.note,
      T.shared,
    )

-- a state's limit does not fall as places are taken, and where it is not 0 it is 4
limit_le : (t a b : ℕ) → a ≤ b → cond (ltb t a) 4 0 ≤ cond (ltb t b) 4 0
limit_le t a b l =
    by_test (ltb t a)
    (λ c. let x = ltb-true t a c in rw (c, lt-ltb t b (omega arith)) (omega arith))
    (λ c. rw c (omega arith))

limit_some : (b : Bool) → 0 < cond b 4 0 → 4 ≤ cond b 4 0
limit_some true l = omega arith
limit_some false l = absurd (omega arith)

-- Step by step: the facts of what it writes. `search` takes the others from F, since the cells that they speak of do not change.
module _ (σ : Store) (F : Formed σ) where
  abbrev b : ℕ
  b = time_bound σ

  abbrev T : Times σ b
  T = F.times

  U : Setup σ
  U = good_setup_lem σ F.setup

  pub tick_formed : (h p x : ℕ) → x ≤ reading_max → Formed (tick σ h p x)
  tick_formed h p x l = let reading = put2 (◌≤ reading_max) σ Reading h p x l F.reading in search

  pub start_formed : (s : ℕ) → s < σ Sessions → Formed (start σ s)
  start_formed s l =
      let h = σ (HomeHall s) in
      let p = σ (HomePartition s) in
      let home = server_small σ U h p (U.homes s l) in
      let x = T.stable h p home.0 home.1 in
      let y = T.snapshot s (omega (arith, U)) in
      let new : snapshot σ s ≤ b = omega arith in
      let stable = put2 (◌≤ b) σ Stable h p _ new T.stable in
      let snapshots = put1 (◌≤ b) σ Snapshot s _ new T.snapshot in
      let cached : All2 (◌≤ b) (start σ s) CacheTime sessions_max keys =
      λ a k i j. choose (◌≤ b) (eqb s a && leb (σ (CacheTime a k)) (snapshot σ s)) (omega arith) (T.cached a k i j) in
      let status = put1 (◌≤ 2) σ Status s 1 (omega arith) F.status in
      let writes = put1 (◌< 2 ^ keys) σ WriteSet s 0 (omega arith) F.writes in
      let reads = put1 (◌< 2 ^ keys) σ ReadSet s 0 (omega arith) F.reads in
      search

  pub read_formed : (s k h : ℕ) → s < σ Sessions → k < keys → Formed (read σ s k h)
  read_formed s k h l m =
      let x = F.reads s (omega (arith, U)) in
      let new = choose (◌< 2 ^ keys) (eqb (numbers (read_answer σ s k h)).first 1) (include_lt keys _ k x m) x in
      let reads = put1 (◌< 2 ^ keys) σ ReadSet s _ new F.reads in
      search

  pub write_formed : (s k v : ℕ) → s < σ Sessions → k < keys → Formed (write σ s k v)
  write_formed s k v l m =
      let new = include_lt keys _ k (F.writes s (omega (arith, U))) m in
      let writes = put1 (◌< 2 ^ keys) σ WriteSet s _ new F.writes in
      search

  pub rest_formed : (s : ℕ) → Formed (σ ⟨ Status s ≔ 0 ⟩)
  rest_formed s = let status = put1 (◌≤ 2) σ Status s 0 (omega arith) F.status in search

  pub ask_formed : (s : ℕ) → s < σ Sessions → σ Transactions < places_max → Formed (ask σ s)
  ask_formed s l m =
      let t = σ Transactions in
      let home = holds_hall σ (σ (HomeHall s)) (σ (HomePartition s)) (U.homes s l) in
      let asks : ℕ → ℕ → Bool = λ u p. eqb t u && touches σ (σ (WriteSet s)) p in
      let free : (u p : ℕ) → u < places_max → p < partitions_max → t ≡ u → σ (State u p) ≤ 0 =
      λ u p i j q. rw (le-ltb u t (omega arith)) at (F.state u p i j) in
      let up : (u p : ℕ) → u < places_max → p < partitions_max → σ (State u p) ≤ ask σ s (State u p) =
      λ u p i j. by_eq t u (λ q c. let x = free u p i j q in omega arith) (λ q c. rw c (omega arith)) in
      let more = prepared_le σ (ask σ s) up in
      let times = times_le σ b (time_bound (ask σ s)) (omega arith) T in
      let status = put1 (◌≤ 2) σ Status s 2 (omega arith) F.status in
      let places : ask σ s Transactions ≤ places_max = m in
      let session = put1 (◌< σ Sessions) σ By t s l F.session in
      let hall = put1 (◌< σ Halls) σ From t _ home F.hall in
      let undecided : (u : ℕ) → u < places_max → suc t ≤ u → σ (CommitTime u) ≡ 0 = λ u i j. F.undecided u i (omega arith) in
      let keys = put1 (◌< 2 ^ keys) σ KeySet t _ (F.writes s (omega (arith, U))) F.keys in
      let state : (u p : ℕ) → u < places_max → p < partitions_max → ask σ s (State u p) ≤ cond (ltb u (suc t)) 4 0 =
      λ u p i j. by_eq t u
      (λ q c. rw (lt-ltb u (suc t) (omega arith))
      (choose (◌≤ 4) (asks u p) (omega arith) (let x = free u p i j q in omega arith)))
      (λ q c. rw c (le_trans (F.state u p i j) (limit_le u t (suc t) (omega arith)))) in
      let prepared : (u p : ℕ) → u < places_max → p < partitions_max → ask σ s (State u p) ≡ 2 → 1 ≤ σ (Proposed u p) =
      λ u p i j e. F.prepared u p i j (unwritten (asks u p) 1 _ 2 (λ x. omega arith) e).1 in
      search

  -- a pair's state raised
  module _ (t p v : ℕ) (l : t < σ Transactions) (m : v ≤ 4) (e : σ (State t p) ≤ v) where
    raised : (u q : ℕ) → u < places_max → q < partitions_max → σ (State u q) ≤ (σ ⟨ State t p ≔ v ⟩) (State u q)
    raised u q i j =
        by_cell (State t p) (State u q) (λ k c. rw (c, ← k.i, ← k.j) e) (λ c. rw c (omega arith))

    raised_state : (u q : ℕ) → u < places_max → q < partitions_max → (σ ⟨ State t p ≔ v ⟩) (State u q) ≤ cond (ltb u (σ Transactions)) 4 0
    raised_state u q i j =
        by_cell (State t p) (State u q)
        (λ k c. rw (c, ← k.i, lt-ltb t (σ Transactions) l) m)
        (λ c. rw c (F.state u q i j))

  pub prepare_formed : (t p : ℕ) → t < σ Transactions → p < σ Partitions → σ (State t p) ≡ 1 → Formed (prepare σ t p)
  prepare_formed t p l m e =
      let i : t < places_max = omega (arith, F.places) in
      let j : p < partitions_max = omega (arith, U) in
      let w = writer_small σ F t p i in
      let k = F.session t i in
      let r = F.reading (writer σ t p) p w j in
      let h = T.hybrid (writer σ t p) p w j in
      let c = T.last (σ (By t)) (omega (arith, U)) in
      let S = T.snapshot (σ (By t)) (omega (arith, U)) in
      let B = time_bound (prepare σ t p) in
      let up = raised t p 2 l (omega arith) (omega arith) in
      let more = prepared_lt σ (prepare σ t p) up t p i j (omega arith) (rw (at_same (State t p)) (omega arith)) in
      let new : proposal σ t p ≤ B = omega arith in
      let times = times_le σ b B (omega arith) T in
      let hybrid = put2 (◌≤ B) σ Hybrid (writer σ t p) p _ new times.hybrid in
      let proposed = put2 (◌≤ B) σ Proposed t p _ new times.proposed in
      let state = raised_state t p 2 l (omega arith) (omega arith) in
      let prepared : (u q : ℕ) → u < places_max → q < partitions_max → prepare σ t p (State u q) ≡ 2 → 1 ≤ prepare σ t p (Proposed u q) =
      λ u q i j e. by_cell (State t p) (State u q) (λ k c. rw c (omega arith)) (λ c. rw c (F.prepared u q i j (rw c at e))) in
      search

  pub decide_formed : (t : ℕ) → t < σ Transactions → Formed (decide σ t)
  decide_formed t l =
      let s = σ (By t) in
      let i : t < places_max = omega (arith, F.places) in
      let new : decision σ t ≤ b = largest_within partitions_max _ (λ p. σ (Proposed t p)) b (λ p j. T.proposed t p i j) in
      let commit = put1 (◌≤ b) σ CommitTime t _ new T.commit in
      let undecided : (u : ℕ) → u < places_max → σ Transactions ≤ u → decide σ t (CommitTime u) ≡ 0 =
      λ u j m. by_cell (CommitTime t) (CommitTime u) (λ k c. let q = k.i in absurd (omega arith)) (λ c. rw c (F.undecided u j m)) in
      let last = put1 (◌≤ b) σ LastCommit s _ new T.last in
      let cached : All2 (◌≤ b) (decide σ t) CacheTime sessions_max keys =
      λ a k i j. choose (◌≤ b) (eqb s a && member (σ (KeySet t)) k) new (T.cached a k i j) in
      let writes = put1 (◌< 2 ^ keys) σ WriteSet s 0 (omega arith) F.writes in
      let status = put1 (◌≤ 2) σ Status s 0 (omega arith) F.status in
      search

  pub commit_formed : (t p : ℕ) → t < σ Transactions → p < σ Partitions → σ (State t p) ≡ 2 → Formed (commit σ t p)
  commit_formed t p l m e =
      let i : t < places_max = omega (arith, F.places) in
      let j : p < partitions_max = omega (arith, U) in
      let w = writer_small σ F t p i in
      let r = F.reading (writer σ t p) p w j in
      let h = T.hybrid (writer σ t p) p w j in
      let c = T.commit t i in
      let B = time_bound (commit σ t p) in
      let more = prepared_le σ (commit σ t p) (raised t p 3 l (omega arith) (omega arith)) in
      let new : commitment σ t p ≤ B = omega arith in
      let times = times_le σ b B (omega arith) T in
      let hybrid = put2 (◌≤ B) σ Hybrid (writer σ t p) p _ new times.hybrid in
      let state = raised_state t p 3 l (omega arith) (omega arith) in
      let prepared : (u q : ℕ) → u < places_max → q < partitions_max → commit σ t p (State u q) ≡ 2 → 1 ≤ σ (Proposed u q) =
      λ u q i j e. F.prepared u q i j (unwritten (same (State t p) (State u q)) 3 _ 2 (λ x. omega arith) e).1 in
      search

  pub install_formed : (h p : ℕ) → holds σ h p ≡ true → ((g : ℕ) → g < halls_max → sends_to σ h p g ≡ true → σ (Waiting g p h) < slots)
      → Formed (install σ h p)
  install_formed h p e room =
      let k = server_small σ U h p e in
      let r = F.reading h p k.0 k.1 in
      let y = T.hybrid h p k.0 k.1 in
      let z = lowest_within places_max (prepared_at σ h p) (λ t. σ (Proposed t p)) b (λ t i. T.proposed t p i k.1) in
      let is : (t q : ℕ) → (eqb p q && installs σ h p t) ≡ true → σ (State t q) ≡ 3 = λ t q c.
      let a = and_true (eqb p q) _ c in
      rw (← eqb-true p q a.0) (eqb-true (σ (State t p)) 3 (and_true (eqb (σ (State t p)) 3) _ a.1).0) in
      let up : (t q : ℕ) → t < places_max → q < partitions_max → σ (State t q) ≤ install σ h p (State t q) = λ t q _ _.
      by_test (eqb p q && installs σ h p t) (λ c. let x = is t q c in rw c (omega arith)) (λ c. rw c (omega arith)) in
      let B = time_bound (install σ h p) in
      let more = prepared_le σ (install σ h p) up in
      let clock : version_clock σ h p ≤ B = choose (◌≤ B) (has_prepared σ h p) (omega arith) (omega arith) in
      let after : hybrid_after σ h p ≤ B = choose (◌≤ B) (has_prepared σ h p) (omega arith) (omega arith) in
      let times = times_le σ b B (omega arith) T in
      let hybrid = put2 (◌≤ B) σ Hybrid h p _ after times.hybrid in
      let entry = put3 (◌≤ B) σ Entry h p h _ clock times.entry in
      let sent : (g q f n : ℕ) → g < halls_max → q < partitions_max → f < halls_max → n < slots → install σ h p
      (ClockSent g q f n) ≤ B = λ g q f n i j l m.
      choose (◌≤ B) (outgoing σ h p g q f && eqb (next_slot σ g q f) n) clock (times.sent g q f n i j l m) in
      let waiting : All3 (◌≤ slots) (install σ h p) Waiting halls_max partitions_max halls_max = λ g q f i j l. by_test (outgoing σ h p g q f)
      (λ c. let a = and_true (eqb p q) _ c in
      let d = and_true (eqb h f) _ a.1 in
      rw (c, ← eqb-true p q a.0, ← eqb-true h f d.0) (room g i d.1))
      (λ c. rw c (F.waiting g q f i j l)) in
      let state : (t q : ℕ) → t < places_max → q < partitions_max → install σ h p (State t q) ≤ cond (ltb t (σ Transactions)) 4 0 = λ t q i j.
      by_test (eqb p q && installs σ h p t)
      (λ c. let x = is t q c in let y = F.state t q i j in rw c (limit_some (ltb t (σ Transactions)) (omega arith)))
      (λ c. rw c (F.state t q i j)) in
      let prepared : (t q : ℕ) → t < places_max → q < partitions_max → install σ h p (State t q) ≡ 2 → 1 ≤ σ (Proposed t q) =
      λ t q i j e. F.prepared t q i j (unwritten (eqb p q && installs σ h p t) 4 _ 2 (λ x. omega arith) e).1 in
      search

  pub deliver_formed : (p f g : ℕ) → holds σ f p ≡ true → holds σ g p ≡ true → Formed (deliver σ p f g)
  deliver_formed p f g e e' =
      let k = server_small σ U f p e in
      let m = server_small σ U g p e' in
      let new = T.sent g p f (slot_of σ g p f 0) m.0 m.1 k.0 (omega arith) in
      let less = F.waiting g p f m.0 m.1 k.0 in
      let entry = put3 (◌≤ b) σ Entry g p f _ new T.entry in
      let first = put3 (◌< slots) σ First g p f (slot_of σ g p f 1) (omega arith) F.first in
      let waiting = put3 (◌≤ slots) σ Waiting g p f (σ (Waiting g p f) - 1) (omega arith) F.waiting in
      search

  pub report_formed : (h p : ℕ) → holds σ h p ≡ true → Formed (report σ h p)
  report_formed h p e =
      let k = server_small σ U h p e in
      let new : lowest_entry σ h p ≤ b = lowest_within halls_max _ (λ g. σ (Entry h p g)) b (λ g. T.entry h p g k.0 k.1) in
      let note = put2 (◌≤ b) σ Note h p _ new T.note in
      search

  pub share_formed : (f to : ℕ) → f < σ Halls → Formed (share σ f to)
  share_formed f to l =
      let k : f < halls_max = omega (arith, U) in
      let new : lowest_of σ f ≤ b = lowest_within partitions_max _ (λ p. σ (Note f p)) b (λ p. T.note f p k) in
      let shared = put2 (◌≤ b) σ Shared to f _ new T.shared in
      search

  pub learn_formed : (h p : ℕ) → holds σ h p ≡ true → Formed (learn σ h p)
  learn_formed h p e =
      let k = server_small σ U h p e in
      let x = T.stable h p k.0 k.1 in
      let y : lowest_shared σ h ≤ b = lowest_within halls_max _ (λ f. σ (Shared h f)) b (λ f. T.shared h f k.0) in
      let stable = put2 (◌≤ b) σ Stable h p (stable_after σ h p) (omega arith) T.stable in
      search

  pub move_formed : (s h p : ℕ) → holds σ h p ≡ true → Formed (move σ s h p)
  move_formed s h p e = let setup = move_good σ F.setup s h p e in search
