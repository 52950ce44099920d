-- What a step may rely on once its ladder has let its numbers through a well formed store.
use Rattle.std.specs.Prelude.{ℕ, ◌≤◌, ◌<◌, true, false, ◌&&◌, ◌≡◌, leb}
use Rattle.std.proofs.Common.{le_trans, arith}
use Rattle.book.specs.Sizes.{halls_max, partitions_max, sessions_max, keys, places_max, slots, time_max}
use Rattle.book.specs.Cells.{Store, Partitions, Sessions, Transactions, HomeHall, HomePartition, By, First, Waiting}
use Rattle.book.specs.Servers.{holds, partition_of, place_of}
use Rattle.book.specs.SessionSteps.{has_writes}
use Rattle.book.specs.Refusals.{tick_refusal, start_refusal, read_refusal, write_refusal, end_refusal, prepare_refusal, decide_refusal, commit_refusal, install_refusal, deliver_refusal, server_refusal, share_refusal, move_refusal}
use Rattle.book.specs.WellFormed.{well_formed, time_bound}
use Rattle.facts.specs.Facts.{tick_facts, start_facts, read_facts, write_facts, end_facts, prepare_facts, decide_facts, commit_facts, install_facts, deliver_facts, server_facts, share_facts, move_facts}
use Rattle.facts.specs.Tally.{prepared_most}
use Rattle.facts.specs.Setup.{Setup, good_setup_lem, server_small}
use Rattle.bounds.specs.Formed.{Formed, Times, formed}
use Rattle.bounds.proofs.KeptSteps.{times_le}
use Rattle.ladders.specs.Sized.{Sized}
use Rattle.views.specs.Partitions.{Parted}
use Rattle.sessions.specs.Starting.{Homed}
use Rattle.servers.specs.Numbers.{Numbered}
use Rattle.commits.specs.Safe.{Coordinated, Timely, Writing}
use Rattle.replication.specs.Safe.{AllCoordinated, Channel, Outgoing, AllTimely}

module _ (σ : Store) (w : well_formed σ ≡ true) where
  facts : Formed σ
  facts = formed σ w

  laid : Setup σ
  laid = good_setup_lem σ facts.setup

  pub sized : Sized σ
  sized = record { halls = laid.halls; some = laid.partition; partitions = laid.partitions; sessions = laid.sessions; transactions = facts.places }

  times : Times σ time_max
  times = let m = prepared_most σ in times_le σ (time_bound σ) _ (omega arith) facts.times

  server : (h p : ℕ) → holds σ h p ≡ true → (h < halls_max) × (p < partitions_max)
  server = server_small σ laid

  pub parted : Parted σ
  parted = (sized.some, sized.partitions)

  session : (s : ℕ) → s < σ Sessions → s < sessions_max
  session s l = le_trans l sized.sessions

  number : (n : ℕ) → 1 ≤ n → place_of n < σ Transactions → Numbered n
  number n a b = let m = facts.places in record { first = a; last = omega arith }

  partition : (p : ℕ) → p < σ Partitions → p < partitions_max
  partition p l = le_trans l sized.partitions

  pub tick_in : (h p x : ℕ) → tick_refusal σ h p x ≡ 0 → (h < halls_max) × (p < partitions_max)
  tick_in h p x e = server h p (tick_facts σ h p x e).server

  pub start_in : (s y z : ℕ) → start_refusal σ s y z ≡ 0 → Homed σ s
  start_in s y z e =
      let f = start_facts σ s y z e in
      let h = server (σ (HomeHall s)) (σ (HomePartition s)) (laid.homes s f.there) in
      (session s f.there, h.0, h.1)

  pub read_in : (s k h : ℕ) → read_refusal σ s k h ≡ 0 → (s < sessions_max) × (k < keys) × (h < halls_max) × Parted σ
  read_in s k h e =
      let f = read_facts σ s k h e in
      (session s f.there, f.key, (server h (partition_of σ k) f.server).0, parted)

  pub write_in : (s k v : ℕ) → write_refusal σ s k v ≡ 0 → (s < sessions_max) × (k < keys)
  write_in s k v e = let f = write_facts σ s k v e in (session s f.there, f.key)

  pub end_in : (s y z : ℕ) → end_refusal σ s y z ≡ 0
      → (s < sessions_max) × Parted σ × ((has_writes σ s && leb places_max (σ Transactions)) ≡ false)
  end_in s y z e = let f = end_facts σ s y z e in (session s f.there, parted, f.room)

  -- the transaction at place t comes from one of the halls
  pub coordinated : (t : ℕ) → t < places_max → Coordinated σ t
  coordinated t l = record { halls = sized.halls; from = facts.hall t l }

  -- and from one of the sessions
  by : (t : ℕ) → t < places_max → σ (By t) < sessions_max
  by t l = le_trans (facts.session t l) sized.sessions

  pub timely_at : (t p : ℕ) → t < places_max → p < partitions_max → Timely σ t p
  timely_at t p l i = record {
    session = by t l;
    last = times.last (σ (By t)) (by t l);
    snapshot = times.snapshot (σ (By t)) (by t l);
    hybrid = λ h j. times.hybrid h p j i;
  }

  pub writing : (t : ℕ) → t < places_max → Writing σ t
  writing t l = record { session = by t l; key_set = facts.keys t l }

  place : (n : ℕ) → Numbered n → place_of n < places_max
  place n N = let a = N.first in let b = N.last in omega arith

  pub prepare_in : (n p z : ℕ) → prepare_refusal σ n p z ≡ 0
      → Numbered n × (p < partitions_max) × Coordinated σ (place_of n) × Timely σ (place_of n) p
  prepare_in n p z e =
      let f = prepare_facts σ n p z e in
      let N = number n f.first f.there in
      let P = partition p f.partition in
      let l = place n N in
      (N, P, coordinated (place_of n) l, timely_at (place_of n) p l P)

  pub decide_in : (n y z : ℕ) → decide_refusal σ n y z ≡ 0 → Numbered n × Writing σ (place_of n)
  decide_in n y z e =
      let f = decide_facts σ n y z e in
      let N = number n f.first f.there in
      (N, writing (place_of n) (place n N))

  pub commit_in : (n p z : ℕ) → commit_refusal σ n p z ≡ 0 → Numbered n × (p < partitions_max) × Coordinated σ (place_of n)
  commit_in n p z e =
      let f = commit_facts σ n p z e in
      let N = number n f.first f.there in
      (N, partition p f.partition, coordinated (place_of n) (place n N))

  pub install_in : (h p z : ℕ) → install_refusal σ h p z ≡ 0 → (h < halls_max) × (p < partitions_max)
  install_in h p z e = server h p (install_facts σ h p z e).server

  -- Report and Learn
  pub server_in : (h p z : ℕ) → server_refusal σ h p z ≡ 0 → (h < halls_max) × (p < partitions_max)
  server_in h p z e = server h p (server_facts σ h p z e).server

  pub coordinated_all : AllCoordinated σ
  coordinated_all = record { halls = sized.halls; from = facts.hall }

  pub timely : (p : ℕ) → p < partitions_max → AllTimely σ p
  timely p l = record { proposed = λ t m e. facts.prepared t p m l e }

  pub channel : (g p f : ℕ) → g < halls_max → p < partitions_max → f < halls_max → Channel σ g p f
  channel g p f a b c = record { first = facts.first g p f a b c; waiting = facts.waiting g p f a b c }

  pub outgoing : (h p : ℕ) → h < halls_max → p < partitions_max → Outgoing σ h p
  outgoing h p i j = record { channels = λ g l. channel g p h l j i }

  pub share_in : (f to z : ℕ) → share_refusal σ f to z ≡ 0 → (f < halls_max) × (to < halls_max)
  share_in f to z e = let w = share_facts σ f to z e in (le_trans w.sender sized.halls, le_trans w.receiver sized.halls)

  pub deliver_in : (p f g : ℕ) → deliver_refusal σ p f g ≡ 0
      → (p < partitions_max) × (f < halls_max) × (g < halls_max) × (σ (First g p f) < slots) × (1 ≤ σ (Waiting g p f))
  deliver_in p f g e =
      let w = deliver_facts σ p f g e in
      let x = server f p w.sender in
      let y = server g p w.receiver in
      (x.1, x.0, y.0, facts.first g p f y.0 x.1 x.0, w.some)

  pub move_in : (s h p : ℕ) → move_refusal σ s h p ≡ 0 → s < sessions_max
  move_in s h p e = session s (move_facts σ s h p e).there

pub ruleset steps = (start_in, parted, coordinated, coordinated_all, timely, outgoing)
