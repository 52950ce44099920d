-- What holds of every reached store, by topic: each a record with no name, so that a store that differs in other cells has the same one.
use Rattle.std.specs.Prelude.{ℕ, suc, ◌≤◌, ◌<◌, true, ◌≡◌, ◌⊎◌}
use Rattle.book.specs.Sizes.{partitions_max, keys, places_max}
use Rattle.book.specs.Cells.{Store, Halls, Transactions, Hybrid, Stable, Entry, Held, Snapshot, From, CommitTime, KeySet, State, asked, prepared, waiting, installed, Proposed, Waiting, ClockSent, Carries, Note, Shared}
use Rattle.book.specs.Sets.{member}
use Rattle.book.specs.Servers.{holds, partition_of, writer}
use Rattle.book.specs.ReplicationSteps.{slot_of}
use Rattle.facts.specs.Setup.{Setup}

-- the clocks, and what is under way at a writing server
abbrev pub Clocks : Store → Type 0
Clocks σ = record {
  -- a version clock is at most its hybrid clock
  own : (h p : ℕ) → σ (Entry h p h) ≤ σ (Hybrid h p);
  -- a prepared pair's proposed time is at most its writing server's hybrid clock
  proposed : (t p : ℕ) → σ (State t p) ≡ prepared → σ (Proposed t p) ≤ σ (Hybrid (writer σ t p) p);
  -- and above its version clock
  above : (t p : ℕ) → σ (State t p) ≡ prepared → σ (Entry (writer σ t p) p (writer σ t p)) < σ (Proposed t p);
  -- a waiting pair's commit time is above its writing server's version clock
  waits : (t p : ℕ) → σ (State t p) ≡ waiting → σ (Entry (writer σ t p) p (writer σ t p)) < σ (CommitTime t);
  -- the commit time of a waiting or installed pair is at most its writing server's hybrid clock
  committed : (t p : ℕ) → waiting ≤ σ (State t p) → σ (CommitTime t) ≤ σ (Hybrid (writer σ t p) p);
}

-- the states of the transactions
abbrev pub States : Store → Type 0
States σ = record {
  -- no place is used past the last
  places : σ Transactions ≤ places_max;
  -- a place that is not used has no state
  free : (t p : ℕ) → σ Transactions ≤ t → σ (State t p) ≡ 0;
  -- and is not decided
  undecided : (t : ℕ) → σ Transactions ≤ t → σ (CommitTime t) ≡ 0;
  -- there is no state past installed
  range : (t p : ℕ) → σ (State t p) ≤ installed;
  -- a transaction with an asked pair is not decided
  early : (t p : ℕ) → p < partitions_max → σ (State t p) ≡ asked → σ (CommitTime t) ≡ 0;
  -- a decided one's commit time is at least what a prepared pair of it proposed
  decided : (t p : ℕ) → p < partitions_max → σ (State t p) ≡ prepared → 0 < σ (CommitTime t) → σ (Proposed t p) ≤ σ (CommitTime t);
  -- a transaction with a waiting or installed pair is decided
  late : (t p : ℕ) → waiting ≤ σ (State t p) → 0 < σ (CommitTime t);
}

-- the clock and the transactions of the i-th message that waits at (g, p) from f
abbrev pub clock_at : Store → ℕ → ℕ → ℕ → ℕ → ℕ
clock_at σ g p f i = σ (ClockSent g p f (slot_of σ g p f i))

abbrev pub set_at : Store → ℕ → ℕ → ℕ → ℕ → ℕ
set_at σ g p f i = σ (Carries g p f (slot_of σ g p f i))

-- the channels
abbrev pub Channels : Store → Type 0
Channels σ = record {
  -- what a server knows of a hall is at most that hall's version clock
  seen : (g p f : ℕ) → σ (Entry g p f) ≤ σ (Entry f p f);
  -- a waiting message's clock is at least what the server knows of the sender
  low : (g p f i : ℕ) → (f ≡ g → ⊥) → i < σ (Waiting g p f) → σ (Entry g p f) ≤ clock_at σ g p f i;
  -- and at most the sender's version clock
  high : (g p f i : ℕ) → (f ≡ g → ⊥) → i < σ (Waiting g p f) → clock_at σ g p f i ≤ σ (Entry f p f);
  -- clocks of waiting messages do not fall
  order : (g p f i j : ℕ) → (f ≡ g → ⊥) → i < j → j < σ (Waiting g p f) → clock_at σ g p f i ≤ clock_at σ g p f j;
  -- what a waiting message carries has a commit time above what the server knows of the sender
  fresh : (g p f i t : ℕ) → (f ≡ g → ⊥) → i < σ (Waiting g p f) → member (set_at σ g p f i) t ≡ true → σ (Entry g p f) < σ (CommitTime t);
  -- and above the clock of each message before it
  later : (g p f i j t : ℕ) → (f ≡ g → ⊥) → i < j → j < σ (Waiting g p f) → member (set_at σ g p f j) t ≡ true
      → clock_at σ g p f i < σ (CommitTime t);
  -- where no message waits, what a holder knows of the sender is at least the sender's version clock
  heard : (g p f : ℕ) → (f ≡ g → ⊥) → holds σ g p ≡ true → σ (Waiting g p f) ≡ 0 → σ (Entry f p f) ≤ σ (Entry g p f);
  -- and where one does, the newest message's clock is
  newest : (g p f i : ℕ) → (f ≡ g → ⊥) → holds σ g p ≡ true → suc i ≡ σ (Waiting g p f) → σ (Entry f p f) ≤ clock_at σ g p f i;
}

-- transaction t waits at (g, p) in a message from f
abbrev pub Queued : Store → ℕ → ℕ → ℕ → ℕ → Type 0
Queued σ g p f t = (i : ℕ) × (i < σ (Waiting g p f)) × (member (set_at σ g p f i) t ≡ true)

-- the versions held
abbrev pub Holding : Store → Type 0
Holding σ = record {
  -- the writing server holds what is installed there
  home : (t p : ℕ) → σ (State t p) ≡ installed → σ (Held (writer σ t p) p t) ≡ 1;
  -- another holder of the partition holds it, or it waits there in a message from the writing server
  away : (t p g : ℕ) → σ (State t p) ≡ installed → holds σ g p ≡ true → (writer σ t p ≡ g → ⊥)
      → (σ (Held g p t) ≡ 1) ⊎ Queued σ g p (writer σ t p) t;
  -- what is held anywhere is decided
  done : (h p t : ℕ) → σ (Held h p t) ≡ 1 → 0 < σ (CommitTime t);
}

-- what halls tell one another, over entries E, which a step may have moved
abbrev pub GossipOver : Store → (ℕ → ℕ → ℕ → ℕ) → Type 0
GossipOver σ E = record {
  -- a note on a server is at most each of its entries
  note : (h p g : ℕ) → holds σ g p ≡ true → σ (Note h p) ≤ E h p g;
  -- a shared note is at most each entry of each server of the hall that it is about
  shared : (to f p g : ℕ) → holds σ f p ≡ true → holds σ g p ≡ true → σ (Shared to f) ≤ E f p g;
  -- a stable time is at most each entry of each server
  stable : (a b h p g : ℕ) → holds σ h p ≡ true → holds σ g p ≡ true → σ (Stable a b) ≤ E h p g;
  -- and so is a snapshot
  snapshot : (s h p g : ℕ) → holds σ h p ≡ true → holds σ g p ≡ true → σ (Snapshot s) ≤ E h p g;
}

abbrev pub Gossip : Store → Type 0
Gossip σ = GossipOver σ (λ h p g. σ (Entry h p g))

-- where transactions write
abbrev pub Writes : Store → Type 0
Writes σ = record {
  -- the coordinator's hall is one of the halls
  from : (t : ℕ) → σ (From t) < σ Halls;
  -- the partition of each key that is written has a state
  written : (t k : ℕ) → k < keys → member (σ (KeySet t)) k ≡ true → 0 < σ (State t (partition_of σ k));
}

abbrev pub Inv : Store → Type 0
Inv σ = record {
  setup : Setup σ;
  clocks : Clocks σ;
  states : States σ;
  channels : Channels σ;
  holding : Holding σ;
  writes : Writes σ;
}

-- entries never fall
abbrev pub Grown : Store → Store → Type 0
Grown σ τ = (h p g : ℕ) → σ (Entry h p g) ≤ τ (Entry h p g)

-- S is at most every entry of every server
abbrev pub Below : Store → ℕ → Type 0
Below σ S = (h p g : ℕ) → holds σ h p ≡ true → holds σ g p ≡ true → S ≤ σ (Entry h p g)
