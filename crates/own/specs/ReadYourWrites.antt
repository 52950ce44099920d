-- A session sees its own writes, and nothing older than its snapshot has.
use Rattle.std.specs.Prelude.{ℕ, ◌≤◌, ◌<◌, true, false, ◌≡◌}
use Rattle.book.specs.declared.Stamp.{Stamp}
use Rattle.book.specs.Sizes.{keys}
use Rattle.book.specs.Cells.{Store, Sessions, Transactions, Status, running, Snapshot, WriteSet, CommitTime, KeySet, Value}
use Rattle.book.specs.Sets.{member}
use Rattle.book.specs.Answers.{triple, numbers}
use Rattle.book.specs.Servers.{holds, partition_of}
use Rattle.book.specs.Views.{later, stamp_of, version, decided_view}
use Rattle.book.specs.Steps.{refusal, answer}
use Rattle.invariant.specs.OwnWrites.{CachedFrom}

-- session s reads key k at hall h, and has not written the key since its start
abbrev pub Looks : Store → ℕ → ℕ → ℕ → Type 0
Looks σ s k h = record {
  there : s < σ Sessions;
  runs : σ (Status s) ≡ running;
  key : k < keys;
  holder : holds σ h (partition_of σ k) ≡ true;
  unwritten : member (σ (WriteSet s)) k ≡ false;
}

-- Session s's read of key k at hall h answers what a decided transaction u wrote to it: from the cache while u's commit time is above the
-- session's snapshot, from the snapshot after.
abbrev pub Shows : Store → ℕ → ℕ → ℕ → ℕ → Type 0
Shows σ s k h u = record {
  there : u < σ Transactions;
  done : 0 < σ (CommitTime u);
  wrote : member (σ (KeySet u)) k ≡ true;
  shown : numbers (answer σ 3 s k h) ≡ triple 0 1 (σ (Value u k));
  above : σ (Snapshot s) < σ (CommitTime u) → CachedFrom σ s k u;
  below : σ (CommitTime u) ≤ σ (Snapshot s) → decided_view σ k (σ (Snapshot s)) ≡ version σ k u;
}

-- Its read of key k at hall h is taken, and shows what is not older than stamp x.
abbrev pub ShowsNoOlder : Store → ℕ → ℕ → ℕ → Stamp → Type 0
ShowsNoOlder σ s k h x = (refusal σ 3 s k h ≡ 0) × ((u : ℕ) × Shows σ s k h u × (later x (stamp_of σ u) ≡ false))
