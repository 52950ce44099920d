-- What a read sees: the versions held, at a snapshot, are all that is decided.
use Rattle.std.specs.Prelude.{ℕ, ◌<◌, true, false, ◌≡◌, ltb}
use Rattle.book.specs.Sizes.{keys}
use Rattle.book.specs.Cells.{Store, Sessions, Status, running, WriteSet, ReadSet, CacheTime}
use Rattle.book.specs.Sets.{member}
use Rattle.book.specs.Servers.{holds, partition_of}

-- session s reads key k at hall h, and none of its own sets answers
abbrev pub Fetches : Store → ℕ → ℕ → ℕ → Type 0
Fetches σ s k h = record {
  -- the session is there, and running
  there : ltb s (σ Sessions) ≡ true;
  runs : σ (Status s) ≡ running;
  -- the hall holds the key
  key : k < keys;
  holder : holds σ h (partition_of σ k) ≡ true;
  -- the key is not in the write set, the read set or the cache
  unwritten : member (σ (WriteSet s)) k ≡ false;
  unread : member (σ (ReadSet s)) k ≡ false;
  uncached : σ (CacheTime s k) ≡ 0;
}
