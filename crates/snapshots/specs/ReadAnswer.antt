-- What a session's read answers, wherever it looks.
use Rattle.std.specs.Prelude.{ℕ, ◌<◌, true, false, cond, ◌≡◌, ltb}
use Rattle.book.specs.declared.Answer.{Answer}
use Rattle.book.specs.declared.Answer.TheVariants.{Own, Read}
use Rattle.book.specs.Sizes.{keys}
use Rattle.book.specs.Cells.{Store, Status, running, Snapshot, WriteSet, ReadSet, WriteValue, ReadValue, CacheValue, CacheTime}
use Rattle.book.specs.Sets.{member}
use Rattle.book.specs.Answers.{numbers}
use Rattle.book.specs.Views.{decided_view}

-- what a session finds past its write set and its read set: its cached write, else all that is decided at or below its snapshot
abbrev pub found : Store → ℕ → ℕ → Answer
found σ s k = cond (ltb 0 (σ (CacheTime s k))) (Own (σ (CacheValue s k))) (Read (decided_view σ k (σ (Snapshot s))))

-- what a read is to answer: its own write, else what it finds
abbrev pub due : Store → ℕ → ℕ → Answer
due σ s k = cond (member (σ (WriteSet s)) k) (Own (σ (WriteValue s k))) (found σ s k)

-- what a running session has read is what it would find
abbrev pub Reads : Store → Type 0
Reads σ = (s k : ℕ) → k < keys → σ (Status s) ≡ running → member (σ (WriteSet s)) k ≡ false → member (σ (ReadSet s)) k ≡ true
    → numbers (Own (σ (ReadValue s k))) ≡ numbers (found σ s k)

-- what a running session has cached is above its snapshot
abbrev pub Cached : Store → Type 0
Cached σ = (s k : ℕ) → σ (Status s) ≡ running → 0 < σ (CacheTime s k) → σ (Snapshot s) < σ (CacheTime s k)
