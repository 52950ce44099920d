-- What a transaction is at its end: what its session wrote, under its coordinator's hall and the next number.
use Rattle.std.specs.Prelude.{ℕ, suc, ◌<◌, true, ◌≡◌}
use Rattle.book.specs.declared.View.TheVariants.{Seen}
use Rattle.book.specs.Sizes.{keys}
use Rattle.book.specs.Cells.{Store, Transactions, HomeHall, Status, running, committing, WriteSet, WriteValue, By, From, CommitTime, KeySet, Value, State, asked}
use Rattle.book.specs.Sets.{member}
use Rattle.book.specs.Answers.{stamp, triple, numbers}
use Rattle.book.specs.Servers.{number_of}
use Rattle.book.specs.Views.{version}
use Rattle.book.specs.SessionSteps.{touches}
use Rattle.book.specs.Steps.{refusal, after, answer}
use Rattle.book.specs.Reached.{Reached, Later}
use Rattle.own.specs.ReadYourWrites.{Shows}

-- session s is running, and what it has written to key k is v
abbrev pub Written : Store → ℕ → ℕ → ℕ → Type 0
Written σ s k v = record {
  runs : σ (Status s) ≡ running;
  has : member (σ (WriteSet s)) k ≡ true;
  value : σ (WriteValue s k) ≡ v;
}

-- a code and two numbers that are neither a write of key k by session s nor an end of it
abbrev pub Other : ℕ → ℕ → ℕ → ℕ → ℕ → Type 0
Other s k code a b = (code ≡ 4 → a ≡ s → b ≡ k → ⊥) × (code ≡ 5 → a ≡ s → ⊥)

-- τ comes from σ by steps, of which none that is taken is a write of key k by session s or an end of it
pub data Meanwhile (s k : ℕ) (σ : Store) : Store → Type 0 where
  none : Meanwhile s k σ σ
  more : {τ : Store} → Meanwhile s k σ τ → (code a b c : ℕ) → (refusal τ code a b c ≡ 0 → Other s k code a b)
      → Meanwhile s k σ (after τ code a b c)

-- what session s ended with in σ is the transaction at the next place of τ
abbrev pub Ended : Store → Store → ℕ → Type 0
Ended σ τ s = record {
  next : τ Transactions ≡ suc (σ Transactions);
  by : τ (By (σ Transactions)) ≡ s;
  from : τ (From (σ Transactions)) ≡ σ (HomeHall s);
  wrote : τ (KeySet (σ Transactions)) ≡ σ (WriteSet s);
  values : (k : ℕ) → k < keys → τ (Value (σ Transactions) k) ≡ σ (WriteValue s k);
  -- "each becomes asked; the session is committing"
  asks : (p : ℕ) → touches σ (σ (WriteSet s)) p ≡ true → τ (State (σ Transactions) p) ≡ asked;
  status : τ (Status s) ≡ committing;
}

-- transaction t of υ is what session s ended with at hall h, and what it wrote to key k is v
abbrev pub IsWrite : Store → ℕ → ℕ → ℕ → ℕ → ℕ → Type 0
IsWrite υ t s h k v = record {
  there : t < υ Transactions;
  by : υ (By t) ≡ s;
  from : υ (From t) ≡ h;
  wrote : member (υ (KeySet t)) k ≡ true;
  seen : version υ k t ≡ Seen v (stamp (υ (CommitTime t)) h (number_of t));
  -- who reads it, whatever session and wherever, is shown v
  shown : (s' g : ℕ) → Shows υ s' k g t → numbers (answer υ 3 s' k g) ≡ triple 0 1 v;
}

-- in σ session s wrote v to key k, and up to τ it has neither written that key again nor ended
abbrev pub LastWrite : Store → Store → ℕ → ℕ → ℕ → Type 0
LastWrite σ τ s k v = record {
  reached : Reached σ;
  taken : refusal σ 4 s k v ≡ 0;
  since : Meanwhile s k (after σ 4 s k v) τ;
}

-- what transaction t of υ has for key k its session wrote last, in σ, before it ended, in τ
abbrev pub WrittenBy : Store → Store → Store → ℕ → ℕ → Type 0
WrittenBy σ τ υ t k = record {
  last : LastWrite σ τ (υ (By t)) k (υ (Value t k));
  ends : refusal τ 5 (υ (By t)) 0 0 ≡ 0;
  place : τ Transactions ≡ t;
  from : υ (From t) ≡ τ (HomeHall (υ (By t)));
  since : Later (after τ 5 (υ (By t)) 0 0) υ;
}
