-- The store against the run: what was decided so far, entry by entry, is what the store has as decided.
use Rattle.std.specs.Prelude.{ℕ, ◌<◌, true, ◌≡◌, ◌↔◌}
use mathlib.Core.List.{List, [], ◌∷◌, Memᴰ}
use Rattle.book.specs.Sizes.{places_max}
use Rattle.book.specs.Cells.{Store, By, From, CommitTime, KeySet, Value}
use Rattle.book.specs.Servers.{number_of}
use Rattle.book.specs.Views.{decided}
use Rattle.book.specs.History.{Decided}

-- the transaction at place t as the store has it now
abbrev pub entry_now : Store → ℕ → Decided
entry_now σ t =
    record {
      number = number_of t;
      by = σ (By t);
      hall = σ (From t);
      time = σ (CommitTime t);
      keys = σ (KeySet t);
      value = λ k. σ
          (Value t k);
    }

unfoldable pub entries : Store → List ℕ → List Decided
entries σ [] = []
entries σ (t ∷ ts) = entry_now σ t ∷ entries σ ts

-- H is, entry by entry, the transactions that σ has as decided
abbrev pub Ledger : Store → List Decided → Type 0
Ledger σ H = (ts : List ℕ) × (H ≡ entries σ ts) × ((t : ℕ) → Memᴰ t ts ↔ ((t < places_max) × (decided σ t ≡ true)))
