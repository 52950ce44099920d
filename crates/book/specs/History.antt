-- "ALL transactions decided so far", entry by entry as each was at its decide. A store may forget; a run does not.
use Rattle.std.specs.Prelude.{ℕ, cond, ◌&&◌, List, [], ◌∷◌, eqb, leb}
use Rattle.book.specs.declared.Stamp.{Stamp}
use Rattle.book.specs.declared.View.{View}
use Rattle.book.specs.declared.View.TheVariants.{Nothing, Seen}
use Rattle.book.specs.Cells.{Store, By, From, KeySet, Value}
use Rattle.book.specs.Sets.{member}
use Rattle.book.specs.Answers.{stamp}
use Rattle.book.specs.Servers.{place_of, number_of}
use Rattle.book.specs.Views.{merge}
use Rattle.book.specs.CommitSteps.{decision}
use Rattle.book.specs.Steps.{refusal}
use Rattle.book.specs.Reached.{Reached}

-- a decided transaction: its number, session, coordinator's hall and commit time, the keys that it wrote and their values
pub record Decided : Type 0 where
  pub number : ℕ
  pub by : ℕ
  pub hall : ℕ
  pub time : ℕ
  pub keys : ℕ
  pub value : ℕ → ℕ

-- its stamp, and its version of key k
abbrev pub stamp_in : Decided → Stamp
stamp_in d = stamp d.time d.hall d.number

abbrev pub version_in : ℕ → Decided → View
version_in k d = Seen (d.value k) (stamp_in d)

-- what it adds to the view of key k at S
abbrev pub wrote : ℕ → ℕ → Decided → View
wrote k S d = cond (member d.keys k && leb d.time S) (version_in k d) Nothing

-- "The view at S of a set of decided transactions merges their writes with commit time at or below S."
unfoldable pub ever_view : List Decided → ℕ → ℕ → View
ever_view [] k S = Nothing
ever_view (d ∷ H) k S = merge (wrote k S d) (ever_view H k S)

-- what a decide of the transaction at place t adds
abbrev pub entry_of : Store → ℕ → Decided
entry_of σ t =
    record { number = number_of t; by = σ (By t); hall = σ (From t); time = decision σ t; keys = σ (KeySet t); value = λ k. σ (Value t k) }

-- those decided after one more step: a decide that is taken adds its transaction
abbrev pub decided_after : Store → ℕ → ℕ → ℕ → ℕ → List Decided → List Decided
decided_after σ code a b c H = cond (eqb code 7 && eqb (refusal σ code a b c) 0) (entry_of σ (place_of a) ∷ H) H

-- all that was decided so far, the last one first: "'Decided so far' counts transactions not yet committed or installed anywhere"
unfoldable pub decided_ever : {σ : Store} → Reached σ → List Decided
decided_ever (Reached.begun masks homes e) = []
decided_ever (Reached.onward {σ} r code a b c) = decided_after σ code a b c (decided_ever r)
