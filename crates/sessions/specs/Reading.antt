-- "What is found joins the read set": the store after a read that answers x.
use Rattle.std.specs.Prelude.{ℕ, cond, ◌≡◌, eqb}
use Rattle.std.proofs.Common.{ap, ◌∙◌}
use Rattle.std.specs.declared.option.Option.{Option}
use Rattle.std.specs.declared.option.Option.TheVariants.{Some, None}
use Rattle.book.specs.declared.Answer.{Answer}
use Rattle.book.specs.declared.Answer.TheVariants.{Own, Read}
use Rattle.book.specs.Cells.{Store, ◌⟨◌≔◌⟩, Snapshot, ReadSet, ReadValue}
use Rattle.book.specs.Sets.{include}
use Rattle.book.specs.Answers.{numbers}
use Rattle.book.specs.Views.{held_view}
use Rattle.book.specs.SessionSteps.{read, read_answer}

abbrev pub kept : Store → ℕ → ℕ → Answer → Store
kept σ s k x =
    σ ⟨ ReadSet s ≔ cond (eqb (numbers x).first 1) (include (σ (ReadSet s)) k) (σ (ReadSet s)) ⟩
    ⟨ ReadValue s k ≔ cond (eqb (numbers x).first 1) (numbers x).second (σ (ReadValue s k)) ⟩

-- what the session has of key k answers a read at any hall, and where it has nothing the hall's server does
abbrev pub Looked : Store → ℕ → ℕ → Option ℕ → Type 0
Looked σ s k (Some v) = (h : ℕ) → read_answer σ s k h ≡ Own v
Looked σ s k None = (h : ℕ) → read_answer σ s k h ≡ Read (held_view σ h k (σ (Snapshot s)))

-- what is answered is what joins
pub answered : {L : Type 0} {τ : Store} {x : Answer} (σ : Store) (s k h : ℕ) → L → τ ≡ kept σ s k x → x ≡ read_answer σ s k h
    → L × (x ≡ read_answer σ s k h) × (τ ≡ read σ s k h)
answered σ s k h l e q = (l, q, e ∙ ap (kept σ s k) q)
