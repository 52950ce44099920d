-- Document 02, c: no desk takes a value above 100,000, so none is kept, and no read answers one.
use Rattle.std.specs.Prelude.{ℕ, ◌&&◌, [], ◌∷◌, eqb, ltb}
use Rattle.std.proofs.Common.{⊎_elim, arith}
use Rattle.book.specs.Servers.{place_of}
use Rattle.book.specs.declared.Answer.{Answer}
use Rattle.book.specs.Sizes.{keys, places_max}
use Rattle.book.specs.Cells.{Store, same, Transactions, Snapshot, WriteSet, ReadSet, WriteValue, ReadValue, CacheValue, CacheTime, By, KeySet, Value}
use Rattle.book.specs.Cases.{choose}
use Rattle.book.specs.Sets.{member}
use Rattle.book.specs.Answers.{view_numbers, numbers}
use Rattle.book.specs.Views.{versions_of, wrote_by, held_view}
use Rattle.book.specs.SessionSteps.{read_answer}
use Rattle.book.specs.Steps.{rule_of, refusal, answer}
use Rattle.book.specs.Reached.{Reached, Later}
use Rattle.facts.specs.Step.{Step, Writing, over, by_reached, by_later}
use Rattle.merging.proofs.Merge.{of_all}
use Rattle.bounds.specs.Ceiling.{Enterable, Ceiling}

-- an answer whose second number, the value where a read finds one, a desk could have entered
abbrev Said : Answer → Type 0
Said x = Enterable (numbers x).second

module _ (σ : Store) (C : Ceiling σ) where
  -- a server's view of a key is nothing, or what a transaction wrote
  held_ceiling : (h k S : ℕ) → Enterable (view_numbers (held_view σ h k S)).second
  held_ceiling h k S =
      ⊎_elim
      (λ e. rw e (omega arith))
      (λ (t, _, e). rw e (C.asked t k))
      (of_all σ k S places_max (λ t. versions_of σ h k t && wrote_by σ k S t))

  found_ceiling : (s k h : ℕ) → Said (read_answer σ s k h)
  found_ceiling s k h =
      choose Said (member (σ (WriteSet s)) k) (C.written s k)
      (choose Said (member (σ (ReadSet s)) k) (C.read s k)
      (choose Said (ltb 0 (σ (CacheTime s k))) (C.cached s k)
      (held_ceiling h k (σ (Snapshot s)))))

  -- a value comes in by a write; the other steps that move one take it from where it is kept
  step_ceiling : {τ : Store} → Writing σ (WriteValue 0 0 ∷ ReadValue 0 0 ∷ CacheValue 0 0 ∷ Value 0 0 ∷ []) τ → Ceiling τ
  step_ceiling (Step.reads s₀ k₀ h f) = record {
    written = C.written;
    read = λ s k. choose Enterable (same (ReadValue s₀ k₀) (ReadValue s k))
        (choose Enterable (eqb (numbers (read_answer σ s₀ k₀ h)).first 1) (found_ceiling s₀ k₀ h) (C.read s₀ k₀))
        (C.read s k);
    cached = C.cached;
    asked = C.asked;
  }
  step_ceiling (Step.writes s₀ k₀ v f) = record {
    written = λ s k. choose Enterable (same (WriteValue s₀ k₀) (WriteValue s k)) f.value (C.written s k);
    read = C.read;
    cached = C.cached;
    asked = C.asked;
  }
  step_ceiling (Step.asks s₀ f q) = record {
    written = C.written;
    read = C.read;
    cached = C.cached;
    asked = λ t k. choose Enterable (eqb (σ Transactions) t && ltb k keys) (C.written s₀ k) (C.asked t k);
  }
  step_ceiling (Step.decides n f) = record {
    written = C.written;
    read = C.read;
    cached = λ s k.
        choose Enterable (eqb (σ (By (place_of n))) s && member (σ (KeySet (place_of n))) k) (C.asked (place_of n) k) (C.cached s k);
    asked = C.asked;
  }

-- In every reached store no value is above 100,000.
pub ceiling : {σ : Store} → Reached σ → Ceiling σ
ceiling =
    by_reached Ceiling
    (λ masks homes e. record {
      written = λ s k. omega arith;
      read = λ s k. omega arith;
      cached = λ s k. omega arith;
      asked = λ t k. omega arith;
    })
    (λ σ r C τ x. over Ceiling x (step_ceiling σ C) C)

-- A store without a higher value, reached or not, gets none by steps.
pub ceiling_later : {σ τ : Store} → Later σ τ → Ceiling σ → Ceiling τ
ceiling_later w C = by_later Ceiling C (λ τ v D υ x. over Ceiling x (step_ceiling τ D) D) w

-- No read answers a value that no desk could have entered.
pub read_ceiling : {σ : Store} → Reached σ → (s k h : ℕ) → Enterable (numbers (answer σ 3 s k h)).second
unfolding answer rule_of
read_ceiling {σ} r s k h = choose Said (eqb (refusal σ 3 s k h) 0) (found_ceiling σ (ceiling r) s k h) (omega arith)
