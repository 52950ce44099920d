-- Demand 1, of any lent room: what is turned away leaves every word and answers zeros.
use Rattle.std.specs.Prelude.{ℕ, false, cond, ◌≡◌, List, ◌↔◌, eqb, length}
use Rattle.std.proofs.Common.{sym, ap, ◌∙◌, ⊎_elim, arith, ne_eqb}
use Rattle.book.specs.declared.Answer.{Answer}
use Rattle.book.specs.declared.Answer.TheVariants.{Refused}
use Rattle.book.specs.Cases.{by_test, by_eq}
use Rattle.book.specs.Answers.{triple, numbers}
use Rattle.book.specs.Setup.{setup_refusal, setup_answer}
use Rattle.book.specs.Steps.{refusal, answer, refused_unchanged, answer_refusal}
use Rattle.facts.specs.Ladders.{in_table}
use Rattle.room.specs.Layout.{size, store}
use Rattle.setup.specs.SetUp.{SetUp}
use Rattle.store.specs.Face.{Stepped, sound, no_word}

-- the number that an answer gives, 0 where nothing is turned away
abbrev pub given : Answer → ℕ
given x = (numbers x).refusal

-- what "Both answers are 0 and the room is unchanged" says of an answer x, a room r and the room late that is left
abbrev pub Unchanged : List ℕ → Answer → List ℕ → Type 0
Unchanged r x late = record { words : late ≡ r; zeros : numbers x ≡ triple (given x) 0 0 }

-- A step that is turned away, whatever the room and the numbers, 1 among the reasons.
pub step_unchanged : {r : List ℕ} {code a b c : ℕ} {x : Answer} {late : List ℕ} → Stepped r code a b c x late → (given x ≡ 0 → ⊥)
    → Unchanged r x late
step_unchanged {r} {code} {a} {b} {c} {x} {late} s n =
    by_test (sound r)
    (λ e. let q : x ≡ answer (store r) code a b c = rw e at s.answer in
    let g : given x ≡ refusal (store r) code a b c = ap given q ∙ answer_refusal (store r) code a b c in
    let u = refused_unchanged (store r) code a b c (λ z. n (g ∙ z)) in
    record { words = no_word u.0 s; zeros = ap numbers q ∙ (u.1 ∙ ap (λ (k : ℕ). triple k 0 0) (sym g)) })
    (λ e. let q : x ≡ Refused 1 = rw e at s.answer in
    record { words = rw e at s.room; zeros = ap numbers q ∙ ap (λ (k : ℕ). triple k 0 0) (sym (ap given q)) })

-- a setup's number: 1 for a room of another length, else the page's
pub setup_gives : {r masks homes : List ℕ} {x : Answer} {late : List ℕ} → SetUp r masks homes x late
    → given x ≡ cond (eqb (length r) size) (setup_refusal masks homes) 1
unfolding setup_answer
setup_gives {r} {masks} {homes} o =
    ap given o.answer
    ∙ by_test (eqb (length r) size)
    (λ e. rw e (by_eq (setup_refusal masks homes) 0 (λ q f. rw (f, q)) (λ q f. rw f)))
    (λ e. rw e)

-- A setup that is turned away.
pub setup_unchanged : {r masks homes : List ℕ} {x : Answer} {late : List ℕ} → SetUp r masks homes x late → (given x ≡ 0 → ⊥)
    → Unchanged r x late
unfolding setup_answer
setup_unchanged {r} {masks} {homes} {x} o n =
    by_test (eqb (length r) size)
    (λ e. let z : setup_refusal masks homes ≡ 0 → ⊥ = λ q. n (setup_gives o ∙ rw (e, q)) in
    let f = ne_eqb (setup_refusal masks homes) 0 z in
    let q : x ≡ Refused (setup_refusal masks homes) = rw (e, f) at o.answer in
    record { words = rw (e, f) at o.room; zeros = ap numbers q ∙ ap (λ (k : ℕ). triple k 0 0) (sym (ap given q)) })
    (λ e. let q : x ≡ Refused 1 = rw e at o.answer in
    record { words = rw e at o.room; zeros = ap numbers q ∙ ap (λ (k : ℕ). triple k 0 0) (sym (ap given q)) })

-- 1: "room of wrong length; or, except at setup, a room that isn't well formed", given exactly when
pub one_exactly : {r : List ℕ} {code a b c : ℕ} {x : Answer} {late : List ℕ} → Stepped r code a b c x late
    → (given x ≡ 1) ↔ (sound r ≡ false)
one_exactly {r} {code} {a} {b} {c} {x} s = (
  λ e. by_test (sound r)
      (λ t. let g : given x ≡ refusal (store r) code a b c = rw t at (ap given s.answer) ∙ answer_refusal (store r) code a b c in
      absurd (⊎_elim (λ z. omega arith) (λ z. omega arith) (in_table (store r) code a b c)))
      (λ t. t),
  λ t. ap given s.answer ∙ rw t,
)
