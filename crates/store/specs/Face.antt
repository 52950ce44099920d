-- The public face: what a step answers and what room it leaves, for any room and any four numbers.
use Rattle.std.specs.Prelude.{ℕ, Bool, true, cond, ◌&&◌, ◌≡◌, List, eqb, length}
use Rattle.std.proofs.Common.{sym, ap, ◌∙◌, eq-eqb, ne_eqb, eqb-true}
use Rattle.book.specs.declared.Answer.{Answer}
use Rattle.book.specs.declared.Answer.TheVariants.{Refused}
use Rattle.book.specs.Cells.{Store}
use Rattle.book.specs.Cases.{by_test, and_true}
use Rattle.book.specs.declared.Step.{Step}
use Rattle.ladders.specs.Checked.{numbers_of}
use Rattle.book.specs.Steps.{Rule, rule_of, refusal, after, answer, refused_unchanged}
use Rattle.book.specs.WellFormed.{well_formed}
use Rattle.bounds.proofs.WellFormedKept.{well_formed_kept}
use Rattle.store.specs.Granted.{sized, coordinated_all, timely}
use Rattle.room.specs.Layout.{size, store}
use Rattle.room.specs.Lay.{lay}
use Rattle.room.proofs.Lay.{length_lay, lay_store, onto}

-- 1: "room of wrong length; or, except at setup, a room that isn't well formed"
abbrev pub sound : List ℕ → Bool
sound r = eqb (length r) size && well_formed (store r)

abbrev pub step_answer : List ℕ → ℕ → ℕ → ℕ → ℕ → Answer
step_answer r code a b c = cond (sound r) (answer (store r) code a b c) (Refused 1)

-- word for word
abbrev pub step_room : List ℕ → ℕ → ℕ → ℕ → ℕ → List ℕ
step_room r code a b c = cond (sound r) (lay (after (store r) code a b c)) r

-- cell for cell
abbrev pub step_store : List ℕ → ℕ → ℕ → ℕ → ℕ → Store
step_store r code a b c = cond (sound r) (after (store r) code a b c) (store r)

-- the rule of a step, at the numbers that name it
abbrev pub rule_at : Store → Step → Rule
rule_at σ step = let n = numbers_of step in rule_of σ n.0 n.1 n.2 n.3

-- what the public step promises of its answer x and of the room late that it leaves: its words, and the store that they are read as
pub record Stepped (r : List ℕ) (code a b c : ℕ) (x : Answer) (late : List ℕ) : Type 0 where
  pub answer : x ≡ step_answer r code a b c
  pub room : late ≡ step_room r code a b c
  pub store : store late ≡ step_store r code a b c

-- the same of a room that is known to be well formed, and stays so
pub record Inner (r : List ℕ) (code a b c : ℕ) (x : Answer) (late : List ℕ) : Type 0 where
  pub size : length late ≡ size
  pub formed : well_formed (store late) ≡ true
  pub answer : x ≡ answer (store r) code a b c
  pub store : store late ≡ after (store r) code a b c

-- No second outcome fits: two answers and two rooms that meet a contract are one.
pub one_outcome : {r : List ℕ} {code a b c : ℕ} {x y : Answer} {late later : List ℕ}
    → Stepped r code a b c x late → Stepped r code a b c y later → (x ≡ y) × (late ≡ later)
one_outcome s t = (s.answer ∙ sym t.answer, s.room ∙ sym t.room)

pub one_outcome_inner : {r : List ℕ} {code a b c : ℕ} {x y : Answer} {late later : List ℕ}
    → Inner r code a b c x late → Inner r code a b c y later → (x ≡ y) × (late ≡ later)
one_outcome_inner {late = late} {later = later} s t =
    (s.answer ∙ sym t.answer, onto late later s.size t.size (s.store ∙ sym t.store))

-- a step that is turned away, and one that is taken
pub turned_away_lem : (σ : Store) (code a b c n : ℕ) → n ≡ refusal σ code a b c → (n ≡ 0 → ⊥)
    → (Refused n ≡ answer σ code a b c) × (σ ≡ after σ code a b c)
unfolding answer
turned_away_lem σ code a b c n e f =
    let m : refusal σ code a b c ≡ 0 → ⊥ = λ z. f (e ∙ z) in
    (rw (e, ne_eqb (refusal σ code a b c) 0 m), sym (refused_unchanged σ code a b c m).0)

pub away_answer : (σ : Store) (code a b c n : ℕ) → n ≡ refusal σ code a b c → (n ≡ 0 → ⊥) → Refused n ≡ answer σ code a b c
away_answer σ code a b c n e f = (turned_away_lem σ code a b c n e f).0

pub away_store : (σ : Store) (code a b c n : ℕ) → n ≡ refusal σ code a b c → (n ≡ 0 → ⊥) → σ ≡ after σ code a b c
away_store σ code a b c n e f = (turned_away_lem σ code a b c n e f).1

pub taken : (σ : Store) (code a b c : ℕ) → refusal σ code a b c ≡ 0
    → ((rule_of σ code a b c).answer ≡ answer σ code a b c) × ((rule_of σ code a b c).after ≡ after σ code a b c)
unfolding answer after
taken σ code a b c e = (rw (eq-eqb (refusal σ code a b c) 0 e), rw (eq-eqb (refusal σ code a b c) 0 e))

-- a step that these numbers name, where it is taken: what its rule gives is what these numbers give
module _ (σ : Store) (code a b c : ℕ) (step : Step) (n : numbers_of step ≡ (code, a, b, c)) (e : refusal σ code a b c ≡ 0) where
  pub named_taken : (rule_at σ step).refusal ≡ 0
  unfolding refusal
  named_taken = rw n e

  pub named_answer : (rule_at σ step).answer ≡ answer σ code a b c
  named_answer = rw n (taken σ code a b c e).0

  pub named_after : (rule_at σ step).after ≡ after σ code a b c
  named_after = rw n (taken σ code a b c e).1

  pub named_formed : well_formed σ ≡ true → well_formed (rule_at σ step).after ≡ true
  named_formed w = rw named_after (well_formed_kept σ code a b c w)

-- what the inner step is proved by
pub ruleset inner = (sized, coordinated_all, timely, away_answer, away_store, named_taken, named_answer, named_after, named_formed)

-- the inner step's promise is the public one's, where the room is sound
pub moved_stepped : {r : List ℕ} {code a b c : ℕ} {x : Answer} {late : List ℕ} → sound r ≡ true → Inner r code a b c x late → Stepped r code a b c x late
moved_stepped {late = late} e m =
    record { answer = rw e m.answer; room = rw e (sym (lay_store late m.size) ∙ ap lay m.store); store = rw e m.store }

-- a step that changes no cell changes no word
pub no_word : {r : List ℕ} {code a b c : ℕ} {x : Answer} {late : List ℕ} → after (store r) code a b c ≡ store r → Stepped r code a b c x late → late ≡ r
no_word {r} e s =
    by_test (sound r)
    (λ t. s.room ∙ rw (t, e) (lay_store r (eqb-true (length r) size (and_true (eqb (length r) size) _ t).0)))
    (λ t. s.room ∙ rw t)

-- a step leaves a room as long as it was
pub step_length : {r : List ℕ} {code a b c : ℕ} {x : Answer} {late : List ℕ} → Stepped r code a b c x late → length late ≡ length r
step_length {r} {code} {a} {b} {c} s =
    by_test (sound r)
    (λ e. ap length s.room
    ∙ rw e (length_lay (after (store r) code a b c) ∙ sym (eqb-true (length r) size (and_true (eqb (length r) size) _ e).0)))
    (λ e. ap length s.room ∙ rw e)
