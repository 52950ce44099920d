-- Rooms that the public functions make and change. The contracts alone say which they are.
use Rattle.std.specs.Prelude.{ℕ, true, ◌≡◌, refl, List, eqb, length}
use Rattle.std.proofs.Common.{sym, ap, ◌∙◌, arith, eq-eqb}
use Rattle.book.specs.declared.Answer.{Answer}
use Rattle.book.specs.declared.Numbers.{Numbers}
use Rattle.book.specs.Cases.{by_test}
use Rattle.book.specs.Setup.{setup_refusal, first_store}
use Rattle.book.specs.Answers.{numbers}
use Rattle.book.specs.Steps.{refusal, after, answer, answer_refusal}
use Rattle.book.specs.Reached.{Reached, Later}
use Rattle.bounds.proofs.WellFormedKept.{reached_well_formed}
use Rattle.room.specs.Layout.{size, store}
use Rattle.room.proofs.Lay.{length_lay}
use Rattle.setup.specs.SetUp.{SetUp, setup_given, setup_room, setup_store}
use Rattle.store.specs.Face.{Stepped, sound, step_answer, step_room, step_store, step_length}
use Rattle.cranktimber.specs.Told.{Told}
use Rattle.rooms.specs.Refused.{given, setup_gives}
use Rattle.rooms.specs.Reached.{ReachedRoom, LaterRoom}

pub reached_later_room : {r q : List ℕ} → ReachedRoom r → LaterRoom r q → ReachedRoom q
reached_later_room R LaterRoom.none = R
reached_later_room R (LaterRoom.more w s) = ReachedRoom.onward (reached_later_room R w) s

-- a setup that is not turned away
setup_good : {r masks homes : List ℕ} {x : Answer} {late : List ℕ} → SetUp r masks homes x late → given x ≡ 0
    → (eqb (length r) size ≡ true) × (setup_refusal masks homes ≡ 0)
setup_good {r} o z =
    by_test (eqb (length r) size)
    (λ e. (e, rw e at (sym (setup_gives o) ∙ z)))
    (λ e. let f : ◌≡◌ {A = ℕ} 1 0 = rw e at (sym (setup_gives o) ∙ z) in absurd (omega arith))

-- leaves the store of its numbers
pub setup_store_lem : {r masks homes : List ℕ} {x : Answer} {late : List ℕ} → SetUp r masks homes x late → given x ≡ 0
    → store late ≡ first_store masks homes
setup_store_lem o z = let w = setup_good o z in rw (w.0, w.1) at o.store

record Laid (r : List ℕ) : Type 0 where
  length : length r ≡ size
  store : Reached (store r)

sound_laid : {r : List ℕ} → Laid r → sound r ≡ true
sound_laid {r} L = rw (eq-eqb (length r) size L.length, reached_well_formed L.store)

laid : {r : List ℕ} → ReachedRoom r → Laid r
laid (ReachedRoom.begun {r} {masks} {homes} {x} {late} o z) =
    let w = setup_good o z in
    record {
      length = ap length o.room ∙ rw (w.0, w.1) (length_lay (first_store masks homes));
      store = rw (setup_store_lem o z) (Reached.begun masks homes w.1);
    }
laid (ReachedRoom.onward {r} R {code} {a} {b} {c} {x} {late} s) =
    let L = laid R in
    record {
      length = step_length s ∙ L.length;
      store = rw (s.store, sound_laid L) (Reached.onward L.store code a b c);
    }

-- The store of a reached room is reached, so every theorem about reached stores is one about reached rooms.
pub reached_store : {r : List ℕ} → ReachedRoom r → Reached (store r)
reached_store R = (laid R).store

-- It has its length and is well formed: "one yes or no, true of every room reached from setup".
pub reached_sound : {r : List ℕ} → ReachedRoom r → sound r ≡ true
reached_sound R = sound_laid (laid R)

-- what a step of a reached room answers and leaves
pub reached_step : {r : List ℕ} {code a b c : ℕ} {x : Answer} {late : List ℕ} → ReachedRoom r → Stepped r code a b c x late
    → (x ≡ answer (store r) code a b c) × (store late ≡ after (store r) code a b c)
reached_step R s = let e = reached_sound R in (rw e at s.answer, rw e at s.store)

pub reached_given : {r : List ℕ} {code a b c : ℕ} {x : Answer} {late : List ℕ} → ReachedRoom r → Stepped r code a b c x late
    → given x ≡ refusal (store r) code a b c
reached_given {r} {code} {a} {b} {c} R s = ap given (reached_step R s).0 ∙ answer_refusal (store r) code a b c

-- and by steps of rooms go the steps of their stores
pub later_store : {r q : List ℕ} → ReachedRoom r → LaterRoom r q → Later (store r) (store q)
later_store R LaterRoom.none = Later.none
later_store R (LaterRoom.more {q} w {code} {a} {b} {c} s) =
    rw (reached_step (reached_later_room R w) s).1 (Later.more (later_store R w) code a b c)

-- What the functions for C make and change are such rooms: what they tell are the numbers of what `setup` and `step` answer.
pub c_setup : {r masks homes : List ℕ} {n : Numbers} {late : List ℕ}
    → Told (setup_given r masks homes) (setup_room r masks homes) (setup_store r masks homes) n late
    → (n ≡ numbers (setup_given r masks homes)) × SetUp r masks homes (setup_given r masks homes) late
c_setup t = (t.numbers, record { answer = refl; room = t.room; store = t.store })

pub c_step : {r : List ℕ} {code a b c : ℕ} {n : Numbers} {late : List ℕ}
    → Told (step_answer r code a b c) (step_room r code a b c) (step_store r code a b c) n late
    → (n ≡ numbers (step_answer r code a b c)) × Stepped r code a b c (step_answer r code a b c) late
c_step t = (t.numbers, record { answer = refl; room = t.room; store = t.store })
