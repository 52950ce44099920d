-- What running a script promises, for any text, any room and any buffer.
use Rattle.std.specs.Prelude.{ℕ, ◌≤◌, ◌<◌, Bool, true, false, cond, ◌&&◌, List, [], ◌++◌, ◌≡◌, refl, ◌⊎◌, eqb, leb, length, drop}
use Rattle.std.proofs.Common.{lt-ltb, le-ltb, sym, ap, ◌∙◌, inl, zero-add, arith, length-append, le-leb, eq-eqb, eqb-true}
use Rattle.std.proofs.Math.Logic.{⊎_map}
use Rattle.book.specs.Cases.{by_test, and_true}
use Rattle.book.specs.Reached.{Reached}
use Rattle.ink.specs.Decimal.{script}
use Rattle.book.specs.Cells.{Store}
use Rattle.ink.specs.Written.{Written, Fits, parts, then}
use Rattle.room.specs.Layout.{size, store}
use Rattle.room.specs.Lay.{lay}
use Rattle.room.proofs.Lay.{lay_store}
use Rattle.script.specs.Printout.{text_max, halls_from, outcome_is, Outcome, only, before, outcome, outcome_same, blank, printed}
use Rattle.script.specs.Length.{capacity, outcome_fits}
use Rattle.script.specs.Reaches.{outcome_reached}

-- A phase that prints from `start` on: it has written what o prints and nothing else, and leaves a room with o's store.
pub record Done (o : Outcome) (start : ℕ) (out late : List ℕ) (next : ℕ) (left : List ℕ) : Type 0 where
  pub written : Written out start o.bytes late next
  pub size : length left ≡ size
  pub store : store left ≡ o.store

-- a line, and a phase after it
pub joined : {xs out mid late left : List ℕ} {o : Outcome} {start m next : ℕ}
    → Written out start xs mid m → Done o m mid late next left → Done (before xs o) start out late next left
joined w d = record { written = then w d.written; size = d.size; store = d.store }

-- a phase that ends with the bytes and leaves the room
pub ends : {xs out late left : List ℕ} {start next : ℕ}
    → Written out start xs late next → length left ≡ size → Done (only xs (store left)) start out late next left
ends w h = record { written = w; size = h; store = refl }

-- a text that is too long, and one that is not
pub room_long : (text : List ℕ) (σ : Store) (out : List ℕ) → capacity ≤ length out → text_max < length text → Fits out 0 (script text_max)
room_long text σ out h l = rw (outcome_is text σ, lt-ltb _ _ l) at (outcome_fits text σ out h)

pub room_short : (text : List ℕ) (σ : Store) (out : List ℕ) → capacity ≤ length out → length text ≤ text_max
    → Fits out 0 (halls_from text σ).bytes
room_short text σ out h l = rw (outcome_is text σ, le-ltb _ _ l) at (outcome_fits text σ out h)

pub ends_long : (text room out late : List ℕ) (next : ℕ) → Written out 0 (script 65536) late next → 65536 < length text
    → length room ≡ size → Done (outcome text (store room)) 0 out late next room
ends_long text room out late next w l h = rw (outcome_is text (store room), lt-ltb _ _ l) (ends w h)

pub ends_short : (text out late left : List ℕ) (σ : Store) (next : ℕ) → length text ≤ text_max
    → Done (halls_from text σ) 0 out late next left → Done (outcome text σ) 0 out late next left
ends_short text out late left σ next l d = rw (outcome_is text σ, le-ltb _ _ l) d

-- Nothing is done in a room of another length, or where the buffer could be too short for some text's printout.
abbrev pub lent : List ℕ → List ℕ → Bool
lent room out = eqb (length room) size && leb capacity (length out)

-- what is written
abbrev pub printout : List ℕ → List ℕ → List ℕ → List ℕ
printout text room out = cond (lent room out) (printed text) []

-- The bytes at the front of the buffer, and what was after them; their number; and the room, word for word and cell for cell.
pub record Ran (text room out : List ℕ) (n : ℕ) (left late : List ℕ) : Type 0 where
  pub count : n ≡ length (printout text room out)
  pub bytes : late ≡ printout text room out ++ drop (length (printout text room out)) out
  pub words : left ≡ cond (lent room out) (lay (outcome text (store room)).store) room
  pub store : store left ≡ cond (lent room out) (outcome text (store room)).store (store room)

-- No second outcome fits.
pub run_one_outcome : {text room out : List ℕ} {m n : ℕ} {left other late later : List ℕ}
    → Ran text room out m left late → Ran text room out n other later → (m ≡ n) × (left ≡ other) × (late ≡ later)
run_one_outcome a b = (a.count ∙ sym b.count, a.words ∙ sym b.words, a.bytes ∙ sym b.bytes)

module _ (text room out : List ℕ) where
  pub not_lent : lent room out ≡ false → Ran text room out 0 room out
  not_lent e = record { count = rw e; bytes = rw e; words = rw e; store = rw e }

  -- the phases together
  pub all_lent : length room ≡ size → capacity ≤ length out → {n : ℕ} {left late : List ℕ}
      → Done (outcome text (store room)) 0 out late n left → Ran text room out n left late
  all_lent e h {n} {left} {late} d =
      let l : lent room out ≡ true = rw (eq-eqb (length room) size e, le-leb capacity (length out) h) in
      let same = outcome_same (store room) blank text in
      record {
        count = rw l (rw (same, zero-add (length (printed text))) at d.written.place);
        bytes = rw l (rw (same, zero-add (length (printed text))) at (parts d.written (outcome_fits text (store room) out h)));
        words = rw l (sym (lay_store left d.size) ∙ ap lay d.store);
        store = rw l d.store;
      }

-- the bytes are in the buffer
pub inside : {text room out : List ℕ} {n : ℕ} {left late : List ℕ} → Ran text room out n left late → n ≤ length late
inside {text} {room} {out} {late = late} r =
    let p = printout text room out in
    omega (arith, r.count, ap length r.bytes, length-append p (drop (length p) out))

-- The room that a script leaves is as it was, or its store is reached.
pub ran_reached : {text room out : List ℕ} {n : ℕ} {left late : List ℕ} → Ran text room out n left late → (left ≡ room) ⊎ Reached (store left)
ran_reached {text} {room} {out} r =
    by_test (lent room out)
    (λ l. let fits = eqb-true (length room) size (and_true (eqb (length room) size) _ l).0 in
    ⊎_map
    (λ e. rw l at r.words ∙ ap lay e ∙ lay_store room fits)
    (λ R. rw (r.store, l) R)
    (outcome_reached text (store room)))
    (λ l. inl (rw l at r.words))
