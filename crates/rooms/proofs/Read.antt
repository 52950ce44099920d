-- Demand 3, of rooms: the public `step` of a reached room answers a read that the session can't answer, and later steps don't alter it.
use Rattle.std.specs.Prelude.{ℕ, ◌<◌, ◌≡◌, List}
use Rattle.std.proofs.Common.{sym, ap, ◌∙◌}
use Rattle.book.specs.declared.Answer.{Answer}
use Rattle.book.specs.declared.Answer.TheVariants.{Read}
use Rattle.book.specs.declared.View.{View}
use Rattle.book.specs.Sizes.{keys}
use Rattle.book.specs.Cells.{Snapshot}
use Rattle.book.specs.Answers.{numbers}
use Rattle.book.specs.Steps.{view_taken}
use Rattle.book.specs.History.{ever_view, decided_ever}
use Rattle.invariant.proofs.Reach.{reached_later}
use Rattle.snapshots.specs.Ever.{Ledger}
use Rattle.snapshots.proofs.Ever.{ledger_view, ledger_none, ledger_step, ever_decided}
use Rattle.snapshots.specs.SnapshotRead.{Fetches}
use Rattle.snapshots.proofs.SnapshotRead.{snapshot_read}
use Rattle.snapshots.proofs.LaterRead.{later_never_alters, later_read}
use Rattle.room.specs.Layout.{store}
use Rattle.store.specs.Face.{Stepped}
use Rattle.rooms.specs.Refused.{given}
use Rattle.rooms.specs.Reached.{ReachedRoom, LaterRoom}
use Rattle.rooms.proofs.Reached.{setup_store_lem, reached_store, reached_step, later_store, reached_later_room}
use Rattle.rooms.specs.Read.{decided_in, view_in, Shows}

-- entry by entry what the room's words have as decided
room_ledger : {r : List ℕ} (R : ReachedRoom r) → Ledger (store r) (decided_in R)
unfolding decided_in
room_ledger (ReachedRoom.begun {masks = masks} {homes = homes} o z) = rw (setup_store_lem o z) (ledger_none masks homes)
room_ledger (ReachedRoom.onward {r} R {code} {a} {b} {c} s) =
    rw (reached_step R s).1 (ledger_step (reached_store R) code a b c (room_ledger R))

shows : (w : View) {x : Answer} → x ≡ Read w → Shows w x
shows w v = record { taken = ap given v ∙ view_taken w; view = v; answers = ap numbers v }

-- the room's list and its store's history have one view
same_view : {r : List ℕ} (R : ReachedRoom r) (k S : ℕ) → ever_view (decided_ever (reached_store R)) k S ≡ ever_view (decided_in R) k S
same_view {r} R k S = ever_decided (reached_store R) k S ∙ sym (ledger_view (store r) (room_ledger R) k S)

-- "is answered in that step by any hall holding the key, and equals the merge of ALL transactions decided so far with commit time at or
-- below its snapshot"
pub room_read : {r : List ℕ} {s k h : ℕ} {x : Answer} {late : List ℕ} (R : ReachedRoom r) → Fetches (store r) s k h
    → Stepped r 3 s k h x late
    → Shows (view_in R s k) x
room_read {r} {s} {k} {h} R f z =
    shows (view_in R s k)
    ((reached_step R z).0 ∙ (snapshot_read (reached_store R) s k h f).1 ∙ ap Read (same_view R k (store r (Snapshot s))))

-- "Later decisions never alter it": the view that a room's snapshot names is in every later room what it was,
pub room_later_never_alters : {r q : List ℕ} (R : ReachedRoom r) (w : LaterRoom r q) (s k : ℕ) → k < keys
    → ever_view (decided_in (reached_later_room R w)) k (store r (Snapshot s)) ≡ view_in R s k
room_later_never_alters {r} {q} R w s k kb =
    let S = store r (Snapshot s) in
    let Q = reached_later_room R w in
    let W = later_store R w in
    ledger_view (store q) (room_ledger Q) k S
    ∙ (sym (ever_decided (reached_later (reached_store R) W) k S) ∙ (later_never_alters (reached_store R) W s k kb ∙ same_view R k S))

-- and a read in a later room, the session still at that snapshot, answers it.
pub room_later_read : {r q : List ℕ} {s k h : ℕ} {x : Answer} {late : List ℕ} (R : ReachedRoom r) → LaterRoom r q
    → Fetches (store q) s k h → store q (Snapshot s) ≡ store r (Snapshot s) → Stepped q 3 s k h x late → Shows (view_in R s k) x
room_later_read {r} {s = s} {k = k} {h = h} R w f e z =
    shows (view_in R s k)
    ((reached_step (reached_later_room R w) z).0 ∙ (later_read (reached_store R) (later_store R w) s k h f e).1
    ∙ ap Read (same_view R k (store r (Snapshot s))))
