-- "A full round", of rooms.
use Rattle.std.specs.Prelude.{ℕ, ◌≤◌, ◌<◌, true, ◌≡◌, refl, List, [], ◌∷◌, ◌++◌}
use Rattle.std.proofs.Common.{◌∙◌}
use Rattle.book.specs.declared.Answer.{Answer}
use Rattle.book.specs.Sizes.{partitions_max, places_max}
use Rattle.book.specs.Cells.{Store, Stable, State, prepared, Waiting}
use Rattle.book.specs.Servers.{holds}
use Rattle.facts.specs.Calls.{Call, after_of, AllTaken, EachOnce, run, run_append}
use Rattle.rounds.specs.Round.{is_channel, at_server, with_message, between_halls, lowest_present}
use Rattle.rounds.proofs.Round.{full_round}
use Rattle.room.specs.Layout.{store}
use Rattle.rooms.specs.Reached.{ReachedRoom}
use Rattle.rooms.proofs.Reached.{reached_store, reached_step, reached_given}
use Rattle.rooms.specs.Round.{Called, NoneAway}

pub called_reached : {r late : List ℕ} {l : List Call} {xs : List Answer} → ReachedRoom r → Called r l xs late → ReachedRoom late
called_reached R Called.none = R
called_reached R (Called.more s k) = called_reached (ReachedRoom.onward R s) k

-- the store is then that of the same steps, and none was turned away where their rules turn none away
pub called_store : {r late : List ℕ} {l : List Call} {xs : List Answer} → ReachedRoom r → Called r l xs late → store late ≡ run (store r) l
unfolding run
called_store R Called.none = refl
called_store R (Called.more s k) = called_store (ReachedRoom.onward R s) k ∙ rw (reached_step R s).1

called_taken : {r late : List ℕ} {l : List Call} {xs : List Answer} → ReachedRoom r → Called r l xs late → AllTaken (store r) l
    → NoneAway xs
unfolding AllTaken NoneAway
called_taken R Called.none a = tt
called_taken R (Called.more s k) a =
    (reached_given R s ∙ a.0, called_taken (ReachedRoom.onward R s) k (rw (reached_step R s).1 a.1))

taken_parts : (l m : List Call) (σ : Store) → AllTaken σ (l ++ m) → AllTaken σ l × AllTaken (run σ l) m
unfolding run AllTaken
taken_parts [] m σ a = (tt, a)
taken_parts (x ∷ l) m σ a = let w = taken_parts l m (after_of σ x) a.1 in ((a.0, w.0), w.1)

-- Take a reached room with no prepared transaction and empty channels. `step` is called for an install at each server, which leaves the
-- room mid; for a delivery in each channel that then holds a message, a report of each server, a share from each hall to each and a learn
-- at each server, in any order inside each of these groups and nothing between. None is turned away, and in the room then left every stable
-- time is at least L.
pub room_round : {r mid late : List ℕ} → ReachedRoom r
    → ((t p : ℕ) → t < places_max → p < partitions_max → store r (State t p) ≡ prepared → ⊥)
    → ((p f g : ℕ) → is_channel (store r) p f g ≡ true → store r (Waiting g p f) ≡ 0)
    → (i d n s l : List Call) → EachOnce (at_server (store r) 9) i → {xs ys : List Answer} → Called r i xs mid
    → EachOnce (with_message (store r) (store mid)) d → EachOnce (at_server (store r) 11) n → EachOnce (between_halls (store r)) s
    → EachOnce (at_server (store r) 13) l → Called mid (d ++ (n ++ (s ++ l))) ys late
    → NoneAway xs × NoneAway ys × ((h p : ℕ) → holds (store r) h p ≡ true → lowest_present (store r) ≤ store late (Stable h p))
room_round {r} {mid} {late} R idle empty i d n s l a {xs} {ys} k b c e f m =
    let σ = store r in
    let at = called_store R k in
    let w = full_round (reached_store R) idle empty i d n s l a (rw (← at) b) c e f in
    let t = taken_parts i (d ++ (n ++ (s ++ l))) σ w.0 in
    let M = called_reached R k in
    let left : store late ≡ run σ (i ++ (d ++ (n ++ (s ++ l)))) = called_store M m ∙ rw (at, run_append i (d ++ (n ++ (s ++ l))) σ) in
    (called_taken R k t.0, called_taken M m (rw at t.1), λ h p q. rw left (w.1 h p q))
