-- Demand 3, of rooms: the public `step` of a reached room answers a read that the session can't answer, and later steps don't alter it.
use Rattle.std.specs.Prelude.{ℕ, ◌≡◌, List, []}
use Rattle.book.specs.declared.Answer.{Answer}
use Rattle.book.specs.declared.Answer.TheVariants.{Read}
use Rattle.book.specs.declared.View.{View}
use Rattle.book.specs.Cells.{Snapshot}
use Rattle.book.specs.Answers.{view_numbers, numbers}
use Rattle.book.specs.History.{Decided, ever_view, decided_after}
use Rattle.room.specs.Layout.{store}
use Rattle.rooms.specs.Refused.{given}
use Rattle.rooms.specs.Reached.{ReachedRoom}

-- all that was decided so far in a room, the last first: a decide that is taken adds its transaction as it was in the room before
unfoldable pub decided_in : {r : List ℕ} → ReachedRoom r → List Decided
decided_in (ReachedRoom.begun o z) = []
decided_in (ReachedRoom.onward {r} R {code} {a} {b} {c} s) = decided_after (store r) code a b c (decided_in R)

-- the view of key k that session s's snapshot in the room names
abbrev pub view_in : {r : List ℕ} → ReachedRoom r → ℕ → ℕ → View
view_in {r} R s k = ever_view (decided_in R) k (store r (Snapshot s))

-- what the read's answer x is to be: taken, the view itself, and so the two answers
abbrev pub Shows : View → Answer → Type 0
Shows w x = record { taken : given x ≡ 0; view : x ≡ Read w; answers : numbers x ≡ view_numbers w }
