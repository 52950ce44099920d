-- Rooms that the public functions make and change. The contracts alone say which they are.
use Rattle.std.specs.Prelude.{ℕ, ◌≡◌, List}
use Rattle.book.specs.declared.Answer.{Answer}
use Rattle.setup.specs.SetUp.{SetUp}
use Rattle.store.specs.Face.{Stepped}
use Rattle.rooms.specs.Refused.{given}

-- made, of any room, by a setup that is not turned away, and then changed by steps with any numbers, the refused among them
pub data ReachedRoom : List ℕ → Type 0 where
  begun : {r masks homes : List ℕ} {x : Answer} {late : List ℕ} → SetUp r masks homes x late → given x ≡ 0 → ReachedRoom late
  onward : {r : List ℕ} → ReachedRoom r → {code a b c : ℕ} {x : Answer} {late : List ℕ} → Stepped r code a b c x late → ReachedRoom late

-- the room that r has become by steps
pub data LaterRoom (r : List ℕ) : List ℕ → Type 0 where
  none : LaterRoom r r
  more : {q : List ℕ} → LaterRoom r q → {code a b c : ℕ} {x : Answer} {late : List ℕ} → Stepped q code a b c x late → LaterRoom r late
