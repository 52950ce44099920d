-- "A full round", of rooms.
use Rattle.std.specs.Prelude.{ℕ, ◌≡◌, List, [], ◌∷◌}
use Rattle.book.specs.declared.Answer.{Answer}
use Rattle.facts.specs.Calls.{Call}
use Rattle.store.specs.Face.{Stepped}
use Rattle.rooms.specs.Refused.{given}

-- `step` called with one four numbers after another, what it answered each time, and the room that is left
pub data Called : List ℕ → List Call → List Answer → List ℕ → Type 0 where
  none : {r : List ℕ} → Called r [] [] r
  more : {r mid late : List ℕ} {n : Call} {l : List Call} {x : Answer} {xs : List Answer}
      → Stepped r n.code n.a n.b n.c x mid → Called mid l xs late → Called r (n ∷ l) (x ∷ xs) late

-- none was turned away
unfoldable pub NoneAway : List Answer → Type 0
NoneAway [] = Unit
NoneAway (x ∷ xs) = (given x ≡ 0) × NoneAway xs
