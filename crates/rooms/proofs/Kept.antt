-- What every reached room keeps to.
use Rattle.std.specs.Prelude.{ℕ, ◌≤◌, true, ◌≡◌, List, ◌↔◌, length}
use Rattle.std.proofs.Common.{true≢false, sym, ◌∙◌, eq-eqb, ne_eqb}
use Rattle.book.specs.declared.Answer.{Answer}
use Rattle.book.specs.Sizes.{halls_max, partitions_max, reading_max, time_max}
use Rattle.book.specs.Cells.{Reading}
use Rattle.book.specs.Servers.{holds}
use Rattle.book.specs.ReplicationSteps.{is_quiet}
use Rattle.book.specs.Reached.{Reached}
use Rattle.bounds.specs.Formed.{All2, Times}
use Rattle.bounds.proofs.WellFormedKept.{reached_well_formed}
use Rattle.bounds.proofs.Bound.{bound}
use Rattle.rounds.proofs.Quiet.{quiet_install}
use Rattle.room.specs.Layout.{size, store}
use Rattle.store.specs.Face.{Stepped, no_word}
use Rattle.rooms.specs.Refused.{given, one_exactly}
use Rattle.rooms.specs.Reached.{ReachedRoom}
use Rattle.rooms.proofs.Reached.{reached_store, reached_sound, reached_given}

-- Of a reached store 1 comes for a wrong length alone,
pub one_by_length : {r : List ℕ} {code a b c : ℕ} {x : Answer} {late : List ℕ} → Reached (store r) → Stepped r code a b c x late
    → (given x ≡ 1) ↔ (length r ≡ size → ⊥)
one_by_length {r} R s =
    let w = one_exactly s in
    let f = reached_well_formed R in
    (λ e q. true≢false (sym (rw (eq-eqb (length r) size q, f)) ∙ w.0 e), λ n. w.1 (rw (ne_eqb (length r) size n)))

-- so a step of a reached room never gets it.
pub never_one : {r : List ℕ} {code a b c : ℕ} {x : Answer} {late : List ℕ} → ReachedRoom r → Stepped r code a b c x late → given x ≡ 1 → ⊥
never_one R s e = true≢false (sym (reached_sound R) ∙ (one_exactly s).0 e)

-- "No timestamp passes 2^48 - 1 + 256": no word for one does.
pub room_bound : {r : List ℕ} → ReachedRoom r
    → record { readings : All2 (◌≤ reading_max) (store r) Reading halls_max partitions_max; times : Times (store r) time_max }
room_bound R = bound (reached_store R)

-- A quiet install changes no word of a reached room.
pub quiet_no_word : {r : List ℕ} {h p : ℕ} {x : Answer} {late : List ℕ} → ReachedRoom r → holds (store r) h p ≡ true
    → is_quiet (store r) h p ≡ true
    → Stepped r 9 h p 0 x late → (given x ≡ 0) × (late ≡ r)
quiet_no_word {h = h} {p = p} R e quiet s =
    let w = quiet_install (reached_store R) h p e quiet in
    (reached_given R s ∙ w.0, no_word w.1 s)
