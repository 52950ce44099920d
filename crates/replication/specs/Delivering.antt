-- The parts of a delivery, one after the other, and the book's rule.
use Rattle.std.specs.Prelude.{ℕ, ◌-◌, ◌<◌, true, ◌&&◌, ◌≡◌, refl, ltb}
use Rattle.std.proofs.Common.{true≢false, sym, ap, subst, ◌∙◌, arith, get_or-set_same, get_or-set_other, ltb-true, lt-ltb}
use Rattle.book.specs.declared.Timestamp.{Timestamp}
use Rattle.book.specs.declared.Vector.{Vector}
use Rattle.book.specs.Sizes.{halls_max, slots}
use Rattle.book.specs.Cells.{Cell, Store, ◌⟨◌≔◌⟩, Entry, Held, First, Waiting}
use Rattle.book.specs.Cases.{by_test, by_eq, eqb_refl}
use Rattle.book.specs.Updates.{is, is_own, one_cell, upd, commute}
use Rattle.book.specs.ReplicationSteps.{slot_of, clock_carried, set_carried, deliver}
use Rattle.room.specs.Bulk.{row3k}
use Rattle.room.specs.Stretch.{held_all, with_entries}
use Rattle.vectors.specs.Vectors.{time, vector_of, length_entries, entry_of_lem, updated_at}
use Rattle.replication.specs.declared.Message.{Message}

-- the oldest message of the channel to g for p from f
abbrev pub carried : Store → ℕ → ℕ → ℕ → Message
carried σ p f g = record { clock = time (clock_carried σ p f g); set = set_carried σ p f g }

-- it is at the slot that the channel names
pub first_slot : (σ : Store) (p f g : ℕ) → σ (First g p f) < slots → slot_of σ g p f 0 ≡ σ (First g p f)
first_slot σ p f g l = omega arith

-- the channel without it
abbrev pub freed : Store → ℕ → ℕ → ℕ → Store
freed σ p f g = σ ⟨ First g p f ≔ slot_of σ g p f 1 ⟩ ⟨ Waiting g p f ≔ σ (Waiting g p f) - 1 ⟩

module _ (σ : Store) (h p x f : ℕ) (l : f < halls_max) where
  abbrev heard : Vector
  heard = updated_at (vector_of σ h p) f (time x)

  at_entry : (g : ℕ) → with_entries heard h p σ (Entry h p g) ≡ (σ ⟨ Entry h p f ≔ x ⟩) (Entry h p g)
  at_entry g =
      rw (eqb_refl h, eqb_refl p)
      (by_eq f g
      (λ q e. rw (e, lt-ltb g halls_max (rw q at l), ← q)
      (ap (λ (y : Timestamp). y.0) (get_or-set_same (vector_of σ h p).times f (time x) (time 0) (rw (length_entries σ h p halls_max) l))))
      (λ q e. rw e
      (by_test (ltb g halls_max)
      (λ m. rw m
      (ap (λ (y : Timestamp). y.0) (get_or-set_other (vector_of σ h p).times f g (time x) (time 0) (λ r. q (sym r)))
      ∙ entry_of_lem σ h p g (ltb-true g halls_max m)))
      (λ m. rw m))))

  each : (d : Cell) → with_entries heard h p σ d ≡ (σ ⟨ Entry h p f ≔ x ⟩) d
  each d =
      by_test (is (Entry h p d.k) d)
      (λ e. subst (λ (c : Cell). with_entries heard h p σ c ≡ (σ ⟨ Entry h p f ≔ x ⟩) c) (one_cell (Entry h p d.k) d e) (at_entry d.k))
      (λ e. rw ((row3k (Entry 0 0 0).kind h p).only (λ c. ltb c.k halls_max && true) d, e)
      (by_test (is (Entry h p f) d)
      (λ q. absurd (true≢false (sym (is_own (Entry h p f)) ∙ rw (← (one_cell (Entry h p f) d q)) at e)))
      (λ q. rw q)))

  -- server (h, p)'s vector, updated at hall f's place and put back, is one entry
  one_entry : with_entries heard h p σ ≡ σ ⟨ Entry h p f ≔ x ⟩
  one_entry = λ i d. each d i

-- the receiving server's stretch first, then the channel
pub all_parts : (σ : Store) (p f g : ℕ) → f < halls_max
    → let v = updated_at (vector_of σ g p) f (time (clock_carried σ p f g)) in
    freed (held_all (set_carried σ p f g) g p (with_entries v g p σ)) p f g ≡ deliver σ p f g
all_parts σ p f g l =
    ap (λ (τ : Store). freed (held_all (set_carried σ p f g) g p τ) p f g) (one_entry σ g p (clock_carried σ p f g) f l)
    ∙ upd _ _ (commute (First 0 0 0).kind (Held 0 0 0).kind _ _ _ _ _ refl)
    ∙ commute (Waiting 0 0 0).kind (Held 0 0 0).kind _ _ _ _ _ refl
