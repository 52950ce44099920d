-- "One message with these and the version clock goes to each other holder": hall by hall, and all of them.
use Rattle.std.specs.Prelude.{ℕ, suc, ◌+◌, Bool, true, false, cond, ◌&&◌, ◌≡◌, refl, List, eqb, ltb}
use Rattle.std.proofs.Common.{sym, ap, ◌∙◌, arith, ltb-false}
use Rattle.book.specs.Sizes.{halls_max}
use Rattle.book.specs.Cells.{Cell, Store, ◌⟨◌≔◌⟩, each3, each4, Waiting, ClockSent, Carries}
use Rattle.book.specs.Cases.{by_test}
use Rattle.book.specs.Updates.{upd, commute}
use Rattle.book.specs.ReplicationSteps.{other_holder, next_slot}
use Rattle.room.specs.Layout.{store}
use Rattle.room.specs.Bulk.{Row, row3i, row4i, up_to, begin, ahead, puts, skips}
use Rattle.servers.specs.Holders.{none_beyond}
use Rattle.replication.specs.Safe.{Channel}

-- the channel from server (h, p) to hall g with a message more: the clock c and the set m
abbrev pub sent : Store → ℕ → ℕ → ℕ → ℕ → ℕ → Store
sent σ h p g c m =
    σ ⟨ ClockSent g p h (next_slot σ g p h) ≔ c ⟩
    ⟨ Carries g p h (next_slot σ g p h) ≔ m ⟩
    ⟨ Waiting g p h ≔ suc (σ (Waiting g p h)) ⟩

-- where g is another holder
abbrev pub sent_if : Store → ℕ → ℕ → ℕ → ℕ → ℕ → Store
sent_if σ h p g c m = cond (other_holder σ h p g) (sent σ h p g c m) σ

-- the store τ with a message to each hall that passes, from server (h, p), at the slots that are next in the store σ
abbrev pub messages_to : (ℕ → Bool) → Store → ℕ → ℕ → ℕ → ℕ → Store → Store
messages_to ok σ h p c m τ =
    each4 ClockSent (λ g q f n. (eqb p q && (eqb h f && ok g)) && eqb (next_slot σ g q f) n) (λ g q f n. c)
    (each4 Carries (λ g q f n. (eqb p q && (eqb h f && ok g)) && eqb (next_slot σ g q f) n) (λ g q f n. m)
    (each3 Waiting (λ g q f. eqb p q && (eqb h f && ok g)) (λ g q f. suc (σ (Waiting g q f))) τ))

-- to each other holder
abbrev pub messages : Store → ℕ → ℕ → ℕ → ℕ → Store → Store
messages σ h p c m τ = messages_to (other_holder σ h p) σ h p c m τ

-- either way of a test comes to z
pick : {A : Type 0} (b : Bool) (x y z : A) → (b ≡ true → x ≡ z) → (b ≡ false → y ≡ z) → cond b x y ≡ z
pick true x y z f g = f refl
pick false x y z f g = g refl

module _ (σ : Store) (h p c m : ℕ) where
  -- the rows of a message's clock, of its set and of the counts, and what a count becomes
  abbrev to : Cell → Bool
  to d = other_holder σ h p d.i

  abbrev clock_row : Row
  clock_row = row4i (ClockSent 0 0 0 0).kind p h (next_slot σ)

  abbrev set_row : Row
  set_row = row4i (Carries 0 0 0 0).kind p h (next_slot σ)

  abbrev count_row : Row
  count_row = row3i (Waiting 0 0 0).kind p h

  abbrev one_more : Cell → ℕ
  one_more d = suc (σ (Waiting d.i d.j d.k))

  -- the rows as far as the first n halls
  abbrev clocks : ℕ → Store → Store
  clocks n τ = up_to clock_row to (λ d. c) n τ

  abbrev sets : ℕ → Store → Store
  sets n τ = up_to set_row to (λ d. m) n τ

  abbrev counts : ℕ → Store → Store
  counts n τ = up_to count_row to one_more n τ

  -- the messages to the first n halls
  abbrev pub sent_below : ℕ → Store
  sent_below n = clocks n (sets n (counts n σ))

  pub sent_none : σ ≡ sent_below 0
  sent_none =
      sym
      (begin clock_row to (λ d. c) (sets 0 (counts 0 σ)) ∙ begin set_row to (λ d. m) (counts 0 σ) ∙ begin count_row to one_more σ)

  -- a channel that has not had its turn
  same_waiting : (n : ℕ) → counts n σ (Waiting n p h) ≡ σ (Waiting n p h)
  same_waiting n = ahead count_row to one_more n n σ (omega arith)

  pub channel_ahead : (n : ℕ) → Channel σ n p h → Channel (sent_below n) n p h
  channel_ahead n C = record { first = C.first; waiting = rw (same_waiting n) C.waiting }

  -- the three puts of a round, each in its own row
  sends : (n : ℕ) → other_holder σ h p n ≡ true
      → sent_below n
      ⟨ ClockSent n p h (next_slot σ n p h) ≔ c ⟩
      ⟨ Carries n p h (next_slot σ n p h) ≔ m ⟩
      ⟨ Waiting n p h ≔ suc (σ (Waiting n p h)) ⟩
      ≡ sent_below (n + 1)
  sends n e =
      let x : clocks n (sets n (counts n σ)) ⟨ ClockSent n p h (next_slot σ n p h) ≔ c ⟩ ≡ clocks (n + 1) (sets n (counts n σ))
      = puts clock_row to (λ d. c) n (sets n (counts n σ)) e in
      let y : sets n (counts n σ) ⟨ Carries n p h (next_slot σ n p h) ≔ m ⟩ ≡ sets (n + 1) (counts n σ)
      = puts set_row to (λ d. m) n (counts n σ) e in
      let z : counts n σ ⟨ Waiting n p h ≔ suc (σ (Waiting n p h)) ⟩ ≡ counts (n + 1) σ
      = puts count_row to one_more n σ e in
      upd _ _ (upd _ _ x ∙ commute (Carries 0 0 0 0).kind (ClockSent 0 0 0 0).kind _ _ _ _ _ refl ∙ ap (clocks (n + 1)) y)
      ∙ commute (Waiting 0 0 0).kind (ClockSent 0 0 0 0).kind _ _ _ _ _ refl
      ∙ ap (clocks (n + 1)) (commute (Waiting 0 0 0).kind (Carries 0 0 0 0).kind _ _ _ _ _ refl ∙ ap (sets (n + 1)) z)

  -- a round that sends
  pub sent_on : (n : ℕ) → other_holder σ h p n ≡ true → sent (sent_below n) h p n c m ≡ sent_below (n + 1)
  sent_on n e = rw (same_waiting n) (sends n e)

  -- a round that sends nothing
  pub skipped : (n : ℕ) → other_holder σ h p n ≡ false → sent_below n ≡ sent_below (n + 1)
  skipped n e =
      skips clock_row to (λ d. c) n (sets n (counts n σ)) e
      ∙ ap (clocks (n + 1)) (skips set_row to (λ d. m) n (counts n σ) e ∙ ap (sets (n + 1)) (skips count_row to one_more n σ e))

  -- a round
  pub sent_next : (n : ℕ) → sent_if (sent_below n) h p n c m ≡ sent_below (n + 1)
  sent_next n = pick (other_holder σ h p n) _ _ _ (sent_on n) (skipped n)

module _ (r : List ℕ) (h p c m : ℕ) where
  -- a room has no hall past its last
  each_hall : (g : ℕ) → (ltb g halls_max && other_holder (store r) h p g) ≡ other_holder (store r) h p g
  each_hall g =
      by_test (ltb g halls_max)
      (λ e. rw e)
      (λ e. rw (e, none_beyond r g p (ltb-false g halls_max e)) (by_test (eqb h g) (λ q. rw q) (λ q. rw q)))

  -- so those are all messages
  pub sent_all : sent_below (store r) h p c m halls_max ≡ messages (store r) h p c m (store r)
  sent_all = ap (λ (ok : ℕ → Bool). messages_to ok (store r) h p c m (store r)) (λ x g. each_hall g x)
