-- A step that is taken: from which store to which, what it may rely on, and which kinds of cell it writes.
use Rattle.std.specs.Prelude.{ℕ, Bool, true, false, ◌≡◌, refl, List, [], ◌∷◌, ◌⊎◌}
use Rattle.std.proofs.Common.{sym, subst, inl, inr, ⊎_elim, arith, eq-eqb}
use Rattle.book.specs.Cells.{Cell, Store, ◌⟨◌≔◌⟩, Transactions, Reading, Hybrid, Stable, Entry, Held, HomeHall, HomePartition, Status, idle, Snapshot, LastCommit, WriteSet, ReadSet, WriteValue, ReadValue, CacheValue, CacheTime, By, From, CommitTime, KeySet, Value, State, Proposed, First, Waiting, ClockSent, Carries, Note, Shared}
use Rattle.book.specs.Cases.{by_eq}
use Rattle.book.specs.Servers.{place_of}
use Rattle.book.specs.SessionSteps.{start, start_answer, read, write, ask, move}
use Rattle.book.specs.CommitSteps.{tick, prepare, decide, commit}
use Rattle.book.specs.ReplicationSteps.{install, deliver}
use Rattle.book.specs.GossipSteps.{report, share, learn}
use Rattle.book.specs.Steps.{Rule, rule_of, by_code, refusal, after, answer, refused_unchanged, end_rule, ◌also◌}
use Rattle.book.specs.Setup.{setup_refusal, first_store}
use Rattle.book.specs.Reached.{Reached, Later}
use Rattle.facts.specs.Frame.{Kinds, of, meets, only, past}
use Rattle.facts.specs.Facts.{Ticks, Starts, Reads, Writes, Ends, Prepares, Decides, Commits, Installs, Delivers, Serves, Shares, Moves, tick_facts, start_facts, read_facts, write_facts, end_facts, prepare_facts, decide_facts, commit_facts, install_facts, deliver_facts, server_facts, share_facts, move_facts}

-- `Step σ K b τ`: a step takes σ to τ, and b says whether it writes a kind in K. So a function of `Step σ K true τ` has a clause for each
-- step that writes a kind in K, and for no other. Listed are the kinds that a step writes, the last first. End is two: with writes a
-- session asks, without it rests.
pub data Step (σ : Store) (K : Kinds) : Bool → Store → Type 0 where
  ticks : (h p x : ℕ) → Ticks σ h p x → Step σ K (meets K (Reading 0 0 ∷ [])) (tick σ h p x)
  starts : (s : ℕ) → Starts σ s
      → Step σ K (meets K (CacheTime 0 0 ∷ Status 0 ∷ ReadSet 0 ∷ WriteSet 0 ∷ Snapshot 0 ∷ Stable 0 0 ∷ [])) (start σ s)
  reads : (s k h : ℕ) → Reads σ s k h → Step σ K (meets K (ReadValue 0 0 ∷ ReadSet 0 ∷ [])) (read σ s k h)
  writes : (s k v : ℕ) → Writes σ s k v → Step σ K (meets K (WriteValue 0 0 ∷ WriteSet 0 ∷ [])) (write σ s k v)
  asks : (s : ℕ) → Ends σ s → (σ (WriteSet s) ≡ 0 → ⊥)
      → Step σ K (meets K (State 0 0 ∷ Value 0 0 ∷ Transactions ∷ Status 0 ∷ KeySet 0 ∷ From 0 ∷ By 0 ∷ [])) (ask σ s)
  rests : (s : ℕ) → Ends σ s → σ (WriteSet s) ≡ 0 → Step σ K (meets K (Status 0 ∷ [])) (σ ⟨ Status s ≔ idle ⟩)
  prepares : (n p : ℕ) → Prepares σ n p → Step σ K (meets K (State 0 0 ∷ Proposed 0 0 ∷ Hybrid 0 0 ∷ [])) (prepare σ (place_of n) p)
  decides : (n : ℕ) → Decides σ n
      → Step σ K (meets K (CacheValue 0 0 ∷ CacheTime 0 0 ∷ Status 0 ∷ WriteSet 0 ∷ LastCommit 0 ∷ CommitTime 0 ∷ []))
      (decide σ (place_of n))
  commits : (n p : ℕ) → Commits σ n p → Step σ K (meets K (State 0 0 ∷ Hybrid 0 0 ∷ [])) (commit σ (place_of n) p)
  installs : (h p : ℕ) → Installs σ h p
      → Step σ K (meets K (State 0 0 ∷ Held 0 0 0 ∷ ClockSent 0 0 0 0 ∷ Carries 0 0 0 0 ∷ Waiting 0 0 0 ∷ Entry 0 0 0 ∷ Hybrid 0 0 ∷ []))
      (install σ h p)
  delivers : (p f g : ℕ) → Delivers σ p f g
      → Step σ K (meets K (Held 0 0 0 ∷ Waiting 0 0 0 ∷ First 0 0 0 ∷ Entry 0 0 0 ∷ [])) (deliver σ p f g)
  reports : (h p : ℕ) → Serves σ h p → Step σ K (meets K (Note 0 0 ∷ [])) (report σ h p)
  shares : (f to : ℕ) → Shares σ f to → Step σ K (meets K (Shared 0 0 ∷ [])) (share σ f to)
  learns : (h p : ℕ) → Serves σ h p → Step σ K (meets K (Stable 0 0 ∷ [])) (learn σ h p)
  moves : (s h p : ℕ) → Moves σ s h p → Step σ K (meets K (HomePartition 0 ∷ HomeHall 0 ∷ [])) (move σ s h p)

-- a step that writes no kind in K leaves what the store says of these
frame : {σ τ : Store} (K : Kinds) {b : Bool} → Step σ K b τ → b ≡ false → only K τ ≡ only K σ
frame K (Step.ticks h p x f) = past K _ (λ _. refl)
frame K (Step.starts s f) = past K _ (past K _ (past K _ (past K _ (past K _ (past K _ (λ _. refl))))))
frame K (Step.reads s k h f) = past K _ (past K _ (λ _. refl))
frame K (Step.writes s k v f) = past K _ (past K _ (λ _. refl))
frame K (Step.asks s f q) = past K _ (past K _ (past K _ (past K _ (past K _ (past K _ (past K _ (λ _. refl)))))))
frame K (Step.rests s f q) = past K _ (λ _. refl)
frame K (Step.prepares n p f) = past K _ (past K _ (past K _ (λ _. refl)))
frame K (Step.decides n f) = past K _ (past K _ (past K _ (past K _ (past K _ (past K _ (λ _. refl))))))
frame K (Step.commits n p f) = past K _ (past K _ (λ _. refl))
frame K (Step.installs h p f) = past K _ (past K _ (past K _ (past K _ (past K _ (past K _ (past K _ (λ _. refl)))))))
frame K (Step.delivers p f g w) = past K _ (past K _ (past K _ (past K _ (λ _. refl))))
frame K (Step.reports h p f) = past K _ (λ _. refl)
frame K (Step.shares f to w) = past K _ (λ _. refl)
frame K (Step.learns h p f) = past K _ (λ _. refl)
frame K (Step.moves s h p f) = past K _ (past K _ (λ _. refl))

-- a step that writes a kind of the cells listed
abbrev pub Writing : Store → List Cell → Store → Type 0
Writing σ cs τ = Step σ (of cs) true τ

-- a step, whatever kinds are asked for
abbrev pub Taken : Store → Store → Type 0
Taken σ τ = (K : Kinds) → (b : Bool) × Step σ K b τ

-- What holds before a step, and after it if it writes a kind in K, holds after it: for a P that reads no other kind than those in K.
pub over : {K : Kinds} (P : Store → Type 0) {σ τ : Store} → Taken σ τ → (Step σ K true τ → P (only K τ)) → P (only K σ) → P (only K τ)
over {K} P {σ} {τ} w f x = go (w K).0 (w K).1 where
  go : (b : Bool) → Step σ K b τ → P (only K τ)
  go true s = f s
  go false s = subst P (sym (frame K s refl)) x

-- a rule that turns nothing away is a step
abbrev Takes : Store → ℕ → Rule → Type 0
Takes σ code r = r.refusal ≡ 0 → Taken σ r.after

module _ (σ : Store) where
  end_taken : (s y z : ℕ) → Takes σ 5 (end_rule σ s y z)
  end_taken s y z e =
      let f = end_facts σ s y z e in
      by_eq (σ (WriteSet s)) 0
      (λ q w K. rw w (_, Step.rests s f q))
      (λ q w K. rw w (_, Step.asks s f q))

  -- four numbers that are not turned away are a step to the store after them
  pub taken : (code a b c : ℕ) → refusal σ code a b c ≡ 0 → Taken σ (after σ code a b c)
  unfolding refusal after
  taken code a b c e =
      rw (eq-eqb _ _ e) (by_code (Takes σ) σ code a b c
      ((λ e K. (_, Step.ticks a b c (tick_facts σ a b c e)))
      also (λ e K. (_, Step.starts a (start_facts σ a b c e)))
      also (λ e K. (_, Step.reads a b c (read_facts σ a b c e)))
      also (λ e K. (_, Step.writes a b c (write_facts σ a b c e)))
      also end_taken a b c
      also (λ e K. (_, Step.prepares a b (prepare_facts σ a b c e)))
      also (λ e K. (_, Step.decides a (decide_facts σ a b c e)))
      also (λ e K. (_, Step.commits a b (commit_facts σ a b c e)))
      also (λ e K. (_, Step.installs a b (install_facts σ a b c e)))
      also (λ e K. (_, Step.delivers a b c (deliver_facts σ a b c e)))
      also (λ e K. (_, Step.reports a b (server_facts σ a b c e)))
      also (λ e K. (_, Step.shares a b (share_facts σ a b c e)))
      also (λ e K. (_, Step.learns a b (server_facts σ a b c e)))
      also (λ e K. (_, Step.moves a b c (move_facts σ a b c e)))
      also tt)
      (λ e. absurd (omega arith)) e)

  -- what a start that is taken answers
  pub start_answers : (s : ℕ) → refusal σ 2 s 0 0 ≡ 0 → answer σ 2 s 0 0 ≡ start_answer σ s
  unfolding refusal answer rule_of
  start_answers s e = rw (eq-eqb _ _ e)

  pub step_or_same : (code a b c : ℕ) → Taken σ (after σ code a b c) ⊎ (after σ code a b c ≡ σ)
  step_or_same code a b c =
      by_eq (refusal σ code a b c) 0
      (λ q _. inl (taken code a b c q))
      (λ q _. inr (refused_unchanged σ code a b c q).0)

  -- what holds before, and after each step, holds after any four numbers
  after_any : (P : Store → Type 0) → P σ → ((τ : Store) → Taken σ τ → P τ) → (code a b c : ℕ) → P (after σ code a b c)
  after_any P x f code a b c = ⊎_elim (f _) (λ e. rw e x) (step_or_same code a b c)

-- what holds of a good setup's store and is kept by each step holds of every reached store
pub by_reached : (P : Store → Type 0)
    → ((masks homes : List ℕ) → setup_refusal masks homes ≡ 0 → P (first_store masks homes))
    → ((σ : Store) → Reached σ → P σ → (τ : Store) → Taken σ τ → P τ) → {σ : Store} → Reached σ → P σ
by_reached P x f (Reached.begun masks homes e) = x masks homes e
by_reached P x f (Reached.onward {σ} r code a b c) =
    let y = by_reached P x f r in after_any σ P y (f σ r y) code a b c

-- what holds of a store and is kept by each step holds of every later store
pub by_later : (P : Store → Type 0) {σ : Store} → P σ → ((τ : Store) → Later σ τ → P τ → (υ : Store) → Taken τ υ → P υ) → {τ : Store}
    → Later σ τ → P τ
by_later P x f Later.none = x
by_later P x f (Later.more {τ} w code a b c) = let y = by_later P x f w in after_any τ P y (f τ w y) code a b c
