-- The parts of an install, one after the other, and the book's rule.
use Rattle.std.specs.Prelude.{ℕ, Bool, true, false, cond, ◌&&◌, not, ◌≡◌, refl, List, eqb}
use Rattle.std.proofs.Math.Bool.{and-false}
use Rattle.std.proofs.Common.{ap, ◌∙◌}
use Rattle.std.specs.declared.option.Option.{Option}
use Rattle.book.specs.declared.Clock.{Clock}
use Rattle.book.specs.declared.Timestamp.{Timestamp}
use Rattle.book.specs.Sizes.{places_max}
use Rattle.book.specs.Cells.{Cell, Store, ◌⟨◌≔◌⟩, each2, each3, Reading, Hybrid, Entry, Held, State, installed}
use Rattle.book.specs.Cases.{by_eq}
use Rattle.book.specs.Sets.{set_of, size}
use Rattle.book.specs.ReplicationSteps.{version_clock, hybrid_after, installs, number_installed, is_quiet, other_holder, sends_to, install}
use Rattle.room.specs.Layout.{store}
use Rattle.room.specs.Stretch.{held_all}
use Rattle.clocks.specs.Clocks.{clock, clock_of}
use Rattle.replication.specs.declared.Installation.{Installation}
use Rattle.replication.specs.ClockAfter.{lowest_proposed, installed_clock, clock_after}
use Rattle.replication.specs.Installing.{due, marked, size_set_of, in_set}
use Rattle.replication.specs.Sending.{messages_to, messages}

-- the transactions that pass held at server (h, p), and installed for p
abbrev pub installed_at : (ℕ → Bool) → ℕ → ℕ → Store → Store
installed_at ok h p σ =
    each2 State (λ t q. eqb p q && ok t) (λ t q. installed)
    (each3 Held (λ a q t. eqb h a && (eqb p q && ok t)) (λ a q t. 1) σ)

-- the messages go into other kinds of cell, so they may be sent before or after that
messages_past : (to ok : ℕ → Bool) (h p c m : ℕ) (σ τ : Store)
    → messages_to to σ h p c m (installed_at ok h p τ) ≡ installed_at ok h p (messages_to to σ h p c m τ)
messages_past to ok h p c m σ τ = λ x d. past d x where
  past : (d : Cell) → messages_to to σ h p c m (installed_at ok h p τ) d ≡ installed_at ok h p (messages_to to σ h p c m τ) d
  past d =
      by_eq (State 0 0).kind d.kind
      (λ q e. rw (← q))
      (λ q e. rw e (by_eq (Held 0 0 0).kind d.kind (λ q e. rw (← q)) (λ q e. rw e)))

-- a quiet one "shall send no message"
unless : (q : Bool) (ok : ℕ → Bool) (h p c m : ℕ) (σ τ : Store)
    → cond q τ (messages_to ok σ h p c m τ) ≡ messages_to (λ g. not q && ok g) σ h p c m τ
unless true ok h p c m σ τ = λ x d. silent d x where
  silent : (d : Cell) → τ d ≡ messages_to (λ g. false) σ h p c m τ d
  silent d = simp and-false
unless false ok h p c m σ τ = refl

-- what an install comes to
abbrev pub outcome_of : Store → ℕ → ℕ → Installation
outcome_of σ h p =
    record {
      clock = clock (σ (Reading h p)) (hybrid_after σ h p) (version_clock σ h p);
      set = set_of places_max (installs σ h p);
      number = number_installed σ h p;
      quiet = is_quiet σ h p;
    }

-- by its parts: the clock before, the lowest proposed time, the clock after, the set, the number, whether it is quiet
pub outcome_made : (σ : Store) (h p : ℕ) (b : Clock) (l : Option Timestamp) (x : Clock) (m n : ℕ) (q : Bool)
    → b ≡ clock_of σ h p
    → l ≡ lowest_proposed σ h p
    → x ≡ installed_clock b l
    → m ≡ set_of places_max (due σ h p x.version.0)
    → n ≡ size m
    → q ≡ (eqb n 0 && eqb x.version.0 b.version.0)
    → record { clock = x; set = m; number = n; quiet = q } ≡ outcome_of σ h p
outcome_made σ h p b l x m n q d e f g i j = rw (j, i, g, f, e, d, clock_after σ h p, size_set_of (installs σ h p))

-- the server's stretch first, then the states, then the messages, unless it is quiet
pub all_parts : (r : List ℕ) (h p : ℕ) (o : Installation) → o ≡ outcome_of (store r) h p
    → let τ = marked p o.set
    (held_all o.set h p (store r ⟨ Hybrid h p ≔ o.clock.hybrid.0 ⟩ ⟨ Entry h p h ≔ o.clock.version.0 ⟩)) in
    cond o.quiet τ (messages τ h p o.clock.version.0 o.set τ) ≡ install (store r) h p
all_parts r h p o e =
    let σ = store r in
    let v = version_clock σ h p in
    let m = set_of places_max (installs σ h p) in
    let X : Store = σ ⟨ Hybrid h p ≔ hybrid_after σ h p ⟩ ⟨ Entry h p h ≔ v ⟩ in
    rw e
    (ap (λ (ok : ℕ → Bool). cond (is_quiet σ h p) (installed_at ok h p X) (messages σ h p v m (installed_at ok h p X))) (λ x t. in_set r h p t x)
    ∙ unless (is_quiet σ h p) (other_holder σ h p) h p v m σ (installed_at (installs σ h p) h p X)
    ∙ messages_past (sends_to σ h p) (installs σ h p) h p v m σ X)
