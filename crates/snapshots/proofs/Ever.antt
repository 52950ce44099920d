-- The store against the run: what was decided so far, entry by entry, is what the store has as decided.
use Rattle.std.specs.Prelude.{ℕ, ◌<◌, true, ◌≡◌, ◌⊎◌, eqb}
use Rattle.std.proofs.lemmas.Bool.{false≢true}
use Rattle.std.proofs.Math.Bool.{and-false}
use Rattle.std.proofs.Math.Path.{refl, sym}
use Rattle.std.proofs.Common.{ap, ◌∙◌, subst, le_trans, arith}
use mathlib.Core.List.Memᴰ
use mathlib.Core.List.{List, [], ◌∷◌, Memᴰ}
use Rattle.std.proofs.Math.Logic.{⊎_elim}
use borrow.Author.Tests.{ltb-true, lt-ltb, eq-eqb, ne_eqb}
use Rattle.book.specs.Sizes.{partitions_max}
use Rattle.book.specs.Cells.{Store, Transactions, By, From, CommitTime, KeySet, Value, State, prepared, Proposed}
use Rattle.book.specs.Cases.{by_test, by_eq, at_same}
use Rattle.book.specs.Folds.{largest_ge}
use Rattle.book.specs.Servers.{place_of, number_of}
use Rattle.book.specs.Views.{merge, decided, decided_view}
use Rattle.book.specs.Setup.{first_store}
use Rattle.book.specs.SessionSteps.{has_writes}
use Rattle.book.specs.CommitSteps.{decision, decide}
use Rattle.book.specs.Steps.{Rule, rule_of, by_code, end_rule, refusal, after, refused_unchanged}
use Rattle.book.specs.Reached.{Reached, Later}
use Rattle.book.specs.History.{Decided, ever_view, entry_of, decided_after, decided_ever}
use Rattle.facts.specs.Facts.{decide_facts, Decides}
use Rattle.bounds.specs.Formed.{formed}
use Rattle.bounds.proofs.WellFormedKept.{reached_well_formed}
use Rattle.invariant.proofs.OwnWrites.{reached_own}
use Rattle.merging.specs.Merge.{view_of, wrote}
use Rattle.merging.proofs.Sets.{decided_view_lem}
use Rattle.invariant.proofs.Reach.{reached_inv}
use Rattle.snapshots.proofs.TransactionKept.{decided_there, transaction_kept}
use Rattle.snapshots.specs.Ever.{entry_now, entries, Ledger}

entries_view : (σ : Store) (ts : List ℕ) (k S : ℕ) → ever_view (entries σ ts) k S ≡ view_of σ k S ts
unfolding entries ever_view view_of
entries_view σ [] k S = refl
entries_view σ (t ∷ ts) k S = ap (merge (wrote σ k S t)) (entries_view σ ts k S)

-- so its view is that of all that is decided
pub ledger_view : (σ : Store) {H : List Decided} → Ledger σ H → (k S : ℕ) → ever_view H k S ≡ decided_view σ k S
ledger_view σ L k S = rw L.1 (entries_view σ L.0 k S ∙ sym (decided_view_lem σ k S L.0 L.2))

-- only a decide gives a commit time
abbrev Undeciding : Store → ℕ → ℕ → Rule → Type 0
Undeciding σ t n r = (n ≡ 7 → ⊥) → r.after (CommitTime t) ≡ σ (CommitTime t)

no_decide : (σ : Store) (t code a b c : ℕ) → (code ≡ 7 → ⊥) → (rule_of σ code a b c).after (CommitTime t) ≡ σ (CommitTime t)
no_decide σ t code a b c =
    let seven : (r : Rule) → Undeciding σ t 7 r = λ r n. absurd (n refl) in
    let ends : (y z : ℕ) → Undeciding σ t 5 (end_rule σ a y z) = λ y z n. by_test (has_writes σ a) (λ w. rw w) (λ w. rw w) in
    let stays : (n : ℕ) (r : Rule) → r.after (CommitTime t) ≡ σ (CommitTime t) → Undeciding σ t n r = λ n r q m. q in
    by_code (Undeciding σ t) σ code a b c (search (seven, ends, stays) depth 30) (λ n. refl)

module _ {σ : Store} (R : Reached σ) where
  -- what is decided stays as it is, whatever the next step
  entry_kept : (code a b c t : ℕ) → decided σ t ≡ true → entry_now (after σ code a b c) t ≡ entry_now σ t
  entry_kept code a b c t d =
      let l = ltb-true 0 (σ (CommitTime t)) d in
      let K = transaction_kept (Later.more Later.none code a b c) t (decided_there σ (reached_inv R) t l) in
      λ i. record { number = number_of t; by = K.by i; hall = K.from i; time = K.time l i; keys = K.keys i; value = λ k. K.values k i }

  entries_kept : (code a b c : ℕ) (ts : List ℕ) → ((t : ℕ) → Memᴰ t ts → decided σ t ≡ true)
      → entries (after σ code a b c) ts ≡ entries σ ts
  unfolding entries
  entries_kept code a b c [] f = refl
  entries_kept code a b c (t ∷ ts) f =
      λ i. entry_kept code a b c t (f t (Memᴰ.head refl)) i ∷ entries_kept code a b c ts (λ u m. f u (Memᴰ.tail m)) i

  -- a step that is no decide, or is turned away
  ledger_same : (code a b c : ℕ) {H : List Decided} → ((t : ℕ) → after σ code a b c (CommitTime t) ≡ σ (CommitTime t)) → Ledger σ H
      → Ledger (after σ code a b c) H
  ledger_same code a b c f (ts, e, m) = (
    ts,
    e ∙ sym (entries_kept code a b c ts (λ t i. ((m t).0 i).1)),
    λ t. (λ i. (((m t).0 i).0, rw (f t) ((m t).0 i).1), λ (l, d). (m t).1 (l, rw (f t) at d)),
  )

  -- a transaction writes a partition, so a decide gives it a commit time
  pub decision_some : (t : ℕ) → t < σ Transactions → ((p : ℕ) → p < partitions_max → (σ (State t p) ≡ 0) ⊎ (σ (State t p) ≡ prepared))
      → 0 < decision σ t
  decision_some t there states =
      let F = formed σ (reached_well_formed R) in
      let x = (reached_own R).some t there in
      let l = x.2 in
      let e : σ (State t x.0) ≡ prepared = ⊎_elim (λ z. absurd (omega arith)) (λ z. z) (states x.0 x.1) in
      let y = F.prepared t x.0 (le_trans there F.places) x.1 e in
      le_trans y (largest_ge partitions_max (λ p. eqb (σ (State t p)) prepared) (λ p. σ (Proposed t p)) x.0 x.1
      (eq-eqb (σ (State t x.0)) prepared e))

  decided_now : (a b c : ℕ) → refusal σ 7 a b c ≡ 0 → after σ 7 a b c ≡ decide σ (place_of a)
  unfolding refusal after rule_of
  decided_now a b c z = rw (eq-eqb _ _ z)

  decide_asks : (a b c : ℕ) → refusal σ 7 a b c ≡ 0 → Decides σ a
  unfolding refusal rule_of
  decide_asks a b c z = decide_facts σ a b c z

  -- a decide that is taken
  ledger_more : (a b c : ℕ) {H : List Decided} → refusal σ 7 a b c ≡ 0 → Ledger σ H → Ledger (after σ 7 a b c) (entry_of σ (place_of a) ∷ H)
  unfolding entries
  ledger_more a b c {H} z (ts, e, m) =
      let F = decide_asks a b c z in
      let n = place_of a in
      let τ = after σ 7 a b c in
      let q : τ ≡ decide σ n = decided_now a b c z in
      let own : τ (CommitTime n) ≡ decision σ n = rw (q, at_same (CommitTime n)) in
      let other : (t : ℕ) → (n ≡ t → ⊥) → τ (CommitTime t) ≡ σ (CommitTime t) = λ t d. rw (q, ne_eqb n t d) in
      let some = decision_some n F.there F.states in
      let places = (formed σ (reached_well_formed R)).places in
      let time : decide σ n (CommitTime n) ≡ decision σ n = rw (at_same (CommitTime n)) in
      let entry : entry_of σ n ≡ entry_now τ n = rw q
      (λ i. record {
        number = number_of n;
        by = σ (By n);
        hall = σ (From n);
        time = sym time i;
        keys = σ (KeySet n);
        value = λ k. σ
            (Value n k);
      }) in (
        n ∷ ts,
        λ i. entry i ∷ (e ∙ sym (entries_kept 7 a b c ts (λ t j. ((m t).0 j).1))) i,
        λ t. (
          λ i. ⊎_elim
              (λ (x : t ≡ n). (rw x (le_trans F.there places), rw (x, own) (lt-ltb 0 (decision σ n) some)))
              (λ j. let w = (m t).0 j in
              (w.0, by_eq n t (λ x _. rw (← x, own) (lt-ltb 0 (decision σ n) some)) (λ x _. rw (other t x) w.1)))
              (Memᴰ.cases_cons i),
          λ (l, d). by_eq n t
              (λ x _. Memᴰ.head (sym x))
              (λ x _. Memᴰ.tail ((m t).1 (l, rw (other t x) at d))),
        ),
      )

  undecided_stay : (code a b c t : ℕ) → refusal σ code a b c ≡ 0 → (code ≡ 7 → ⊥) → after σ code a b c (CommitTime t) ≡ σ (CommitTime t)
  unfolding after
  undecided_stay code a b c t z n = rw (eq-eqb _ _ z) (no_decide σ t code a b c n)

  -- Whatever the four numbers.
  pub ledger_step : (code a b c : ℕ) {H : List Decided} → Ledger σ H → Ledger (after σ code a b c) (decided_after σ code a b c H)
  ledger_step code a b c {H} L =
      by_eq (refusal σ code a b c) 0
      (λ z f. by_eq code 7
      (λ x g. rw (g, f)
      (subst (λ (n : ℕ). Ledger (after σ n a b c) (entry_of σ (place_of a) ∷ H)) (sym x)
      (ledger_more a b c (subst (λ (n : ℕ). refusal σ n a b c ≡ 0) x z) L)))
      (λ x g. rw g (ledger_same code a b c (λ t. undecided_stay code a b c t z x) L)))
      (λ z f. rw (f, and-false (eqb code 7), (refused_unchanged σ code a b c z).0) L)

-- At setup nothing is decided.
pub ledger_none : (masks homes : List ℕ) → Ledger (first_store masks homes) []
unfolding entries
ledger_none masks homes = ([], refl, λ t. (λ m. absurd (Memᴰ.not-nil m), λ (l, d). absurd (false≢true d)))

-- So of every run.
pub ever_ledger : {σ : Store} (r : Reached σ) → Ledger σ (decided_ever r)
unfolding decided_ever
ever_ledger (Reached.begun masks homes e) = ledger_none masks homes
ever_ledger (Reached.onward {σ} r code a b c) = ledger_step r code a b c (ever_ledger r)

-- The view of all that was decided so far is the store's view of what is decided.
pub ever_decided : {σ : Store} (r : Reached σ) (k S : ℕ) → ever_view (decided_ever r) k S ≡ decided_view σ k S
ever_decided {σ} r = ledger_view σ (ever_ledger r)
