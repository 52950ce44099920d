-- What a read sees: the versions held, at a snapshot, are all that is decided.
use Rattle.std.specs.Prelude.{ℕ, zero, suc, ◌≤◌, ◌<◌, Bool, true, false, ◌&&◌, ◌≡◌, refl}
use Rattle.std.proofs.Common.{sym, ◌∙◌, ⊎_elim, mod-lt, le_trans, arith, eqb-true, eq-eqb, leb-true, ltb-true, lt-ltb}
use Rattle.book.specs.declared.Answer.TheVariants.{Read}
use Rattle.book.specs.declared.View.{View}
use Rattle.book.specs.Sizes.{keys, places_max}
use Rattle.book.specs.Cells.{Store, Partitions, Entry, Held, Snapshot, CommitTime, KeySet, State, asked, prepared, waiting, installed}
use Rattle.book.specs.Cases.{by_test, by_eq, and_true}
use Rattle.book.specs.Sets.{member}
use Rattle.book.specs.Servers.{holds, partition_of, writer}
use Rattle.book.specs.Views.{merge_all, version, decided, wrote_by, decided_view, versions_of, held_view}
use Rattle.book.specs.Steps.{rule_of, refusal, answer}
use Rattle.book.specs.Reached.{Reached}
use Rattle.book.specs.History.{ever_view, decided_ever}
use Rattle.invariant.specs.Inv.{Inv, Below}
use Rattle.facts.specs.Setup.{server_small}
use Rattle.invariant.proofs.Writer.{writer_holds}
use Rattle.invariant.proofs.Reach.{reached_inv, reached_gossip}
use Rattle.snapshots.proofs.Ever.{ever_decided}
use Rattle.snapshots.specs.SnapshotRead.{Fetches}

-- merges over the same transactions, with the same versions
pub merge_all_agree : (n : ℕ) (ok ok' : ℕ → Bool) (f f' : ℕ → View)
    → ((t : ℕ) → t < n → ok t ≡ ok' t) → ((t : ℕ) → t < n → ok t ≡ true → f t ≡ f' t) → merge_all n ok f ≡ merge_all n ok' f'
unfolding merge_all
merge_all_agree zero ok ok' f f' a b = refl
merge_all_agree (suc n) ok ok' f f' a b =
    let ih = merge_all_agree n ok ok' f f' (λ t l. a t (omega arith)) (λ t l. b t (omega arith)) in
    by_test (ok n)
    (λ c. let c' = sym (a n (omega arith)) ∙ c in rw (ih, c, c', b n (omega arith) c))
    (λ c. let c' = sym (a n (omega arith)) ∙ c in rw (ih, c, c'))

iff_bool : (a b : Bool) → (a ≡ true → b ≡ true) → (b ≡ true → a ≡ true) → a ≡ b
iff_bool true b f g = sym (f refl)
iff_bool false true f g = g refl
iff_bool false false f g = refl

-- what is decided at most as late as a holder knows of its writing hall is held there
pub decided_held : (σ : Store) → Inv σ → (t p h : ℕ) → p < σ Partitions → 0 < σ (State t p)
    → 0 < σ (CommitTime t) → holds σ h p ≡ true → σ (CommitTime t) ≤ σ (Entry h p (writer σ t p)) → σ (Held h p t) ≡ 1
decided_held σ I t p h pb some d k le =
    let p4 = (server_small σ I.setup h p k).1 in
    let own = I.channels.seen h p (writer σ t p) in
    let n1 : σ (State t p) ≡ asked → ⊥ = λ e. let z = I.states.early t p p4 e in omega arith in
    let n2 : σ (State t p) ≡ prepared → ⊥ = λ e. let z = I.states.decided t p p4 e d in let y = I.clocks.above t p e in omega arith in
    let n3 : σ (State t p) ≡ waiting → ⊥ = λ e. let z = I.clocks.waits t p e in omega arith in
    let rg = I.states.range t p in
    let s4 : σ (State t p) ≡ installed = omega arith in
    by_eq (writer σ t p) h
    (λ q _. rw q at (I.holding.home t p s4))
    (λ q _. ⊎_elim
    (λ x. x)
    (λ (i, l, m). let z = I.channels.fresh h p (writer σ t p) i t q l m in absurd (omega arith))
    (I.holding.away t p h s4 k q))

-- so a holder's view at S is the view of all that is decided
pub held_decided : (σ : Store) → Inv σ → (S : ℕ) → Below σ S → (k h : ℕ) → k < keys → holds σ h (partition_of σ k) ≡ true
    → held_view σ h k S ≡ decided_view σ k S
held_decided σ I S B k h kb e =
    merge_all_agree places_max (λ t. versions_of σ h k t && wrote_by σ k S t) (λ t. decided σ t && wrote_by σ k S t) (version σ k) (version σ k)
    (λ t tb. iff_bool (versions_of σ h k t && wrote_by σ k S t) (decided σ t && wrote_by σ k S t)
    (λ c. let a = and_true (versions_of σ h k t) _ c in
    rw (lt-ltb 0 (σ (CommitTime t)) (I.holding.done h (partition_of σ k) t (eqb-true _ _ a.0))) a.1)
    (λ c. let a = and_true (decided σ t) _ c in
    let b = and_true (member (σ (KeySet t)) k) _ a.1 in
    let there = mod-lt k I.setup.partition in
    let some = I.writes.written t k kb b.0 in
    let known = B h (partition_of σ k) (writer σ t (partition_of σ k)) e (writer_holds σ I t (partition_of σ k) there) in
    let x = decided_held σ I t (partition_of σ k) h there some (ltb-true _ _ a.0) e (le_trans (leb-true _ _ b.1) known) in
    rw (eq-eqb (σ (Held h (partition_of σ k) t)) 1 x) a.1))
    (λ t tb c. refl)

-- Such a read of a reached store is taken, at any hall that holds the key, and answers the merge of all that was decided so far with a
-- commit time at or below the session's snapshot.
pub snapshot_read : {σ : Store} (r : Reached σ) (s k h : ℕ) → Fetches σ s k h
    → (refusal σ 3 s k h ≡ 0) × (answer σ 3 s k h ≡ Read (ever_view (decided_ever r) k (σ (Snapshot s))))
unfolding refusal answer rule_of
snapshot_read {σ} r s k h f =
    let I = reached_inv r in
    let S = σ (Snapshot s) in
    let x = held_decided σ I S ((reached_gossip r).snapshot s) k h f.key f.holder ∙ sym (ever_decided r k S) in
    let l = lt-ltb k keys f.key in (
      rw (f.there, l, f.holder, f.runs),
      rw (f.there, l, f.holder, f.runs, f.unwritten, f.unread, f.uncached, x),
    )
