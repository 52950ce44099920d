-- A session sees its own writes, and nothing older than its snapshot has.
use Rattle.std.specs.Prelude.{ℕ, ◌≤◌, ◌<◌, true, false, ◌&&◌, ◌≡◌, ◌⊎◌, ltb}
use Rattle.std.proofs.Common.{ap, sym, ◌∙◌, inl, inr, ⊎_elim, le_trans, arith, ltb-true, ltb-false, leb-true, lt-ltb, le-ltb, le-leb}
use Rattle.std.proofs.Math.Logic.{⊎_map}
use Rattle.book.specs.declared.Numbers.{Numbers}
use Rattle.book.specs.declared.View.TheVariants.{Nothing}
use Rattle.book.specs.Sizes.{keys, places_max}
use Rattle.book.specs.Cells.{Store, Sessions, Transactions, Status, running, Snapshot, WriteSet, CacheTime, By, CommitTime, KeySet}
use Rattle.book.specs.Cases.{by_test, by_eq, and_true}
use Rattle.book.specs.Sets.{member}
use Rattle.book.specs.Answers.{triple, numbers}
use Rattle.book.specs.Servers.{holds, partition_of}
use Rattle.book.specs.Views.{later, stamp_of, decided, wrote_by, decided_view}
use Rattle.book.specs.Steps.{answer}
use Rattle.book.specs.Reached.{Reached}
use Rattle.bounds.specs.Formed.{formed}
use Rattle.bounds.proofs.WellFormedKept.{reached_well_formed}
use Rattle.merging.specs.Stamps.{later_self}
use Rattle.merging.proofs.Merge.{of_all, latest}
use Rattle.snapshots.proofs.TransactionKept.{decided_there}
use Rattle.invariant.proofs.Reach.{reached_inv}
use Rattle.snapshots.proofs.ReadAnswer.{read_answer_lem, reached_cached}
use Rattle.invariant.proofs.OwnWrites.{reached_own, own_writes}
use Rattle.own.specs.ReadYourWrites.{Looks, Shows, ShowsNoOlder}

-- the stamp of a transaction is not later than that of one with a higher commit time, nor than its own
not_later : (σ : Store) (t u : ℕ) → σ (CommitTime t) ≤ σ (CommitTime u) → (σ (CommitTime t) ≡ σ (CommitTime u) → t ≡ u)
    → later (stamp_of σ t) (stamp_of σ u) ≡ false
not_later σ t u l one =
    by_eq (σ (CommitTime u)) (σ (CommitTime t))
    (λ q c. rw (one (sym q)) (later_self (stamp_of σ u)))
    (λ q c. rw (c, le-ltb (σ (CommitTime u)) (σ (CommitTime t)) l))

-- A session reads a key that a decided transaction t wrote: one at or below its snapshot, or one of its own. At any hall that holds the key
-- the read is taken, and answers what t wrote or what a transaction with a later stamp wrote.
pub reads_no_older : {σ : Store} → Reached σ → (s t k h : ℕ) → Looks σ s k h
    → 0 < σ (CommitTime t) → (σ (CommitTime t) ≤ σ (Snapshot s)) ⊎ (σ (By t) ≡ s) → member (σ (KeySet t)) k ≡ true
    → ShowsNoOlder σ s k h (stamp_of σ t)
reads_no_older {σ} r s t k h L d which m =
    let I = reached_inv r in
    let O = reached_own r in
    let S = σ (Snapshot s) in
    let tb = decided_there σ I t d in
    let place = le_trans tb I.states.places in
    let w = L.unwritten in
    let a = read_answer_lem r s k h (lt-ltb s (σ Sessions) L.there) L.runs L.key L.holder in
    let kept : (σ (CommitTime t) ≤ S) ⊎ ((σ (By t) ≡ s) × (σ (CommitTime t) ≤ σ (CacheTime s k))) =
    ⊎_elim inl (λ by. ⊎_map (λ l. l) (λ l. (by, l)) ((own_writes r s t L.runs tb by).1 k m)) which in (
      a.0,
      by_test (ltb 0 (σ (CacheTime s k)))
          -- from the cache
          (λ c.
          let i = ltb-true 0 (σ (CacheTime s k)) c in
          let x = reached_cached r s k L.runs i in
          let f = O.cached s k i in
          let z = f.1.time in (
            f.0,
            record {
              there = f.1.there;
              done = omega arith;
              wrote = f.1.wrote;
              shown = a.1 ∙ rw (w, c, f.1.value);
              above = λ l. f.1;
              below = λ l. absurd (omega arith);
            },
            ⊎_elim
                (λ l. not_later σ t f.0 (omega arith) (λ q. absurd (omega arith)))
                (λ l. not_later σ t f.0 (omega arith) (O.apart t f.0 (rw (l.0, f.1.by)) d))
                kept,
          ))
          -- from the snapshot
          (λ c.
          let i = ltb-false 0 (σ (CacheTime s k)) c in
          let l : σ (CommitTime t) ≤ S = ⊎_elim (λ l. l) (λ l. let z = l.1 in absurd (omega arith)) kept in
          let f = latest σ k S (decided σ) t place (lt-ltb 0 (σ (CommitTime t)) d) (rw (m, le-leb (σ (CommitTime t)) S l)) in
          let u = f.0 in
          let x = and_true (decided σ u) _ f.1 in
          let y = and_true (member (σ (KeySet u)) k) _ x.1 in
          let done = ltb-true 0 (σ (CommitTime u)) x.0 in
          let low = leb-true (σ (CommitTime u)) S y.1 in (
            u,
            record {
              there = decided_there σ I u done;
              done = done;
              wrote = y.0;
              shown = a.1 ∙ rw (w, c, f.2);
              above = λ l. absurd (omega arith);
              below = λ l. f.2;
            },
            f.3,
          )),
    )

-- What a read finds is what a decided transaction wrote.
pub read_shows : {σ : Store} → Reached σ → (s k h : ℕ) → Looks σ s k h → (numbers (answer σ 3 s k h)).first ≡ 1 → (t : ℕ) × Shows σ s k h t
read_shows {σ} r s k h L one =
    let S = σ (Snapshot s) in
    let shows : (t : ℕ) → 0 < σ (CommitTime t) → (σ (CommitTime t) ≤ S) ⊎ (σ (By t) ≡ s) → member (σ (KeySet t)) k ≡ true →
    (u : ℕ) × Shows σ s k h u =
    λ t d which m. let x = reads_no_older r s t k h L d which m in (x.1.0, x.1.1) in
    by_test (ltb 0 (σ (CacheTime s k)))
    (λ c.
    let i = ltb-true 0 (σ (CacheTime s k)) c in
    let f = (reached_own r).cached s k i in
    let z = f.1.time in
    shows f.0 (omega arith) (inr f.1.by) f.1.wrote)
    (λ c.
    let a = read_answer_lem r s k h (lt-ltb s (σ Sessions) L.there) L.runs L.key L.holder in
    ⊎_elim
    (λ (n : decided_view σ k S ≡ Nothing).
    let q : numbers (answer σ 3 s k h) ≡ triple 0 0 0 = a.1 ∙ rw (L.unwritten, c, n) in
    let z : ◌≡◌ {A = ℕ} 0 1 = sym (ap (λ (x : Numbers). x.first) q) ∙ one in
    absurd (omega arith))
    (λ (t, e, q).
    let x = and_true (decided σ t) _ e in
    let y = and_true (member (σ (KeySet t)) k) _ x.1 in
    shows t (ltb-true _ _ x.0) (inl (leb-true _ _ y.1)) y.0)
    (of_all σ k S places_max (λ t. decided σ t && wrote_by σ k S t)))

-- A running session reads a key that it wrote in an earlier transaction t and has not written since its start. At any hall that holds the
-- key the read is taken, and answers what t wrote or what a transaction with a later stamp wrote.
pub read_your_writes : {σ : Store} → Reached σ → (s t k h : ℕ) → σ (Status s) ≡ running
    → t < σ Transactions → σ (By t) ≡ s → member (σ (KeySet t)) k ≡ true
    → k < keys → holds σ h (partition_of σ k) ≡ true → member (σ (WriteSet s)) k ≡ false
    → ShowsNoOlder σ s k h (stamp_of σ t)
read_your_writes {σ} r s t k h runs tb by m kb e w =
    let place = le_trans tb (reached_inv r).states.places in
    let L : Looks σ s k h = record {
      there = rw by at ((formed σ (reached_well_formed r)).session t place);
      runs = runs;
      key = kb;
      holder = e;
      unwritten = w;
    } in
    reads_no_older r s t k h L (own_writes r s t runs tb by).0 (inr by) m
