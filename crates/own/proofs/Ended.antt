-- What a transaction is at its end: what its session wrote, under its coordinator's hall and the next number.
use Rattle.std.specs.Prelude.{ℕ, ◌<◌, true, false, ◌&&◌, not, ◌≡◌, ◌⊎◌, eqb, ltb}
use Rattle.std.proofs.lemmas.Bool.{false≢true}
use Rattle.std.proofs.Common.{true≢false, sym, ◌∙◌, ⊎_elim, le_refl, arith, eqb-true, ltb-true, ltb-false, eq-eqb, lt-ltb}
use Rattle.std.proofs.Math.Path.{refl}
use Rattle.std.proofs.Math.Logic.{inl, inr}
use Rattle.book.specs.Sizes.{partitions_max, keys}
use Rattle.book.specs.Cells.{Store, Transactions, HomeHall, Status, idle, running, committing, WriteSet, WriteValue, By, CommitTime, KeySet, Value, State}
use Rattle.book.specs.Cases.{by_test, by_eq, and_true, eqb_refl}
use Rattle.book.specs.Folds.{count}
use Rattle.book.specs.Sets.{member, member_none, member_include}
use Rattle.book.specs.Answers.{triple, numbers}
use Rattle.book.specs.Servers.{place_of, number_of}
use Rattle.book.specs.SessionSteps.{write, has_writes, touches, end, end_answer}
use Rattle.book.specs.Steps.{Rule, rule_of, by_code, ◌also◌, refusal, after, answer, refused_unchanged, start_rule, write_rule, end_rule, decide_rule}
use Rattle.book.specs.Reached.{Reached, Later}
use Rattle.facts.specs.Facts.{end_alone, start_facts, read_facts, write_facts, end_facts, decide_facts}
use Rattle.invariant.proofs.Reach.{reached_later, reached_inv}
use Rattle.invariant.proofs.OwnWrites.{reached_own}
use Rattle.own.specs.ReadYourWrites.{Looks, Shows}
use Rattle.own.proofs.ReadYourWrites.{read_shows}
use Rattle.snapshots.proofs.TransactionKept.{transaction_kept}
use Rattle.own.specs.Ended.{Written, Other, Meanwhile, Ended, IsWrite, LastWrite, WrittenBy}

meanwhile_later : (s k : ℕ) {σ τ : Store} → Meanwhile s k σ τ → Later σ τ
meanwhile_later s k Meanwhile.none = Later.none
meanwhile_later s k (Meanwhile.more w code a b c o) = Later.more (meanwhile_later s k w) code a b c

-- A step from σ to τ leaves a session's status and what it has written to key k; or it starts the session, or decides its transaction.
abbrev Spares : Store → Store → ℕ → ℕ → Type 0
Spares σ τ s k =
    ((τ (Status s) ≡ σ (Status s)) × (member (τ (WriteSet s)) k ≡ member (σ (WriteSet s)) k) × (τ (WriteValue s k) ≡ σ (WriteValue s k)))
    ⊎ ((σ (Status s) ≡ running → ⊥) × (τ (Status s) ≡ running → member (τ (WriteSet s)) k ≡ true → ⊥))

module _ (σ : Store) (r : Reached σ) (s k : ℕ) where
  abbrev Spared : ℕ → ℕ → ℕ → Rule → Type 0
  Spared a b n x = x.refusal ≡ 0 → Other s k n a b → Spares σ x.after s k

  start_spares : (a b c : ℕ) → Spared a b 2 (start_rule σ a b c)
  start_spares a b c e o =
      let y = (start_facts σ a b c e).rests in
      by_eq a s
      (λ q d. inr (
        λ z. let y' : σ (Status s) ≡ idle = rw (← q) y in omega arith,
        λ z m. true≢false (sym m ∙ rw d (member_none k)),
      ))
      (λ q d. inl (rw d, rw d, refl))

  write_spares : (a b c : ℕ) → Spared a b 4 (write_rule σ a b c)
  write_spares a b c e o =
      by_eq a s
      (λ q d. by_eq b k
      (λ q' d'. absurd (o.0 refl q q'))
      (λ q' d'. inl (refl, rw (d, member_include (σ (WriteSet a)) b k, d', q), rw (d, d'))))
      (λ q d. inl (refl, rw d, rw d))

  end_spares : (a b c : ℕ) → Spared a b 5 (end_rule σ a b c)
  end_spares a b c e o =
      by_eq a s
      (λ q d. absurd (o.1 refl q))
      (λ q d. by_test (has_writes σ a) (λ w. inl (rw (w, d), rw w, rw w)) (λ w. inl (rw (w, d), rw w, rw w)))

  decide_spares : (a b c : ℕ) → Spared a b 7 (decide_rule σ a b c)
  decide_spares a b c e o =
      let t = place_of a in
      let f = decide_facts σ a b c e in
      let busy = (reached_own r).busy t f.there f.undecided in
      by_eq (σ (By t)) s
      (λ q d. inr (
        λ z. let y' : σ (Status s) ≡ committing = rw (← q) busy in omega arith,
        λ z m. let z' : ◌≡◌ {A = ℕ} 0 1 = rw d at z in omega arith,
      ))
      (λ q d. inl (rw d, rw d, refl))

  spared : (code a b c : ℕ) → refusal σ code a b c ≡ 0 → Other s k code a b → Spares σ (after σ code a b c) s k
  unfolding refusal after
  spared code a b c e o =
      let same : Spares σ σ s k = inl (refl, refl, refl) in
      rw (eq-eqb _ _ e)
      (by_code (Spared a b) σ code a b c
      ((λ _ _. same)
      also start_spares a b c
      also (λ _ _. same)
      also write_spares a b c
      also end_spares a b c
      also (λ _ _. same)
      also decide_spares a b c
      also (λ _ _. same)
      also (λ _ _. same)
      also (λ _ _. same)
      also (λ _ _. same)
      also (λ _ _. same)
      also (λ _ _. same)
      also (λ _ _. same)
      also tt)
      (λ _ _. same) e o)

wrote : (σ : Store) (s k v : ℕ) → refusal σ 4 s k v ≡ 0 → after σ 4 s k v ≡ write σ s k v
unfolding refusal after rule_of
wrote σ s k v e = rw (eq-eqb _ _ e)

-- A write that is taken leaves its value in the write set.
pub write_left : (σ : Store) (s k v : ℕ) → refusal σ 4 s k v ≡ 0 → Written (after σ 4 s k v) s k v
unfolding refusal rule_of
write_left σ s k v e =
    rw (wrote σ s k v e) (record {
      runs = (write_facts σ s k v e).runs;
      has = rw (eqb_refl s, member_include (σ (WriteSet s)) k k, eqb_refl k);
      value = rw (eqb_refl s, eqb_refl k);
    })

stays : (s k v : ℕ) {σ τ : Store} → Reached σ → Meanwhile s k σ τ → Written σ s k v → Written τ s k v
stays s k v r Meanwhile.none w = w
stays s k v r (Meanwhile.more {τ} m code a b c o) w =
    let w' = stays s k v r m w in
    by_eq (refusal τ code a b c) 0
    (λ q _. ⊎_elim
    (λ x. record { runs = x.0 ∙ w'.runs; has = x.1 ∙ w'.has; value = x.2 ∙ w'.value })
    (λ x. absurd (x.0 w'.runs))
    (spared τ (reached_later r (meanwhile_later s k m)) s k code a b c q (o q)))
    (λ q _. rw (refused_unchanged τ code a b c q).0 w')

-- There it stays until the session writes that key again or ends.
pub write_stays : {σ τ : Store} (s k v : ℕ) → Reached σ → Meanwhile s k σ τ → Written σ s k v → Written τ s k v
write_stays s k v = stays s k v

-- a read that is taken, of a key that is in the write set
reads_own : (σ : Store) (s k h : ℕ) → refusal σ 3 s k h ≡ 0 → member (σ (WriteSet s)) k ≡ true
    → (σ (Status s) ≡ running) × (numbers (answer σ 3 s k h) ≡ triple 0 1 (σ (WriteValue s k)))
unfolding refusal answer rule_of
reads_own σ s k h e m = ((read_facts σ s k h e).runs, rw (eq-eqb _ _ e, m))

-- So the session's own read of the key answers it.
pub reads_last_write : {σ τ : Store} → Reached σ → (s k v : ℕ) → refusal σ 4 s k v ≡ 0 → Meanwhile s k (after σ 4 s k v) τ
    → (h : ℕ) → refusal τ 3 s k h ≡ 0 → numbers (answer τ 3 s k h) ≡ triple 0 1 v
reads_last_write {σ} {τ} r s k v e m h f =
    let W = write_stays s k v (Reached.onward r 4 s k v) m (write_left σ s k v e) in
    (reads_own τ s k h f W.has).1 ∙ rw W.value

end_comes_to : (σ : Store) (s : ℕ) → refusal σ 5 s 0 0 ≡ 0 → (after σ 5 s 0 0 ≡ end σ s) × (answer σ 5 s 0 0 ≡ end_answer σ s)
unfolding refusal after answer rule_of
end_comes_to σ s e = rw (eq-eqb _ _ e) (refl, refl)

-- An end with writes that is taken answers the "transaction number (1, 2, .. in order of request) and number of partitions written", and
-- session, coordinator's hall, keys and values of that transaction are those of the session. In any store.
pub ended : (σ : Store) (s : ℕ) → refusal σ 5 s 0 0 ≡ 0 → has_writes σ s ≡ true
    → (numbers (answer σ 5 s 0 0) ≡ triple 0 (number_of (σ Transactions)) (count partitions_max (touches σ (σ (WriteSet s)))))
    × Ended σ (after σ 5 s 0 0) s
ended σ s e w =
    let x = end_comes_to σ s e in
    let own = eqb_refl (σ Transactions) in (
      rw (x.1, w),
      rw (x.0, w) (record {
        next = refl;
        by = rw own;
        from = rw own;
        wrote = rw own;
        values = λ k l. rw (own, lt-ltb k keys l);
        asks = λ p c. rw (own, c);
        status = rw (eqb_refl s);
      }),
    )

-- In a reached store it is undecided, and has no state where it writes nothing.
pub ended_fresh : {σ : Store} → Reached σ → (s : ℕ) → refusal σ 5 s 0 0 ≡ 0 → has_writes σ s ≡ true
    → (after σ 5 s 0 0 (CommitTime (σ Transactions)) ≡ 0)
    × ((p : ℕ) → touches σ (σ (WriteSet s)) p ≡ false → after σ 5 s 0 0 (State (σ Transactions) p) ≡ 0)
ended_fresh {σ} r s e w =
    let I = reached_inv r in
    rw ((end_comes_to σ s e).0, w) (
      I.states.undecided (σ Transactions) (le_refl _),
      λ p c. rw (eqb_refl (σ Transactions), c)
          (I.states.free (σ Transactions) p (le_refl _)),
    )

has_some : (m k : ℕ) → member m k ≡ true → not (eqb m 0) ≡ true
has_some m k e = by_eq m 0 (λ q c. absurd (false≢true (sym (member_none k) ∙ rw q at e))) (λ q c. rw c)

written_key : (σ : Store) (s k v : ℕ) → refusal σ 4 s k v ≡ 0 → k < keys
unfolding refusal rule_of
written_key σ s k v e = (write_facts σ s k v e).key

-- A write that is taken, of a key that the session does not write again before its end: what any later read shows of the transaction is
-- that value, under the hall that the session ended at.
pub shows_last_write : {σ τ υ : Store} → Reached σ → (s k v : ℕ) → refusal σ 4 s k v ≡ 0 → Meanwhile s k (after σ 4 s k v) τ
    → refusal τ 5 s 0 0 ≡ 0 → Later (after τ 5 s 0 0) υ → IsWrite υ (τ Transactions) s (τ (HomeHall s)) k v
shows_last_write {σ} {τ} {υ} r s k v e m f l =
    let W = write_stays s k v (Reached.onward r 4 s k v) m (write_left σ s k v e) in
    let E = (ended τ s f (has_some (τ (WriteSet s)) k W.has)).1 in
    let there : τ Transactions < after τ 5 s 0 0 Transactions = rw E.next (omega arith) in
    let K = transaction_kept l (τ Transactions) there in
    let from = K.from ∙ E.from in
    let value : υ (Value (τ Transactions) k) ≡ v = K.values k ∙ (E.values k (written_key σ s k v e) ∙ W.value) in
    record {
      there = K.there;
      by = K.by ∙ E.by;
      from = from;
      wrote = rw (K.keys, E.wrote) W.has;
      seen = rw (value, from);
      shown = λ s' g S. S.shown ∙ rw value;
    }

by_other : {G : Type 0} (s k code a b : ℕ) → (code ≡ 4 → a ≡ s → b ≡ k → G) → (code ≡ 5 → a ≡ s → G) → (Other s k code a b → G) → G
by_other s k code a b w e o =
    by_test (eqb code 4 && (eqb a s && eqb b k))
    (λ c. let x = and_true (eqb code 4) _ c in
    let y = and_true (eqb a s) _ x.1 in
    w (eqb-true _ _ x.0) (eqb-true _ _ y.0) (eqb-true _ _ y.1))
    (λ c. by_test (eqb code 5 && eqb a s)
    (λ d. let x = and_true (eqb code 5) _ d in e (eqb-true _ _ x.0) (eqb-true _ _ x.1))
    (λ d. o (
      λ x y z. true≢false (rw (x, y, z, eqb_refl s, eqb_refl k) at c),
      λ x y. true≢false (rw (x, y, eqb_refl s) at d),
    )))

-- an end that is taken has no number but the session's, and the session does not run on
end_stops : (σ : Store) (s b c : ℕ) → refusal σ 5 s b c ≡ 0 → (b ≡ 0) × (c ≡ 0) × (after σ 5 s b c (Status s) ≡ running → ⊥)
unfolding refusal after rule_of
end_stops σ s b c e =
    let f = end_alone σ s b c e in (
      f.0,
      f.1,
      by_test (has_writes σ s)
          (λ w z. let z' : ◌≡◌ {A = ℕ} committing running = rw (eq-eqb _ _ e, w, eqb_refl s) at z in omega arith)
          (λ w z. let z' : ◌≡◌ {A = ℕ} idle running = rw (eq-eqb _ _ e, w, eqb_refl s) at z in omega arith),
    )

-- one step more
onward : (ρ σ : Store) (s k code a b c : ℕ) → (refusal σ code a b c ≡ 0 → Other s k code a b)
    → after σ code a b c (WriteValue s k) ≡ σ (WriteValue s k)
    → LastWrite ρ σ s k (σ (WriteValue s k)) → LastWrite ρ (after σ code a b c) s k (after σ code a b c (WriteValue s k))
onward ρ σ s k code a b c o q L = rw q (record { reached = L.reached; taken = L.taken; since = Meanwhile.more L.since code a b c o })

-- What a running session has in its write set, it wrote.
pub has_write : {τ : Store} → Reached τ → (s k : ℕ) → τ (Status s) ≡ running → member (τ (WriteSet s)) k ≡ true
    → (σ : Store) × LastWrite σ τ s k (τ (WriteValue s k))
has_write (Reached.begun masks homes e) s k runs has = absurd (omega arith)
has_write (Reached.onward {σ} r code a b c) s k runs has =
    by_eq (refusal σ code a b c) 0
    (λ q _. by_other s k code a b
    (λ x y z.
    let q' : refusal σ 4 s k c ≡ 0 = rw (x, y, z) at q in
    rw (x, y, z, (write_left σ s k c q').value) (σ, record { reached = r; taken = q'; since = Meanwhile.none }))
    (λ x y. absurd ((end_stops σ s b c (rw (x, y) at q)).2 (rw (x, y) at runs)))
    (λ o. ⊎_elim
    (λ x. let w = has_write r s k (sym x.0 ∙ runs) (sym x.1 ∙ has) in
    (w.0, onward w.0 σ s k code a b c (λ _. o) x.2 w.1))
    (λ x. absurd (x.1 runs has))
    (spared σ r s k code a b c q o)))
    (λ q _.
    let e = (refused_unchanged σ code a b c q).0 in
    let w = has_write r s k (rw e at runs) (rw e at has) in
    (w.0, onward w.0 σ s k code a b c (λ z. absurd (q z)) (rw e) w.1))

-- only an end with writes makes a transaction
module _ (σ : Store) where
  abbrev Makes : ℕ → ℕ → Rule → Type 0
  Makes a n x = x.refusal ≡ 0 → (x.after Transactions ≡ σ Transactions) ⊎ ((n ≡ 5) × (has_writes σ a ≡ true))

  makes : (code a b c : ℕ) → refusal σ code a b c ≡ 0
      → (after σ code a b c Transactions ≡ σ Transactions) ⊎ ((code ≡ 5) × (has_writes σ a ≡ true))
  unfolding refusal after
  makes code a b c e =
      rw (eq-eqb _ _ e)
      (let same : (n : ℕ) (x : Rule) → x.after Transactions ≡ σ Transactions → Makes a n x = λ n x q _. inl q in
      let ends : (y z : ℕ) → Makes a 5 (end_rule σ a y z) = λ y z _. by_test (has_writes σ a) (λ w. inr (refl, w)) (λ w. inl (rw w)) in
      by_code (Makes a) σ code a b c (search (ends, same) depth 30) (λ _. inl refl) e)

end_ran : (σ : Store) (s : ℕ) → refusal σ 5 s 0 0 ≡ 0 → σ (Status s) ≡ running
unfolding refusal rule_of
end_ran σ s e = (end_facts σ s 0 0 e).runs

-- the transaction that an end makes
made : {σ : Store} → Reached σ → (s k : ℕ) → refusal σ 5 s 0 0 ≡ 0 → has_writes σ s ≡ true
    → member (after σ 5 s 0 0 (KeySet (σ Transactions))) k ≡ true
    → (ρ : Store) × (τ : Store) × WrittenBy ρ τ (after σ 5 s 0 0) (σ Transactions) k
made {σ} r s k e w m =
    let E = (ended σ s e w).1 in
    let x = has_write r s k (end_ran σ s e) (rw E.wrote at m) in
    let v = E.values k (written_key x.0 s k (σ (WriteValue s k)) x.1.taken) in
    (x.0, σ, rw (E.by, v) (record { last = x.1; ends = e; place = refl; from = E.from; since = Later.none }))

-- Each value of each transaction is what its session wrote last to that key before it ended.
pub written_by : {υ : Store} → Reached υ → (t k : ℕ) → t < υ Transactions → member (υ (KeySet t)) k ≡ true
    → (σ : Store) × (τ : Store) × WrittenBy σ τ υ t k
written_by (Reached.begun masks homes e) t k l m = absurd (omega arith)
written_by (Reached.onward {σ} r code a b c) t k l m =
    let old : t < σ Transactions → (ρ : Store) × (τ : Store) × WrittenBy ρ τ (after σ code a b c) t k = λ b'.
    (let K = transaction_kept {σ = σ} (Later.more Later.none code a b c) t b' in
    let w = written_by r t k b' (rw K.keys at m) in (
      w.0,
      w.1,
      rw (K.by, K.values k) (record {
        last = w.2.last;
        ends = w.2.ends;
        place = w.2.place;
        from = K.from ∙ w.2.from;
        since = Later.more w.2.since code a b c;
      }),
    )) in
    by_test (ltb t (σ Transactions))
    (λ d. old (ltb-true _ _ d))
    (λ d. let g = ltb-false t (σ Transactions) d in
    by_eq (refusal σ code a b c) 0
    (λ q _. ⊎_elim
    (λ x. absurd (let l' : t < σ Transactions = rw x at l in omega arith))
    (λ x.
    let q5 : refusal σ 5 a b c ≡ 0 = rw x.0 at q in
    let z = end_stops σ a b c q5 in
    let q0 : refusal σ 5 a 0 0 ≡ 0 = rw (z.0, z.1) at q5 in
    let l0 : t < after σ 5 a 0 0 Transactions = rw (x.0, z.0, z.1) at l in
    let m0 : member (after σ 5 a 0 0 (KeySet t)) k ≡ true = rw (x.0, z.0, z.1) at m in
    let n = (ended σ a q0 x.1).1.next in
    let p : t ≡ σ Transactions = omega arith in
    rw (x.0, z.0, z.1, p) (made r a k q0 x.1 (rw p at m0)))
    (makes σ code a b c q))
    (λ q _. old (rw (refused_unchanged σ code a b c q).0 at l)))

-- a read that is taken, of a key that is not in it
looks : (σ : Store) (s k h : ℕ) → refusal σ 3 s k h ≡ 0 → member (σ (WriteSet s)) k ≡ false → Looks σ s k h
unfolding refusal rule_of
looks σ s k h e n =
    let f = read_facts σ s k h e in
    record { there = f.there; runs = f.runs; key = f.key; holder = f.server; unwritten = n }

-- What a read finds was written: by its session, which has not ended since; or it is a transaction's, and what that one's session wrote
-- last to the key before it ended.
pub read_written : {υ : Store} → Reached υ → (s k h : ℕ) → refusal υ 3 s k h ≡ 0 → (numbers (answer υ 3 s k h)).first ≡ 1
    → ((σ : Store) × LastWrite σ υ s k (numbers (answer υ 3 s k h)).second)
    ⊎ ((t : ℕ) × Shows υ s k h t × ((σ : Store) × (τ : Store) × WrittenBy σ τ υ t k))
read_written {υ} r s k h e one =
    by_test (member (υ (WriteSet s)) k)
    (λ m. let x = reads_own υ s k h e m in inl (rw x.1 (has_write r s k x.0 m)))
    (λ m. let x = read_shows r s k h (looks υ s k h e m) one in
    inr (x.0, x.1, written_by r x.0 k x.1.there x.1.wrote))
