-- "A full round": every stable time is then at least L.
use Prim.Native.Nat.{ℕ, ◌≤◌, ◌<◌}
use Rattle.std.proofs.Math.Bool.{Bool, false}
use Rattle.std.specs.Prelude.{true, ◌&&◌, ◌≡◌, refl, ◌⊎◌, List, ◌++◌, eqb, ltb}
use Rattle.std.proofs.Common.{true≢false, sym, ◌∙◌, inl, inr, ⊎_elim, le_trans, arith}
use Rattle.std.proofs.lemmas.Bool.{false≢true}
use Rattle.std.proofs.Math.Logic.{⊎_map}
use Rattle.std.proofs.Math.Dec.{leb}
use borrow.Author.Tests.{eqb-true, eqb-false, eq-eqb, ne_eqb, ltb-true, lt-ltb, leb-true, not-true}
use Rattle.book.specs.Sizes.{halls_max, partitions_max, places_max, slots}
use Rattle.book.specs.Cells.{Store, same, Halls, Stable, Entry, State, prepared, Waiting, Note, Shared}
use Rattle.book.specs.Cases.{by_test, by_eq, by_cell, and_true, at_same, eqb_refl}
use Rattle.book.specs.Folds.{any, lowest, any_true, any_i, lowest_le, lowest_ge}
use Rattle.book.specs.Servers.{holds, holds_hall, present}
use Rattle.book.specs.ReplicationSteps.{prepared_at, has_prepared, version_clock, installs, is_quiet, sends_to, outgoing, next_slot, slot_of, install, deliver}
use Rattle.book.specs.GossipSteps.{lowest_entry, report, lowest_of, share, stable_after, learn}
use Rattle.book.specs.Steps.{rule_of, install_rule, deliver_rule, report_rule, share_rule, learn_rule}
use Rattle.book.specs.Reached.{Reached}
use Rattle.facts.specs.Setup.{Setup, server_small}
use Rattle.invariant.specs.Inv.{clock_at}
use Rattle.invariant.proofs.Install.{install_hybrid, install_other}
use Rattle.invariant.proofs.Sent.{quiet_clock, quiet_silent, sends_to_is, sends_to_i, outgoing_i}
use Rattle.invariant.proofs.Reach.{reached_inv}
use Rattle.facts.specs.Calls.{Call, call, same_call, refusal_of, after_of, run, AllTaken, EachOnce, run_append, taken_append, by_rule, phase, cells_phase}
use Rattle.rounds.specs.Round.{lowest_present, is_channel, at_server, in_channel, with_message, between_halls}

module _ (σ : Store) (U : Setup σ) (L : ℕ) where
  -- the servers stay those of σ
  abbrev Fixed : Store → Type 0
  Fixed τ = (τ Halls ≡ σ Halls) × ((h p : ℕ) → holds τ h p ≡ holds σ h p)

  abbrev AtServer : ℕ → Call → Type 0
  AtServer n x = record { code : x.code ≡ n; there : holds σ x.a x.b ≡ true; rest : x.c ≡ 0 }

  at_server_lem : (n : ℕ) (x : Call) → at_server σ n x ≡ true → AtServer n x
  at_server_lem n x e =
      let w = and_true (eqb x.code n) _ e in
      let v = and_true (holds σ x.a x.b) _ w.1 in
      record { code = eqb-true _ _ w.0; there = v.0; rest = eqb-true _ _ v.1 }

  channel_i : (p f g : ℕ) → holds σ f p ≡ true → holds σ g p ≡ true → (f ≡ g → ⊥) → is_channel σ p f g ≡ true
  channel_i p f g a b n = rw (a, b, ne_eqb f g n)

  channel_is : (p f g : ℕ) → is_channel σ p f g ≡ true → (holds σ f p ≡ true) × (holds σ g p ≡ true) × (f ≡ g → ⊥)
  channel_is p f g e =
      let w = and_true (holds σ f p) _ e in
      let v = and_true (holds σ g p) _ w.1 in
      (w.0, v.0, eqb-false f g (not-true (eqb f g) v.1))

  -- two steps of one code at servers are at different servers
  apart : (n : ℕ) (x y : Call) → AtServer n x → AtServer n y → same_call x y ≡ false
      → (z : Bool) → (eqb x.b y.b && (eqb x.a y.a && z)) ≡ false
  apart n x y S T e z =
      let code = eq-eqb x.code y.code (S.code ∙ sym T.code) in
      let rest = eq-eqb x.c y.c (S.rest ∙ sym T.rest) in
      by_test (eqb x.b y.b)
      (λ c. by_test (eqb x.a y.a)
      (λ d. absurd (true≢false (rw (code, d, c, rest) at e)))
      (λ d. rw (c, d)))
      (λ c. rw c)

  -- 1. Installs: a server that has not had its turn finds its channels empty, and the others know its clock; one that had it has a clock of
  -- L or more, and it sent that, or was quiet and the others know it
  abbrev Keep1 : Store → Type 0
  Keep1 τ = record {
    fixed : Fixed τ;
    idle : (t p : ℕ) → t < places_max → p < partitions_max → τ (State t p) ≡ prepared → ⊥;
    high : (h p : ℕ) → holds σ h p ≡ true → L ≤ present τ h p;
  }

  abbrev Todo1 : Call → Store → Type 0
  Todo1 x τ = record {
    at : AtServer 9 x;
    empty : (g : ℕ) → is_channel σ x.b x.a g ≡ true → τ (Waiting g x.b x.a) ≡ 0;
    heard : (g : ℕ) → is_channel σ x.b x.a g ≡ true → τ (Entry x.a x.b x.a) ≤ τ (Entry g x.b x.a);
  }

  -- the channel to g for p from h has one message, with a clock of L or more
  abbrev Told : Store → ℕ → ℕ → ℕ → Type 0
  Told τ g p h = record { one : τ (Waiting g p h) ≡ 1; sent : L ≤ clock_at τ g p h 0 }

  -- or none, and g knows such a clock
  abbrev Known : Store → ℕ → ℕ → ℕ → Type 0
  Known τ g p h = record { none : τ (Waiting g p h) ≡ 0; entry : L ≤ τ (Entry g p h) }

  abbrev Done1 : Call → Store → Type 0
  Done1 x τ = record {
    at : AtServer 9 x;
    own : L ≤ τ (Entry x.a x.b x.a);
    others : (g : ℕ) → is_channel σ x.b x.a g ≡ true → Told τ g x.b x.a ⊎ Known τ g x.b x.a;
  }

  clock_high : (τ : Store) → Keep1 τ → (h p : ℕ) → holds σ h p ≡ true → L ≤ version_clock τ h p
  clock_high τ K h p e =
      by_test (has_prepared τ h p)
      (λ c. let w = any_true places_max (prepared_at τ h p) c in
      absurd (K.idle w.0 p w.1 (server_small σ U h p e).1 (eqb-true _ _
      (and_true (eqb (τ (State w.0 p)) prepared) _ w.2).0)))
      (λ c. rw c (K.high h p e))

  -- a channel of the server gets a message, where the install is not quiet
  goes : (x : Call) (τ : Store) → Keep1 τ → is_quiet τ x.a x.b ≡ false → (g : ℕ) → is_channel σ x.b x.a g ≡ true
      → outgoing τ x.a x.b g x.b x.a ≡ true
  goes x τ K q g e =
      let c = channel_is x.b x.a g e in
      outgoing_i τ x.a x.b g x.b x.a refl refl (sends_to_i τ x.a x.b g q c.2 (K.fixed.1 g x.b ∙ c.1))

  take1 : (x : Call) (τ : Store) → Keep1 τ → Todo1 x τ → (refusal_of τ x ≡ 0) × (after_of τ x ≡ install τ x.a x.b)
  unfolding rule_of
  take1 x τ K T =
      let e = K.fixed.1 x.a x.b ∙ T.at.there in
      let full : ℕ → Bool = λ g. sends_to τ x.a x.b g && leb slots (τ (Waiting g x.b x.a)) in
      let n : any halls_max full ≡ false = by_test (any halls_max full)
      (λ c. let w = any_true halls_max full c in
      let v = and_true (sends_to τ x.a x.b w.0) _ w.2 in
      let o = sends_to_is τ x.a x.b w.0 v.0 in
      let z = T.empty w.0 (channel_i x.b x.a w.0 T.at.there (sym (K.fixed.1 w.0 x.b) ∙ o.1) o.0) in
      let l = leb-true slots (τ (Waiting w.0 x.b x.a)) v.1 in
      absurd (omega arith))
      (λ c. c) in
      by_rule τ x (install_rule τ x.a x.b x.c) (rw T.at.code) (rw (e, T.at.rest, n))

  keep1 : (x : Call) (τ : Store) → Keep1 τ → Todo1 x τ → Keep1 (install τ x.a x.b)
  keep1 x τ K T = record {
    fixed = K.fixed;
    idle = λ t q a b s.
        by_test (eqb x.b q && installs τ x.a x.b t)
        (λ c. let n = rw c at s in omega arith)
        (λ c. K.idle t q a b (rw c at s));
    high = λ h p e. let l = K.high h p e in let m = install_hybrid τ x.a x.b h p in omega arith;
  }

  make1 : (x : Call) (τ : Store) → Keep1 τ → Todo1 x τ → Done1 x (install τ x.a x.b)
  make1 x τ K T =
      let high = clock_high τ K x.a x.b T.at.there in
      record {
        at = T.at;
        own = rw (at_same (Entry x.a x.b x.a)) high;
        others = λ g e. by_test (is_quiet τ x.a x.b)
            (λ q. let same = quiet_clock τ x.a x.b q in
            let known = T.heard g e in
            inr (record {
              none = rw (quiet_silent τ x.a x.b q g x.b x.a) (T.empty g e);
              entry = rw
                  (install_other τ x.a x.b g x.b x.a (channel_is x.b x.a g e).2) (omega arith);
            }))
            (λ q. let o = goes x τ K q g e in
            let first : eqb (next_slot τ g x.b x.a) (slot_of τ g x.b x.a 0) ≡ true =
            rw (T.empty g e) (eqb_refl (slot_of τ g x.b x.a 0)) in
            inl (record { one = rw (o, T.empty g e); sent = rw (o, first) high }));
      }

  leave1 : (x y : Call) (τ : Store) → Keep1 τ → Todo1 x τ → same_call x y ≡ false → Todo1 y τ → Todo1 y (install τ x.a x.b)
  leave1 x y τ K T n T' = record {
    at = T'.at;
    empty = λ g e. rw (apart 9 x y T.at T'.at n (sends_to τ x.a x.b g)) (T'.empty g e);
    heard = λ g e.
        by_cell (Entry x.a x.b x.a) (Entry y.a y.b y.a)
        (λ r c. absurd (true≢false (rw (eq-eqb _ _ r.j, eq-eqb _ _ r.i) at (apart 9 x y T.at T'.at n true))))
        (λ c. rw (c, install_other τ x.a x.b g y.b y.a (channel_is y.b y.a g e).2) (T'.heard g e));
  }

  stay1 : (x y : Call) (τ : Store) → Keep1 τ → Todo1 x τ → same_call x y ≡ false → Done1 y τ → Done1 y (install τ x.a x.b)
  stay1 x y τ K T n D =
      let other : (g : ℕ) → outgoing τ x.a x.b g y.b y.a ≡ false = λ g. apart 9 x y T.at D.at n
      (sends_to τ x.a x.b g) in
      record {
        at = D.at;
        own = by_test (same (Entry x.a x.b x.a) (Entry y.a y.b y.a))
            (λ c. rw c (clock_high τ K x.a x.b T.at.there))
            (λ c. rw c D.own);
        others = λ g e. ⊎_map
            (λ t. record { one = rw (other g) t.one; sent = rw (other g) t.sent })
            (λ k. record {
              none = rw (other g) k.none;
              entry = rw (install_other τ x.a x.b g y.b y.a
                  (channel_is y.b y.a g e).2) k.entry;
            })
            (D.others g e);
      }

  -- 2. Deliveries: a channel that has not had its turn has its one message; one that had it has that message's clock in the entry. Where
  -- the store μ after the installs had none, the entry is at L or more all along.
  abbrev InChannel : Call → Type 0
  InChannel x = record {
    code : x.code ≡ 10;
    from : holds σ x.b x.a ≡ true;
    to : holds σ x.c x.a ≡ true;
    other : x.b ≡ x.c
        → ⊥;
  }

  abbrev Keep2 : Store → Store → Type 0
  Keep2 μ τ = record {
    fixed : Fixed τ;
    own : (h p : ℕ) → holds σ h p ≡ true → L ≤ τ (Entry h p h);
    known : (p f g : ℕ) → is_channel σ p f g ≡ true → μ (Waiting g p f) ≡ 0 → L ≤ τ (Entry g p f);
  }

  abbrev Todo2 : Call → Store → Type 0
  Todo2 x τ = record { at : InChannel x; one : τ (Waiting x.c x.a x.b) ≡ 1; sent : L ≤ clock_at τ x.c x.a x.b 0 }

  abbrev Done2 : Call → Store → Type 0
  Done2 x τ = L ≤ τ (Entry x.c x.a x.b)

  take2 : (μ : Store) (x : Call) (τ : Store) → Keep2 μ τ → Todo2 x τ → (refusal_of τ x ≡ 0) × (after_of τ x ≡ deliver τ x.a x.b x.c)
  unfolding rule_of
  take2 μ x τ K T =
      let f = K.fixed.1 x.b x.a ∙ T.at.from in
      let t = K.fixed.1 x.c x.a ∙ T.at.to in
      by_rule τ x (deliver_rule τ x.a x.b x.c) (rw T.at.code) (rw (f, t, ne_eqb x.b x.c T.at.other, T.one))

  -- an entry at L or more stays so
  entry2 : (x : Call) (τ : Store) → Todo2 x τ → (h p g : ℕ) → L ≤ τ (Entry h p g) → L ≤ deliver τ x.a x.b x.c (Entry h p g)
  entry2 x τ T h p g l =
      by_test (same (Entry x.c x.a x.b) (Entry h p g)) (λ c. rw c T.sent) (λ c. rw c l)

  leave2 : (μ : Store) (x y : Call) (τ : Store) → Keep2 μ τ → Todo2 x τ → same_call x y ≡ false → Todo2 y τ
      → Todo2 y (deliver τ x.a x.b x.c)
  leave2 μ x y τ K T n T' =
      by_cell (Entry x.c x.a x.b) (Entry y.c y.a y.b)
      (λ q c. let s : same_call x y ≡ true =
      rw (eq-eqb _ _ (T.at.code ∙ sym T'.at.code), eq-eqb _ _ q.j, eq-eqb _ _ q.k, eq-eqb _ _ q.i) in
      absurd (true≢false (sym s ∙ n)))
      (λ c. record { at = T'.at; one = rw c T'.one; sent = rw c T'.sent })

  -- 3. Reports
  abbrev Keep3 : Store → Type 0
  Keep3 τ = record { fixed : Fixed τ; full : (h p g : ℕ) → holds σ h p ≡ true → holds σ g p ≡ true → L ≤ τ (Entry h p g) }

  take3 : (x : Call) (τ : Store) → Keep3 τ → AtServer 11 x → (refusal_of τ x ≡ 0) × (after_of τ x ≡ report τ x.a x.b)
  unfolding rule_of
  take3 x τ K A = by_rule τ x (report_rule τ x.a x.b x.c) (rw A.code) (rw (K.fixed.1 x.a x.b ∙ A.there, A.rest))

  note_high : (x : Call) (τ : Store) → Keep3 τ → AtServer 11 x → L ≤ lowest_entry τ x.a x.b
  note_high x τ K A =
      let e = K.fixed.1 x.a x.b ∙ A.there in
      lowest_ge halls_max (λ g. holds τ g x.b) (λ g. τ (Entry x.a x.b g)) L
      (any_i halls_max (λ g. holds τ g x.b) x.a (server_small σ U x.a x.b A.there).0 e)
      (λ g l e'. K.full x.a x.b g A.there (sym (K.fixed.1 g x.b) ∙ e'))

  -- 4. Shares
  abbrev BetweenHalls : Call → Type 0
  BetweenHalls x = record { code : x.code ≡ 12; from : x.a < σ Halls; to : x.b < σ Halls; rest : x.c ≡ 0 }

  between_halls_lem : (x : Call) → between_halls σ x ≡ true → BetweenHalls x
  between_halls_lem x e =
      let w = and_true (eqb x.code 12) _ e in
      let v = and_true (ltb x.a (σ Halls)) _ w.1 in
      let u = and_true (ltb x.b (σ Halls)) _ v.1 in
      record { code = eqb-true _ _ w.0; from = ltb-true _ _ v.0; to = ltb-true _ _ u.0; rest = eqb-true _ _ u.1 }

  abbrev Keep4 : Store → Type 0
  Keep4 τ = record { fixed : Fixed τ; noted : (h p : ℕ) → holds σ h p ≡ true → L ≤ τ (Note h p) }

  take4 : (x : Call) (τ : Store) → Keep4 τ → BetweenHalls x → (refusal_of τ x ≡ 0) × (after_of τ x ≡ share τ x.a x.b)
  unfolding rule_of
  take4 x τ K A =
      by_rule τ x (share_rule τ x.a x.b x.c) (rw A.code)
      (rw (K.fixed.0, lt-ltb _ _ A.from, lt-ltb _ _ A.to, A.rest))

  share_high : (x : Call) (τ : Store) → Keep4 τ → BetweenHalls x → L ≤ lowest_of τ x.a
  share_high x τ K A =
      let w = U.peopled x.a A.from in
      lowest_ge partitions_max (λ p. holds τ x.a p) (λ p. τ (Note x.a p)) L
      (any_i partitions_max (λ p. holds τ x.a p) w.0 (server_small σ U x.a w.0 w.1).1 (K.fixed.1 x.a w.0 ∙ w.1))
      (λ p l e. K.noted x.a p (sym (K.fixed.1 x.a p) ∙ e))

  -- 5. Learns
  abbrev Keep5 : Store → Type 0
  Keep5 τ = record { fixed : Fixed τ; told : (h f : ℕ) → h < σ Halls → f < σ Halls → L ≤ τ (Shared h f) }

  take5 : (x : Call) (τ : Store) → Keep5 τ → AtServer 13 x → (refusal_of τ x ≡ 0) × (after_of τ x ≡ learn τ x.a x.b)
  unfolding rule_of
  take5 x τ K A = by_rule τ x (learn_rule τ x.a x.b x.c) (rw A.code) (rw (K.fixed.1 x.a x.b ∙ A.there, A.rest))

  learn_high : (x : Call) (τ : Store) → Keep5 τ → AtServer 13 x → L ≤ stable_after τ x.a x.b
  learn_high x τ K A =
      let some : 0 < τ Halls = rw K.fixed.0 U.hall in
      let l = lowest_ge halls_max (λ f. ltb f (τ Halls)) (λ f. τ (Shared x.a f)) L
      (any_i halls_max (λ f. ltb f (τ Halls)) 0 (omega arith) (lt-ltb 0 (τ Halls) some))
      (λ f b e. K.told x.a f (holds_hall σ x.a x.b A.there) (rw K.fixed.0 at (ltb-true f (τ Halls) e))) in
      omega arith

  server_call : (n h p : ℕ) → holds σ h p ≡ true → at_server σ n (call n h p 0) ≡ true
  server_call n h p e = rw (eqb_refl n, e)

  -- the five groups, one after another
  module _ (i d r s l : List Call) (one-i : EachOnce (at_server σ 9) i) (one-d : EachOnce (with_message σ (run σ i)) d)
      (one-r : EachOnce (at_server σ 11) r)
      (one-s : EachOnce (between_halls σ) s) (one-l : EachOnce (at_server σ 13) l) where
    round : Keep1 σ → ((p f g : ℕ) → is_channel σ p f g ≡ true → σ (Waiting g p f) ≡ 0)
        → ((p f g : ℕ) → is_channel σ p f g ≡ true → σ (Entry f p f) ≤ σ (Entry g p f))
        → AllTaken σ (i ++ (d ++ (r ++ (s ++ l)))) × ((h p : ℕ) → holds σ h p ≡ true → L ≤ run σ (i ++ (d ++ (r ++ (s ++ l)))) (Stable h p))
    round K empty heard =
        let σ1 = run σ i in
        let σ2 = run σ1 d in
        let σ3 = run σ2 r in
        let σ4 = run σ3 s in
        let w1 = phase (λ τ x. install τ x.a x.b) Keep1 Todo1 Done1 take1 keep1 make1 leave1 stay1 (at_server σ 9) i σ one-i K
        (λ y e. record { at = at_server_lem 9 y e; empty = empty y.b y.a; heard = heard y.b y.a }) in
        let others : (p f g : ℕ) → is_channel σ p f g ≡ true → Told σ1 g p f ⊎ Known σ1 g p f =
        λ p f g e. (w1.2 (call 9 f p 0) (server_call 9 f p (channel_is p f g e).0)).others g e in
        let w2 = phase (λ τ x. deliver τ x.a x.b x.c) (Keep2 σ1) Todo2 Done2 (take2 σ1)
        (λ x τ k t. record {
          fixed = k.fixed;
          own = λ h p e. entry2 x τ t h p h (k.own h p e);
          known = λ p f g e z. entry2 x τ t g p f (k.known p f g e z);
        })
        (λ x τ k t. rw (at_same (Entry x.c x.a x.b)) t.sent)
        (leave2 σ1)
        (λ x y τ k t n e. entry2 x τ t y.c y.a y.b e)
        (with_message σ σ1) d σ1 one-d
        (record {
          fixed = w1.1.fixed;
          own = λ h p e. (w1.2 (call 9 h p 0) (server_call 9 h p e)).own;
          known = λ p f g e z. ⊎_elim (λ t. let o = t.one in absurd (omega arith)) (λ k. k.entry) (others p f g e);
        })
        (λ y e.
        let u = and_true (in_channel σ y) _ e in
        let v = and_true (eqb y.code 10) _ u.0 in
        let c = channel_is y.a y.b y.c v.1 in
        ⊎_elim
        (λ t. record {
          at = record { code = eqb-true y.code 10 v.0; from = c.0; to = c.1; other = c.2 };
          one = t.one;
          sent = t.sent;
        })
        (λ k. absurd (false≢true (rw k.none at u.1)))
        (others y.a y.b y.c v.1)) in
        let w3 = cells_phase L (λ x. Note x.a x.b) (λ τ x. lowest_entry τ x.a x.b) Keep3 (AtServer 11) take3
        (λ x τ k a. k) note_high
        (at_server σ 11) r σ2 one-r
        (record {
          fixed = w2.1.fixed;
          full = λ h p g e e'. by_eq h g
              (λ q _. rw (← q) (w2.1.own h p e))
              (λ q _. let c = channel_i p g h e' e (λ x. q (sym x)) in
              by_eq (σ1 (Waiting h p g)) 0
              (λ z _. w2.1.known p g h c z)
              (λ _ z. w2.2 (call 10 p g h) (rw (c, z))));
        })
        (at_server_lem 11) in
        let w4 = cells_phase L (λ x. Shared x.b x.a) (λ τ x. lowest_of τ x.a) Keep4 BetweenHalls take4 (λ x τ k a. k) share_high
        (between_halls σ) s σ3 one-s
        (record { fixed = w3.1.fixed; noted = λ h p e. w3.2 (call 11 h p 0) (server_call 11 h p e) })
        between_halls_lem in
        let w5 = cells_phase L (λ x. Stable x.a x.b) (λ τ x. stable_after τ x.a x.b) Keep5 (AtServer 13) take5
        (λ x τ k a. k) learn_high
        (at_server σ 13) l σ4 one-l
        (record { fixed = w4.1.fixed; told = λ h f a b. w4.2 (call 12 f h 0) (rw (lt-ltb f (σ Halls) b, lt-ltb h (σ Halls) a)) })
        (at_server_lem 13) in (
          taken_append i _ σ w1.0 (taken_append d _ σ1 w2.0 (taken_append r _ σ2 w3.0 (taken_append s _ σ3 w4.0 w5.0))),
          λ h p e. rw (run_append i (d ++ (r ++ (s ++ l))) σ, run_append d (r ++ (s ++ l)) σ1, run_append r (s ++ l) σ2, run_append s l σ3)
              (w5.2 (call 13 h p 0) (server_call 13 h p e)),
        )

-- Take a reached store with no prepared transaction and empty channels. An install at each server, a delivery in each channel that then
-- holds a message, a report of each server, a share from each hall to each, a learn at each server, in any order inside each of these five
-- groups and nothing between: none of them is turned away, and every stable time is then at least L. "In the full round, an install that
-- sends nothing needs no delivery."
pub full_round : {σ : Store} → Reached σ
    → ((t p : ℕ) → t < places_max → p < partitions_max → σ (State t p) ≡ prepared → ⊥)
    → ((p f g : ℕ) → is_channel σ p f g ≡ true → σ (Waiting g p f) ≡ 0)
    → (i d r s l : List Call) → EachOnce (at_server σ 9) i → EachOnce (with_message σ (run σ i)) d → EachOnce (at_server σ 11) r
    → EachOnce (between_halls σ) s → EachOnce (at_server σ 13) l
    → AllTaken σ (i ++ (d ++ (r ++ (s ++ l))))
    × ((h p : ℕ) → holds σ h p ≡ true → lowest_present σ ≤ run σ (i ++ (d ++ (r ++ (s ++ l)))) (Stable h p))
full_round {σ} reached idle empty i d r s l a b c e f =
    let I = reached_inv reached in
    let U = I.setup in
    round σ U (lowest_present σ) i d r s l a b c e f
    (record {
      fixed = (refl, λ h p. refl);
      idle = idle;
      high = λ h p k.
          let x = lowest_le halls_max (λ h. ltb h (σ Halls)) (λ h. lowest partitions_max (λ p. holds σ h p) (λ p. present σ h p)) h
          (server_small σ U h p k).0 (lt-ltb h (σ Halls) (holds_hall σ h p k)) in
          le_trans x (lowest_le partitions_max (λ p. holds σ h p) (λ p. present σ h p) p (server_small σ U h p k).1 k);
    })
    empty
    (λ p f g k. let w = channel_is σ U (lowest_present σ) p f g k in I.channels.heard g p f w.2 w.1 (empty p f g k))
