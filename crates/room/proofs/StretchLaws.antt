-- "Each server writes only its own stretch of the lent room for clocks, vector and versions held": what is written to the stretch, lent on
-- as a part of the room, said of the room's cells.
use Rattle.std.specs.Prelude.{ℕ, ◌+◌, ◌-◌, ◌≤◌, ◌<◌, Bool, true, ◌&&◌, ◌≡◌, List, ◌++◌, eqb, ltb, leb, length, get_or, set, take, drop}
use Rattle.std.proofs.Math.Bool.{true≢false}
use Rattle.std.proofs.Common.{sym, ap, ◌∙◌, get_or-set_same, get_or-set_other, get_or-take, get_or-append-add, length-take-le}
use native.Mathlib.Omega.{arith}
use Rattle.std.proofs.Math.ListN.{get_or-append}
use Rattle.std.proofs.Math.Seq.{get_or-drop}
use borrow.Author.Tests.{eqb-true, ltb-true, ltb-false, leb-true, leb-false, lt-ltb, le-leb}
use borrow.Rule.Slice.PartMut.{put_mid, mid_of, post_of}
use Rattle.book.specs.declared.Vector.{Vector}
use Rattle.book.specs.Sizes.{halls_max, partitions_max, places_max}
use Rattle.book.specs.Cells.{Cell, cell, Store, ◌⟨◌≔◌⟩, Reading, Hybrid, Stable, Entry, Held}
use Rattle.book.specs.Cases.{by_test, by_eq, and_true}
use Rattle.book.specs.Updates.{is, is_own, one_cell, bulk}
use Rattle.book.specs.Folds.{all_at}
use Rattle.book.specs.Sets.{member}
use Rattle.room.specs.Layout.{size, at, Within, valid, store, stretch, start}
use Rattle.room.specs.Bulk.{Row, up_to, row3k}
use Rattle.room.specs.Checked.{of_server}
use Rattle.room.proofs.Checked.{each_stretch}
use Rattle.room.proofs.Words.{within, valid_within, cell_again, distinct}
use Rattle.room.specs.Stretch.{Keeps, Own, entry_of, glue, held_all, local, own, with_entries}

pub own_true : (h p : ℕ) (c : Cell) → own h p c ≡ true → Own h p c
unfolding own
own_true h p c e =
    let a = and_true (valid c) _ e in
    let b = and_true (leb (start h p) (at c)) _ a.1 in
    record { cell = valid_within c a.0; low = leb-true _ _ b.0; high = ltb-true _ _ b.1 }

pub own_i : (h p : ℕ) (c : Cell) → Own h p c → own h p c ≡ true
unfolding own
own_i h p c o = rw (within c o.cell, le-leb (start h p) (at c) o.low, lt-ltb (at c) (start h p + stretch) o.high)

-- what holds of the five kinds of a server
pub five : (P : ℕ → Type 0)
    → P (Reading 0 0).kind
    → P (Hybrid 0 0).kind
    → P (Stable 0 0).kind
    → P (Entry 0 0 0).kind
    → P (Held 0 0 0).kind
    → (n : ℕ)
    → (Reading 0 0).kind ≤ n
    → n ≤ (Held 0 0 0).kind
    → P n
five P a b c d e n lo hi =
    by_eq n (Reading 0 0).kind
    (λ q _. rw q a)
    (λ not_a _. by_eq n (Hybrid 0 0).kind
    (λ q _. rw q b)
    (λ not-b _. by_eq n (Stable 0 0).kind
    (λ q _. rw q c)
    (λ not-c _. by_eq n (Entry 0 0 0).kind
    (λ q _. rw q d)
    (λ not-d _. let q : n ≡ (Held 0 0 0).kind = omega arith in rw q e))))

server_own : (c : Cell) → Within c → (Reading 0 0).kind ≤ c.kind → c.kind ≤ (Held 0 0 0).kind → Own c.i c.j c
server_own c w lo hi =
    five (λ n. let d = cell n c.i c.j c.k c.l in Within d → Own c.i c.j d)
    (λ w. omega arith) (λ w. omega arith) (λ w. omega arith) (λ w. omega arith) (λ w. omega arith)
    c.kind lo hi w

-- a stretch has its server's cells, all of them, and no other
pub stretch_cells : (h p : ℕ) (c : Cell) → h < halls_max → p < partitions_max → valid c ≡ true → own h p c ≡ of_server h p c
stretch_cells h p c hh hp v =
    by_test (own h p c)
    (λ e. let o = own_true h p c e in
    let q : start h p + (at c - start h p) ≡ at c = omega (arith, o.low) in
    let f = all_at stretch _ (all_at partitions_max _ (all_at halls_max _ each_stretch h hh) p hp) (at c - start h p) (omega (arith, o.low, o.high)) in
    e ∙ sym (rw (q, cell_again c o.cell) at f))
    (λ e. by_test (of_server h p c)
    (λ f. let a = and_true (leb (Reading 0 0).kind c.kind) _ f in
    let b = and_true (leb c.kind (Held 0 0 0).kind) _ a.1 in
    let d = and_true (eqb h c.i) _ b.1 in
    let o = own_i c.i c.j c (server_own c (valid_within c v) (leb-true _ _ a.0) (leb-true _ _ b.0)) in
    rw (eqb-true h c.i d.0, eqb-true p c.j d.1) o ∙ sym f)
    (λ f. rw (e, f)))

-- word j of the part set is a cell set
module _ (h p : ℕ) (ys : List ℕ) (j v : ℕ) (c d : Cell) (hl : length ys ≡ stretch) (hj : j < stretch) (hc : Within c) (e : at c ≡ start h p + j) where
  set_either : local h p (set ys j v) d ≡ (local h p ys ⟨ c ≔ v ⟩) d
  unfolding local
  set_either =
      by_test (is c d)
      (λ f. let q : at c - start h p ≡ j = omega arith in
      rw (f, ← (one_cell c d f), own_i h p c (record { cell = hc; low = omega arith; high = omega arith }), q)
      (get_or-set_same ys j v 0 (omega arith)))
      (λ f. rw f
      (by_test (own h p d)
      (λ g. let o = own_true h p d g in
      rw g
      (get_or-set_other ys j (at d - start h p) v 0
      (λ q. let z = distinct c d (within c hc) (within d o.cell) (omega (arith, o.low)) in
      true≢false (sym (is_own c) ∙ rw (← z) at f))))
      (λ g. rw g)))

pub local_set : (h p : ℕ) (ys : List ℕ) (j v : ℕ) (c : Cell) → length ys ≡ stretch → j < stretch → Within c → at c ≡ start h p + j
    → local h p (set ys j v) ≡ local h p ys ⟨ c ≔ v ⟩
local_set h p ys j v c hl hj hc e = λ x d. set_either h p ys j v c d hl hj hc e x

pub keeps_bulk : (h p : ℕ) (b : Cell → Bool) (v : Cell → ℕ) → ((c : Cell) → b c ≡ true → own h p c ≡ true) → Keeps h p (bulk b v)
keeps_bulk h p b v inside τ σ = λ x c. each c x where
  each : (c : Cell) → bulk b v (glue h p τ σ) c ≡ glue h p (bulk b v τ) σ c
  each c = by_test (b c) (λ e. rw (e, inside c e)) (λ e. rw e)

pub keeps_put : (h p : ℕ) (c : Cell) (v : ℕ) → Own h p c → Keeps h p (λ σ. σ ⟨ c ≔ v ⟩)
keeps_put h p c v o = keeps_bulk h p (is c) (λ d. v) (λ d e. rw (← (one_cell c d e)) (own_i h p c o))

-- the first n cells of a row
pub keeps_row : (h p : ℕ) (R : Row) (ok : Cell → Bool) (v : Cell → ℕ) (n : ℕ) → ((i : ℕ) → i < n → Own h p (R.cell i))
    → Keeps h p (up_to R ok v n)
keeps_row h p R ok v n inside =
    keeps_bulk h p (R.test (λ d. ltb (R.index d) n && ok d)) v
    (λ d e. let a = and_true (is (R.cell (R.index d)) d) _ (rw (R.only (λ d. ltb (R.index d) n && ok d) d) at e) in
    let l = ltb-true (R.index d) n (and_true (ltb (R.index d) n) _ a.1).0 in
    rw (← (one_cell (R.cell (R.index d)) d a.0))
    (own_i h p (R.cell (R.index d)) (inside (R.index d) l)))

pub keeps_then : (h p : ℕ) (F G : Store → Store) → Keeps h p F → Keeps h p G → Keeps h p (λ σ. F (G σ))
keeps_then h p F G f g τ σ = ap F (g τ σ) ∙ f (G τ) σ

-- what a list has once a part is back
module _ (r ys : List ℕ) (a k : ℕ) (fits : a + k ≤ length r) (hl : length ys ≡ k) where
  len : length (take a r) ≡ a
  len = length-take-le a r (omega arith)

  mid_before : (w : ℕ) → w < a → get_or (put_mid a k r ys) w 0 ≡ get_or r w 0
  mid_before w l =
      get_or-append (take a r) (ys ++ post_of a k r) 0 w (rw len l) ∙ get_or-take a r w 0 l

  mid_inside : (w : ℕ) → a ≤ w → w < a + k → get_or (put_mid a k r ys) w 0 ≡ get_or ys (w - a) 0
  mid_inside w lo hi =
      let q : length (take a r) + (w - a) ≡ w = omega (arith, len) in
      rw q at (get_or-append-add (take a r) (ys ++ post_of a k r) (w - a) 0)
      ∙ get_or-append ys (post_of a k r) 0 (w - a) (omega arith)

  mid_after : (w : ℕ) → a + k ≤ w → get_or (put_mid a k r ys) w 0 ≡ get_or r w 0
  mid_after w lo =
      let j = w - (a + k) in
      let q : length (take a r) + (length ys + j) ≡ w = omega (arith, len) in
      let z : a + (k + j) ≡ w = omega arith in
      rw q at (get_or-append-add (take a r) (ys ++ post_of a k r) (length ys + j) 0)
      ∙ get_or-append-add ys (post_of a k r) j 0
      ∙ get_or-drop k (drop a r) j 0
      ∙ get_or-drop a r (k + j) 0
      ∙ rw z

-- The stretch of server (h, p) lent on from the room r, as k words from `start h p`.
module _ (r : List ℕ) (h p k : ℕ) (hl : length r ≡ size) (hh : h < halls_max) (hp : p < partitions_max) (hk : k ≡ stretch) where
  back : (ys : List ℕ) (c : Cell) → length ys ≡ stretch
      → store (put_mid (start h p) k r ys) c ≡ glue h p (local h p ys) (store r) c
  unfolding store local own
  back ys c e =
      by_test (valid c)
      (λ f. rw f
      (by_test (leb (start h p) (at c))
      (λ g. rw g
      (by_test (ltb (at c) (start h p + stretch))
      (λ i. rw i
      (mid_inside r ys (start h p) k (omega arith) (omega arith) (at c) (leb-true _ _ g) (omega (arith, ltb-true (at c) (start h p + stretch) i))))
      (λ i. rw i
      (mid_after r ys (start h p) k (omega arith) (omega arith) (at c) (omega (arith, ltb-false (at c) (start h p + stretch) i))))))
      (λ g. rw g (mid_before r ys (start h p) k (omega arith) (omega arith) (at c) (leb-false _ _ g)))))
      (λ f. rw f)

  lent : (c : Cell) → glue h p (local h p (mid_of (start h p) k r)) (store r) c ≡ store r c
  unfolding store local
  lent c =
      by_test (own h p c)
      (λ f. let o = own_true h p c f in
      let q : start h p + (at c - start h p) ≡ at c = omega (arith, o.low) in
      rw (f, within c o.cell)
      (get_or-take k (drop (start h p) r) (at c - start h p) 0 (omega (arith, o.low, o.high))
      ∙ get_or-drop (start h p) r (at c - start h p) 0
      ∙ rw q))
      (λ f. rw f)

-- Such a change of the part, k words from the word a on, is that change of the room.
pub lift : (r : List ℕ) (h p a k : ℕ) → length r ≡ size → h < halls_max → p < partitions_max → a ≡ start h p → k ≡ stretch
    → (F : Store → Store) → Keeps h p F → (ys : List ℕ) → length ys ≡ stretch
    → local h p ys ≡ F (local h p (mid_of a k r)) → store (put_mid a k r ys) ≡ F (store r)
lift r h p a k hl hh hp ha hk F keeps ys e m =
    rw ha
    ((λ x c. back r h p k hl hh hp hk ys c e x)
    ∙ ap (λ (τ : Store). glue h p τ (store r)) (rw ha at m)
    ∙ sym (keeps (local h p (mid_of (start h p) k r)) (store r))
    ∙ ap F (λ x c. lent r h p k hl hh hp hk c x))

pub keeps_held : (m h p : ℕ) → h < halls_max → p < partitions_max → Keeps h p (held_all m h p)
keeps_held m h p hh hp = keeps_row h p (row3k (Held 0 0 0).kind h p) (λ d. member m d.k) (λ d. 1) places_max (λ t l. omega arith)

pub keeps_entries : (v : Vector) (h p : ℕ) → h < halls_max → p < partitions_max → Keeps h p (with_entries v h p)
keeps_entries v h p hh hp =
    keeps_row h p (row3k (Entry 0 0 0).kind h p) (λ d. true) (λ d. entry_of v d.k) halls_max (λ g l. omega arith)
