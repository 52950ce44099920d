-- The folds of Folds.antt and the sets of Sets.antt as what an iterator over `0..n` comes to, a lemma for each chain. Its arguments are
-- the calls' own clauses, as `c.all.ensures.ran`; what the closures compute is `λ x b q k. search (rules, tests)`.
use Rattle.std.specs.Prelude.{ℕ, List, map, min, max, zero, suc, ◌+◌, Bool, true, false, cond, ◌≡◌, refl}
use Rattle.std.specs.declared.iter.Filter.{Filter}
use Rattle.std.specs.declared.iter.Map.{Map}
use Rattle.std.specs.declared.ops.Range.{Range}
use Rattle.std.specs.declared.option.Option.{Option}
use Rattle.std.specs.declared.option.Option.TheVariants.{Some, None}
use Rattle.std.specs.Fn.{Called, CalledAt}
use Rattle.std.specs.Iterator.{YieldsThen, Drains, PicksByCmp}
use Rattle.std.specs.Iterator.Adapters.{filter_source, filter_callee, filter_steps, map_source, map_callee, map_steps}
use Rattle.std.specs.List.{range_with_len, list_all, list_any, filter, fold, reduce, FoldsTo}
use Rattle.std.specs.Option.{MatchOption, option_map, unwrap_or}
use Rattle.std.specs.Ordering.{nat_cmp, max_by_ordering, min_by_ordering}
use denote.Param.Members.{Mut}
use denote.Ref.{Bor}
use Rattle.std.proofs.Common.{ap, sym, ◌∙◌, true≢false, arith, length, ◌++◌, ◌∷◌, []}
use Rattle.std.proofs.Math.Bool.{and-true, and_comm, or-false, or_comm}
use Rattle.std.proofs.Math.Nat.{min_comm}
use Rattle.std.proofs.iter.Yields.{nat_range_steps}
use Rattle.std.proofs.lemmas.Iterator.{YieldsList, YieldsList-from_range, YieldsList-from_map_by}
use Rattle.std.proofs.lemmas.Iterator.Consumers.{
  YieldsList-from_filter,
  YieldsList-at,
  count_from_yields_List,
  fold_from_yields_List,
  max_from_yields_List,
  min_from_yields_List,
}
use Rattle.std.proofs.lemmas.Iterator.Search.{all_from_yields_List, any_from_yields_List}
use Rattle.std.proofs.lemmas.List.{length-append, map-append, append-nil}
use Rattle.std.proofs.lemmas.List.Elements.{filter-append}
use Rattle.std.proofs.lemmas.List.Folds.{list_all-append, list_any-append}
use Rattle.std.proofs.lemmas.List.Sums.{fold-append}
use Rattle.book.specs.Cases.{by_test}
use Rattle.book.specs.Folds.{all, any, count, lowest, largest}
use Rattle.book.specs.Sets.{include, set_of}

-- the library's lists begin at the first number, the folds at the last: the last number stands at the end
range_last : (a n j : ℕ) → a + n ≡ j → range_with_len a (suc n) ≡ range_with_len a n ++ j ∷ []
range_last a zero j e = let q : a ≡ j = omega arith in ap (λ k. k ∷ []) q
range_last a (suc n) j e = ap (λ l. a ∷ l) (range_last (a + 1) n j (omega arith))

range_suc : (n : ℕ) → range_with_len 0 (suc n) ≡ range_with_len 0 n ++ n ∷ []
range_suc n = range_last 0 n n (omega arith)

all_range : (n : ℕ) (ok : ℕ → Bool) → list_all ok (range_with_len 0 n) ≡ all n ok
unfolding all
all_range zero ok = refl
all_range (suc n) ok =
    ap (list_all ok) (range_suc n)
    ∙ list_all-append ok (range_with_len 0 n) (n ∷ [])
    ∙ rw (all_range n ok, and-true (ok n)) (and_comm (all n ok) (ok n))

any_range : (n : ℕ) (ok : ℕ → Bool) → list_any ok (range_with_len 0 n) ≡ any n ok
unfolding any
any_range zero ok = refl
any_range (suc n) ok =
    ap (list_any ok) (range_suc n)
    ∙ list_any-append ok (range_with_len 0 n) (n ∷ [])
    ∙ rw (any_range n ok, or-false (ok n)) (or_comm (any n ok) (ok n))

module _ (n : ℕ) (ok : ℕ → Bool) where
  -- those below n that pass
  abbrev passing : List ℕ
  passing = filter ok (range_with_len 0 n)

  passing_suc : filter ok (range_with_len 0 (suc n)) ≡ passing ++ cond (ok n) (n ∷ []) []
  passing_suc = ap (filter ok) (range_suc n) ∙ filter-append ok (range_with_len 0 n) (n ∷ [])

count_range : (n : ℕ) (ok : ℕ → Bool) → length (passing n ok) ≡ count n ok
unfolding count
count_range zero ok = refl
count_range (suc n) ok =
    ap length (passing_suc n ok)
    ∙ length-append (passing n ok) (cond (ok n) (n ∷ []) [])
    ∙ by_test (ok n)
    (λ e. rw (e, count_range n ok) (omega arith))
    (λ e. rw (e, count_range n ok) (omega arith))

set_range : (n : ℕ) (ok : ℕ → Bool) → fold include 0 (passing n ok) ≡ set_of n ok
unfolding set_of
set_range zero ok = refl
set_range (suc n) ok =
    ap (fold include 0) (passing_suc n ok)
    ∙ fold-append include 0 (passing n ok) (cond (ok n) (n ∷ []) [])
    ∙ rw (set_range n ok) (by_test (ok n) (λ e. rw e) (λ e. rw e))

-- what a reduce comes to with one more item
reduce_last : (h : ℕ → ℕ → ℕ) (xs : List ℕ) (x : ℕ) → reduce h (xs ++ x ∷ []) ≡ Some (unwrap_or (option_map (λ m. h m x) (reduce h xs)) x)
reduce_last h [] x = refl
reduce_last h (y ∷ ys) x = ap Some (fold-append h y ys (x ∷ []))

reduce_passing : (h : ℕ → ℕ → ℕ) (n : ℕ) (ok : ℕ → Bool) (f : ℕ → ℕ)
    → reduce h (map f (passing (suc n) ok))
    ≡ cond (ok n) (Some (unwrap_or (option_map (λ m. h m (f n)) (reduce h (map f (passing n ok)))) (f n))) (reduce h (map f (passing n ok)))
reduce_passing h n ok f =
    ap (λ l. reduce h (map f l)) (passing_suc n ok)
    ∙ ap (reduce h) (map-append f (passing n ok) (cond (ok n) (n ∷ []) []))
    ∙ by_test (ok n)
    (λ e. rw e (reduce_last h (map f (passing n ok)) (f n)))
    (λ e. rw e (ap (reduce h) (append-nil (map f (passing n ok)))))

lowest_range : (n : ℕ) (ok : ℕ → Bool) (f : ℕ → ℕ) → reduce min (map f (passing n ok)) ≡ cond (any n ok) (Some (lowest n ok f)) None
unfolding any lowest
lowest_range zero ok f = refl
lowest_range (suc n) ok f =
    reduce_passing min n ok f
    ∙ rw (lowest_range n ok f) (by_test (ok n)
    (λ e. rw e (by_test (any n ok) (λ a. rw (a, min_comm (f n) (lowest n ok f))) (λ a. rw a)))
    (λ e. rw e))

-- 0 where none passes
lowest_none : (n : ℕ) (ok : ℕ → Bool) (f : ℕ → ℕ) → any n ok ≡ false → lowest n ok f ≡ 0
unfolding any lowest
lowest_none zero ok f e = refl
lowest_none (suc n) ok f e =
    by_test (ok n) (λ p. absurd (true≢false (rw p at e))) (λ p. rw p (lowest_none n ok f (rw p at e)))

largest_range : (n : ℕ) (ok : ℕ → Bool) (f : ℕ → ℕ) → unwrap_or (reduce max (map f (passing n ok))) 0 ≡ largest n ok f
unfolding largest
largest_range zero ok f = refl
largest_range (suc n) ok f =
    ap (λ o. unwrap_or o 0) (reduce_passing max n ok f)
    ∙ by_test (ok n)
    (λ e. rw e (with_one (reduce max (map f (passing n ok))) (largest_range n ok f)))
    (λ e. rw e (largest_range n ok f))
  where
    with_one : (o : Option ℕ) → unwrap_or o 0 ≡ largest n ok f
        → unwrap_or (option_map (λ m. max m (f n)) o) (f n) ≡ max (f n) (largest n ok f)
    with_one None i = omega (arith, i)
    with_one (Some m) i = omega (arith, i)

-- calls of the closure f leave it as it is, and v reads h of the number in what they answer
abbrev pub Computes : {F R B : Type 0} → Mut F (ℕ × Unit {0}) R → F → (R → B) → (ℕ → B) → Type 0
Computes {F} {R} g f v h = (x : ℕ) (y : R) (q : F) → Called g f (x, tt) y q → (q ≡ f) × (v y ≡ h x)

-- the same of the closure of a `filter`, which takes a reference
abbrev pub Passes : {F : Type 0} → Mut F (Bor ℕ × Unit {0}) Bool → F → (ℕ → Bool) → Type 0
Passes {F} g f ok = (x : ℕ) (b : Bool) (q : F) → CalledAt g f x b q → (q ≡ f) × (b ≡ ok x)

-- `(0..n).all(f)`
pub all_in_range : {F : Type 0} {g : Mut F (ℕ × Unit {0}) Bool} {s u : Range ℕ} {f : F} {r : Bool} {n : ℕ} {ok : ℕ → Bool}
    → (xs : List ℕ) × (o : Option ℕ) × (j : F) × YieldsThen nat_range_steps s xs o u × FoldsTo (λ p x q. Called g p (x, tt) true q) f xs j
    × MatchOption o (r ≡ true) (λ x. (r ≡ false) × ((h : F) × Called g j (x, tt) false h))
    → s ≡ record { start = 0; end = n }
    → Computes g f (λ b. b) ok
    → r ≡ all n ok
all_in_range {u = u} {f = f} {r = r} {n = n} {ok = ok} ran e k =
    all_from_yields_List ok u f r ran (YieldsList-from_range 0 n n e (omega arith)) k ∙ all_range n ok

-- `(0..n).any(f)`
pub any_in_range : {F : Type 0} {g : Mut F (ℕ × Unit {0}) Bool} {s u : Range ℕ} {f : F} {r : Bool} {n : ℕ} {ok : ℕ → Bool}
    → (xs : List ℕ) × (o : Option ℕ) × (j : F) × YieldsThen nat_range_steps s xs o u × FoldsTo (λ p x q. Called g p (x, tt) false q) f xs j
    × MatchOption o (r ≡ false) (λ x. (r ≡ true) × ((h : F) × Called g j (x, tt) true h))
    → s ≡ record { start = 0; end = n }
    → Computes g f (λ b. b) ok
    → r ≡ any n ok
any_in_range {u = u} {f = f} {r = r} {n = n} {ok = ok} ran e k =
    any_from_yields_List ok u f r ran (YieldsList-from_range 0 n n e (omega arith)) k ∙ any_range n ok

-- `(0..n).filter(f)`
passed : {F : Type 0} {g : Mut F (Bor ℕ × Unit {0}) Bool} {s : Filter (Range ℕ) F} {f : F} (n : ℕ) (ok : ℕ → Bool)
    → filter_source s ≡ record { start = 0; end = n }
    → filter_callee s ≡ f
    → Passes g f ok
    → YieldsList (filter_steps nat_range_steps g) (λ x. x) s (passing n ok)
passed n ok e c k = YieldsList-from_filter _ ok (YieldsList-from_range 0 n n e (omega arith)) c k

-- `(0..n).filter(f).count()`
pub count_in_range : {F : Type 0} {g : Mut F (Bor ℕ × Unit {0}) Bool} {s : Filter (Range ℕ) F} {f : F} {r n : ℕ} {ok : ℕ → Bool}
    → (xs : List ℕ) × Drains (filter_steps nat_range_steps g) s xs × (r ≡ length xs)
    → filter_source s ≡ record { start = 0; end = n }
    → filter_callee s ≡ f
    → Passes g f ok
    → r ≡ count n ok
count_in_range {s = s} {r = r} {n = n} {ok = ok} ran e c k = count_from_yields_List s r ran (passed n ok e c k) ∙ count_range n ok

-- `(0..n).filter(f).fold(0, with)`
pub set_in_range : {F G : Type 0} {g : Mut F (Bor ℕ × Unit {0}) Bool} {h : Mut G (ℕ × (ℕ × Unit {0})) ℕ} {s : Filter (Range ℕ) F}
    {f : F} {i : G} {r n : ℕ} {ok : ℕ → Bool}
    → (xs : List ℕ) × (q : G) × Drains (filter_steps nat_range_steps g) s xs
    × FoldsTo {P = G × ℕ} (λ a x b. Called h a.0 (a.1, (x, tt)) b.1 b.0) (i, 0) xs (q, r)
    → filter_source s ≡ record { start = 0; end = n }
    → filter_callee s ≡ f
    → Passes g f ok
    → ((a x b : ℕ) (q : G) → Called h i (a, (x, tt)) b q → (q ≡ i) × (b ≡ include a x))
    → r ≡ set_of n ok
set_in_range {h = h} {r = r} {n = n} {ok = ok} ran e c k l =
    fold_from_yields_List h include 0 r ran (passed n ok e c k) l ∙ set_range n ok

-- `(0..n).filter(p).map(f)`, where v reads what f makes
mapped : {A F G : Type 0} {g : Mut F (Bor ℕ × Unit {0}) Bool} {h : Mut G (ℕ × Unit {0}) A} {s : Map (Filter (Range ℕ) F) G}
    {t : Filter (Range ℕ) F} {p : F} {i : G} (n : ℕ) (ok : ℕ → Bool) (v : A → ℕ) (f : ℕ → ℕ)
    → filter_source t ≡ record { start = 0; end = n }
    → filter_callee t ≡ p
    → map_source s ≡ t
    → map_callee s ≡ i
    → Passes g p ok
    → Computes h i v f
    → YieldsList (map_steps (filter_steps nat_range_steps g) h) v s (map f (passing n ok))
mapped n ok v f e c d j k l = YieldsList-from_map_by _ v f (YieldsList-at d (passed n ok e c k)) j l

-- `(0..n).filter(p).map(f).min()`, where an item is made of a number alone
pub lowest_in_range : {A F G : Type 0} {g : Mut F (Bor ℕ × Unit {0}) Bool} {h : Mut G (ℕ × Unit {0}) A} {s : Map (Filter (Range ℕ) F) G}
    {t : Filter (Range ℕ) F} {p : F} {i : G} {v : A → ℕ} {r : Option A} {n : ℕ} {ok : ℕ → Bool} {f : ℕ → ℕ} (make : ℕ → A)
    → ((x : A) → make (v x) ≡ x)
    → PicksByCmp (map_steps (filter_steps nat_range_steps g) h) min_by_ordering (λ a b. nat_cmp (v a) (v b)) s r
    → filter_source t ≡ record { start = 0; end = n }
    → filter_callee t ≡ p
    → map_source s ≡ t
    → map_callee s ≡ i
    → Passes g p ok
    → Computes h i v f
    → r ≡ cond (any n ok) (Some (make (lowest n ok f))) None
lowest_in_range {A = A} {s = s} {v = v} {r = r} {n = n} {ok = ok} {f = f} make same ran e c d j k l =
    sym (read_back r)
    ∙ ap (option_map make) (min_from_yields_List s r ran (mapped n ok v f e c d j k l) ∙ lowest_range n ok f)
    ∙ by_test (any n ok) (λ a. rw a) (λ a. rw a)
  where
    read_back : (o : Option A) → option_map make (option_map v o) ≡ o
    read_back None = refl
    read_back (Some x) = ap Some (same x)

-- what stands for none is read as 0
read_or : {A : Type 0} (v : A → ℕ) (none : A) → v none ≡ 0 → (o : Option A) → v (unwrap_or o none) ≡ unwrap_or (option_map v o) 0
read_or v none z None = z
read_or v none z (Some x) = refl

-- `(0..n).filter(p).map(f).min().unwrap_or(none)`, where none is read as 0
pub lowest_or_in_range : {A F G : Type 0} {g : Mut F (Bor ℕ × Unit {0}) Bool} {h : Mut G (ℕ × Unit {0}) A} {s : Map (Filter (Range ℕ) F) G}
    {t : Filter (Range ℕ) F} {p : F} {i : G} {n : ℕ} {ok : ℕ → Bool} {f : ℕ → ℕ} (v : A → ℕ) (r : Option A) (none : A)
    → v none ≡ 0
    → PicksByCmp (map_steps (filter_steps nat_range_steps g) h) min_by_ordering (λ a b. nat_cmp (v a) (v b)) s r
    → filter_source t ≡ record { start = 0; end = n }
    → filter_callee t ≡ p
    → map_source s ≡ t
    → map_callee s ≡ i
    → Passes g p ok
    → Computes h i v f
    → v (unwrap_or r none) ≡ lowest n ok f
lowest_or_in_range {s = s} {n = n} {ok = ok} {f = f} v r none z ran e c d j k l =
    read_or v none z r
    ∙ ap (λ o. unwrap_or o 0) (min_from_yields_List s r ran (mapped n ok v f e c d j k l) ∙ lowest_range n ok f)
    ∙ by_test (any n ok) (λ a. rw a) (λ a. rw (a, lowest_none n ok f a))

-- `(0..n).filter(p).map(f).max().unwrap_or(none)`, where none is read as 0
pub largest_in_range : {A F G : Type 0} {g : Mut F (Bor ℕ × Unit {0}) Bool} {h : Mut G (ℕ × Unit {0}) A} {s : Map (Filter (Range ℕ) F) G}
    {t : Filter (Range ℕ) F} {p : F} {i : G} {n : ℕ} {ok : ℕ → Bool} {f : ℕ → ℕ} (v : A → ℕ) (r : Option A) (none : A)
    → v none ≡ 0
    → PicksByCmp (map_steps (filter_steps nat_range_steps g) h) max_by_ordering (λ a b. nat_cmp (v a) (v b)) s r
    → filter_source t ≡ record { start = 0; end = n }
    → filter_callee t ≡ p
    → map_source s ≡ t
    → map_callee s ≡ i
    → Passes g p ok
    → Computes h i v f
    → v (unwrap_or r none) ≡ largest n ok f
largest_in_range {s = s} {n = n} {ok = ok} {f = f} v r none z ran e c d j k l =
    read_or v none z r
    ∙ ap (λ o. unwrap_or o 0) (max_from_yields_List s r ran (mapped n ok v f e c d j k l))
    ∙ largest_range n ok f
