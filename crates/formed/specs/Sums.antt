-- A sum over 0..n as what an iterator gives.
use Rattle.std.specs.Prelude.{ℕ, zero, suc, Bool, cond, List, ◌+◌, ◌<◌, ◌≡◌, refl, map}
use Rattle.std.specs.List.{range_with_len, fold}
use Rattle.std.specs.List as list
use Rattle.std.proofs.Common.{◌∙◌, add-one, arith}
use Rattle.std.proofs.lemmas.List.FromFn.{sum_by-map-range_with_len_more}
use Rattle.std.specs.declared.ops.Range.{Range}
use Rattle.std.specs.declared.iter.Map.{Map}
use Rattle.std.specs.Iterator.{Drains}
use Rattle.std.specs.Iterator.Runs.{EachRunFrom}
use Rattle.std.specs.Iterator.Adapters.{map_source, map_callee, map_steps}
use denote.Param.Members.{Mut}
use Rattle.std.proofs.iter.Yields.{nat_range_steps}
use Rattle.std.proofs.lemmas.Iterator.{YieldsList, YieldsList-from_range, YieldsList-from_map}
use Rattle.std.proofs.lemmas.Iterator.Consumers.{sum_from_yields_List, fits_from_yields_list}
use Rattle.book.specs.Cases.{by_test}
use Rattle.book.specs.Folds.{count, sum}
use Rattle.book.specs.Ranges.{Computes}

sum_range : (n : ℕ) (f : ℕ → ℕ) → list.sum (map f (range_with_len 0 n)) ≡ sum n f
unfolding sum
sum_range zero f = refl
sum_range (suc n) f =
    rw add-one at (sum_by-map-range_with_len_more (λ y. y) f 0 n n (omega arith)) ∙ rw (sum_range n f) (omega arith)

-- a one for each that passes counts them
pub sum_counts : (n : ℕ) (ok : ℕ → Bool) → sum n (λ t. cond (ok t) 1 0) ≡ count n ok
unfolding sum count
sum_counts zero ok = refl
sum_counts (suc n) ok = by_test (ok n)
    (λ e. rw (e, sum_counts n ok) (omega arith))
    (λ e. rw (e, sum_counts n ok) (omega arith))

module _ {G : Type 0} {h : Mut G (ℕ × Unit {0}) ℕ} {s : Map (Range ℕ) G} {i : G} {n : ℕ} {f : ℕ → ℕ}
    (e : map_source s ≡ record { start = 0; end = n }) (c : map_callee s ≡ i) (k : Computes h i (λ y. y) f) where
  mapped : YieldsList (map_steps nat_range_steps h) (λ x. x) s (map f (range_with_len 0 n))
  mapped = YieldsList-from_map _ f (YieldsList-from_range 0 n n e (omega arith)) c k

  -- `(0..n).map(f).sum()`
  pub sum_in_range : {r : ℕ} → (xs : List ℕ) × (Unit {0} → Drains (map_steps nat_range_steps h) s xs) × (r ≡ fold (λ a x. a + x) 0 xs) → r ≡ sum n f
  sum_in_range {r} ran = sum_from_yields_List s r ran mapped ∙ sum_range n f

  -- and it fits where the sum does
  pub sum_fits_in_range : {top : ℕ} → sum n f < top → EachRunFrom (map_steps nat_range_steps h) s (λ p. fold (λ a x. a + x) 0 p.items < top)
  sum_fits_in_range {top} l = fits_from_yields_list s top mapped (rw (sum_range n f) l)
