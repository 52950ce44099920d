-- Cells by their kinds, and what a store says of some kinds alone.
use Rattle.std.specs.Prelude.{ℕ, ◌≡◌, refl, List, [], ◌∷◌, eqb}
use mathlib.Core.Bool.{Bool, true, false, cond, ◌&&◌, ◌||◌}
use Rattle.std.proofs.Common.{◌∙◌, eqb-true}
use Rattle.book.specs.Cells.{Cell, Store, Halls, Partitions, Mask}
use Rattle.book.specs.Cases.{by_test}
use Rattle.book.specs.Updates.{bulk}

-- some of the kinds of cell
abbrev pub Kinds : Type 0
Kinds = ℕ → Bool

-- the kinds of the cells listed
abbrev pub of : List Cell → Kinds
of [] n = false
of (c ∷ cs) n = eqb c.kind n || of cs n

-- what says which servers there are
abbrev pub servers : List Cell
servers = Halls ∷ Partitions ∷ Mask 0 ∷ []

-- one of the cells listed is of a kind in K
abbrev pub meets : Kinds → List Cell → Bool
meets K [] = false
meets K (c ∷ cs) = K c.kind || meets K cs

-- What a store says of the kinds in K. For a P that reads no other kind, `P (only K σ)` is `P σ`, by computation.
abbrev pub only : Kinds → Store → Store
only K σ = λ d. cond (K d.kind) (σ d) 0

or_false : (a b : Bool) → (a || b) ≡ false → (a ≡ false) × (b ≡ false)
or_false true b e = absurd (mathlib.Core.Bool.true≢false e)
or_false false b e = (refl, e)

-- an update of another kind is not seen
unseen : (K : Kinds) (n : ℕ) (b : Cell → Bool) (v : Cell → ℕ) (σ : Store) → K n ≡ false
    → only K (bulk (λ d. eqb n d.kind && b d) v σ) ≡ only K σ
unseen K n b v σ f = λ x d. at d x where
  at : (d : Cell) → cond (K d.kind) (cond (eqb n d.kind && b d) (v d) (σ d)) 0 ≡ cond (K d.kind) (σ d) 0
  at d =
      by_test (eqb n d.kind)
      (λ e. let g : K d.kind ≡ false = rw (eqb-true n d.kind e) at f in rw g)
      (λ e. rw e)

-- an update, the store under it, and what is left to show of that
pub record Put : Type 0 where
  pub kind : ℕ
  pub test : Cell → Bool
  pub value : Cell → ℕ
  pub under : Store
  pub rest : Bool
  pub to : Store

-- the kinds listed are those of a store's updates, the last one first
pub past : (K : Kinds) (u : Put) → (u.rest ≡ false → only K u.under ≡ u.to) → (K u.kind || u.rest) ≡ false
    → only K (bulk (λ d. eqb u.kind d.kind && u.test d) u.value u.under) ≡ u.to
past K u f e =
    let w = or_false (K u.kind) u.rest e in unseen K u.kind u.test u.value u.under w.0 ∙ f w.1
