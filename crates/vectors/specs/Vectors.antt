-- "a version vector with one entry per hall holding its partition": taken from a store, asked for its lowest, updated at a place.
use Prim.Native.Nat.{ℕ, zero, suc, ◌+◌, ◌<◌, ◌≤◌}
use Rattle.std.specs.Prelude.{Bool, ◌≡◌, List, length, get_or, set, replicate}
use Rattle.std.proofs.Math.Path.{refl}
use Rattle.std.proofs.Common.{ap, ◌∙◌, add-one, arith, get_or-set_same}
use Rattle.std.proofs.Math.ListN.{length-set}
use Rattle.std.proofs.Math.Seq.{get_or-set_other}
use Rattle.book.specs.declared.Timestamp.{Timestamp}
use Rattle.book.specs.declared.Vector.{Vector}
use Rattle.book.specs.Sizes.{halls_max}
use Rattle.book.specs.Cells.{Store, Entry}
use Rattle.book.specs.Cases.{by_eq}
use Rattle.book.specs.Folds.{any, lowest}
use Rattle.book.specs.Sets.{member, set_of, member_set_of}
use Rattle.book.specs.Servers.{holds}
use Rattle.book.specs.GossipSteps.{lowest_entry}
use Rattle.room.specs.Stretch.{entry_of}

abbrev pub time : ℕ → Timestamp
time x = record { 0 = x }

-- the entries of the first n halls, and 0 for the others
unfoldable pub entries : Store → ℕ → ℕ → ℕ → List Timestamp
entries σ h p zero = replicate halls_max (time 0)
entries σ h p (suc n) = set (entries σ h p n) n (time (σ (Entry h p n)))

-- server (h, p)'s vector: an entry for each hall, and the set of those that hold p
abbrev pub vector_of : Store → ℕ → ℕ → Vector
vector_of σ h p = record {
  times = entries σ h p halls_max;
  holders = set_of halls_max (λ g. holds σ g p);
}

module _ (σ : Store) (h p : ℕ) where
  pub entries_none : replicate halls_max (time 0) ≡ entries σ h p 0
  unfolding entries
  entries_none = refl

  pub entries_next : (n : ℕ) → entries σ h p (n + 1) ≡ set (entries σ h p n) n (time (σ (Entry h p n)))
  unfolding entries
  entries_next n = rw (add-one n)

  pub length_entries : (n : ℕ) → length (entries σ h p n) ≡ halls_max
  unfolding entries
  length_entries zero = refl
  length_entries (suc n) = length-set (entries σ h p n) n (time (σ (Entry h p n))) ∙ length_entries n

  passed : (n g : ℕ) → g < n → n ≤ halls_max → get_or (entries σ h p n) g (time 0) ≡ time (σ (Entry h p g))
  unfolding entries
  passed zero g l m = absurd (omega arith)
  passed (suc n) g l m =
      by_eq g n
      (λ q _. rw q (get_or-set_same (entries σ h p n) n (time (σ (Entry h p n))) (time 0) (omega (arith, length_entries n))))
      (λ q _. get_or-set_other (entries σ h p n) n g (time (σ (Entry h p n))) (time 0) q ∙ passed n g (omega (arith, q)) (omega arith))

  pub entry_of_lem : (g : ℕ) → g < halls_max → entry_of (vector_of σ h p) g ≡ σ (Entry h p g)
  entry_of_lem g l = ap (λ (y : Timestamp). y.0) (passed halls_max g l (omega arith))

-- "the lowest entry of that server's vector"
abbrev pub lowest_time : Vector → ℕ
lowest_time v = lowest halls_max (member v.holders) (entry_of v)

-- "updated at the sender's place"
abbrev pub updated_at : Vector → ℕ → Timestamp → Vector
updated_at v f x = record { times = set v.times f x; holders = v.holders }

pub lowest_of_lem : (σ : Store) (h p : ℕ) → lowest_time (vector_of σ h p) ≡ lowest_entry σ h p
unfolding lowest any entries
lowest_of_lem σ h p =
    ap (λ (m : ℕ → Bool). lowest halls_max m (λ g. σ (Entry h p g))) (λ i g. member_set_of halls_max (λ a. holds σ a p) g i)
