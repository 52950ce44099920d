-- The view of a key, one transaction after another.
use Rattle.std.specs.Prelude.{ℕ, cond, ◌&&◌, ◌≡◌, List}
use Rattle.book.specs.declared.View.{View}
use Rattle.book.specs.declared.View.TheVariants.{Nothing}
use Rattle.book.specs.Cells.{Store}
use Rattle.book.specs.Servers.{partition_of}
use Rattle.book.specs.Views.{merge, version, versions_of, wrote_by}
use Rattle.room.specs.Layout.{store}

-- p is the partition of key k
abbrev pub HasPartition : List ℕ → ℕ → ℕ → Type 0
HasPartition r p k = p ≡ partition_of (store r) k

-- the view so far, with what transaction t adds to it at hall h's server
abbrev pub joined : Store → ℕ → ℕ → ℕ → ℕ → View → View
joined σ h k S t sofar = merge sofar (cond (versions_of σ h k t && wrote_by σ k S t) (version σ k t) Nothing)
