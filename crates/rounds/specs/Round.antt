-- "A full round": every stable time is then at least L.
use Prim.Native.Nat.{ℕ}
use Rattle.std.proofs.Math.Bool.{Bool}
use Rattle.std.specs.Prelude.{◌&&◌, not, eqb, ltb}
use Rattle.book.specs.Sizes.{halls_max, partitions_max}
use Rattle.book.specs.Cells.{Store, Halls, Waiting}
use Rattle.book.specs.Folds.{lowest}
use Rattle.book.specs.Servers.{holds, present}
use Rattle.book.specs.Refusals.{unused}
use Rattle.facts.specs.Calls.{Call}

-- L: "the lowest over servers of the larger of reading and hybrid clock"
abbrev pub lowest_present : Store → ℕ
lowest_present σ =
    lowest halls_max (λ h. ltb h (σ Halls)) (λ h. lowest partitions_max (λ p. holds σ h p) (λ p. present σ h p))

-- a channel runs from f to g for p
abbrev pub is_channel : Store → ℕ → ℕ → ℕ → Bool
is_channel σ p f g = holds σ f p && (holds σ g p && not (eqb f g))

-- the step with this code, at a server; a delivery, in a channel; a share, between two halls
abbrev pub at_server : Store → ℕ → Call → Bool
at_server σ n x = eqb x.code n && (holds σ x.a x.b && unused x.c)

abbrev pub in_channel : Store → Call → Bool
in_channel σ x = eqb x.code 10 && is_channel σ x.a x.b x.c

-- a delivery, in a channel that holds a message in the store τ
abbrev pub with_message : Store → Store → Call → Bool
with_message σ τ x = in_channel σ x && not (eqb (τ (Waiting x.c x.a x.b)) 0)

abbrev pub between_halls : Store → Call → Bool
between_halls σ x = eqb x.code 12 && (ltb x.a (σ Halls) && (ltb x.b (σ Halls) && unused x.c))
