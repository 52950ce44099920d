-- What the ladders ask of a store: its counts are in range, so that what is there has a cell.
use Rattle.std.specs.Prelude.{ℕ, ◌≤◌, ◌<◌, true, ◌≡◌, leb}
use Rattle.std.proofs.Common.{le_trans, arith, ltb-true, leb-true}
use Rattle.book.specs.Sizes.{halls_max, partitions_max, sessions_max, places_max}
use Rattle.book.specs.Cells.{Store, Halls, Partitions, Sessions, Transactions}
use Rattle.book.specs.Cases.{and_true}
use Rattle.book.specs.Servers.{holds, holds_hall, holds_partition}
use Rattle.book.specs.Refusals.{session_there, transaction_there}
use Rattle.servers.specs.Numbers.{Numbered}

pub record Sized (σ : Store) : Type 0 where
  pub halls : σ Halls ≤ halls_max
  pub some : 0 < σ Partitions
  pub partitions : σ Partitions ≤ partitions_max
  pub sessions : σ Sessions ≤ sessions_max
  pub transactions : σ Transactions ≤ places_max

-- a server that is there has cells
pub server_in : (σ : Store) → Sized σ → (h p : ℕ) → holds σ h p ≡ true → (h < halls_max) × (p < partitions_max)
server_in σ S h p e = (le_trans (holds_hall σ h p e) S.halls, le_trans (holds_partition σ h p e) S.partitions)

-- so does a session
pub session_in : (σ : Store) → Sized σ → (s : ℕ) → session_there σ s ≡ true → s < sessions_max
session_in σ S s e =
    let x = ltb-true s (σ Sessions) e in
    let u = S.sessions in
    omega arith

-- and a transaction number that is there has a place
pub transaction_in : (σ : Store) → Sized σ → (n : ℕ) → transaction_there σ n ≡ true → Numbered n
transaction_in σ S n e =
    let a = and_true (leb 1 n) _ e in
    record { first = leb-true 1 n a.0; last = le_trans (leb-true n (σ Transactions) a.1) S.transactions }
