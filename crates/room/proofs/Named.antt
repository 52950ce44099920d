-- The code's names are those of the room's cells: what stands in a name is in range.
use Rattle.std.proofs.Common.{arith}
use Rattle.room.specs.declared.Cell.{Cell}
use Rattle.room.specs.declared.Cell.TheVariants.{Halls, Partitions, Sessions, Transactions, Mask, Reading, Hybrid, Stable, Entry, Held, HomeHall, HomePartition, Status, Snapshot, LastCommit, WriteSet, ReadSet, WriteValue, ReadValue, CacheValue, CacheTime, By, From, CommitTime, KeySet, Value, State, Proposed, First, Waiting, ClockSent, Carries, Note, Shared}
use Rattle.room.specs.Layout.{Within}
use Rattle.room.specs.Named.{cell_of}

pub cell_within : (c : Cell) → Within (cell_of c)
cell_within Halls = omega arith
cell_within Partitions = omega arith
cell_within Sessions = omega arith
cell_within Transactions = omega arith
cell_within (Mask h) = omega (arith, h.below)
cell_within (Reading s) = omega (arith, s.hall.below, s.partition.below)
cell_within (Hybrid s) = omega (arith, s.hall.below, s.partition.below)
cell_within (Stable s) = omega (arith, s.hall.below, s.partition.below)
cell_within (Entry s g) = omega (arith, s.hall.below, s.partition.below, g.below)
cell_within (Held s t) = omega (arith, s.hall.below, s.partition.below, t.below)
cell_within (HomeHall s) = omega (arith, s.below)
cell_within (HomePartition s) = omega (arith, s.below)
cell_within (Status s) = omega (arith, s.below)
cell_within (Snapshot s) = omega (arith, s.below)
cell_within (LastCommit s) = omega (arith, s.below)
cell_within (WriteSet s) = omega (arith, s.below)
cell_within (ReadSet s) = omega (arith, s.below)
cell_within (WriteValue s k) = omega (arith, s.below, k.below)
cell_within (ReadValue s k) = omega (arith, s.below, k.below)
cell_within (CacheValue s k) = omega (arith, s.below, k.below)
cell_within (CacheTime s k) = omega (arith, s.below, k.below)
cell_within (By t) = omega (arith, t.below)
cell_within (From t) = omega (arith, t.below)
cell_within (CommitTime t) = omega (arith, t.below)
cell_within (KeySet t) = omega (arith, t.below)
cell_within (Value t k) = omega (arith, t.below, k.below)
cell_within (State t p) = omega (arith, t.below, p.below)
cell_within (Proposed t p) = omega (arith, t.below, p.below)
cell_within (First s f) = omega (arith, s.hall.below, s.partition.below, f.below)
cell_within (Waiting s f) = omega (arith, s.hall.below, s.partition.below, f.below)
cell_within (ClockSent s f n) = omega (arith, s.hall.below, s.partition.below, f.below, n.below)
cell_within (Carries s f n) = omega (arith, s.hall.below, s.partition.below, f.below, n.below)
cell_within (Note s) = omega (arith, s.hall.below, s.partition.below)
cell_within (Shared h f) = omega (arith, h.below, f.below)
