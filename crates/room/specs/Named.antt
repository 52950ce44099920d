-- The code's names of cells, and the book's cells.
use Rattle.book.specs.Cells as book
use Rattle.room.specs.declared.Cell.{Cell}
use Rattle.room.specs.declared.Cell.TheVariants.{Halls, Partitions, Sessions, Transactions, Mask, Reading, Hybrid, Stable, Entry, Held, HomeHall, HomePartition, Status, Snapshot, LastCommit, WriteSet, ReadSet, WriteValue, ReadValue, CacheValue, CacheTime, By, From, CommitTime, KeySet, Value, State, Proposed, First, Waiting, ClockSent, Carries, Note, Shared}

abbrev pub cell_of : Cell → book.Cell
cell_of Halls = book.Halls
cell_of Partitions = book.Partitions
cell_of Sessions = book.Sessions
cell_of Transactions = book.Transactions
cell_of (Mask h) = book.Mask h.index
cell_of (Reading s) = book.Reading s.hall.index s.partition.index
cell_of (Hybrid s) = book.Hybrid s.hall.index s.partition.index
cell_of (Stable s) = book.Stable s.hall.index s.partition.index
cell_of (Entry s g) = book.Entry s.hall.index s.partition.index g.index
cell_of (Held s t) = book.Held s.hall.index s.partition.index t.index
cell_of (HomeHall s) = book.HomeHall s.index
cell_of (HomePartition s) = book.HomePartition s.index
cell_of (Status s) = book.Status s.index
cell_of (Snapshot s) = book.Snapshot s.index
cell_of (LastCommit s) = book.LastCommit s.index
cell_of (WriteSet s) = book.WriteSet s.index
cell_of (ReadSet s) = book.ReadSet s.index
cell_of (WriteValue s k) = book.WriteValue s.index k.index
cell_of (ReadValue s k) = book.ReadValue s.index k.index
cell_of (CacheValue s k) = book.CacheValue s.index k.index
cell_of (CacheTime s k) = book.CacheTime s.index k.index
cell_of (By t) = book.By t.index
cell_of (From t) = book.From t.index
cell_of (CommitTime t) = book.CommitTime t.index
cell_of (KeySet t) = book.KeySet t.index
cell_of (Value t k) = book.Value t.index k.index
cell_of (State t p) = book.State t.index p.index
cell_of (Proposed t p) = book.Proposed t.index p.index
cell_of (First s f) = book.First s.hall.index s.partition.index f.index
cell_of (Waiting s f) = book.Waiting s.hall.index s.partition.index f.index
cell_of (ClockSent s f n) = book.ClockSent s.hall.index s.partition.index f.index n.index
cell_of (Carries s f n) = book.Carries s.hall.index s.partition.index f.index n.index
cell_of (Note s) = book.Note s.hall.index s.partition.index
cell_of (Shared h f) = book.Shared h.index f.index
