-- Each step keeps the facts of a well formed store.
use Rattle.std.specs.Prelude.{◌∷◌}
use Rattle.book.specs.Cells.{Store, Sessions, Transactions, Reading, Hybrid, Stable, Entry, HomeHall, HomePartition, Status, Snapshot, LastCommit, WriteSet, ReadSet, CacheTime, By, From, CommitTime, KeySet, State, Proposed, First, Waiting, ClockSent, Note, Shared}
use Rattle.book.specs.Servers.{place_of}
use Rattle.facts.specs.Frame.{servers}
use Rattle.facts.specs.Facts.{room_left}
use Rattle.facts.specs.Step.{Step, Writing, Taken, over}
use Rattle.bounds.specs.Formed.{Formed}
use Rattle.bounds.proofs.KeptSteps.{tick_formed, start_formed, read_formed, write_formed, rest_formed, ask_formed, prepare_formed, decide_formed, commit_formed, install_formed, deliver_formed, report_formed, share_formed, learn_formed, move_formed}

-- `Formed` reads most kinds
step_writes : (σ : Store) → Formed σ → {τ : Store}
    → Writing σ (Sessions ∷ Transactions ∷ Reading 0 0 ∷ Hybrid 0 0 ∷ Stable 0 0 ∷ Entry 0 0 0 ∷ HomeHall 0 ∷ HomePartition 0 ∷ Status 0
    ∷ Snapshot 0 ∷ LastCommit 0 ∷ WriteSet 0 ∷ ReadSet 0 ∷ CacheTime 0 0 ∷ By 0 ∷ From 0 ∷ CommitTime 0 ∷ KeySet 0 ∷ State 0 0 ∷ Proposed 0 0
    ∷ First 0 0 0 ∷ Waiting 0 0 0 ∷ ClockSent 0 0 0 0 ∷ Note 0 0 ∷ Shared 0 0 ∷ servers) τ → Formed τ
step_writes σ F (Step.ticks h p x f) = tick_formed σ F h p x f.most
step_writes σ F (Step.starts s f) = start_formed σ F s f.there
step_writes σ F (Step.reads s k h f) = read_formed σ F s k h f.there f.key
step_writes σ F (Step.writes s k v f) = write_formed σ F s k v f.there f.key
step_writes σ F (Step.asks s f q) = ask_formed σ F s f.there (room_left σ s f q)
step_writes σ F (Step.rests s f q) = rest_formed σ F s
step_writes σ F (Step.prepares n p f) = prepare_formed σ F (place_of n) p f.there f.partition f.state
step_writes σ F (Step.decides n f) = decide_formed σ F (place_of n) f.there
step_writes σ F (Step.commits n p f) = commit_formed σ F (place_of n) p f.there f.partition f.state
step_writes σ F (Step.installs h p f) = install_formed σ F h p f.server f.room
step_writes σ F (Step.delivers p f g w) = deliver_formed σ F p f g w.sender w.receiver
step_writes σ F (Step.reports h p f) = report_formed σ F h p f.server
step_writes σ F (Step.shares f to w) = share_formed σ F f to w.sender
step_writes σ F (Step.learns h p f) = learn_formed σ F h p f.server
step_writes σ F (Step.moves s h p f) = move_formed σ F s h p f.server

pub step_formed : (σ : Store) → Formed σ → {τ : Store} → Taken σ τ → Formed τ
step_formed σ F x = over Formed x (step_writes σ F) F
