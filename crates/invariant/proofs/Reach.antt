-- Every reached store has the invariant.
use Rattle.std.specs.Prelude.{ℕ, ◌<◌, [], ◌∷◌}
use Rattle.std.proofs.Common.{le_trans, arith}
use Rattle.book.specs.Sizes.{partitions_max}
use Rattle.book.specs.Cells.{Store, Partitions, Entry, prepared, waiting, Sessions, From, Transactions, First, Note, Halls, HomeHall, Hybrid, State, Waiting, Shared, KeySet, HomePartition, Proposed, ClockSent, Held, Stable, CommitTime, Carries, Snapshot}
use Rattle.book.specs.Servers.{place_of}
use Rattle.book.specs.Reached.{Reached, Later}
use Rattle.facts.specs.Frame.{servers}
use Rattle.facts.specs.Facts.{room_left}
use Rattle.facts.specs.Step.{Step, Writing, Taken, over, by_reached, by_later}
use Rattle.facts.specs.Setup.{Setup, move_setup}
use Rattle.invariant.specs.Inv.{Clocks, States, Channels, Holding, Gossip, Writes, Inv, Below}
use Rattle.invariant.proofs.Gossip.{report_gossip, share_gossip, learn_gossip, start_gossip, grow_gossip}
use Rattle.invariant.proofs.Clocks.{prepare_clocks, prepare_states, commit_clocks, commit_states, decide_clocks, decide_states, ask_clocks, ask_states}
use Rattle.invariant.proofs.Install.{install_grown, install_clocks, install_states}
use Rattle.invariant.proofs.Sent.{install_channels, install_holding, install_writes}
use Rattle.invariant.proofs.Deliver.{deliver_grown, deliver_clocks, deliver_channels, deliver_holding}
use Rattle.invariant.proofs.Transactions.{state_holding, state_writes, decide_channels, decide_holding, ask_holding, ask_writes}
use Rattle.invariant.proofs.Begun.{first_inv, first_gossip}

-- group by group, over the steps that write a kind which it reads
module _ (σ : Store) (I : Inv σ) where
  step_setup : {τ : Store} → Writing σ (Sessions ∷ HomeHall 0 ∷ HomePartition 0 ∷ servers) τ → Setup τ
  step_setup (Step.moves s h p f) = move_setup σ I.setup s h p f.server

  small : (p : ℕ) → p < σ Partitions → p < partitions_max
  small p l = le_trans l I.setup.partitions

  step_clocks : {τ : Store} → Writing σ (From 0 ∷ Entry 0 0 0 ∷ Hybrid 0 0 ∷ State 0 0 ∷ Proposed 0 0 ∷ CommitTime 0 ∷ servers) τ → Clocks τ
  step_clocks (Step.asks s f q) = ask_clocks σ I s (room_left σ s f q)
  step_clocks (Step.prepares n p f) = prepare_clocks σ I (place_of n) p f.there (small p f.partition) f.state
  step_clocks (Step.decides n f) = decide_clocks σ I (place_of n) f.there f.undecided f.states
  step_clocks (Step.commits n p f) = commit_clocks σ I (place_of n) p f.there (small p f.partition) f.state f.decided
  step_clocks (Step.installs h p f) = install_clocks σ I h p
  step_clocks (Step.delivers p f g w) = deliver_clocks σ I p f g w.apart w.some

  step_states : {τ : Store} → Writing σ (Transactions ∷ State 0 0 ∷ Proposed 0 0 ∷ CommitTime 0 ∷ []) τ → States τ
  step_states (Step.asks s f q) = ask_states σ I s (room_left σ s f q)
  step_states (Step.prepares n p f) = prepare_states σ I (place_of n) p f.there (small p f.partition) f.state
  step_states (Step.decides n f) = decide_states σ I (place_of n) f.there f.undecided f.states
  step_states (Step.commits n p f) = commit_states σ I (place_of n) p f.there (small p f.partition) f.state f.decided
  step_states (Step.installs h p f) = install_states σ I h p

  step_channels : {τ : Store}
      → Writing σ (Entry 0 0 0 ∷ First 0 0 0 ∷ Waiting 0 0 0 ∷ ClockSent 0 0 0 0 ∷ Carries 0 0 0 0 ∷ CommitTime 0 ∷ servers) τ → Channels τ
  step_channels (Step.decides n f) = decide_channels σ I (place_of n) f.there f.undecided f.states
  step_channels (Step.installs h p f) = install_channels σ I h p f.room
  step_channels (Step.delivers p f g w) = deliver_channels σ I p f g w.apart w.some

  step_holding : {τ : Store}
      → Writing σ (From 0 ∷ State 0 0 ∷ Held 0 0 0 ∷ CommitTime 0 ∷ First 0 0 0 ∷ Waiting 0 0 0 ∷ Carries 0 0 0 0 ∷ servers) τ → Holding τ
  step_holding (Step.asks s f q) = ask_holding σ I s f.there (room_left σ s f q)
  step_holding (Step.prepares n p f) = state_holding σ I (place_of n) p prepared (omega arith) (λ x. omega arith)
  step_holding (Step.decides n f) = decide_holding σ I (place_of n) f.there f.undecided f.states
  step_holding (Step.commits n p f) = state_holding σ I (place_of n) p waiting (omega arith) (λ x. omega arith)
  step_holding (Step.installs h p f) = install_holding σ I h p f.room
  step_holding (Step.delivers p f g w) = deliver_holding σ I p f g w.apart w.some

  step_writes : {τ : Store} → Writing σ (Halls ∷ Partitions ∷ From 0 ∷ KeySet 0 ∷ State 0 0 ∷ []) τ → Writes τ
  step_writes (Step.asks s f q) = ask_writes σ I s f.there (room_left σ s f q)
  step_writes (Step.prepares n p f) = state_writes σ I (place_of n) p prepared (omega arith) (λ x. omega arith)
  step_writes (Step.commits n p f) = state_writes σ I (place_of n) p waiting (omega arith) (λ x. omega arith)
  step_writes (Step.installs h p f) = install_writes σ I h p f.room

  pub step_inv : (τ : Store) → Taken σ τ → Inv τ
  step_inv τ x = record {
    setup = over Setup x step_setup I.setup;
    clocks = over Clocks x step_clocks I.clocks;
    states = over States x step_states I.states;
    channels = over Channels x step_channels I.channels;
    holding = over Holding x step_holding I.holding;
    writes = over Writes x step_writes I.writes;
  }

pub reached_later : {σ τ : Store} → Reached σ → Later σ τ → Reached τ
reached_later r Later.none = r
reached_later r (Later.more w code a b c) = Reached.onward (reached_later r w) code a b c

pub reached_inv : {σ : Store} → Reached σ → Inv σ
reached_inv = by_reached Inv first_inv (λ σ r I. step_inv σ I)

-- what halls tell one another stands beside it
step_gossip : (σ : Store) → Inv σ → Gossip σ → {τ : Store}
    → Writing σ (Note 0 0 ∷ Shared 0 0 ∷ Stable 0 0 ∷ Snapshot 0 ∷ Entry 0 0 0 ∷ servers) τ → Gossip τ
step_gossip σ I G (Step.starts s f) = start_gossip σ I G s
step_gossip σ I G (Step.installs h p f) = grow_gossip σ _ G (install_grown σ I h p)
step_gossip σ I G (Step.delivers p f g w) = grow_gossip σ _ G (deliver_grown σ I p f g w.apart w.some)
step_gossip σ I G (Step.reports h p f) = report_gossip σ I G h p
step_gossip σ I G (Step.shares f to w) = share_gossip σ I G f to
step_gossip σ I G (Step.learns h p f) = learn_gossip σ I G h p

pub reached_gossip : {σ : Store} → Reached σ → Gossip σ
reached_gossip = by_reached Gossip first_gossip (λ σ r G τ x. over Gossip x (step_gossip σ (reached_inv r) G) G)

pub later_inv : {σ τ : Store} → Inv σ → Later σ τ → Inv τ
later_inv I = by_later Inv I (λ τ w J. step_inv τ J)

-- what is at most every entry stays so
step_below : (σ : Store) → Inv σ → (S : ℕ) → Below σ S → {τ : Store} → Writing σ (Entry 0 0 0 ∷ servers) τ → Below τ S
step_below σ I S B (Step.installs h p f) = λ h' p' g e e'. le_trans (B h' p' g e e') (install_grown σ I h p h' p' g)
step_below σ I S B (Step.delivers p f g w) = λ h' p' g' e e'. le_trans (B h' p' g' e e')
    (deliver_grown σ I p f g w.apart w.some h' p' g')

pub later_below : {σ τ : Store} → Inv σ → (S : ℕ) → Below σ S → Later σ τ → Below τ S
later_below I S B =
    by_later (λ τ. Below τ S) B (λ τ w C υ x. over (λ υ. Below υ S) x (step_below τ (later_inv I w) S C) C)
