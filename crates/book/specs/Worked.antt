-- Lines worked out by hand from document 01, its printout and document 02: setup; steps 1 to 14, for each what it answers, what it changes
-- and what stays, and its refusals, where the number is given and where it just is not; views; sizes; a room that is not well formed.
use Rattle.std.specs.Prelude.{ℕ, zero, suc, ◌^◌, ◌-◌, ◌+◌, Bool, true, cond, refl, List, [], ◌∷◌}
use Rattle.book.specs.declared.View.TheVariants.{Nothing, Seen}
use Rattle.book.specs.Sizes.{time_max}
use Rattle.book.specs.Cells.{Store, ◌⟨◌≔◌⟩, Halls, Partitions, Sessions, Transactions, Mask, Reading, Hybrid, Stable, Entry, Held, HomeHall, HomePartition, Status, idle, running, committing, Snapshot, LastCommit, WriteSet, ReadSet, WriteValue, ReadValue, CacheValue, CacheTime, By, From, CommitTime, KeySet, Value, State, asked, prepared, waiting, installed, Proposed, First, Waiting, ClockSent, Carries, Note, Shared}
use Rattle.book.specs.Folds.{any, all, count, sum, lowest, largest}
use Rattle.book.specs.Sets.{member, include, set_of}
use Rattle.book.specs.Answers.{stamp, numbers, view_numbers}
use Rattle.book.specs.Servers.{first_from, writer, number_of}
use Rattle.book.specs.Views.{merge, merge_all, stamp_of, decided_view, held_view}
use Rattle.book.specs.Setup.{good_setup, first_store, setup_refusal, setup_answer}
use Rattle.book.specs.Steps.{rule_of, refusal, after, answer}
use Rattle.book.specs.WellFormed.{transaction_ok}
use Rattle.book.specs.History.{stamp_in, ever_view, entry_of, decided_after}
use Rattle.book.specs.Board.{Line, Holds, ◌gives◌, first, second, desk, burner, reader}

-- The page's example after its setup: halls 0 and 1 with masks 3 and 2, sessions at (0, 0) and (1, 1).
abbrev halls : Store
halls = first_store (3 ∷ 2 ∷ []) (0 ∷ 0 ∷ 1 ∷ 1 ∷ [])

-- session 1 running, with 205 written to key 0, 44 to key 1 and 46 to key 2
abbrev writing : Store
writing = halls ⟨ Status 1 ≔ running ⟩ ⟨ WriteSet 1 ≔ 7 ⟩ ⟨ WriteValue 1 0 ≔ 205 ⟩ ⟨ WriteValue 1 1 ≔ 44 ⟩ ⟨ WriteValue 1 2 ≔ 46 ⟩

-- session 0 running with S = 100, and a value of key 1 in each place where a read looks: 11 written, 22 read, 33 cached, 44 at server (0,
-- 1)
abbrev looking : Store
looking = halls ⟨ Status 0 ≔ running ⟩ ⟨ Snapshot 0 ≔ 100 ⟩ ⟨ WriteSet 0 ≔ 2 ⟩ ⟨ WriteValue 0 1 ≔ 11 ⟩ ⟨ ReadSet 0 ≔ 2 ⟩
    ⟨ ReadValue 0 1 ≔ 22 ⟩ ⟨ CacheTime 0 1 ≔ 150 ⟩ ⟨ CacheValue 0 1 ≔ 33 ⟩ ⟨ Transactions ≔ 1 ⟩ ⟨ CommitTime 0 ≔ 100 ⟩ ⟨ KeySet 0 ≔ 2 ⟩
    ⟨ Value 0 1 ≔ 44 ⟩ ⟨ State 0 1 ≔ installed ⟩ ⟨ Held 0 1 0 ≔ 1 ⟩

-- session 1's transaction 1 of keys 0 and 1, asked: from hall 1, so written in hall 0 for partition 0 and in hall 1 for partition 1
abbrev both_asked : Store
both_asked = halls ⟨ Status 1 ≔ committing ⟩ ⟨ WriteSet 1 ≔ 3 ⟩ ⟨ Transactions ≔ 1 ⟩ ⟨ By 0 ≔ 1 ⟩ ⟨ From 0 ≔ 1 ⟩ ⟨ KeySet 0 ≔ 3 ⟩
    ⟨ Value 0 0 ≔ 205 ⟩ ⟨ Value 0 1 ≔ 44 ⟩ ⟨ State 0 0 ≔ asked ⟩ ⟨ State 0 1 ≔ asked ⟩

-- session 0's transaction 1 of keys 0 and 1, from hall 0: prepared at 100 in partition 0 and at 90 in partition 1
abbrev both_prepared : Store
both_prepared = halls ⟨ Transactions ≔ 1 ⟩ ⟨ KeySet 0 ≔ 3 ⟩ ⟨ State 0 0 ≔ prepared ⟩ ⟨ Proposed 0 0 ≔ 100 ⟩ ⟨ State 0 1 ≔ prepared ⟩
    ⟨ Proposed 0 1 ≔ 90 ⟩

-- the same of session 1, which has older cache entries of keys 1 and 5
abbrev deciding : Store
deciding = both_asked ⟨ State 0 0 ≔ prepared ⟩ ⟨ Proposed 0 0 ≔ 100 ⟩ ⟨ State 0 1 ≔ prepared ⟩ ⟨ Proposed 0 1 ≔ 90 ⟩ ⟨ CacheTime 1 1 ≔ 50 ⟩
    ⟨ CacheValue 1 1 ≔ 7 ⟩ ⟨ CacheTime 1 5 ≔ 60 ⟩ ⟨ CacheValue 1 5 ≔ 8 ⟩

-- session 0's, decided at 100
abbrev decided_at100 : Store
decided_at100 = both_prepared ⟨ CommitTime 0 ≔ 100 ⟩

-- and waiting in partition 1
abbrev waiting_at1 : Store
waiting_at1 = decided_at100 ⟨ State 0 1 ≔ waiting ⟩ ⟨ Hybrid 0 1 ≔ 100 ⟩

-- and installed at (0, 1) and sent to (1, 1)
abbrev sent : Store
sent = waiting_at1 ⟨ State 0 1 ≔ installed ⟩ ⟨ Entry 0 1 0 ≔ 100 ⟩ ⟨ Waiting 1 1 0 ≔ 1 ⟩ ⟨ ClockSent 1 1 0 0 ≔ 100 ⟩ ⟨ Carries 1 1 0 0 ≔ 1 ⟩

-- and a second message after it, with transactions 2 and 3
abbrev sent_twice : Store
sent_twice = sent ⟨ Waiting 1 1 0 ≔ 2 ⟩ ⟨ ClockSent 1 1 0 1 ≔ 130 ⟩ ⟨ Carries 1 1 0 1 ≔ 6 ⟩

-- three halls that hold one partition, and a reading of 100 in hall 0
abbrev three : Store
three = first_store (1 ∷ 1 ∷ 1 ∷ []) (0 ∷ 0 ∷ []) ⟨ Reading 0 0 ≔ 100 ⟩

-- four halls with transaction 1 from hall h; halls 0 and 2 hold partition 0
abbrev four : ℕ → Store
four h = desk ⟨ Halls ≔ 4 ⟩ ⟨ Mask 2 ≔ 1 ⟩ ⟨ From 0 ≔ h ⟩

-- n sessions at (0, 0)
unfoldable pub homes : ℕ → List ℕ
homes zero = []
homes (suc n) = 0 ∷ 0 ∷ homes n

-- a yes or no as a number
abbrev yes : Bool → ℕ
yes b = cond b 1 0

unfoldable pub worked : List Line
worked =
    -- Setup. Step 0 of the printout: "N and the number of servers"
    (numbers (setup_answer (3 ∷ 2 ∷ []) (0 ∷ 0 ∷ 1 ∷ 1 ∷ []))).first gives 2
    ∷ (numbers (setup_answer (3 ∷ 2 ∷ []) (0 ∷ 0 ∷ 1 ∷ 1 ∷ []))).second gives 3
    ∷ (numbers (setup_answer (2 ∷ []) (0 ∷ 1 ∷ []))).first gives 0
    -- what it keeps of its numbers; "All clocks, notes and snapshots start at 0."
    ∷ halls Halls gives 2
    ∷ halls Partitions gives 2
    ∷ halls Sessions gives 2
    ∷ halls Transactions gives 0
    ∷ halls (Mask 0) gives 3
    ∷ halls (Mask 1) gives 2
    ∷ first_store (3 ∷ 2 ∷ []) (0 ∷ 0 ∷ 0 ∷ 1 ∷ []) (HomeHall 1) gives 0
    ∷ first_store (3 ∷ 2 ∷ []) (0 ∷ 0 ∷ 0 ∷ 1 ∷ []) (HomePartition 1) gives 1
    ∷ halls (Status 0) gives idle
    ∷ halls (Reading 0 0) gives 0
    -- "each partition below N is held by some hall": partition 0 is not
    ∷ setup_refusal (2 ∷ []) (0 ∷ 1 ∷ []) gives 2
    ∷ setup_refusal (2 ∷ 1 ∷ []) (0 ∷ 1 ∷ []) gives 0
    -- "Each mask is 1 to 15": 17 has partition 0's bit, and beside a hall with partition 0 stands one with 16: nothing else speaks against
    -- them
    ∷ setup_refusal (17 ∷ []) (0 ∷ 0 ∷ []) gives 2
    ∷ setup_refusal (15 ∷ []) (0 ∷ 0 ∷ []) gives 0
    ∷ setup_refusal (1 ∷ 16 ∷ []) (0 ∷ 0 ∷ []) gives 2
    ∷ setup_refusal (1 ∷ 0 ∷ []) (0 ∷ 0 ∷ []) gives 2
    ∷ setup_refusal (1 ∷ 1 ∷ []) (0 ∷ 0 ∷ []) gives 0
    -- "Each session has a home server": hall 1 has partition 1 alone
    ∷ setup_refusal (3 ∷ 2 ∷ []) (1 ∷ 0 ∷ []) gives 2
    ∷ setup_refusal (3 ∷ 2 ∷ []) (0 ∷ 1 ∷ []) gives 0
    ∷ setup_refusal (3 ∷ 2 ∷ []) (0 ∷ 0 ∷ 2 ∷ 1 ∷ []) gives 2
    ∷ setup_refusal (1 ∷ []) (0 ∷ 0 ∷ 0 ∷ []) gives 2
    -- "1 to 4 halls", "1 to 16 sessions"
    ∷ setup_refusal [] (0 ∷ 0 ∷ []) gives 2
    ∷ setup_refusal (1 ∷ 1 ∷ 1 ∷ 1 ∷ []) (0 ∷ 0 ∷ []) gives 0
    ∷ setup_refusal (1 ∷ 1 ∷ 1 ∷ 1 ∷ 1 ∷ []) (0 ∷ 0 ∷ []) gives 2
    ∷ setup_refusal (1 ∷ []) [] gives 2
    ∷ setup_refusal (1 ∷ []) (homes 16) gives 0
    ∷ setup_refusal (1 ∷ []) (homes 17) gives 2
    -- 1. Tick: "Stores the reading.", and answers nothing
    ∷ after halls 1 0 1 90 (Reading 0 1) gives 90
    ∷ after halls 1 0 1 90 (Reading 0 0) gives 0
    ∷ after halls 1 0 1 90 (Reading 1 1) gives 0
    ∷ after halls 1 0 1 90 (Hybrid 0 1) gives 0
    ∷ first halls 1 0 1 90 gives 0
    ∷ second halls 1 0 1 90 gives 0
    -- number 3: hall 1 has no partition 0; a hall, and a partition, that is not there, whatever its mask says
    ∷ refusal halls 1 1 0 90 gives 3
    ∷ refusal halls 1 1 1 90 gives 0
    ∷ refusal (halls ⟨ Mask 2 ≔ 3 ⟩) 1 2 0 90 gives 3
    ∷ refusal (halls ⟨ Mask 0 ≔ 7 ⟩) 1 0 2 90 gives 3
    -- number 4, after 3 (P8 has 2^48 - 1 and 2^48); 5: "An equal reading is fine."
    ∷ refusal halls 1 1 0 (2 ^ 48) gives 3
    ∷ refusal (halls ⟨ Reading 0 0 ≔ 90 ⟩) 1 0 0 90 gives 0
    ∷ refusal (halls ⟨ Reading 0 0 ≔ 90 ⟩) 1 0 0 89 gives 5
    ∷ after (halls ⟨ Reading 0 0 ≔ 90 ⟩) 1 0 0 89 (Reading 0 0) gives 90
    ∷ refusal (halls ⟨ Reading 0 0 ≔ 90 ⟩ ⟨ Hybrid 0 0 ≔ 100 ⟩) 1 0 0 90 gives 0
    ∷ refusal (halls ⟨ Reading 0 0 ≔ 90 ⟩) 1 1 1 89 gives 0
    -- 2. Start: "S becomes the larger of the coordinator's and the session's stable time; both keep it."
    ∷ first (halls ⟨ Stable 1 1 ≔ 70 ⟩ ⟨ Snapshot 1 ≔ 100 ⟩) 2 1 0 0 gives 100
    ∷ first (halls ⟨ Stable 1 1 ≔ 100 ⟩ ⟨ Snapshot 1 ≔ 70 ⟩) 2 1 0 0 gives 100
    ∷ first (halls ⟨ Stable 1 1 ≔ 100 ⟩ ⟨ Snapshot 1 ≔ 70 ⟩) 2 0 0 0 gives 0
    ∷ first (halls ⟨ HomePartition 0 ≔ 1 ⟩ ⟨ Stable 0 1 ≔ 100 ⟩) 2 0 0 0 gives 100
    ∷ after (halls ⟨ Snapshot 0 ≔ 100 ⟩) 2 0 0 0 (Stable 0 0) gives 100
    ∷ after (halls ⟨ Snapshot 0 ≔ 100 ⟩) 2 0 0 0 (Stable 0 1) gives 0
    ∷ after (halls ⟨ Stable 0 0 ≔ 100 ⟩) 2 0 0 0 (Snapshot 0) gives 100
    ∷ after (halls ⟨ Stable 0 0 ≔ 100 ⟩) 2 0 0 0 (Snapshot 1) gives 0
    -- the lag. Step 4 of the printout; document 02, d: "at step 30 both are 120, so the lag is still 20"
    ∷ second (halls ⟨ Reading 0 0 ≔ 100 ⟩) 2 0 0 0 gives 100
    ∷ second (halls ⟨ HomePartition 0 ≔ 1 ⟩ ⟨ Reading 0 1 ≔ 100 ⟩) 2 0 0 0 gives 100
    ∷ second (halls ⟨ Reading 1 1 ≔ 120 ⟩ ⟨ Hybrid 1 1 ≔ 120 ⟩ ⟨ Stable 1 1 ≔ 100 ⟩) 2 1 0 0 gives 20
    -- "A hall whose clock runs slow": a reading of 40 under a hybrid clock of 120
    ∷ second (halls ⟨ Reading 1 1 ≔ 40 ⟩ ⟨ Hybrid 1 1 ≔ 120 ⟩ ⟨ Stable 1 1 ≔ 100 ⟩) 2 1 0 0 gives 20
    -- no reached store: the difference of numbers, S being the larger
    ∷ second (halls ⟨ Reading 0 0 ≔ 99 ⟩ ⟨ Snapshot 0 ≔ 100 ⟩) 2 0 0 0 gives 0
    -- "Write and read sets are emptied", and the session runs; the other session is as it was
    ∷ after (halls ⟨ WriteSet 0 ≔ 3 ⟩) 2 0 0 0 (WriteSet 0) gives 0
    ∷ after (halls ⟨ WriteSet 1 ≔ 3 ⟩) 2 0 0 0 (WriteSet 1) gives 3
    ∷ after (halls ⟨ ReadSet 0 ≔ 3 ⟩) 2 0 0 0 (ReadSet 0) gives 0
    ∷ after (halls ⟨ ReadSet 1 ≔ 3 ⟩) 2 0 0 0 (ReadSet 1) gives 3
    ∷ after halls 2 0 0 0 (Status 0) gives running
    ∷ after halls 2 0 0 0 (Status 1) gives idle
    ∷ after (halls ⟨ LastCommit 0 ≔ 100 ⟩) 2 0 0 0 (LastCommit 0) gives 100
    -- "cache entries with time at or below S go" (P10): every such entry of the session, and no other
    ∷ after (halls ⟨ Stable 0 0 ≔ 100 ⟩ ⟨ CacheTime 0 0 ≔ 70 ⟩) 2 0 0 0 (CacheTime 0 0) gives 0
    ∷ after (halls ⟨ Stable 0 0 ≔ 100 ⟩ ⟨ CacheTime 0 31 ≔ 100 ⟩) 2 0 0 0 (CacheTime 0 31) gives 0
    ∷ after (halls ⟨ Stable 0 0 ≔ 100 ⟩ ⟨ CacheTime 1 0 ≔ 70 ⟩) 2 0 0 0 (CacheTime 1 0) gives 70
    ∷ after (halls ⟨ CacheTime 0 7 ≔ 101 ⟩ ⟨ CacheValue 0 7 ≔ 44 ⟩ ⟨ Stable 0 0 ≔ 100 ⟩) 2 0 0 0 (CacheValue 0 7) gives 44
    -- number 3: "session .. not there", "unused number not 0"
    ∷ refusal halls 2 2 0 0 gives 3
    ∷ refusal halls 2 1 0 0 gives 0
    ∷ refusal halls 2 0 1 0 gives 3
    ∷ refusal halls 2 0 0 1 gives 3
    -- number 6: "start on a session that isn't idle", after 3
    ∷ refusal writing 2 1 0 0 gives 6
    ∷ refusal both_asked 2 1 0 0 gives 6
    ∷ refusal both_asked 2 0 0 0 gives 0
    ∷ refusal writing 2 1 0 1 gives 3
    ∷ after writing 2 1 0 0 (WriteSet 1) gives 7
    -- 3. Read: "Looks in write set, read set, cache, then at that hall's server". "Answers 1 and the value"
    ∷ first looking 3 0 1 0 gives 1
    ∷ second looking 3 0 1 0 gives 11
    ∷ second (looking ⟨ WriteSet 0 ≔ 0 ⟩) 3 0 1 0 gives 22
    ∷ second (looking ⟨ WriteSet 0 ≔ 0 ⟩ ⟨ ReadSet 0 ≔ 0 ⟩) 3 0 1 0 gives 33
    ∷ first (looking ⟨ WriteSet 0 ≔ 0 ⟩ ⟨ ReadSet 0 ≔ 0 ⟩) 3 0 1 0 gives 1
    ∷ second (looking ⟨ WriteSet 0 ≔ 0 ⟩ ⟨ ReadSet 0 ≔ 0 ⟩ ⟨ CacheTime 0 1 ≔ 0 ⟩) 3 0 1 0 gives 44
    ∷ first (looking ⟨ WriteSet 0 ≔ 0 ⟩ ⟨ ReadSet 0 ≔ 0 ⟩ ⟨ CacheTime 0 1 ≔ 0 ⟩) 3 0 1 0 gives 1
    -- "or 0 and 0": key 3 is nowhere; what (0, 1) holds, (1, 1) does not
    ∷ first looking 3 0 3 0 gives 0
    ∷ second looking 3 0 3 0 gives 0
    ∷ first (looking ⟨ WriteSet 0 ≔ 0 ⟩ ⟨ ReadSet 0 ≔ 0 ⟩ ⟨ CacheTime 0 1 ≔ 0 ⟩) 3 0 1 1 gives 0
    ∷ second (looking ⟨ WriteSet 0 ≔ 0 ⟩ ⟨ ReadSet 0 ≔ 0 ⟩ ⟨ CacheTime 0 1 ≔ 0 ⟩ ⟨ Held 1 1 0 ≔ 1 ⟩) 3 0 1 1 gives 44
    -- "What is found joins the read set, over an older entry." What is not found does not.
    ∷ after looking 3 0 1 0 (ReadValue 0 1) gives 11
    ∷ after (looking ⟨ ReadSet 0 ≔ 1 ⟩) 3 0 1 0 (ReadSet 0) gives 3
    ∷ after (looking ⟨ WriteSet 0 ≔ 0 ⟩ ⟨ ReadSet 0 ≔ 0 ⟩) 3 0 1 0 (ReadSet 0) gives 2
    ∷ after (looking ⟨ WriteSet 0 ≔ 0 ⟩ ⟨ ReadSet 0 ≔ 0 ⟩) 3 0 1 0 (ReadValue 0 1) gives 33
    ∷ after (looking ⟨ WriteSet 0 ≔ 0 ⟩ ⟨ ReadSet 0 ≔ 0 ⟩ ⟨ CacheTime 0 1 ≔ 0 ⟩) 3 0 1 0 (ReadSet 0) gives 2
    ∷ after (looking ⟨ WriteSet 0 ≔ 0 ⟩ ⟨ ReadSet 0 ≔ 0 ⟩ ⟨ CacheTime 0 1 ≔ 0 ⟩) 3 0 1 0 (ReadValue 0 1) gives 44
    ∷ after looking 3 0 3 0 (ReadSet 0) gives 2
    ∷ after (looking ⟨ ReadValue 0 3 ≔ 55 ⟩) 3 0 3 0 (ReadValue 0 3) gives 55
    -- nothing else changes
    ∷ after looking 3 0 1 0 (WriteSet 0) gives 2
    ∷ after looking 3 0 1 0 (CacheTime 0 1) gives 150
    ∷ after looking 3 0 1 0 (ReadSet 1) gives 0
    ∷ after looking 3 0 1 0 (Status 0) gives running
    -- number 3: a session, a key (P9), a hall that is not there; "a read in a hall without the key's partition", wherever the answer comes
    -- from
    ∷ refusal looking 3 2 1 0 gives 3
    ∷ refusal looking 3 0 1 2 gives 3
    ∷ refusal looking 3 0 1 1 gives 0
    ∷ refusal looking 3 0 0 1 gives 3
    ∷ refusal writing 3 1 0 1 gives 3
    ∷ refusal (looking ⟨ ReadSet 0 ≔ 1 ⟩) 3 0 0 1 gives 3
    ∷ refusal (looking ⟨ CacheTime 0 0 ≔ 150 ⟩) 3 0 0 1 gives 3
    -- number 7: "on a session that isn't running", after 3
    ∷ refusal (looking ⟨ Status 0 ≔ idle ⟩) 3 0 1 0 gives 7
    ∷ refusal (looking ⟨ Status 0 ≔ committing ⟩) 3 0 1 0 gives 7
    ∷ refusal (looking ⟨ Status 0 ≔ idle ⟩) 3 0 0 1 gives 3
    ∷ refusal halls 3 0 0 0 gives 7
    -- 4. Write: "Replaces an earlier value in the write set.", and answers nothing
    ∷ after writing 4 1 1 45 (WriteValue 1 1) gives 45
    ∷ after writing 4 1 1 45 (WriteSet 1) gives 7
    ∷ after writing 4 1 3 45 (WriteValue 1 3) gives 45
    ∷ after writing 4 1 3 45 (WriteSet 1) gives 15
    ∷ after writing 4 1 3 45 (WriteValue 1 1) gives 44
    ∷ after writing 4 1 3 45 (WriteSet 0) gives 0
    ∷ after looking 4 0 1 45 (ReadValue 0 1) gives 22
    ∷ after looking 4 0 1 45 (ReadSet 0) gives 2
    ∷ after looking 4 0 1 45 (CacheValue 0 1) gives 33
    ∷ first writing 4 1 1 45 gives 0
    ∷ second writing 4 1 1 45 gives 0
    -- "A write set may name all 32 keys."
    ∷ after (writing ⟨ WriteSet 1 ≔ 2 ^ 31 - 1 ⟩) 4 1 31 45 (WriteSet 1) gives (2 ^ 32 - 1)
    -- number 3: a session or a key (P9) that is not there; no hall is asked for, so session 1 may write key 0
    ∷ refusal writing 4 2 1 45 gives 3
    ∷ refusal writing 4 1 32 45 gives 3
    ∷ refusal writing 4 1 0 45 gives 0
    -- document 02, c: "Values to 100,000 are taken. Refusals: 12, bad value"
    ∷ refusal (reader 0) 4 0 0 100000 gives 0
    ∷ after (reader 0) 4 0 0 100000 (WriteValue 0 0) gives 100000
    ∷ refusal (reader 0) 4 0 0 100001 gives 12
    -- "checked right after 3": a bad key comes first, a session that is idle or committing later
    ∷ refusal (reader 0) 4 0 32 100001 gives 3
    ∷ refusal halls 4 0 0 100001 gives 12
    ∷ refusal desk 4 0 0 100001 gives 12
    -- number 7: idle, committing; after 3
    ∷ refusal halls 4 0 0 100000 gives 7
    ∷ refusal desk 4 0 0 100000 gives 7
    ∷ refusal halls 4 2 0 45 gives 3
    -- 5. End, "With writes: transaction number (1, 2, .. in order of request) and number of partitions written"
    ∷ first writing 5 1 0 0 gives 1
    ∷ first (writing ⟨ Transactions ≔ 5 ⟩) 5 1 0 0 gives 6
    ∷ second writing 5 1 0 0 gives 2
    ∷ second (writing ⟨ WriteSet 1 ≔ 5 ⟩) 5 1 0 0 gives 1
    ∷ second (writing ⟨ WriteSet 1 ≔ 2 ⟩) 5 1 0 0 gives 1
    -- "each becomes asked": each that is written
    ∷ after writing 5 1 0 0 (State 0 0) gives asked
    ∷ after writing 5 1 0 0 (State 0 1) gives asked
    ∷ after writing 5 1 0 0 (State 0 2) gives 0
    ∷ after writing 5 1 0 0 (State 1 0) gives 0
    ∷ after (writing ⟨ WriteSet 1 ≔ 5 ⟩) 5 1 0 0 (State 0 0) gives asked
    ∷ after (writing ⟨ WriteSet 1 ≔ 5 ⟩) 5 1 0 0 (State 0 1) gives 0
    ∷ after (writing ⟨ Transactions ≔ 5 ⟩) 5 1 0 0 (State 5 1) gives asked
    -- the session and its coordinator's hall, and its writes; undecided
    ∷ after writing 5 1 0 0 (By 0) gives 1
    ∷ after writing 5 1 0 0 (From 0) gives 1
    ∷ after (writing ⟨ HomeHall 1 ≔ 0 ⟩) 5 1 0 0 (From 0) gives 0
    ∷ after writing 5 1 0 0 (KeySet 0) gives 7
    ∷ after writing 5 1 0 0 (Value 0 0) gives 205
    ∷ after writing 5 1 0 0 (Value 0 1) gives 44
    ∷ after writing 5 1 0 0 (Value 0 2) gives 46
    ∷ after writing 5 1 0 0 (Value 1 1) gives 0
    ∷ after (writing ⟨ WriteValue 1 31 ≔ 47 ⟩) 5 1 0 0 (Value 0 31) gives 47
    ∷ after writing 5 1 0 0 (CommitTime 0) gives 0
    ∷ after (writing ⟨ Transactions ≔ 5 ⟩) 5 1 0 0 (By 5) gives 1
    ∷ after (writing ⟨ Transactions ≔ 5 ⟩) 5 1 0 0 (KeySet 0) gives 0
    ∷ after (writing ⟨ Transactions ≔ 5 ⟩) 5 1 0 0 Transactions gives 6
    -- "the session is committing"; it keeps its writes until the decide
    ∷ after writing 5 1 0 0 (Status 1) gives committing
    ∷ after writing 5 1 0 0 (Status 0) gives idle
    ∷ after writing 5 1 0 0 (WriteSet 1) gives 7
    ∷ after (writing ⟨ ReadSet 1 ≔ 2 ⟩) 5 1 0 0 (ReadSet 1) gives 2
    -- "Without: the session is idle, nothing else changes."
    ∷ first (writing ⟨ WriteSet 1 ≔ 0 ⟩) 5 1 0 0 gives 0
    ∷ second (writing ⟨ WriteSet 1 ≔ 0 ⟩) 5 1 0 0 gives 0
    ∷ after (writing ⟨ WriteSet 1 ≔ 0 ⟩) 5 1 0 0 (Status 1) gives idle
    ∷ after (writing ⟨ WriteSet 1 ≔ 0 ⟩) 5 1 0 0 Transactions gives 0
    ∷ after (writing ⟨ WriteSet 1 ≔ 0 ⟩) 5 1 0 0 (By 0) gives 0
    ∷ after (writing ⟨ WriteSet 1 ≔ 0 ⟩ ⟨ ReadSet 1 ≔ 2 ⟩) 5 1 0 0 (ReadSet 1) gives 2
    ∷ after (writing ⟨ WriteSet 1 ≔ 0 ⟩ ⟨ LastCommit 1 ≔ 100 ⟩) 5 1 0 0 (LastCommit 1) gives 100
    -- number 3
    ∷ refusal writing 5 2 0 0 gives 3
    ∷ refusal writing 5 1 1 0 gives 3
    ∷ refusal writing 5 1 0 1 gives 3
    -- number 7: idle, committing; after 3
    ∷ refusal halls 5 0 0 0 gives 7
    ∷ refusal both_asked 5 1 0 0 gives 7
    ∷ refusal halls 5 0 0 1 gives 3
    -- number 8: "end with writes after 64 such requests; the session stays running", after 7
    ∷ refusal (writing ⟨ Transactions ≔ 63 ⟩) 5 1 0 0 gives 0
    ∷ first (writing ⟨ Transactions ≔ 63 ⟩) 5 1 0 0 gives 64
    ∷ refusal (writing ⟨ Transactions ≔ 64 ⟩) 5 1 0 0 gives 8
    ∷ after (writing ⟨ Transactions ≔ 64 ⟩) 5 1 0 0 (Status 1) gives running
    ∷ refusal (writing ⟨ Transactions ≔ 64 ⟩ ⟨ WriteSet 1 ≔ 0 ⟩) 5 1 0 0 gives 0
    ∷ refusal (writing ⟨ Transactions ≔ 64 ⟩ ⟨ Status 1 ≔ committing ⟩) 5 1 0 0 gives 7
    ∷ refusal (writing ⟨ Transactions ≔ 64 ⟩) 5 1 0 1 gives 3
    -- 6. Prepare: "At the writing server", so in hall 0 for partition 0 and in hall 1 for partition 1
    ∷ first (both_asked ⟨ Reading 0 0 ≔ 80 ⟩) 6 1 0 0 gives 80
    ∷ first (both_asked ⟨ Reading 1 1 ≔ 90 ⟩) 6 1 1 0 gives 90
    ∷ first (both_asked ⟨ Reading 0 1 ≔ 90 ⟩) 6 1 1 0 gives 1
    ∷ second (both_asked ⟨ Reading 1 1 ≔ 90 ⟩) 6 1 1 0 gives 0
    -- "hybrid clock + 1, the session's last commit time + 1, S + 1" (P2, P3): of this session, and of no other
    ∷ first (desk ⟨ Snapshot 0 ≔ 100 ⟩) 6 1 0 0 gives 101
    ∷ first (both_asked ⟨ Hybrid 1 1 ≔ 90 ⟩) 6 1 1 0 gives 91
    ∷ first (both_asked ⟨ LastCommit 1 ≔ 100 ⟩) 6 1 1 0 gives 101
    ∷ first (both_asked ⟨ LastCommit 0 ≔ 100 ⟩) 6 1 1 0 gives 1
    ∷ first (both_asked ⟨ Snapshot 1 ≔ 100 ⟩) 6 1 1 0 gives 101
    ∷ first (both_asked ⟨ Snapshot 0 ≔ 100 ⟩) 6 1 1 0 gives 1
    -- "The hybrid clock becomes it."
    ∷ after (both_asked ⟨ Reading 1 1 ≔ 90 ⟩) 6 1 1 0 (Hybrid 1 1) gives 90
    ∷ after (both_asked ⟨ Reading 1 1 ≔ 90 ⟩) 6 1 1 0 (Hybrid 0 1) gives 0
    ∷ after (both_asked ⟨ Reading 1 1 ≔ 90 ⟩) 6 1 1 0 (Proposed 0 1) gives 90
    ∷ after both_asked 6 1 1 0 (State 0 1) gives prepared
    ∷ after both_asked 6 1 1 0 (State 0 0) gives asked
    ∷ after both_asked 6 1 1 0 (Status 1) gives committing
    ∷ after both_asked 6 1 1 0 (CommitTime 0) gives 0
    ∷ after (both_asked ⟨ Entry 1 1 1 ≔ 5 ⟩) 6 1 1 0 (Entry 1 1 1) gives 5
    -- number 3: a transaction number or a partition that is not there, an unused number
    ∷ refusal both_asked 6 0 0 0 gives 3
    ∷ refusal both_asked 6 2 0 0 gives 3
    ∷ refusal both_asked 6 1 2 0 gives 3
    ∷ refusal both_asked 6 1 0 1 gives 3
    ∷ refusal both_asked 6 1 0 0 gives 0
    -- number 9: "prepare where not asked": not written, prepared, waiting, installed; after 3
    ∷ refusal (both_asked ⟨ State 0 0 ≔ 0 ⟩) 6 1 0 0 gives 9
    ∷ refusal both_prepared 6 1 0 0 gives 9
    ∷ refusal waiting_at1 6 1 1 0 gives 9
    ∷ refusal sent 6 1 1 0 gives 9
    ∷ refusal both_prepared 6 1 2 0 gives 3
    -- 7. Decide: "Commit time = largest proposed time, answered." Step 10 of the printout: the largest of 100 and 90
    ∷ first both_prepared 7 1 0 0 gives 100
    ∷ second both_prepared 7 1 0 0 gives 0
    ∷ first (both_prepared ⟨ Proposed 0 1 ≔ 110 ⟩) 7 1 0 0 gives 110
    -- no reached store: a proposed time where it does not write
    ∷ first (both_prepared ⟨ Proposed 0 2 ≔ 110 ⟩) 7 1 0 0 gives 100
    -- the transaction keeps it
    ∷ after deciding 7 1 0 0 (CommitTime 0) gives 100
    ∷ after deciding 7 1 0 0 (CommitTime 1) gives 0
    -- "The session is idle, its last commit time is this"
    ∷ after deciding 7 1 0 0 (Status 1) gives idle
    ∷ after deciding 7 1 0 0 (LastCommit 1) gives 100
    ∷ after deciding 7 1 0 0 (LastCommit 0) gives 0
    ∷ after (deciding ⟨ Status 0 ≔ running ⟩) 7 1 0 0 (Status 0) gives running
    -- "and its writes move to the cache with it, over older entries"
    ∷ after deciding 7 1 0 0 (CacheTime 1 0) gives 100
    ∷ after deciding 7 1 0 0 (CacheValue 1 0) gives 205
    ∷ after deciding 7 1 0 0 (CacheTime 1 1) gives 100
    ∷ after deciding 7 1 0 0 (CacheValue 1 1) gives 44
    ∷ after deciding 7 1 0 0 (CacheTime 1 5) gives 60
    ∷ after deciding 7 1 0 0 (CacheValue 1 5) gives 8
    ∷ after deciding 7 1 0 0 (CacheTime 0 0) gives 0
    ∷ after deciding 7 1 0 0 (WriteSet 1) gives 0
    ∷ after (deciding ⟨ WriteSet 0 ≔ 3 ⟩) 7 1 0 0 (WriteSet 0) gives 3
    -- the pairs stay prepared, and the clocks as they are; the read set and S too
    ∷ after deciding 7 1 0 0 (State 0 0) gives prepared
    ∷ after deciding 7 1 0 0 (State 0 1) gives prepared
    ∷ after deciding 7 1 0 0 (Hybrid 1 1) gives 0
    ∷ after (deciding ⟨ ReadSet 1 ≔ 2 ⟩) 7 1 0 0 (ReadSet 1) gives 2
    ∷ after (deciding ⟨ Snapshot 1 ≔ 70 ⟩) 7 1 0 0 (Snapshot 1) gives 70
    -- number 3
    ∷ refusal both_prepared 7 0 0 0 gives 3
    ∷ refusal both_prepared 7 2 0 0 gives 3
    ∷ refusal both_prepared 7 1 1 0 gives 3
    ∷ refusal both_prepared 7 1 0 1 gives 3
    ∷ refusal both_prepared 7 1 0 0 gives 0
    -- number 9: "decide unless all are prepared", those that it writes; "and none decided"; after 3
    ∷ refusal (both_prepared ⟨ State 0 0 ≔ asked ⟩) 7 1 0 0 gives 9
    ∷ refusal (both_prepared ⟨ State 0 1 ≔ asked ⟩) 7 1 0 0 gives 9
    ∷ refusal (both_prepared ⟨ State 0 1 ≔ 0 ⟩) 7 1 0 0 gives 0
    ∷ refusal decided_at100 7 1 0 0 gives 9
    ∷ refusal waiting_at1 7 1 0 0 gives 9
    ∷ refusal decided_at100 7 1 0 1 gives 3
    -- no reached store: undecided, and one waits already
    ∷ refusal (waiting_at1 ⟨ CommitTime 0 ≔ 0 ⟩) 7 1 0 0 gives 9
    -- 8. Commit: "Hybrid clock becomes the largest of itself, the commit time and the reading, and is answered"
    ∷ first decided_at100 8 1 1 0 gives 100
    ∷ first (decided_at100 ⟨ Reading 0 1 ≔ 120 ⟩) 8 1 1 0 gives 120
    ∷ first (decided_at100 ⟨ Hybrid 0 1 ≔ 130 ⟩) 8 1 1 0 gives 130
    ∷ second decided_at100 8 1 1 0 gives 0
    ∷ after decided_at100 8 1 1 0 (Hybrid 0 1) gives 100
    ∷ after decided_at100 8 1 1 0 (Hybrid 0 0) gives 0
    ∷ after (decided_at100 ⟨ Reading 0 1 ≔ 120 ⟩) 8 1 1 0 (Hybrid 0 1) gives 120
    -- at the writing server: hall 1 where the transaction is from hall 1
    ∷ after (decided_at100 ⟨ From 0 ≔ 1 ⟩) 8 1 1 0 (Hybrid 1 1) gives 100
    ∷ after (decided_at100 ⟨ From 0 ≔ 1 ⟩) 8 1 1 0 (Hybrid 0 1) gives 0
    ∷ first (decided_at100 ⟨ From 0 ≔ 1 ⟩ ⟨ Reading 1 1 ≔ 120 ⟩) 8 1 1 0 gives 120
    -- "the transaction is waiting"; nothing is installed yet
    ∷ after decided_at100 8 1 1 0 (State 0 1) gives waiting
    ∷ after decided_at100 8 1 1 0 (State 0 0) gives prepared
    ∷ after decided_at100 8 1 1 0 (CommitTime 0) gives 100
    ∷ after decided_at100 8 1 1 0 (Held 0 1 0) gives 0
    ∷ after decided_at100 8 1 1 0 (Entry 0 1 0) gives 0
    -- number 3
    ∷ refusal decided_at100 8 0 1 0 gives 3
    ∷ refusal decided_at100 8 2 1 0 gives 3
    ∷ refusal decided_at100 8 1 2 0 gives 3
    ∷ refusal decided_at100 8 1 1 1 gives 3
    ∷ refusal decided_at100 8 1 1 0 gives 0
    -- number 9: "commit unless decided and still prepared": not decided, not written, waiting, installed; after 3
    ∷ refusal both_prepared 8 1 0 0 gives 9
    ∷ refusal (decided_at100 ⟨ State 0 1 ≔ 0 ⟩) 8 1 1 0 gives 9
    ∷ refusal waiting_at1 8 1 1 0 gives 9
    ∷ refusal sent 8 1 1 0 gives 9
    ∷ refusal both_prepared 8 1 2 0 gives 3
    -- 9. Install, nothing prepared at the server. Step 16 of the printout: version clock 100, one installed
    ∷ first waiting_at1 9 0 1 0 gives 100
    ∷ second waiting_at1 9 0 1 0 gives 1
    -- "hybrid clock and version clock both become the larger of reading and hybrid clock"
    ∷ first (waiting_at1 ⟨ Reading 0 1 ≔ 120 ⟩) 9 0 1 0 gives 120
    ∷ after (waiting_at1 ⟨ Reading 0 1 ≔ 120 ⟩) 9 0 1 0 (Hybrid 0 1) gives 120
    ∷ after (waiting_at1 ⟨ Reading 0 1 ≔ 120 ⟩) 9 0 1 0 (Entry 0 1 0) gives 120
    ∷ after waiting_at1 9 0 1 0 (Entry 0 1 0) gives 100
    ∷ after waiting_at1 9 0 1 0 (Hybrid 0 1) gives 100
    ∷ after waiting_at1 9 0 1 0 (Entry 0 1 1) gives 0
    ∷ after waiting_at1 9 0 1 0 (Entry 1 1 0) gives 0
    -- step 20 of the printout, in hall 1
    ∷ first (halls ⟨ Reading 1 1 ≔ 120 ⟩) 9 1 1 0 gives 120
    ∷ after (halls ⟨ Reading 1 1 ≔ 120 ⟩) 9 1 1 0 (Entry 1 1 1) gives 120
    ∷ after (halls ⟨ Reading 1 1 ≔ 120 ⟩) 9 1 1 0 (Entry 1 1 0) gives 0
    -- "If the server has prepared transactions, version clock = lowest proposed time - 1": then the hybrid clock stays
    ∷ first (both_prepared ⟨ Reading 0 1 ≔ 120 ⟩ ⟨ Hybrid 0 1 ≔ 90 ⟩) 9 0 1 0 gives 89
    ∷ after (both_prepared ⟨ Reading 0 1 ≔ 120 ⟩ ⟨ Hybrid 0 1 ≔ 90 ⟩) 9 0 1 0 (Hybrid 0 1) gives 90
    ∷ after (both_prepared ⟨ Reading 0 1 ≔ 120 ⟩ ⟨ Hybrid 0 1 ≔ 90 ⟩) 9 0 1 0 (Entry 0 1 0) gives 89
    ∷ first (both_prepared ⟨ Transactions ≔ 2 ⟩ ⟨ State 1 1 ≔ prepared ⟩ ⟨ Proposed 1 1 ≔ 80 ⟩) 9 0 1 0 gives 79
    ∷ first (both_prepared ⟨ State 0 1 ≔ asked ⟩ ⟨ Reading 0 1 ≔ 120 ⟩) 9 0 1 0 gives 120
    -- what another hall has prepared does not hold this one's clock back; decided, not committed, still does
    ∷ first (both_prepared ⟨ From 0 ≔ 1 ⟩ ⟨ Reading 0 1 ≔ 120 ⟩) 9 0 1 0 gives 120
    ∷ first (decided_at100 ⟨ Reading 0 1 ≔ 120 ⟩) 9 0 1 0 gives 89
    -- "Every waiting transaction with commit time at or below the version clock is installed.": here, and at no other server yet
    ∷ after waiting_at1 9 0 1 0 (State 0 1) gives installed
    ∷ after waiting_at1 9 0 1 0 (State 0 0) gives prepared
    ∷ after waiting_at1 9 0 1 0 (Held 0 1 0) gives 1
    ∷ after waiting_at1 9 0 1 0 (Held 1 1 0) gives 0
    ∷ after waiting_at1 9 0 1 0 (Held 0 0 0) gives 0
    ∷ after waiting_at1 9 0 1 0 (Held 0 1 1) gives 0
    ∷ second (waiting_at1 ⟨ CommitTime 0 ≔ 101 ⟩) 9 0 1 0 gives 0
    ∷ after (waiting_at1 ⟨ CommitTime 0 ≔ 101 ⟩) 9 0 1 0 (State 0 1) gives waiting
    ∷ after (waiting_at1 ⟨ CommitTime 0 ≔ 101 ⟩) 9 0 1 0 (Held 0 1 0) gives 0
    ∷ second (waiting_at1 ⟨ From 0 ≔ 1 ⟩) 9 0 1 0 gives 0
    ∷ after (waiting_at1 ⟨ From 0 ≔ 1 ⟩) 9 0 1 0 (State 0 1) gives waiting
    ∷ second (burner ⟨ State 0 0 ≔ installed ⟩) 9 0 0 0 gives 2
    ∷ after (burner ⟨ State 0 0 ≔ installed ⟩) 9 0 0 0 (State 2 0) gives installed
    -- "One message with these and the version clock goes to each other holder": to hall 1, none to hall 0
    ∷ after waiting_at1 9 0 1 0 (Waiting 1 1 0) gives 1
    ∷ after waiting_at1 9 0 1 0 (Waiting 0 1 0) gives 0
    ∷ after waiting_at1 9 0 1 0 (Waiting 0 1 1) gives 0
    ∷ after waiting_at1 9 0 1 0 (Waiting 1 0 0) gives 0
    ∷ after waiting_at1 9 0 1 0 (ClockSent 1 1 0 0) gives 100
    ∷ after waiting_at1 9 0 1 0 (Carries 1 1 0 0) gives 1
    ∷ after (waiting_at1 ⟨ Transactions ≔ 2 ⟩ ⟨ State 1 1 ≔ waiting ⟩ ⟨ CommitTime 1 ≔ 99 ⟩) 9 0 1 0 (Carries 1 1 0 0) gives 3
    ∷ after waiting_at1 9 0 1 0 (First 1 1 0) gives 0
    -- document 02, b: with nothing to install and the clock at 100 as before it is quiet, and taken at a full channel
    ∷ refusal (sent ⟨ Waiting 1 1 0 ≔ 8 ⟩) 9 0 1 0 gives 0
    ∷ first sent 9 0 1 0 gives 100
    ∷ second sent 9 0 1 0 gives 0
    ∷ after sent 9 0 1 0 (Waiting 1 1 0) gives 1
    -- the clock alone rises to 101: a message would be sent
    ∷ refusal (sent ⟨ Reading 0 1 ≔ 101 ⟩ ⟨ Waiting 1 1 0 ≔ 8 ⟩) 9 0 1 0 gives 10
    ∷ after (sent ⟨ Reading 0 1 ≔ 101 ⟩) 9 0 1 0 (Waiting 1 1 0) gives 2
    -- one is installed though the clock stays
    ∷ after (waiting_at1 ⟨ Entry 0 1 0 ≔ 100 ⟩) 9 0 1 0 (Waiting 1 1 0) gives 1
    -- prepared at 90, nothing to install: the clock comes to 89, and stays there
    ∷ after both_prepared 9 0 1 0 (Waiting 1 1 0) gives 1
    ∷ after (both_prepared ⟨ Hybrid 0 1 ≔ 90 ⟩) 9 0 1 0 (ClockSent 1 1 0 0) gives 89
    ∷ after (both_prepared ⟨ Entry 0 1 0 ≔ 89 ⟩) 9 0 1 0 (Waiting 1 1 0) gives 0
    -- "to each other holder": halls 1 and 2, and none of the others' channels
    ∷ after three 9 0 0 0 (Waiting 1 0 0) gives 1
    ∷ after three 9 0 0 0 (Waiting 2 0 0) gives 1
    ∷ after three 9 0 0 0 (Waiting 2 0 1) gives 0
    ∷ after three 9 0 0 0 (Waiting 3 0 0) gives 0
    ∷ after (halls ⟨ Reading 1 1 ≔ 120 ⟩) 9 1 1 0 (Waiting 0 1 1) gives 1
    -- "even if empty"
    ∷ after three 9 0 0 0 (ClockSent 2 0 0 0) gives 100
    ∷ after (three ⟨ Carries 2 0 0 0 ≔ 1 ⟩) 9 0 0 0 (Carries 2 0 0 0) gives 0
    -- "8 messages per channel", in slots counted mod 8: behind those in 6 and 7, slot 0
    ∷ after (three ⟨ First 1 0 0 ≔ 6 ⟩ ⟨ Waiting 1 0 0 ≔ 1 ⟩) 9 0 0 0 (ClockSent 1 0 0 7) gives 100
    ∷ after (three ⟨ First 1 0 0 ≔ 6 ⟩ ⟨ Waiting 1 0 0 ≔ 2 ⟩) 9 0 0 0 (ClockSent 1 0 0 0) gives 100
    ∷ after (three ⟨ First 1 0 0 ≔ 6 ⟩ ⟨ Waiting 1 0 0 ≔ 2 ⟩) 9 0 0 0 (ClockSent 1 0 0 7) gives 0
    ∷ after (three ⟨ First 1 0 0 ≔ 6 ⟩ ⟨ Waiting 1 0 0 ≔ 2 ⟩) 9 0 0 0 (Waiting 1 0 0) gives 3
    -- number 3: a server that is not there, an unused number
    ∷ refusal waiting_at1 9 1 0 0 gives 3
    ∷ refusal waiting_at1 9 2 1 0 gives 3
    ∷ refusal waiting_at1 9 0 1 1 gives 3
    -- "7 messages waiting, install taken; 8, number 10", after 3
    ∷ refusal (waiting_at1 ⟨ Waiting 1 1 0 ≔ 7 ⟩) 9 0 1 0 gives 0
    ∷ refusal (waiting_at1 ⟨ Waiting 1 1 0 ≔ 8 ⟩) 9 0 1 0 gives 10
    ∷ refusal (waiting_at1 ⟨ Waiting 1 1 0 ≔ 8 ⟩) 9 0 1 1 gives 3
    -- one of its channels full is enough; one to it, or another server's, is none of its own
    ∷ refusal (three ⟨ Waiting 1 0 0 ≔ 8 ⟩) 9 0 0 0 gives 10
    ∷ refusal (three ⟨ Waiting 2 0 0 ≔ 8 ⟩) 9 0 0 0 gives 10
    ∷ refusal (three ⟨ Waiting 0 0 1 ≔ 8 ⟩) 9 0 0 0 gives 0
    ∷ refusal (three ⟨ Waiting 2 0 1 ≔ 8 ⟩) 9 0 0 0 gives 0
    -- one holder has no channel
    ∷ refusal (halls ⟨ Reading 0 0 ≔ 100 ⟩ ⟨ Waiting 1 0 0 ≔ 8 ⟩) 9 0 0 0 gives 0
    -- 10. Deliver. Step 21 of the printout: clock 100, one installed; then the channel is empty
    ∷ first sent 10 1 0 1 gives 100
    ∷ second sent 10 1 0 1 gives 1
    ∷ after sent 10 1 0 1 (Held 1 1 0) gives 1
    ∷ after sent 10 1 0 1 (Waiting 1 1 0) gives 0
    -- "Takes the oldest message": of two the first, and then the second
    ∷ first sent_twice 10 1 0 1 gives 100
    ∷ second sent_twice 10 1 0 1 gives 1
    ∷ after sent_twice 10 1 0 1 (Waiting 1 1 0) gives 1
    ∷ after sent_twice 10 1 0 1 (First 1 1 0) gives 1
    ∷ after sent_twice 10 1 0 1 (Held 1 1 1) gives 0
    ∷ first (after sent_twice 10 1 0 1) 10 1 0 1 gives 130
    ∷ second (after sent_twice 10 1 0 1) 10 1 0 1 gives 2
    ∷ after (after sent_twice 10 1 0 1) 10 1 0 1 (Held 1 1 2) gives 1
    -- slot 0 comes after slot 7
    ∷ first (sent_twice ⟨ First 1 1 0 ≔ 7 ⟩ ⟨ ClockSent 1 1 0 7 ≔ 90 ⟩) 10 1 0 1 gives 90
    ∷ second (sent_twice ⟨ First 1 1 0 ≔ 7 ⟩ ⟨ ClockSent 1 1 0 7 ≔ 90 ⟩) 10 1 0 1 gives 0
    ∷ after (sent_twice ⟨ First 1 1 0 ≔ 7 ⟩) 10 1 0 1 (First 1 1 0) gives 0
    -- "installs its transactions", at this server, "sets the entry for the sender": sets, and does not raise
    ∷ after sent 10 1 0 1 (Entry 1 1 0) gives 100
    ∷ after (sent ⟨ Entry 1 1 0 ≔ 150 ⟩) 10 1 0 1 (Entry 1 1 0) gives 100
    ∷ after sent 10 1 0 1 (Entry 1 1 1) gives 0
    ∷ after sent 10 1 0 1 (Entry 0 1 1) gives 0
    ∷ after sent 10 1 0 1 (Held 0 1 0) gives 0
    ∷ after sent 10 1 0 1 (Held 1 0 0) gives 0
    ∷ after sent 10 1 0 1 (Hybrid 1 1) gives 0
    ∷ after sent 10 1 0 1 (State 0 0) gives prepared
    ∷ after (sent ⟨ Held 1 1 5 ≔ 1 ⟩) 10 1 0 1 (Held 1 1 5) gives 1
    -- number 3: halls that do not hold the partition; halls and partitions that are not there; "deliver from a hall to itself"
    ∷ refusal (sent ⟨ Waiting 0 0 1 ≔ 1 ⟩) 10 0 1 0 gives 3
    ∷ refusal (sent ⟨ Waiting 1 0 0 ≔ 1 ⟩) 10 0 0 1 gives 3
    ∷ refusal (sent ⟨ Waiting 1 1 2 ≔ 1 ⟩) 10 1 2 1 gives 3
    ∷ refusal (sent ⟨ Waiting 2 1 0 ≔ 1 ⟩) 10 1 0 2 gives 3
    ∷ refusal (sent ⟨ Waiting 1 2 0 ≔ 1 ⟩) 10 2 0 1 gives 3
    ∷ refusal (sent ⟨ Waiting 1 1 1 ≔ 1 ⟩) 10 1 1 1 gives 3
    ∷ refusal halls 10 1 1 1 gives 3
    -- number 11: "deliver from an empty channel", whatever waits in the other direction; after 3
    ∷ refusal halls 10 1 0 1 gives 11
    ∷ refusal sent 10 1 0 1 gives 0
    ∷ refusal sent 10 1 1 0 gives 11
    ∷ refusal halls 10 0 0 1 gives 3
    -- 11. Report. Step 25 of the printout: the lowest of the entries 100 and 120
    ∷ first (halls ⟨ Entry 1 1 0 ≔ 100 ⟩ ⟨ Entry 1 1 1 ≔ 120 ⟩) 11 1 1 0 gives 100
    ∷ first (halls ⟨ Entry 1 1 0 ≔ 120 ⟩ ⟨ Entry 1 1 1 ≔ 100 ⟩) 11 1 1 0 gives 100
    ∷ second (halls ⟨ Entry 1 1 0 ≔ 100 ⟩ ⟨ Entry 1 1 1 ≔ 120 ⟩) 11 1 1 0 gives 0
    -- "one entry per hall holding its partition": partition 0 has hall 0 alone
    ∷ first (halls ⟨ Entry 0 0 0 ≔ 100 ⟩) 11 0 0 0 gives 100
    -- "The hall notes" it: replaced, not raised
    ∷ after (halls ⟨ Entry 1 1 0 ≔ 100 ⟩ ⟨ Entry 1 1 1 ≔ 120 ⟩) 11 1 1 0 (Note 1 1) gives 100
    ∷ after (halls ⟨ Entry 1 1 0 ≔ 100 ⟩ ⟨ Entry 1 1 1 ≔ 120 ⟩ ⟨ Note 1 1 ≔ 150 ⟩) 11 1 1 0 (Note 1 1) gives 100
    ∷ after (halls ⟨ Entry 1 1 0 ≔ 100 ⟩ ⟨ Entry 1 1 1 ≔ 120 ⟩) 11 1 1 0 (Note 0 1) gives 0
    ∷ after (halls ⟨ Entry 1 1 0 ≔ 100 ⟩ ⟨ Entry 1 1 1 ≔ 120 ⟩) 11 1 1 0 (Stable 1 1) gives 0
    -- number 3
    ∷ refusal halls 11 1 0 0 gives 3
    ∷ refusal halls 11 0 0 1 gives 3
    ∷ refusal halls 11 0 0 0 gives 0
    -- 12. Share: "the lowest of 'from''s notes over its servers": hall 1 has partition 1 alone
    ∷ first (halls ⟨ Note 0 0 ≔ 100 ⟩ ⟨ Note 0 1 ≔ 70 ⟩) 12 0 1 0 gives 70
    ∷ first (halls ⟨ Note 0 0 ≔ 70 ⟩ ⟨ Note 0 1 ≔ 100 ⟩) 12 0 1 0 gives 70
    ∷ first (halls ⟨ Note 1 1 ≔ 100 ⟩) 12 1 0 0 gives 100
    ∷ second (halls ⟨ Note 1 1 ≔ 100 ⟩) 12 1 0 0 gives 0
    -- "Hall 'to' notes" it: replaced, not raised
    ∷ after (halls ⟨ Note 1 1 ≔ 100 ⟩) 12 1 0 0 (Shared 0 1) gives 100
    ∷ after (halls ⟨ Note 1 1 ≔ 100 ⟩) 12 1 0 0 (Shared 1 0) gives 0
    ∷ after (halls ⟨ Note 1 1 ≔ 100 ⟩ ⟨ Shared 0 1 ≔ 150 ⟩) 12 1 0 0 (Shared 0 1) gives 100
    ∷ after (halls ⟨ Note 1 1 ≔ 100 ⟩) 12 1 0 0 (Note 0 1) gives 0
    -- "From may equal to."
    ∷ refusal halls 12 1 1 0 gives 0
    ∷ after (halls ⟨ Note 1 1 ≔ 100 ⟩) 12 1 1 0 (Shared 1 1) gives 100
    -- number 3
    ∷ refusal halls 12 2 0 0 gives 3
    ∷ refusal halls 12 0 2 0 gives 3
    ∷ refusal halls 12 0 1 1 gives 3
    ∷ refusal halls 12 0 1 0 gives 0
    -- 13. Learn: "the lowest shared note over all halls", not the own hall's alone; and never down
    ∷ first (halls ⟨ Shared 1 0 ≔ 70 ⟩ ⟨ Shared 1 1 ≔ 100 ⟩) 13 1 1 0 gives 70
    ∷ first (halls ⟨ Shared 1 0 ≔ 70 ⟩ ⟨ Shared 1 1 ≔ 100 ⟩ ⟨ Stable 1 1 ≔ 80 ⟩) 13 1 1 0 gives 80
    ∷ first (halls ⟨ Shared 1 0 ≔ 100 ⟩ ⟨ Shared 1 1 ≔ 70 ⟩) 13 1 1 0 gives 70
    ∷ first (halls ⟨ Shared 1 0 ≔ 70 ⟩ ⟨ Shared 1 1 ≔ 100 ⟩ ⟨ Shared 0 1 ≔ 50 ⟩) 13 1 1 0 gives 70
    ∷ first (halls ⟨ Shared 1 0 ≔ 70 ⟩) 13 1 1 0 gives 0
    ∷ second (halls ⟨ Shared 1 0 ≔ 70 ⟩ ⟨ Shared 1 1 ≔ 100 ⟩) 13 1 1 0 gives 0
    ∷ after (halls ⟨ Shared 1 0 ≔ 70 ⟩ ⟨ Shared 1 1 ≔ 100 ⟩) 13 1 1 0 (Stable 1 1) gives 70
    ∷ after (halls ⟨ Shared 1 0 ≔ 70 ⟩ ⟨ Shared 1 1 ≔ 100 ⟩ ⟨ Stable 1 1 ≔ 80 ⟩) 13 1 1 0 (Stable 1 1) gives 80
    ∷ after (halls ⟨ Shared 0 0 ≔ 70 ⟩ ⟨ Shared 0 1 ≔ 100 ⟩) 13 0 0 0 (Stable 0 1) gives 0
    ∷ after (halls ⟨ Shared 0 0 ≔ 70 ⟩ ⟨ Shared 0 1 ≔ 100 ⟩) 13 0 0 0 (Snapshot 0) gives 0
    -- number 3
    ∷ refusal halls 13 1 0 0 gives 3
    ∷ refusal halls 13 1 1 1 gives 3
    ∷ refusal halls 13 1 1 0 gives 0
    -- 14. Move: "gives an idle session a new home server", and answers nothing
    ∷ after halls 14 0 0 1 (HomeHall 0) gives 0
    ∷ after halls 14 0 0 1 (HomePartition 0) gives 1
    ∷ after halls 14 0 1 1 (HomeHall 0) gives 1
    ∷ after halls 14 0 0 1 (HomeHall 1) gives 1
    ∷ first halls 14 0 1 1 gives 0
    ∷ second halls 14 0 1 1 gives 0
    -- a session carried to (1, 1) starts at the larger of that server's stable time and its own
    ∷ first (after (halls ⟨ Snapshot 0 ≔ 100 ⟩ ⟨ Stable 1 1 ≔ 70 ⟩) 14 0 1 1) 2 0 0 0 gives 100
    ∷ first (after (halls ⟨ Snapshot 0 ≔ 70 ⟩ ⟨ Stable 1 1 ≔ 100 ⟩) 14 0 1 1) 2 0 0 0 gives 100
    -- and is measured there
    ∷ second (after (halls ⟨ Reading 0 0 ≔ 500 ⟩ ⟨ Hybrid 1 1 ≔ 120 ⟩ ⟨ Snapshot 0 ≔ 100 ⟩) 14 0 1 1) 2 0 0 0 gives 20
    -- "Its stable time, last commit time and cache go along."
    ∷ after (halls ⟨ Snapshot 0 ≔ 100 ⟩ ⟨ Stable 1 1 ≔ 70 ⟩) 14 0 1 1 (Snapshot 0) gives 100
    ∷ after (halls ⟨ Snapshot 0 ≔ 100 ⟩ ⟨ Stable 1 1 ≔ 70 ⟩) 14 0 1 1 (Stable 1 1) gives 70
    ∷ after (halls ⟨ LastCommit 0 ≔ 100 ⟩) 14 0 1 1 (LastCommit 0) gives 100
    ∷ after (halls ⟨ CacheTime 0 7 ≔ 100 ⟩) 14 0 1 1 (CacheTime 0 7) gives 100
    ∷ after halls 14 0 1 1 (Status 0) gives idle
    -- "A transaction keeps the coordinator's hall it ended under, for its stamp and writing halls."
    ∷ (stamp_of (after decided_at100 14 0 1 1) 0).hall gives 0
    ∷ writer (after decided_at100 14 0 1 1) 0 1 gives 0
    -- "3 for a server that isn't there, then 6 if the session isn't idle"
    ∷ refusal (halls ⟨ Status 0 ≔ running ⟩) 14 0 1 0 gives 3
    ∷ refusal (halls ⟨ Status 0 ≔ running ⟩) 14 0 1 1 gives 6
    ∷ refusal (halls ⟨ Status 0 ≔ committing ⟩) 14 0 0 0 gives 6
    ∷ refusal halls 14 0 0 0 gives 0
    ∷ refusal halls 14 2 0 0 gives 3
    ∷ refusal halls 14 0 2 0 gives 3
    -- "unknown code": they are 1 to 14
    ∷ refusal halls 0 0 0 0 gives 3
    ∷ refusal halls 15 0 0 0 gives 3
    -- "The writing hall" (P7) "is the coordinator's hall if it holds it, else the first holder found counting up from it and past the last
    -- back to 0"
    ∷ writer (four 0) 0 0 gives 0
    ∷ writer (four 1) 0 0 gives 2
    ∷ writer (four 2) 0 0 gives 2
    ∷ writer (four 3) 0 0 gives 0
    ∷ writer (four 3 ⟨ Mask 0 ≔ 0 ⟩) 0 0 gives 2
    -- Views. "A later stamp wins, compared in that order": a later time, whatever hall and number (P5 has the hall)
    ∷ (view_numbers (merge (Seen 1 (stamp 101 0 1)) (Seen 2 (stamp 100 1 2)))).second gives 1
    ∷ (view_numbers (merge (Seen 2 (stamp 100 1 2)) (Seen 1 (stamp 101 0 1)))).second gives 1
    -- equal times and halls: the larger number wins, whichever comes first
    ∷ (view_numbers (merge (Seen 1 (stamp 100 0 1)) (Seen 2 (stamp 100 0 2)))).second gives 2
    ∷ (view_numbers (merge (Seen 2 (stamp 100 0 2)) (Seen 1 (stamp 100 0 1)))).second gives 2
    -- "Of two views with equal stamps the first is kept.", "nothing merged with a view is that view"
    ∷ (view_numbers (merge (Seen 1 (stamp 100 0 1)) (Seen 2 (stamp 100 0 1)))).second gives 1
    ∷ (view_numbers (merge_all 2 (λ t. true) (λ t. Seen (number_of t) (stamp 100 0 1)))).second gives 1
    ∷ (view_numbers (merge Nothing (Seen 2 (stamp 100 0 1)))).second gives 2
    ∷ (view_numbers (merge (Seen 2 (stamp 100 0 1)) Nothing)).second gives 2
    ∷ (view_numbers (merge Nothing Nothing)).first gives 0
    -- "commit time, coordinator's hall, transaction number"
    ∷ (stamp_of (both_asked ⟨ CommitTime 0 ≔ 100 ⟩) 0).time.0 gives 100
    ∷ (stamp_of (both_asked ⟨ CommitTime 0 ≔ 100 ⟩) 0).hall gives 1
    ∷ (stamp_of (both_asked ⟨ CommitTime 0 ≔ 100 ⟩) 0).number.0 gives 1
    -- "'Decided so far' counts transactions not yet committed or installed anywhere", and none that is not decided
    ∷ (view_numbers (decided_view decided_at100 0 100)).first gives 1
    ∷ (view_numbers (decided_view both_prepared 0 100)).first gives 0
    -- of the keys that it wrote, and with its values
    ∷ (view_numbers (decided_view (deciding ⟨ CommitTime 0 ≔ 100 ⟩) 1 100)).second gives 44
    ∷ (view_numbers (decided_view (deciding ⟨ CommitTime 0 ≔ 100 ⟩) 2 100)).first gives 0
    -- a server knows what it holds; the later of two, though it was asked for first; the 64th place counts
    ∷ (view_numbers (held_view decided_at100 0 0 100)).first gives 0
    ∷ (view_numbers (held_view looking 0 1 100)).second gives 44
    ∷ (view_numbers (held_view (looking ⟨ KeySet 1 ≔ 2 ⟩ ⟨ Value 1 1 ≔ 45 ⟩ ⟨ CommitTime 1 ≔ 99 ⟩ ⟨ Held 0 1 1 ≔ 1 ⟩) 0 1 100)).second gives 44
    ∷ (view_numbers (held_view (looking ⟨ KeySet 63 ≔ 2 ⟩ ⟨ Value 63 1 ≔ 45 ⟩ ⟨ CommitTime 63 ≔ 100 ⟩
    ⟨ Held 0 1 63 ≔ 1 ⟩) 0 1 100)).second gives 45
    -- What was decided so far: a decide that is taken adds its transaction as it is then, with its commit time and its coordinator's hall
    ∷ (view_numbers (ever_view (decided_after deciding 7 1 0 0 []) 0 100)).second gives 205
    ∷ (view_numbers (ever_view (decided_after deciding 7 1 0 0 []) 0 99)).first gives 0
    ∷ (view_numbers (ever_view (decided_after deciding 7 1 0 0 []) 2 100)).first gives 0
    ∷ (stamp_in (entry_of deciding 0)).time.0 gives 100
    ∷ (stamp_in (entry_of deciding 0)).hall gives 1
    ∷ (stamp_in (entry_of deciding 0)).number.0 gives 1
    -- one that is turned away adds nothing, and no other step adds one; what was there stays
    ∷ (view_numbers (ever_view (decided_after decided_at100 7 1 0 0 []) 0 100)).first gives 0
    ∷ (view_numbers (ever_view (decided_after decided_at100 8 1 0 0 []) 0 100)).first gives 0
    ∷ (view_numbers (ever_view (decided_after halls 7 1 0 0 (entry_of deciding 0 ∷ [])) 1 100)).first gives 1
    -- Sizes. 4 halls with 4 partitions: N is 4, and there are 16 servers
    ∷ (numbers (setup_answer (15 ∷ 15 ∷ 15 ∷ 15 ∷ []) (homes 16))).first gives 4
    ∷ (numbers (setup_answer (15 ∷ 15 ∷ 15 ∷ 15 ∷ []) (homes 16))).second gives 16
    -- session 15, hall 3, partition 3, key 31 in partition 3
    ∷ refusal (first_store (15 ∷ 15 ∷ 15 ∷ 15 ∷ []) (homes 16)) 14 15 3 3 gives 0
    ∷ second (first_store (15 ∷ 15 ∷ 15 ∷ 15 ∷ []) (homes 16) ⟨ Status 0 ≔ running ⟩ ⟨ WriteSet 0 ≔ 2 ^ 32 - 1 ⟩) 5 0 0 0 gives 4
    ∷ after (first_store (15 ∷ []) (homes 1) ⟨ Status 0 ≔ running ⟩ ⟨ WriteSet 0 ≔ 2 ^ 31 ⟩) 5 0 0 0 (State 0 3) gives asked
    -- a message may carry all 64 transactions
    ∷ second (sent ⟨ Carries 1 1 0 0 ≔ 2 ^ 64 - 1 ⟩) 10 1 0 1 gives 64
    ∷ after (sent ⟨ Carries 1 1 0 0 ≔ 2 ^ 63 ⟩) 10 1 0 1 (Held 1 1 63) gives 1
    -- "No timestamp passes 2^48 - 1 + 256"
    ∷ time_max gives (2 ^ 48 + 255)
    -- Well formed: the numbers of setup, N among them; a hall that is not there may have any mask
    ∷ yes (good_setup halls) gives 1
    ∷ yes (good_setup (halls ⟨ Partitions ≔ 1 ⟩)) gives 0
    ∷ yes (good_setup (halls ⟨ Mask 2 ≔ 4 ⟩)) gives 1
    -- "a place that no transaction has yet is undecided"
    ∷ yes (transaction_ok (halls ⟨ CommitTime 0 ≔ 5 ⟩) time_max 0) gives 0
    ∷ yes (transaction_ok halls time_max 0) gives 1
    ∷ yes (transaction_ok (halls ⟨ Transactions ≔ 1 ⟩ ⟨ CommitTime 0 ≔ 5 ⟩) time_max 0) gives 1
    ∷ yes (transaction_ok (halls ⟨ Transactions ≔ 1 ⟩ ⟨ CommitTime 1 ≔ 5 ⟩) time_max 1) gives 0
    ∷ []

pub worked_holds : Holds worked
unfolding worked homes any all count sum lowest largest member include set_of first_from merge_all setup_refusal setup_answer rule_of refusal after answer ever_view
worked_holds =
    (refl, (refl, (refl, (refl, (refl, (refl, (refl, (refl, (refl, (refl, (refl, (refl, (refl, (refl, (refl, (refl, (refl, (refl, (refl, (refl, (refl, (refl, (refl, (refl, (refl, (refl, (refl, (refl, (refl, (refl, (refl, (refl, (refl, (refl, (refl, (refl, (refl, (refl, (refl, (refl, (refl, (refl, (refl, (refl, (refl, (refl, (refl, (refl, (refl, (refl, (refl, (refl, (refl, (refl, (refl, (refl, (refl, (refl, (refl, (refl, (refl, (refl, (refl, (refl, (refl, (refl, (refl, (refl, (refl, (refl, (refl, (refl, (refl, (refl, (refl, (refl, (refl, (refl, (refl, (refl, (refl, (refl, (refl, (refl, (refl, (refl, (refl, (refl, (refl, (refl, (refl, (refl, (refl, (refl, (refl, (refl, (refl, (refl, (refl, (refl, (refl, (refl, (refl, (refl, (refl, (refl, (refl, (refl, (refl, (refl, (refl, (refl, (refl, (refl, (refl, (refl, (refl, (refl, (refl, (refl, (refl, (refl, (refl, (refl, (refl, (refl, (refl, (refl, (refl, (refl, (refl, (refl, (refl, (refl, (refl, (refl, (refl, (refl, (refl, (refl, (refl, (refl, (refl, (refl, (refl, (refl, (refl, (refl, (refl, (refl, (refl, (refl, (refl, (refl, (refl, (refl, (refl, (refl, (refl, (refl, (refl, (refl, (refl, (refl, (refl, (refl, (refl, (refl, (refl, (refl, (refl, (refl, (refl, (refl, (refl, (refl, (refl, (refl, (refl, (refl, (refl, (refl, (refl, (refl, (refl, (refl, (refl, (refl, (refl, (refl, (refl, (refl, (refl, (refl, (refl, (refl, (refl, (refl, (refl, (refl, (refl, (refl, (refl, (refl, (refl, (refl, (refl, (refl, (refl, (refl, (refl, (refl, (refl, (refl, (refl, (refl, (refl, (refl, (refl, (refl, (refl, (refl, (refl, (refl, (refl, (refl, (refl, (refl, (refl, (refl, (refl, (refl, (refl, (refl, (refl, (refl, (refl, (refl, (refl, (refl, (refl, (refl, (refl, (refl, (refl, (refl, (refl, (refl, (refl, (refl, (refl, (refl, (refl, (refl, (refl, (refl, (refl, (refl, (refl, (refl, (refl, (refl, (refl, (refl, (refl, (refl, (refl, (refl, (refl, (refl, (refl, (refl, (refl, (refl, (refl, (refl, (refl, (refl, (refl, (refl, (refl, (refl, (refl, (refl, (refl, (refl, (refl, (refl, (refl, (refl, (refl, (refl, (refl, (refl, (refl, (refl, (refl, (refl, (refl, (refl, (refl, (refl, (refl, (refl, (refl, (refl, (refl, (refl, (refl, (refl, (refl, (refl, (refl, (refl, (refl, (refl, (refl, (refl, (refl, (refl, (refl, (refl, (refl, (refl, (refl, (refl, (refl, (refl, (refl, (refl, (refl, (refl, (refl, (refl, (refl, (refl, (refl, (refl, (refl, (refl, (refl, (refl, (refl, (refl, (refl, (refl, (refl, (refl, (refl, (refl, (refl, (refl, (refl, (refl, (refl, (refl, (refl, (refl, (refl, (refl, (refl, (refl, (refl, (refl, (refl, (refl, (refl, (refl, (refl, (refl, (refl, (refl, (refl, (refl, (refl, (refl, (refl, (refl, (refl, (refl, (refl, (refl, (refl, (refl, (refl, (refl, (refl, (refl, (refl, (refl, (refl, (refl, (refl, (refl, (refl, (refl, (refl, (refl, (refl, (refl, (refl, (refl, (refl, (refl, (refl, (refl, (refl, (refl, (refl, (refl, (refl, (refl, (refl, (refl, (refl, (refl, (refl, (refl, (refl, (refl, (refl, (refl, (refl, (refl, (refl, (refl, (refl, (refl, (refl, (refl, (refl, (refl, (refl, (refl, (refl, (refl, (refl, (refl, (refl, (refl, (refl, (refl, (refl, (refl, (refl, (refl, (refl, (refl, (refl, (refl, (refl, (refl, (refl, (refl, (refl, (refl, (refl, (refl, (refl, (refl, (refl, (refl, (refl, (refl, (refl, (refl, (refl, (refl, (refl, (refl, (refl, (refl, (refl, (refl, (refl, (refl, (refl, (refl, (refl, (refl, (refl, (refl, (refl, (refl, (refl, (refl, (refl, (refl, (refl, (refl, (refl, (refl, (refl, tt)))))))))))))))))))))))))))))))))))))))))))))))))))))))))))))))))))))))))))))))))))))))))))))))))))))))))))))))))))))))))))))))))))))))))))))))))))))))))))))))))))))))))))))))))))))))))))))))))))))))))))))))))))))))))))))))))))))))))))))))))))))))))))))))))))))))))))))))))))))))))))))))))))))))))))))))))))))))))))))))))))))))))))))))))))))))))))))))))))))))))))))))))))))))))))))))))))))))))))))))))))))))))))))))))))))))))))))))))))))))))))))))))))))))))))))))))))))))))))))))))))))))))))))
