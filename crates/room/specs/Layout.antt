-- Where each cell lies in the lent room: for each kind of cell its first word, its steps and its counts, in the book's numbering.
use Rattle.std.specs.Prelude.{ℕ, zero, suc, ◌+◌, ◌*◌, ◌-◌, ◌/◌, ◌%◌, ◌<◌, Bool, cond, ◌&&◌, List, [], ◌∷◌, ltb, get_or}
use Rattle.book.specs.Sizes.{halls_max, partitions_max, sessions_max, keys, places_max, slots}
use Rattle.book.specs.Cells.{Cell, cell, Store}

abbrev pub kinds : ℕ
kinds = 34

-- the words of the setup, of a server, a session, a transaction and a channel
abbrev pub setup_words : ℕ
setup_words = 4 + halls_max

abbrev pub server_words : ℕ
server_words = 3 + halls_max + places_max

abbrev pub session_words : ℕ
session_words = 7 + 4 * keys

abbrev pub transaction_words : ℕ
transaction_words = 4 + keys + 2 * partitions_max

abbrev pub channel_words : ℕ
channel_words = 2 + 2 * slots

-- the words of a hall's servers, of the channels to a server, and of those to a hall's servers
abbrev pub hall_words : ℕ
hall_words = partitions_max * server_words

abbrev pub inbox_words : ℕ
inbox_words = halls_max * channel_words

abbrev pub hall_inbox_words : ℕ
hall_inbox_words = partitions_max * inbox_words

-- the first word of the servers, the sessions, the transactions, the channels and the notes
abbrev pub servers_at : ℕ
servers_at = setup_words

abbrev pub sessions_at : ℕ
sessions_at = servers_at + halls_max * hall_words

abbrev pub transactions_at : ℕ
transactions_at = sessions_at + sessions_max * session_words

abbrev pub channels_at : ℕ
channels_at = transactions_at + places_max * transaction_words

abbrev pub notes_at : ℕ
notes_at = channels_at + halls_max * hall_inbox_words

abbrev pub shared_at : ℕ
shared_at = notes_at + halls_max * partitions_max

-- the words of a room
abbrev pub size : ℕ
size = shared_at + halls_max * halls_max

-- The kinds come in blocks: 0 to 4 the setup's, 5 to 9 a server's, 10 to 20 a session's, 21 to 27 a transaction's, 28 to 31 a channel's,
-- 32 and 33 the notes.
-- The word of a kind's first cell, by lines of a block each:
abbrev pub base : ℕ → ℕ
base n =
    get_or
    (0 ∷ 1 ∷ 2 ∷ 3 ∷ 4
    ∷ servers_at ∷ (servers_at + 1) ∷ (servers_at + 2) ∷ (servers_at + 3) ∷ (servers_at + 3 + halls_max)
    ∷ sessions_at ∷ (sessions_at + 1) ∷ (sessions_at + 2) ∷ (sessions_at + 3) ∷ (sessions_at + 4) ∷ (sessions_at + 5) ∷ (sessions_at + 6)
    ∷ (sessions_at + 7) ∷ (sessions_at + 7 + keys) ∷ (sessions_at + 7 + 2 * keys) ∷ (sessions_at + 7 + 3 * keys)
    ∷ transactions_at ∷ (transactions_at + 1) ∷ (transactions_at + 2) ∷ (transactions_at + 3) ∷ (transactions_at + 4)
    ∷ (transactions_at + 4 + keys) ∷ (transactions_at + 4 + keys + partitions_max)
    ∷ channels_at ∷ (channels_at + 1) ∷ (channels_at + 2) ∷ (channels_at + 2 + slots)
    ∷ notes_at ∷ shared_at ∷ [])
    n 0

-- the words from one cell to the next by its first, second and third index; by the fourth it is 1
abbrev pub step_i : ℕ → ℕ
step_i n =
    cond (ltb n 5) 1
    (cond (ltb n 10) hall_words
    (cond (ltb n 21) session_words
    (cond (ltb n 28) transaction_words
    (cond (ltb n 32) hall_inbox_words
    (cond (ltb n 33) partitions_max halls_max)))))

abbrev pub step_j : ℕ → ℕ
step_j n =
    cond (ltb n 5) 1
    (cond (ltb n 10) server_words (cond (ltb n 28) 1 (cond (ltb n 32) inbox_words 1)))

abbrev pub step_k : ℕ → ℕ
step_k n = cond (ltb n 28) 1 (cond (ltb n 32) channel_words 1)

-- how many there are of each index
abbrev pub count_i : ℕ → ℕ
count_i n =
    cond (ltb n 4) 1
    (cond (ltb n 10) halls_max (cond (ltb n 21) sessions_max (cond (ltb n 28) places_max halls_max)))

abbrev pub count_j : ℕ → ℕ
count_j n =
    cond (ltb n 5) 1
    (cond (ltb n 10) partitions_max
    (cond (ltb n 17) 1
    (cond (ltb n 21) keys
    (cond (ltb n 25) 1
    (cond (ltb n 26) keys
    (cond (ltb n 33) partitions_max halls_max))))))

abbrev pub count_k : ℕ → ℕ
count_k n =
    cond (ltb n 8) 1
    (cond (ltb n 9) halls_max (cond (ltb n 10) places_max (cond (ltb n 28) 1 (cond (ltb n 32) halls_max 1))))

abbrev pub count_l : ℕ → ℕ
count_l n = cond (ltb n 30) 1 (cond (ltb n 32) slots 1)

-- the word of a cell
abbrev pub at : Cell → ℕ
at c =
    base c.kind + c.i * step_i c.kind + c.j * step_j c.kind + c.k * step_k c.kind + c.l

-- a cell of the room: its kind is one of them, and each index is below its count
abbrev pub Within : Cell → Type 0
Within c =
    (c.kind < kinds)
    × (c.i < count_i c.kind)
    × (c.j < count_j c.kind)
    × (c.k < count_k c.kind)
    × (c.l < count_l c.kind)

-- the same as a test
unfoldable pub valid : Cell → Bool
valid c =
    ltb c.kind kinds
    && (ltb c.i (count_i c.kind)
    && (ltb c.j (count_j c.kind)
    && (ltb c.k (count_k c.kind) && ltb c.l (count_l c.kind))))

-- a room as a store: a cell of the room has what its word has, and any other cell 0
unfoldable pub store : List ℕ → Store
store r c = cond (valid c) (get_or r (at c) 0) 0

-- the last kind below n that starts at the word w or before it
unfoldable pub last_kind : ℕ → ℕ → ℕ
last_kind zero w = kinds
last_kind (suc n) w = let rest = last_kind n w in cond (ltb w (base n)) rest n

-- In a block that starts at the word a, repeats by `step` words and whose last kind is n - 1: the kind that has the word w.
abbrev pub kind_in : ℕ → ℕ → ℕ → ℕ → ℕ
kind_in a step n w = last_kind n (a + (w - a) % step)

-- the kind that has the word w: block by block
abbrev pub kind_at : ℕ → ℕ
kind_at w =
    cond (ltb w servers_at) (kind_in 0 setup_words 5 w)
    (cond (ltb w sessions_at) (kind_in servers_at server_words 10 w)
    (cond (ltb w transactions_at) (kind_in sessions_at session_words 21 w)
    (cond (ltb w channels_at) (kind_in transactions_at transaction_words 28 w)
    (cond (ltb w notes_at) (kind_in channels_at channel_words 32 w)
    (kind_in notes_at (size - notes_at) kinds w)))))

-- the cell of a word
unfoldable pub cell_at : ℕ → Cell
cell_at w =
    let n = kind_at w in
    let x = w - base n in
    let y = x % step_i n in
    let z = y % step_j n in
    cell n (x / step_i n) (y / step_j n) (z / step_k n) (z % step_k n)

-- the words of a server's stretch, and the first word of server (h, p)'s
abbrev pub stretch : ℕ
stretch = server_words

abbrev pub start : ℕ → ℕ → ℕ
start h p = servers_at + stretch * (partitions_max * h + p)
