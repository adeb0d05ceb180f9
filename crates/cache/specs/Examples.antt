-- Document 01's transcript and some other lists of calls, on the state as the program has it, by computation: the claims of specs/Demand speak of lists in which
-- answers are kept, dropped, evicted and refused. Assumes nothing.
use Rattle.std.specs.Prelude.{◌≡◌, refl, List, [], ◌∷◌, ◌++◌, map, ℕ, ◌+◌, ◌*◌, ℤ, pos, length, take, get_or, replicate}
use Prim.Native.String.{String}
use Rattle.lists.specs.Lists.{bytes}
use Rattle.meaning.specs.Tokens.{is_name_byte, is_word_byte, decimal, is_name, word, negative, token_from, first_token, scan, tokens}
use Rattle.meaning.specs.Reader.{a_condition, a_sentence, read}
use Rattle.meaning.specs.Limits.{past_limit}
use Rattle.meaning.specs.Names.{unknown_name, taken, miscounted, twice}
use Rattle.meaning.specs.Statement.{statement_of}
use Rattle.meaning.specs.Operator.{null}
use Rattle.meaning.specs.Record.{body, encode}
use Rattle.meaning.specs.Cells.{stored}
use Rattle.meaning.specs.Pattern.{contradictory, class, entry}
use Rattle.meaning.specs.Call.{Call, add, ask, change, flush}
use Rattle.meaning.specs.Plain.{opening_refused, Out, refused, added, answered, rows, flushed, table_kind, query_kind, update_kind}
use Rattle.meaning.specs.Refusals.{no_place, settled}
use Rattle.statement.specs.Compiled.{no_table, compiled_of, struct_of}
use Rattle.statement.specs.Sound.{condition_nodes}
use Rattle.statement.specs.SoundTest.{sound_condition, sound_condition_on, sound_query, sound_table, sound_update}
use Rattle.table.specs.Rows.{answer_stored, meets_stored}
use Rattle.table.specs.Changed.{area_fits, cells_after, change_of, changed_of, count_after, change_fits, laid, oldest_after}
use Rattle.soundness.specs.Soundness.{tables_sound, queries_sound, updates_sound}
use Rattle.pattern.specs.Stored.{all_any, affects_stored, clauses_read, is_formed, joint_clauses, matches_stored, patterns_stored, reaches_stored, relevant, separate_stored, start_read}
use Rattle.slots.specs.Keys.{same_key, key_of, slot_has, find_of, held_twice, slots_of}
use Rattle.slots.specs.Order.{sound_slots, front_of, drop_by, open_of as slots_open}
use Rattle.cache.specs.Sound.{lengths, opening}
use Rattle.cache.specs.SoundTest.{sound_state, sound_tables, sound_answers, would_refuse, sound_note}
use Rattle.cache.specs.declared.State.{State}
use Rattle.cache.specs.Calls.{unfit, record_at, too_many}
use Rattle.cache.specs.Gives.{open_of, add_of, ask_of, update_of, flush_of, empty_state, added_by, add_refusal, ask_refusal, with_cache, cached_refusal, ask_cached, kept, kept_bytes, new_refusal, ask_new, update_refusal, is_dropped, with_change, update_done}
use Rattle.cache.specs.Run.{Start, opened, Seen, step, after, gets, got_of}

-- what the computations open
unfoldable pub computing : Unit {0}
unfolding is_name_byte is_word_byte decimal is_name word negative token_from first_token scan tokens a_condition a_sentence read past_limit unknown_name taken miscounted twice statement_of body encode stored opening_refused no_place compiled_of struct_of condition_nodes sound_condition sound_condition_on sound_query sound_table sound_update answer_stored meets_stored area_fits cells_after change_of changed_of count_after change_fits laid oldest_after tables_sound queries_sound updates_sound contradictory class entry affects_stored all_any clauses_read is_formed joint_clauses matches_stored patterns_stored reaches_stored relevant separate_stored start_read same_key key_of slot_has find_of held_twice sound_slots front_of slots_open sound_tables sound_answers would_refuse sound_note sound_state settled unfit empty_state open_of added_by add_refusal add_of ask_refusal with_cache cached_refusal ask_cached kept kept_bytes record_at too_many new_refusal ask_new ask_of update_refusal is_dropped drop_by with_change update_done update_of flush_of step
computing = tt

-- 4,096 cells, 256 bytes of kept memory, 4 slots of 64 bytes
abbrev pub desk : Start
desk = record { cells = replicate 4096 (pos 5); memory = replicate 256 7; slots = 4; slot_bytes = 64 }

-- an answer buffer of 20 bytes, in which something stands
abbrev buffer : List ℕ
buffer = replicate 20 9

abbrev ADD : String → Call (List ℕ)
ADD t = add (bytes t)

abbrev ASK : ℕ → List ℕ → Call (List ℕ)
ASK n vs = ask (record { query = n; values = map pos vs }) buffer

abbrev DO : ℕ → List ℕ → Call (List ℕ)
DO n vs = change n (map pos vs)

-- what a call gets: what the plain store gives; kept, rows read, drops
abbrev line : List ℕ → Out → ℕ → ℕ → ℕ → Seen
line b o kept scanned drops = record { got = got_of b o; kept = kept; scanned = scanned; drops = drops }

abbrev plain : Out → Seen
plain o = line [] o 0 0 0

-- a question's record, of some one-column rows below 256
abbrev levels : List ℕ → List ℕ
levels [] = []
levels (n ∷ ns) = 0 ∷ 0 ∷ 0 ∷ n ∷ levels ns

abbrev answer : List ℕ → Out
answer ns = answered (0 ∷ 0 ∷ 0 ∷ (4 + 4 * length ns) ∷ 1 ∷ 1 ∷ 0 ∷ length ns ∷ levels ns)

abbrev new : List ℕ → ℕ → Seen
new ns scanned = line buffer (answer ns) 0 scanned 0

abbrev old : List ℕ → Seen
old ns = line buffer (answer ns) 1 0 0

abbrev texts : List (Call (List ℕ))
texts = ADD "TABLE stage (site, level) ROWS 3" ∷ ADD "INSERT INTO stage VALUES (?, ?)" ∷ ADD "SELECT level FROM stage WHERE site = ?" ∷ []

abbrev added_lines : List Seen
added_lines = plain (added table_kind 0) ∷ plain (added update_kind 0) ∷ plain (added query_kind 0) ∷ []

-- document 01's transcript
abbrev transcript : List (Call (List ℕ))
transcript =
    texts
    ++ (DO 0 (7 ∷ 120 ∷ [])
    ∷ ASK 0 (7 ∷ [])
    ∷ DO 0 (8 ∷ 95 ∷ [])
    ∷ ASK 0 (7 ∷ [])
    ∷ DO 0 (7 ∷ 121 ∷ [])
    ∷ ASK 0 (7 ∷ [])
    ∷ DO 0 (7 ∷ 122 ∷ [])
    ∷ [])

pub transcript-is : gets (opened desk) transcript
    ≡ added_lines
    ++ (plain (rows 1)
    ∷ new (120 ∷ []) 1
    ∷ plain (rows 1)
    ∷ old (120 ∷ [])
    ∷ line [] (rows 1) 0 0 1
    ∷ new (120 ∷ 121 ∷ []) 3
    ∷ plain (refused 12)
    ∷ [])
unfolding computing
transcript-is = refl

-- five keys in four slots: the first is evicted and the second is not; a flush drops the four
pub crowded-is : gets (opened desk) (texts
    ++ (ASK 0 (1 ∷ []) ∷ ASK 0 (2 ∷ []) ∷ ASK 0 (3 ∷ []) ∷ ASK 0 (4 ∷ []) ∷ ASK 0 (5 ∷ []) ∷ ASK 0 (2 ∷ []) ∷ ASK 0 (1 ∷ []) ∷ flush ∷ ASK 0 (2 ∷ []) ∷ []))
    ≡ added_lines ++ (new [] 0 ∷ new [] 0 ∷ new [] 0 ∷ new [] 0 ∷ new [] 0 ∷ old [] ∷ new [] 0 ∷ plain flushed ∷ new [] 0 ∷ [])
unfolding computing
crowded-is = refl

-- "A refusal 13 that moves a slot" is a slip: with a buffer of 3 bytes the question is refused, so its slot stays last and the fifth key evicts it
pub short-is : gets (opened desk) (texts
    ++ (ASK 0 (1 ∷ [])
    ∷ ASK 0 (2 ∷ [])
    ∷ ASK 0 (3 ∷ [])
    ∷ ASK 0 (4 ∷ [])
    ∷ ask (record { query = 0; values = pos 1 ∷ [] }) (9 ∷ 9 ∷ 9 ∷ [])
    ∷ ASK 0 (5 ∷ [])
    ∷ ASK 0 (1 ∷ [])
    ∷ []))
    ≡ added_lines
    ++ (new [] 0 ∷ new [] 0 ∷ new [] 0 ∷ new [] 0 ∷ line (9 ∷ 9 ∷ 9 ∷ []) (refused 13) 0 0 0 ∷ new [] 0 ∷ new [] 0 ∷ [])
unfolding computing
short-is = refl

-- the same of one question, the order of use alone: two slots are held, each with a record of 8 bytes, and the one at place 1 is asked for
abbrev two_held : State
two_held = with_cache (empty_state (opening (lengths 0 16) 2 8)) (record { order = 0 ∷ 1 ∷ []; held = 2; count = 2 }) [] (8 ∷ 8 ∷ [])

abbrev order_after : ℕ → List ℕ
order_after n = slots_of (ask_cached two_held (replicate 16 7) (replicate n 9) 1).result.state.slots

pub short-stays : order_after 7 ≡ 0 ∷ 1 ∷ []
unfolding computing
short-stays = refl

pub found-moves : order_after 8 ≡ 1 ∷ 0 ∷ []
unfolding computing
found-moves = refl

-- "Dropping by the old row only" is a slip: a row moved to site 9 drops site 9's answer
pub moved-is : gets (opened desk) (texts
    ++ (ADD "UPDATE stage SET site = ? WHERE site = ?" ∷ DO 0 (7 ∷ 120 ∷ []) ∷ ASK 0 (9 ∷ []) ∷ DO 1 (9 ∷ 7 ∷ []) ∷ ASK 0 (9 ∷ []) ∷ []))
    ≡ added_lines ++ (plain (added update_kind 1) ∷ plain (rows 1) ∷ new [] 1 ∷ line [] (rows 1) 0 0 1 ∷ new (120 ∷ []) 1 ∷ [])
unfolding computing
moved-is = refl

-- A.4: a ring of three rows. The INSERT of minute 4 pushes minute 1 out, and drops the answers of both; that of minute 2 is kept
abbrev ring_filled : List (Call (List ℕ))
ring_filled =
    ADD "TABLE recent (minute, level) RING 3"
    ∷ ADD "INSERT INTO recent VALUES (?, ?)"
    ∷ ADD "SELECT level FROM recent WHERE minute = ?"
    ∷ ADD "DELETE FROM recent WHERE minute = ?"
    ∷ DO 0 (1 ∷ 10 ∷ [])
    ∷ DO 0 (2 ∷ 20 ∷ [])
    ∷ DO 0 (3 ∷ 30 ∷ [])
    ∷ []

pub ring_is : gets (opened desk) (ring_filled
    ++ (ASK 0 (1 ∷ []) ∷ ASK 0 (2 ∷ []) ∷ ASK 0 (4 ∷ []) ∷ DO 0 (4 ∷ 40 ∷ []) ∷ ASK 0 (2 ∷ []) ∷ ASK 0 (1 ∷ []) ∷ []))
    ≡ added_lines
    ++ (plain (added update_kind 1)
    ∷ plain (rows 1)
    ∷ plain (rows 1)
    ∷ plain (rows 1)
    ∷ new (10 ∷ []) 3
    ∷ new (20 ∷ []) 3
    ∷ new [] 3
    ∷ line [] (rows 1) 0 0 2
    ∷ old (20 ∷ [])
    ∷ new [] 3
    ∷ [])
unfolding computing
ring_is = refl

-- where the oldest row lies then, and the cells of the three rows
abbrev lying : List (Call (List ℕ)) → ℕ × List ℤ
lying cs =
    let s = after (opened desk) cs in
    ((get_or s.state.tables 0 no_table).oldest, take 6 s.cells)

-- the new row takes the cells of the one removed
pub pushed-lies : lying (ring_filled ++ (DO 0 (4 ∷ 40 ∷ []) ∷ [])) ≡ (1, map pos (4 ∷ 40 ∷ 2 ∷ 20 ∷ 3 ∷ 30 ∷ []))
unfolding computing
pushed-lies = refl

-- a DELETE, also of no row, puts the oldest row first in the area again
pub deleted-lies : lying (ring_filled ++ (DO 0 (4 ∷ 40 ∷ []) ∷ DO 1 (9 ∷ []) ∷ [])) ≡ (0, map pos (2 ∷ 20 ∷ 3 ∷ 30 ∷ 4 ∷ 40 ∷ []))
unfolding computing
deleted-lies = refl

-- the row pushed out alone drops the answer: 4 is not in question
pub one-is : gets (opened desk)
    (ADD "TABLE a (b) RING 1"
    ∷ ADD "INSERT INTO a VALUES (7)"
    ∷ ADD "INSERT INTO a VALUES (4)"
    ∷ ADD "SELECT b FROM a WHERE b > 5"
    ∷ DO 0 []
    ∷ ASK 0 []
    ∷ DO 1 []
    ∷ ASK 0 []
    ∷ [])
    ≡ plain (added table_kind 0)
    ∷ plain (added update_kind 0)
    ∷ plain (added update_kind 1)
    ∷ plain (added query_kind 0)
    ∷ plain (rows 1)
    ∷ new (7 ∷ []) 1
    ∷ line [] (rows 1) 0 0 1
    ∷ new [] 1
    ∷ []
unfolding computing
one-is = refl

-- A.7: no level below 50 that becomes 60, nor a new one of 45, enters or leaves the levels above 100, though the patterns match; one that becomes 101 does
pub spared-is : gets (opened desk)
    (ADD "TABLE stage (site, level) ROWS 3"
    ∷ ADD "INSERT INTO stage VALUES (?, ?)"
    ∷ ADD "SELECT site FROM stage WHERE level > ?"
    ∷ ADD "UPDATE stage SET level = ? WHERE level < 50"
    ∷ DO 0 (7 ∷ 40 ∷ [])
    ∷ ASK 0 (100 ∷ [])
    ∷ DO 1 (60 ∷ [])
    ∷ DO 0 (8 ∷ 45 ∷ [])
    ∷ ASK 0 (100 ∷ [])
    ∷ DO 1 (101 ∷ [])
    ∷ ASK 0 (100 ∷ [])
    ∷ [])
    ≡ plain (added table_kind 0)
    ∷ plain (added update_kind 0)
    ∷ plain (added query_kind 0)
    ∷ plain (added update_kind 1)
    ∷ plain (rows 1)
    ∷ new [] 1
    ∷ plain (rows 1)
    ∷ plain (rows 1)
    ∷ old []
    ∷ line [] (rows 1) 0 0 1
    ∷ new (8 ∷ []) 2
    ∷ []
unfolding computing
spared-is = refl

-- A.5: an inserted null drops the answer to IS NULL, which lists it then, and no other; the key of null is found again
pub null_is : gets (opened desk)
    (ADD "TABLE stage (site, level) ROWS 3"
    ∷ ADD "INSERT INTO stage VALUES (?, -2147483648)"
    ∷ ADD "SELECT site FROM stage WHERE level IS NULL"
    ∷ ADD "SELECT site FROM stage WHERE level < ?"
    ∷ ASK 0 []
    ∷ ask (record { query = 1; values = null ∷ [] }) buffer
    ∷ DO 0 (7 ∷ [])
    ∷ ASK 0 []
    ∷ ask (record { query = 1; values = null ∷ [] }) buffer
    ∷ [])
    ≡ plain (added table_kind 0)
    ∷ plain (added update_kind 0)
    ∷ plain (added query_kind 0)
    ∷ plain (added query_kind 1)
    ∷ new [] 0
    ∷ new [] 0
    ∷ line [] (rows 1) 0 0 1
    ∷ new (7 ∷ []) 1
    ∷ old []
    ∷ []
unfolding computing
null_is = refl

-- a refused opening, "2 slots of 8, memory 15": its lengths are 0, so each call with others gets 2
pub closed_is : gets (opened (record { cells = []; memory = replicate 15 7; slots = 2; slot_bytes = 8 })) (ADD "TABLE a (b) ROWS 1" ∷ ASK 0 [] ∷ DO 0 [] ∷ flush ∷ [])
    ≡ plain (refused 2) ∷ line buffer (refused 2) 0 0 0 ∷ plain (refused 2) ∷ plain (refused 2) ∷ []
unfolding computing
closed_is = refl
