-- What each call gives and leaves, on the state as the program has it: document 01, "The store and its calls", "Meaning" and "Slots". Each is one record: the result, with the state in it, and the lent
-- memories. The claims say all of it of every list of calls and of every sound state (`Demand`). Assumes nothing: these are definitions.
use Rattle.std.specs.Prelude.{Bool, ◌&&◌, cond, List, [], ◌∷◌, map, ℕ, zero, suc, ◌+◌, ◌*◌, min, eqb, leb, ℤ, length, take, get_or, set, replicate, Option as Maybe, Some, None, pos}
use Rattle.std.proofs.Math.Option.{Option, none, some}
use Rattle.lists.specs.Lists.{written, count, any}
use Rattle.meaning.specs.Limits.{most_tables, most_queries, most_updates, most_slots, most_marks, least_slot_bytes}
use Rattle.meaning.specs.Statement.{Second}
use Rattle.meaning.specs.Refusals.{kept_conditions, is_short, lowest_of, settled, flush_conditions}
use Rattle.meaning.specs.Pattern.{removal}
use Rattle.meaning.specs.Plain.{Lengths, Opening, opening_refused}
use Rattle.statement.specs.declared.Table.{Table}
use Rattle.statement.specs.declared.Query.{Query}
use Rattle.statement.specs.declared.Update.{Update}
use Rattle.statement.specs.Compiled.{Compiled, of_table, of_query, of_update, insert_form, no_table, no_query, no_update, update_struct, compiled_of}
use Rattle.statement.specs.Sound.{second_read}
use Rattle.table.specs.Evaluated.{pairs_read}
use Rattle.table.specs.Rows.{passes_stored}
use Rattle.table.specs.Changed.{change_of, cells_after}
use Rattle.pattern.specs.Stored.{matches_stored, reaches_stored}
use Rattle.slots.specs.declared.Key.{Key}
use Rattle.slots.specs.Keys.{Found, no_key, values_of, key_of, slot_key, held_slots}
use Rattle.slots.specs.declared.SlotList.{SlotList}
use Rattle.slots.specs.declared.Taken.{Taken}
use Rattle.slots.specs.Order.{open_of as slots_open, front_of, is_open, last_taken, drop_by, clear_of}
use Rattle.cache.specs.declared.Note.{Note}
use Rattle.cache.specs.declared.State.{State}
use Rattle.cache.specs.Sound.{lengths, query_at, opening, table_at, update_at, note_read, note_in, pending_of}
use Rattle.cache.specs.Calls.{Opened, Added, Asked, Updated, add_conditions_in, ask_conditions, change_conditions, Opens, Asks, bytes_at, cached_length, area_start, rows_at, record_at, record_conditions, Updates, Flushed, lengths_lent, unfit, found_in, Proposed, pending_conditions}

-- ---- open: "Opening fills both memories with zeros"; refused: "a state without tables, statements, slots or memory, its bytes a slot 8"

-- a state without tables, statements or kept answers; its slot list 0, 1, 2 and on
unfoldable pub empty_state : Opening → State
empty_state o = record {
  tables = replicate most_tables no_table;
  queries = replicate most_queries no_query;
  updates = replicate most_updates no_update;
  keys = replicate most_slots no_key;
  lengths = replicate most_slots 0;
  slots = slots_open o.slots;
  table_count = 0;
  query_count = 0;
  update_count = 0;
  slot_bytes = o.slot_bytes;
  cells = o.lent.cells;
  memory = o.lent.memory;
  pending = pending_of None;
}

abbrev pub open_gives : Opened → List ℤ → List ℕ → Opens
open_gives r cells memory = record { result = r; cells = cells; memory = memory }

unfoldable pub open_of : List ℤ → List ℕ → ℕ → ℕ → Opens
open_of cells memory slots bytes =
    let o : Opening = opening (lengths_lent cells memory) slots bytes in
    cond (opening_refused o) (open_gives (record { refusal = 1; state = empty_state (opening (lengths 0 0) 0 least_slot_bytes) }) cells memory)
    (open_gives (record { refusal = 0; state = empty_state o }) (replicate (length cells) (pos 0)) (replicate (length memory) 0))

-- ---- add: "adding gives the kind and that number"; A.8: "an accepted text of any kind" removes the note

abbrev pub added_table : State → Table → Added
added_table s t = record {
  refusal = 0;
  kind = of_table;
  number = s.table_count;
  state = record s { tables = set s.tables s.table_count t; table_count = s.table_count + 1; pending = pending_of None };
}

abbrev pub added_query : State → Query → Added
added_query s q = record {
  refusal = 0;
  kind = of_query;
  number = s.query_count;
  state = record s { queries = set s.queries s.query_count q; query_count = s.query_count + 1; pending = pending_of None };
}

abbrev pub added_update : State → Update → Added
added_update s u = record {
  refusal = 0;
  kind = of_update;
  number = s.update_count;
  state = record s { updates = set s.updates s.update_count u; update_count = s.update_count + 1; pending = pending_of None };
}

-- what the text says beside the state's tables
abbrev pub compiled_beside : State → List ℕ → Compiled
compiled_beside s text = compiled_of text s.tables s.table_count s.query_count s.update_count s.cells

abbrev pub add_refused : State → ℕ → Added
add_refused s n = record { refusal = n; kind = 0; number = 0; state = s }

-- by the kind of what the text says: `of_table`, `of_query`, `of_update`
abbrev pub added_of : ℕ → State → Compiled → Added
added_of zero s c = add_refused s 0
added_of (suc zero) s c = added_table s c.table
added_of (suc (suc zero)) s c = added_query s c.query
added_of (suc (suc (suc zero))) s c = added_update s c.update
added_of (suc (suc (suc (suc k)))) s c = add_refused s 0

unfoldable pub added_by : State → Compiled → Added
added_by s c = added_of c.kind s c

unfoldable pub add_refusal : State → Lengths → List ℕ → ℕ
add_refusal s l text = lowest_of (add_conditions_in s l text)

-- the cells and the kept memory are lent to be measured alone
unfoldable pub add_of : State → Lengths → List ℕ → Added
add_of s l text =
    let n = add_refusal s l text in
    settled n (added_by s (compiled_beside s text)) (add_refused s n)

-- ---- ask: an answer that is kept, or a new one

abbrev pub ask_gives : Asked → List ℕ → List ℕ → Asks
ask_gives r memory answer = record { result = r; memory = memory; answer = answer }

abbrev pub ask_refused : State → ℕ → Asked
ask_refused s n = record { refusal = n; cached = 0; scanned = 0; size = 0; state = s }

unfoldable pub ask_refusal : State → Lengths → ℕ → ℕ → ℕ
ask_refusal s l query values = lowest_of (ask_conditions s l query values)

-- the state with other kept answers
unfoldable pub with_cache : State → SlotList → List Key → List ℕ → State
with_cache s slots keys sizes = record s { slots = slots; keys = keys; lengths = sizes }

-- 13 goes by the kept length
unfoldable pub cached_refusal : State → ℕ → ℕ → ℕ
cached_refusal s buffer p = lowest_of (kept_conditions (is_short buffer (cached_length s p)))

-- "A kept answer found moves its slot to the front", the slot at place p of the order
abbrev pub from_cache : State → List ℕ → List ℕ → ℕ → Asks
from_cache s memory answer p =
    ask_gives
    (record { refusal = 0; cached = 1; scanned = 0; size = cached_length s p; state = with_cache s (front_of s.slots p) s.keys s.lengths })
    memory
    (written answer 0 (bytes_at s memory (get_or s.slots.order p 0)))

unfoldable pub ask_cached : State → List ℕ → List ℕ → ℕ → Asks
ask_cached s memory answer p =
    let n = cached_refusal s (length answer) p in
    settled n (from_cache s memory answer p) (ask_gives (ask_refused s n) memory answer)

-- "A new record that fits a slot takes the last slot and moves it to the front."
abbrev pub takes_slot : SlotList → ℕ → List ℕ → Bool
takes_slot slots bytes r = leb (length r) bytes && is_open slots

abbrev pub put_in : State → Key → List ℕ → Taken → State
put_in s key r t = with_cache s t.slots (set s.keys t.slot key) (set s.lengths t.slot (length r))

unfoldable pub kept : State → Key → List ℕ → State
kept s key r = cond (takes_slot s.slots s.slot_bytes r) (put_in s key r (last_taken s.slots)) s

-- and its bytes stand in the kept memory
unfoldable pub kept_bytes : SlotList → ℕ → List ℕ → List ℕ → List ℕ
kept_bytes slots bytes r memory = cond (takes_slot slots bytes r) (written memory ((last_taken slots).slot * bytes) r) memory

abbrev pub kept_memory : State → List ℕ → List ℕ → List ℕ
kept_memory s r memory = kept_bytes s.slots s.slot_bytes r memory

-- the rows that it reads: "the table's row count"; over two tables A.6: "exactly r1 + m × r2"
abbrev pub read_over : State → List ℤ → Query → List ℤ → Option Second → ℕ
read_over s cells q values none = length (rows_at s cells q.table)
read_over s cells q values (some t) = pairs_read (passes_stored q values) (rows_at s cells q.table) (rows_at s cells t.table)

abbrev pub read_for : State → List ℤ → Query → List ℤ → ℕ
read_for s cells q values = read_over s cells q values (second_read q)

unfoldable pub new_refusal : State → List ℤ → ℕ → ℕ → List ℤ → ℕ
new_refusal s cells buffer query values = lowest_of (record_conditions s cells buffer query values)

-- an answer worked out: "rows read (0 if kept, else the table's row count); the record at the answer buffer's start, whose later bytes stay"
abbrev pub newly : State → List ℤ → List ℕ → List ℕ → ℕ → List ℤ → Asks
newly s cells memory answer query values =
    let r = record_at s cells query values in
    ask_gives
    (record {
      refusal = 0;
      cached = 0;
      scanned = read_for s cells (query_at s query) values;
      size = length r;
      state = kept s (key_of query values) r;
    })
    (kept_memory s r memory)
    (written answer 0 r)

unfoldable pub ask_new : State → List ℤ → List ℕ → List ℕ → ℕ → List ℤ → Asks
ask_new s cells memory answer query values =
    let n = new_refusal s cells (length answer) query values in
    settled n (newly s cells memory answer query values) (ask_gives (ask_refused s n) memory answer)

abbrev pub ask_found : Found → State → List ℤ → List ℕ → List ℕ → ℕ → List ℤ → Asks
ask_found (Some p) s cells memory answer query values = ask_cached s memory answer p
ask_found None s cells memory answer query values = ask_new s cells memory answer query values

unfoldable pub ask_of : State → List ℤ → List ℕ → ℕ → List ℤ → List ℕ → Asks
ask_of s cells memory query values answer =
    let n = ask_refusal s (lengths_lent cells memory) query (length values) in
    settled n (ask_found (found_in s query values) s cells memory answer query values) (ask_gives (ask_refused s n) memory answer)

-- ---- update

abbrev pub update_gives : Updated → List ℤ → Updates
update_gives r cells = record { result = r; cells = cells }

unfoldable pub update_refusal : State → Lengths → ℕ → ℕ → ℕ
update_refusal s l update values = lowest_of (change_conditions s l update values)

-- A.4: "an INSERT into a full table first removes the oldest row": the row that goes, or none
abbrev pub is_pushing : Table → Update → Bool
is_pushing t u = t.ring && (eqb u.form insert_form && leb t.capacity t.rows)

abbrev pub pushed_by : State → List ℤ → Update → List (List ℤ)
pushed_by s cells u = cond (is_pushing (table_at s u.table) u) (take 1 (rows_at s cells u.table)) []

-- "When a row is pushed out, kept answers are judged for it as well": the update, and the removal of that row
abbrev pub judged : State → List ℤ → Update → List Update
judged s cells u = u ∷ map (λ (r : List ℤ). update_struct (removal u.table r)) (pushed_by s cells u)

-- "A kept answer is dropped when a pattern, filled with the update's values, agrees with its key": that of the slot x; A.7: and the update, or the row that it pushes out,
-- reaches it
unfoldable pub is_dropped : State → List ℤ → Update → List ℤ → ℕ → Bool
is_dropped s cells u values x =
    let k = slot_key s.keys x in
    let q = query_at s k.query in
    any (λ (v : Update). matches_stored q v values (values_of k)) (judged s cells u)
    && any (λ (v : Update). reaches_stored (table_at s u.table).count q v values (values_of k)) (judged s cells u)

-- the table with so many rows in use, the oldest of them at that place
abbrev pub with_rows : Table → ℕ → ℕ → Table
with_rows t n k = record t { rows = n; oldest = k }

unfoldable pub with_change : State → ℕ → Table → SlotList → State
with_change s i t slots = record s { tables = set s.tables i t; slots = slots; pending = pending_of None }

abbrev pub update_refused : State → ℕ → Updated
update_refused s n = record { refusal = n; rows = 0; invalidated = 0; state = s }

-- what an update of the table does: its rows, and the answers dropped, "even where no row matched"
unfoldable pub update_done : State → List ℤ → Update → List ℤ → Updates
update_done s cells u values =
    let t = table_at s u.table in
    let c = change_of u t (area_start s u.table) cells values in
    record {
      result = record {
        refusal = 0;
        rows = c.count;
        invalidated = count (is_dropped s cells u values) (held_slots s.slots);
        state = with_change s u.table (with_rows t c.rows c.oldest) (drop_by (is_dropped s cells u values) s.slots);
      };
      cells = cells_after u t (area_start s u.table) cells values;
    }

-- the kept memory is lent to be measured alone
unfoldable pub update_of : State → List ℤ → List ℕ → ℕ → List ℤ → Updates
update_of s cells memory update values =
    let n = update_refusal s (lengths_lent cells memory) update (length values) in
    settled n (update_done s cells (update_at s update) values) (update_gives (update_refused s n) cells)

-- ---- flush: "drop every kept answer"

abbrev pub emptied : State → State
emptied s = record s { slots = clear_of s.slots; pending = pending_of None }

unfoldable pub flush_of : State → Lengths → Flushed
flush_of s l =
    let n = lowest_of (flush_conditions (unfit s l)) in
    settled n (record { refusal = 0; state = emptied s }) (record { refusal = n; state = s })

-- ---- A.8: "An update may be proposed: it gives the rows it would insert, match or delete, and changes nothing but the pending note in the state."

unfoldable pub with_note : State → Maybe Note → State
with_note s n = record s { pending = pending_of n }

-- the note of an update with its first eight values
unfoldable pub note_of : ℕ → List ℤ → Note
note_of n vs = record { update = n; count = min (length vs) most_marks; values = written (replicate most_marks (pos 0)) 0 (take most_marks vs) }

abbrev pub propose_refused : State → ℕ → Proposed
propose_refused s n = record { refusal = n; rows = 0; state = s }

unfoldable pub would_do : State → List ℤ → ℕ → List ℤ → Proposed
would_do s cells update values =
    let u = update_at s update in
    let c = change_of u (table_at s u.table) (area_start s u.table) cells values in
    record { refusal = 0; rows = c.count; state = with_note s (Some (note_of update values)) }

-- "Proposals are refused by 2 and 10 to 12"; the cells and the kept memory are lent to be measured and counted
unfoldable pub propose_of : State → List ℤ → List ℕ → ℕ → List ℤ → Proposed
propose_of s cells memory update values =
    let n = update_refusal s (lengths_lent cells memory) update (length values) in
    settled n (would_do s cells update values) (propose_refused s n)

-- "commit or withdrawal without a note gives 17, looked for after 2"
unfoldable pub pending_refusal : State → Lengths → ℕ
pending_refusal s l = lowest_of (pending_conditions s l)

-- "A commit then does it": the update of the note with its values, and "the drop count is the commit's"
abbrev pub commit_done : State → List ℤ → Maybe Note → Updates
commit_done s cells None = update_gives (update_refused s 17) cells
commit_done s cells (Some n) = update_done s cells (update_at s n.update) (note_read n).values

unfoldable pub commit_of : State → List ℤ → List ℕ → Updates
commit_of s cells memory =
    let n = pending_refusal s (lengths_lent cells memory) in
    settled n (commit_done s cells (note_in s)) (update_gives (update_refused s n) cells)

unfoldable pub withdraw_of : State → Lengths → Flushed
withdraw_of s l =
    let n = pending_refusal s l in
    settled n (record { refusal = 0; state = with_note s None }) (record { refusal = n; state = s })
