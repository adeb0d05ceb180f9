-- The calls on the state as the program has it: the records that they give, and their refusals by the lists of `Refusals`. What they give and leave is in `Gives`. Assumes nothing: these are definitions.
use Rattle.std.specs.Prelude.{Bool, not, ◌&&◌, ◌||◌, List, ℕ, ◌*◌, eqb, ℤ, length, take, drop, get_or}
use Rattle.std.proofs.Math.Option.{Option, none, some}
use Rattle.lists.specs.Lists.{keep, pairs}
use Rattle.meaning.specs.Reader.{sentence}
use Rattle.meaning.specs.Statement.{Second}
use Rattle.meaning.specs.Refusals.{Conditions, Catalog, add_conditions, statement_conditions, update_conditions, new_conditions, note_conditions, is_none, is_short, is_many}
use Rattle.meaning.specs.Plain.{Lengths}
use Rattle.statement.specs.declared.Query.{Query}
use Rattle.statement.specs.Catalog.{catalog}
use Rattle.statement.specs.Sound.{second_read}
use Rattle.table.specs.Rows.{rows_used, passes_stored, answer_stored, record_stored}
use Rattle.slots.specs.Keys.{Found, key_of, find_of}
use Rattle.cache.specs.declared.State.{State}
use Rattle.cache.specs.Sound.{lengths, areas_of, length_at, query_at, table_at, update_at, is_full, pending_in}
use Rattle.cache.specs.SoundTest.{sound_state}

-- ---- what the calls give, as numbers: the refusal's number or 0; where refused everything else is 0 but the state

pub record Opened : Type 0 where
  pub refusal : ℕ
  pub state : State

-- the kind (`of_table`, `of_query`, `of_update`) and number of what was added
pub record Added : Type 0 where
  pub refusal : ℕ
  pub kind : ℕ
  pub number : ℕ
  pub state : State

-- 1 for a cached answer; the rows scanned; the record's length
pub record Asked : Type 0 where
  pub refusal : ℕ
  pub cached : ℕ
  pub scanned : ℕ
  pub size : ℕ
  pub state : State

-- the rows inserted, matched or deleted; the cached answers that it invalidated
pub record Updated : Type 0 where
  pub refusal : ℕ
  pub rows : ℕ
  pub invalidated : ℕ
  pub state : State

-- a flush, or A.8 a withdrawal
pub record Flushed : Type 0 where
  pub refusal : ℕ
  pub state : State

-- A.8: the rows that the update would insert, match or delete
pub record Proposed : Type 0 where
  pub refusal : ℕ
  pub rows : ℕ
  pub state : State

-- each with the lent memories as they are then
pub record Opens : Type 0 where
  pub result : Opened
  pub cells : List ℤ
  pub memory : List ℕ

pub record Asks : Type 0 where
  pub result : Asked
  pub memory : List ℕ
  pub answer : List ℕ

pub record Updates : Type 0 where
  pub result : Updated
  pub cells : List ℤ

-- ---- places in the state, the cells and the kept memory

-- where the area of table i starts
abbrev pub area_start : State → ℕ → ℕ
area_start s i = areas_of (take i s.tables)

-- the rows of table i in the cells
abbrev pub rows_at : State → List ℤ → ℕ → List (List ℤ)
rows_at s cells i = rows_used (table_at s i) (area_start s i) cells

-- "Slot i is the kept memory from i times the slot's bytes": the answer in the slot x
abbrev pub bytes_at : State → List ℕ → ℕ → List ℕ
bytes_at s memory x = take (length_at s x) (drop (x * s.slot_bytes) memory)

-- the length of the answer at place p of the order
abbrev pub cached_length : State → ℕ → ℕ
cached_length s p = length_at s (get_or s.slots.order p 0)

abbrev pub found_in : State → ℕ → List ℤ → Found
found_in s query values = find_of s.keys s.slots (key_of query values)

-- ---- what a question is over, and its record

-- the rows that a question is over: those of its table, or the pairs of two (A.1: "Rows come in the first table's order, and for each in the second's."), without those of
-- a first-table row that does not pass (A.6), of which no pair is listed
abbrev pub rows_over : State → List ℤ → Query → List ℤ → Option Second → List (List ℤ)
rows_over s cells q values none = rows_at s cells q.table
rows_over s cells q values (some t) = pairs (keep (passes_stored q values) (rows_at s cells q.table)) (rows_at s cells t.table)

abbrev pub rows_for : State → List ℤ → Query → List ℤ → List (List ℤ)
rows_for s cells q values = rows_over s cells q values (second_read q)

-- the record of a question with its values
unfoldable pub record_at : State → List ℤ → ℕ → List ℤ → List ℕ
record_at s cells query values = record_stored (query_at s query) values (rows_for s cells (query_at s query) values)

-- ---- refusals: the lists of `Refusals`, with their facts read on the state

-- the lengths of the memories that are lent
abbrev pub lengths_lent : List ℤ → List ℕ → Lengths
lengths_lent cells memory = lengths (length cells) (length memory)

-- 2: "state not sound, or lent lengths not the opening's"
unfoldable pub unfit : State → Lengths → Bool
unfit s l = not (sound_state s) || not (eqb l.cells s.cells && eqb l.memory s.memory)

-- what a text is read beside
abbrev pub catalog_in : State → Catalog
catalog_in s = catalog s.tables s.table_count s.query_count s.update_count s.cells

abbrev pub add_conditions_in : State → Lengths → List ℕ → Conditions
add_conditions_in s l text = add_conditions (unfit s l) (catalog_in s) text (sentence text)

-- of a question, by its number and how many values are given
abbrev pub ask_conditions : State → Lengths → ℕ → ℕ → Conditions
ask_conditions s l query values = statement_conditions (unfit s l) s.query_count query (query_at s query).parameters values

-- 16 and 13, of an answer worked out
unfoldable pub too_many : State → List ℤ → ℕ → List ℤ → Bool
too_many s cells query values = is_many (length (answer_stored (query_at s query) values (rows_for s cells (query_at s query) values)))

abbrev pub record_conditions : State → List ℤ → ℕ → ℕ → List ℤ → Conditions
record_conditions s cells buffer query values = new_conditions (too_many s cells query values) (is_short buffer (length (record_at s cells query values)))

abbrev pub change_conditions : State → Lengths → ℕ → ℕ → Conditions
change_conditions s l update values =
    let u = update_at s update in
    update_conditions (unfit s l) s.update_count update u.parameters values (is_full s u)

-- A.8: of a commit or a withdrawal
abbrev pub pending_conditions : State → Lengths → Conditions
pending_conditions s l = note_conditions (unfit s l) (is_none (pending_in s))
