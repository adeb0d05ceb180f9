-- When a state is sound: document 01, "The store and its calls", "A state is sound when ..", and requests A.1, A.4 and A.8: the sentence, half sentence by half sentence (`IsSound`). The test that the code computes for
-- any state is `SoundTest.sound_state`; that it is true exactly if the sentence holds is a claim (`Demand.SoundExactlyIf`). Entries past the counts do not matter. Assumes nothing: these are definitions.
use Rattle.std.specs.Prelude.{◌≡◌, Bool, true, false, not, ◌&&◌, List, [], ◌∷◌, ◌++◌, map, ℕ, zero, suc, ◌+◌, ◌*◌, ◌≤◌, ◌<◌, eqb, leb, get_or, take, replicate, pos, Option as Maybe, Some, None}
use Rattle.lists.specs.Lists.{All, Distinct}
use Rattle.meaning.specs.Key as M
use Rattle.meaning.specs.Limits.{most_marks, Between}
use Rattle.meaning.specs.Names.{Schema}
use Rattle.meaning.specs.Plain.{Lengths, Opening, opening_refused}
use Rattle.statement.specs.declared.Table.{Table}
use Rattle.statement.specs.declared.Query.{Query}
use Rattle.statement.specs.declared.Update.{Update}
use Rattle.statement.specs.Catalog.{schema_of, schemas_of}
use Rattle.statement.specs.Compiled.{no_query, insert_form, no_table, no_update}
use Rattle.statement.specs.Sound.{FromTable, FromQuery, FromUpdate}
use Rattle.slots.specs.declared.Key.{Key}
use Rattle.slots.specs.declared.SlotList.{SlotList}
use Rattle.slots.specs.Keys.{key_read, held_keys, slots_of, held_slots}
use Rattle.std.proofs.Math.Option.{Option, none, some}
use Rattle.meaning.specs.Plain as P
use Rattle.cache.specs.declared.Note.{Note}
use Rattle.cache.specs.declared.Pending.{Pending}
use Rattle.cache.specs.declared.State.{State}

-- ---- what is in use

-- memories of these lengths; with so many slots, and their bytes
abbrev pub lengths : ℕ → ℕ → Lengths
lengths cells memory = record { cells = cells; memory = memory }

abbrev pub opening : Lengths → ℕ → ℕ → Opening
opening lent slots bytes = record { lent = lent; slots = slots; slot_bytes = bytes }

abbrev pub sizes_of : State → Opening
sizes_of s = opening (lengths s.cells s.memory) s.slots.count s.slot_bytes

abbrev pub used_tables : State → List Table
used_tables s = take s.table_count s.tables

abbrev pub used_queries : State → List Query
used_queries s = take s.query_count s.queries

abbrev pub used_updates : State → List Update
used_updates s = take s.update_count s.updates

-- what the tables' TABLE texts say
abbrev pub schemas_in : State → List Schema
schemas_in s = schemas_of s.tables s.table_count

-- the cells of all areas; the area of the next table starts there
abbrev pub areas_of : List Table → ℕ
areas_of [] = 0
areas_of (t ∷ ts) = t.count * t.capacity + areas_of ts

abbrev pub query_at : State → ℕ → Query
query_at s i = get_or s.queries i no_query

abbrev pub table_at : State → ℕ → Table
table_at s i = get_or s.tables i no_table

abbrev pub update_at : State → ℕ → Update
update_at s i = get_or s.updates i no_update

-- 12: "INSERT, table full"; of a ring, A.4: "12 isn't given for it"
abbrev pub is_full : State → Update → Bool
is_full s u =
    let t = table_at s u.table in
    eqb u.form insert_form && (not t.ring && leb t.capacity t.rows)

-- the length of the answer in the slot x
abbrev pub length_at : State → ℕ → ℕ
length_at s x = get_or s.lengths x 0

-- the keys of the kept answers
abbrev pub keys_in : State → List M.Key
keys_in s = map key_read (held_keys s.keys s.slots)

-- the note, if there is one: any number but 0 says so
abbrev pub note_if : ℕ → Note → Maybe Note
note_if zero n = None
note_if (suc k) n = Some n

abbrev pub note_in : State → Maybe Note
note_in s = note_if s.pending.there s.pending.note

-- a note, or none: then all its numbers are 0, so that nothing of a note that was taken away is left
abbrev pub no_note : Note
no_note = record { update = 0; count = 0; values = replicate most_marks (pos 0) }

abbrev pub pending_of : Maybe Note → Pending
pending_of None = record { there = 0; note = no_note }
pending_of (Some n) = record { there = 1; note = n }

-- A.8: the pending note as the plain store has it: the update's number, and the values in use
abbrev pub note_read : Note → P.Note
note_read n = record { update = n.update; values = take n.count n.values }

abbrev pub pending_read : Maybe Note → Option P.Note
pending_read None = none
pending_read (Some n) = some (note_read n)

abbrev pub pending_in : State → Option P.Note
pending_in s = pending_read (note_in s)

-- ---- the sentence

-- what refusal 1 lets pass: it is "opening outside the limits, or slots × bytes over the kept memory"
pub record OpeningWithin (o : Opening) : Type 0 where
  pub few_cells : o.lent.cells ≤ 32768
  pub few_memory : o.lent.memory ≤ 262144
  pub few_slots : o.slots ≤ 64
  pub least_bytes : 8 ≤ o.slot_bytes
  pub most_bytes : o.slot_bytes ≤ 4096
  pub room : o.slots * o.slot_bytes ≤ o.lent.memory

-- "each key has an existing question and its number of values"
pub record KeyFits (s : State) (k : Key) : Type 0 where
  pub there : k.query < s.query_count
  pub values : k.count ≡ (query_at s k.query).parameters

-- "its slot list names each slot once, held ones first": so many places, each naming a slot and no two the same one; those held are the first
pub record NamesEachOnce (l : SlotList) : Type 0 where
  pub held : l.held ≤ l.count
  pub slots : All (λ x. x < l.count) (slots_of l)
  pub once : Distinct (slots_of l)

-- A.8, of a note: "A state whose note names an update that 10 to 12 would refuse now is not sound."
pub record NoteStands (s : State) (n : Note) : Type 0 where
  pub there : n.update < s.update_count
  pub values : n.count ≡ (update_at s n.update).parameters
  pub room : is_full s (update_at s n.update) ≡ false

-- A.4, of the starting place: "in a sound state it is below the ring's size, and 0 unless a ring is full"
pub record StartFits (t : Table) : Type 0 where
  pub below : t.ring ≡ true → t.oldest < t.capacity
  pub unless_full : (t.ring ≡ true → t.rows ≡ t.capacity → ⊥) → t.oldest ≡ 0

pub record IsSound (s : State) : Type 0 where
  -- "its sizes pass refusal 1"
  pub sizes : OpeningWithin (sizes_of s)
  -- "its counts are within the limits"
  pub table-count : s.table_count ≤ 8
  pub query-count : s.query_count ≤ 16
  pub update-count : s.update_count ≤ 16
  -- "its tables' areas of columns × ROWS cells follow one another from cell 0 on inside the cells": each starts where those before it end (`Calls.area_start`)
  pub areas : areas_of (used_tables s) ≤ s.cells
  -- "no table holds more rows than its ROWS"
  pub rows : All (λ (t : Table). t.rows ≤ t.capacity) (used_tables s)
  pub starts : All StartFits (used_tables s)
  -- "its tables and statements are such as refusals 4 to 8 let pass beside the rest"
  pub tables : (before : List Table) (t : Table) (behind : List Table) → used_tables s ≡ before ++ t ∷ behind → FromTable (map schema_of (before ++ behind)) t
  pub queries : All (FromQuery (schemas_in s)) (used_queries s)
  pub updates : All (FromUpdate (schemas_in s)) (used_updates s)
  -- "kept lengths are from 8 to the slot's bytes"
  pub lengths : All (λ (x : ℕ). Between 8 s.slot_bytes (length_at s x)) (held_slots s.slots)
  -- "each key has an existing question and its number of values, no key is held twice"
  pub keys : All (KeyFits s) (held_keys s.keys s.slots)
  pub once : Distinct (keys_in s)
  -- "and its slot list names each slot once, held ones first"
  pub slots : NamesEachOnce s.slots
  -- A.8: the note, if there is one
  pub note : (n : Note) → note_in s ≡ Some n → NoteStands s n
