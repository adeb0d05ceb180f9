-- The test of a state, which every call makes, part by part: it is true exactly if the sentence of `Sound.IsSound` holds (`Demand.SoundExactlyIf`). Assumes nothing: these are definitions.
use Rattle.std.specs.Prelude.{Bool, true, not, ◌&&◌, ◌||◌, ℕ, eqb, leb, ltb, Option as Maybe, Some, None}
use Rattle.lists.specs.Lists.{all}
use Rattle.meaning.specs.Limits.{most_tables, most_queries, most_updates, least_slot_bytes}
use Rattle.meaning.specs.Plain.{opening_refused}
use Rattle.statement.specs.declared.Table.{Table}
use Rattle.soundness.specs.Soundness.{tables_sound, queries_sound, updates_sound}
use Rattle.slots.specs.declared.Key.{Key}
use Rattle.slots.specs.Keys.{held_keys, held_twice, held_slots}
use Rattle.slots.specs.Order.{sound_slots}
use Rattle.meaning.specs.Refusals.{ten_to_twelve, lowest_of}
use Rattle.statement.specs.declared.Update.{Update}
use Rattle.cache.specs.declared.Note.{Note}
use Rattle.cache.specs.declared.State.{State}
use Rattle.cache.specs.Sound.{sizes_of, used_tables, areas_of, query_at, length_at, update_at, is_full, note_in}

-- "its sizes pass refusal 1"
abbrev pub sound_sizes : State → Bool
sound_sizes s = not (opening_refused (sizes_of s))

-- "its counts are within the limits"
abbrev pub sound_counts : State → Bool
sound_counts s = leb s.table_count most_tables && (leb s.query_count most_queries && leb s.update_count most_updates)

-- "its tables' areas of columns × ROWS cells follow one another from cell 0 on inside the cells"
abbrev pub sound_areas : State → Bool
sound_areas s = leb (areas_of (used_tables s)) s.cells

-- "no table holds more rows than its ROWS"; its starting place is "below the ring's size, and 0 unless a ring is full"
abbrev pub start_fits : Table → Bool
start_fits t = eqb t.oldest 0 || (t.ring && (eqb t.rows t.capacity && ltb t.oldest t.capacity))

abbrev pub rows_fit : Table → Bool
rows_fit t = leb t.rows t.capacity && start_fits t

abbrev pub sound_rows : State → Bool
sound_rows s = all rows_fit (used_tables s)

-- "its tables and statements are such as refusals 4 to 8 let pass beside the rest"
abbrev pub sound_texts : State → Bool
sound_texts s =
    tables_sound s.tables s.table_count
    && (queries_sound s.tables s.table_count s.queries s.query_count
    && updates_sound s.tables s.table_count s.updates s.update_count)

-- "kept lengths are from 8 to the slot's bytes"
abbrev pub length_fits : ℕ → ℕ → Bool
length_fits size bytes = leb least_slot_bytes size && leb size bytes

abbrev pub sound_lengths : State → Bool
sound_lengths s = all (λ (x : ℕ). length_fits (length_at s x) s.slot_bytes) (held_slots s.slots)

-- "each key has an existing question and its number of values, no key is held twice"
abbrev pub sound_key : State → Key → Bool
sound_key s k = ltb k.query s.query_count && eqb k.count (query_at s k.query).parameters

abbrev pub sound_keys : State → Bool
sound_keys s = all (sound_key s) (held_keys s.keys s.slots) && not (held_twice s.keys s.slots)

unfoldable pub sound_tables : State → Bool
sound_tables s = sound_areas s && (sound_rows s && sound_texts s)

unfoldable pub sound_answers : State → Bool
sound_answers s = sound_lengths s && (sound_keys s && sound_slots s.slots)

-- A.8: "A state whose note names an update that 10 to 12 would refuse now is not sound."
unfoldable pub would_refuse : State → ℕ → ℕ → ℕ
would_refuse s update values =
    let u : Update = update_at s update in
    lowest_of (ten_to_twelve s.update_count update u.parameters values (is_full s u))

abbrev pub note_passes : State → Maybe Note → Bool
note_passes s None = true
note_passes s (Some n) = eqb (would_refuse s n.update n.count) 0

unfoldable pub sound_note : State → Bool
sound_note s = note_passes s (note_in s)

unfoldable pub sound_state : State → Bool
sound_state s = sound_sizes s && (sound_counts s && (sound_tables s && (sound_answers s && sound_note s)))
