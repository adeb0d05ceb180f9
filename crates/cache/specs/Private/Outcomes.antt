-- What a question gives, without the state, as the code hands it on; and the state with it. What an update leaves, in the same way. Assumes nothing: these are definitions.
use Rattle.std.specs.Prelude.{◌≡◌, ◌&&◌, ◌+◌, ◌*◌, ◌≤◌, ◌<◌, Bool, true, List, ℕ, ℤ, length, set, Option, Some, None, Result, Ok, Err, false, zero, suc, eqb, ltb, get_or}
use Rattle.lists.specs.Lists.{written}
use Rattle.meaning.specs.Limits.{most_tables, most_queries, most_memory, most_slots, most_slot_bytes, most_updates}
use Rattle.statement.specs.declared.Query.{Query}
use Rattle.table.specs.Evaluated.{Said}
use Rattle.slots.specs.declared.Key.{Key}
use Rattle.slots.specs.declared.SlotList.{SlotList}
use Rattle.slots.specs.declared.Taken.{Taken}
use Rattle.slots.specs.Order.{is_open, last_taken}
use Rattle.meaning.specs.Plain.{Lengths}
use Rattle.cache.specs.declared.Note.{Note}
use Rattle.cache.specs.declared.State.{State}
use Rattle.cache.specs.declared.Lengths as L
use Rattle.cache.specs.declared.Kept.{Kept}
use Rattle.cache.specs.declared.Place.{Place}
use Rattle.cache.specs.Sound.{lengths, query_at, length_at, note_in}
use Rattle.cache.specs.SoundTest.{length_fits, sound_key, sound_state}
use Rattle.cache.specs.Calls.{Asked, record_at}
use Rattle.cache.specs.Gives.{ask_gives, with_cache, ask_cached, kept, read_for, new_refusal, pending_refusal}
use Rattle.statement.specs.Compiled.{no_query}
use Rattle.slots.specs.Keys.{slot_key}
use Rattle.statement.specs.declared.Refusal.{Refusal}
use Rattle.statement.specs.Refusals.{number_of, number_in}
use Rattle.cache.specs.declared.Reply.{Reply}
use Rattle.cache.specs.Given.{source_told, scanned_told, size_told}

-- the lengths that are lent, as the code hands them on
abbrev pub lent_in : L.Lengths → Lengths
lent_in l = lengths l.cells l.memory

-- what a question gives: as `Asked`, without the state
pub record Outcome : Type 0 where
  pub refusal : ℕ
  pub cached : ℕ
  pub scanned : ℕ
  pub size : ℕ
  pub place : Place

-- no slot is taken
abbrev pub nowhere : SlotList → Place
nowhere slots = record { kept = None; slots = slots }

abbrev pub no_answer : ℕ → SlotList → Outcome
no_answer n slots = record { refusal = n; cached = 0; scanned = 0; size = 0; place = nowhere slots }

-- the state with the key and the length in the slot, if there is one
abbrev pub settled_in : Option Kept → State → Key → SlotList → State
settled_in (Some k) s key slots = with_cache s slots (set s.keys k.slot key) (set s.lengths k.slot k.size)
settled_in None s key slots = with_cache s slots s.keys s.lengths

abbrev pub settled_state : State → Key → Place → State
settled_state s key p = settled_in p.kept s key p.slots

abbrev pub outcome_of : State → Key → Outcome → Asked
outcome_of s key o = record { refusal = o.refusal; cached = o.cached; scanned = o.scanned; size = o.size; state = settled_state s key o.place }

-- the answer in the slot at place p of the order, whatever the key
abbrev pub Caches : State → List ℕ → List ℕ → ℕ → Outcome → List ℕ → Type 0
Caches s memory answer p o new = (key : Key) → ask_gives (outcome_of s key o) memory new ≡ ask_cached s memory answer p

-- what working a question out says and leaves: 16, 13, or the record at the buffer's start
pub record WorksOut (s : State) (cells : List ℤ) (query : ℕ) (values : List ℤ) (answer : List ℕ) (r : Said) (new : List ℕ) : Type 0 where
  pub number : r.refusal ≡ new_refusal s cells (length answer) query values
  pub stays : (r.refusal ≡ 0 → ⊥) → new ≡ answer
  pub read : r.refusal ≡ 0 → r.scanned ≡ read_for s cells (query_at s query) values
  pub size : r.refusal ≡ 0 → r.size ≡ length (record_at s cells query values)
  pub bytes : r.refusal ≡ 0 → new ≡ written answer 0 (record_at s cells query values)

-- ---- a record that is kept

-- n bytes in the slot t: there they lie inside the memory
pub record Last (bytes memory : ℕ) (t : Taken) (n : ℕ) : Type 0 where
  pub slot : t.slot < most_slots
  pub start : t.slot * bytes ≤ most_memory
  pub ends : t.slot * bytes + n ≤ memory
  pub small : n ≤ most_slot_bytes

-- if n bytes take the last slot, there is room for them
abbrev pub Room : SlotList → ℕ → ℕ → ℕ → Type 0
Room slots bytes memory n = is_open slots ≡ true → n ≤ bytes → Last bytes memory (last_taken slots) n

-- at the place each state with these slots, of so many bytes, keeps the record
abbrev pub Keeps : SlotList → ℕ → List ℕ → Place → Type 0
Keeps slots bytes r p = (s : State) (key : Key) → s.slots ≡ slots → s.slot_bytes ≡ bytes → settled_state s key p ≡ kept s key r

-- ---- what is added, and a question's reply

-- whether there is a place for a statement of the kind, for the code
abbrev pub has_place : ℕ → State → Bool
has_place zero s = false
has_place (suc zero) s = ltb s.table_count most_tables
has_place (suc (suc zero)) s = ltb s.query_count most_queries
has_place (suc (suc (suc zero))) s = ltb s.update_count most_updates
has_place (suc (suc (suc (suc k)))) s = false

-- a question's, without the state
abbrev pub told : Reply → Outcome
told r = record { refusal = number_in r.result; cached = source_told r.result; scanned = scanned_told r.result; size = size_told r.result; place = r.place }

-- a key by the queries, for the code
abbrev pub key_fits : List Query → Key → Bool
key_fits queries k = ltb k.query (length queries) && eqb k.count (get_or queries k.query no_query).parameters

-- both of a slot, for the code
abbrev pub slot_fits : State → ℕ → Bool
slot_fits s x = length_fits (length_at s x) s.slot_bytes && sound_key s (slot_key s.keys x)

-- ---- A.8: a note

-- an update that is not refused: of a sound state, by a number that there is, the cells as many as the state's
pub record Takes (s : State) (lent update : ℕ) : Type 0 where
  pub sound : sound_state s ≡ true
  pub cells_are : lent ≡ s.cells
  pub there : update < s.update_count

-- the note, or the number that a commit or a withdrawal gets
abbrev pub NotesOr : State → Lengths → Result Note Refusal → Type 0
NotesOr s l (Ok n) = (pending_refusal s l ≡ 0) × (note_in s ≡ Some n)
NotesOr s l (Err r) = pending_refusal s l ≡ number_of r
