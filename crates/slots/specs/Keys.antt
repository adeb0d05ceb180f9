-- The key of a cached answer as the program has it, and the keys of the held slots: document 01, "A key is the question's number with up to eight values", and of a sound
-- state "no key is held twice". Assumes nothing: these are definitions.
use Rattle.std.specs.Prelude.{Bool, ◌&&◌, List, map, ℕ, min, ltb, ℤ, pos, length, take, get_or, replicate, Option, position}
use Rattle.lists.specs.Lists.{repeats, written}
use Rattle.meaning.specs.Key as M
use Rattle.meaning.specs.Limits.{most_slots, most_marks}
use Rattle.slots.specs.declared.Key.{Key}
use Rattle.slots.specs.declared.SlotList.{SlotList}

-- ---- keys

-- the values in use; what stands behind them is not looked at
abbrev pub values_of : Key → List ℤ
values_of k = take k.count k.values

abbrev pub key_read : Key → M.Key
key_read k = record { query = k.query; values = values_of k }

-- the same number and the same values in use
unfoldable pub same_key : Key → Key → Bool
same_key a b = M.is_key (key_read a) (key_read b)

-- the key of a question and its first eight values
unfoldable pub key_of : ℕ → List ℤ → Key
key_of q vs = record { query = q; count = min (length vs) most_marks; values = written (replicate most_marks (pos 0)) 0 (take most_marks vs) }

-- ---- the slots, and the keys of the held ones

-- the slots, and those that hold an answer, each the most recently used first
abbrev pub slots_of : SlotList → List ℕ
slots_of s = take s.count s.order

abbrev pub held_slots : SlotList → List ℕ
held_slots s = take s.held s.order

-- what stands for the key of a number that is no slot
abbrev pub no_key : Key
no_key = record { query = 0; count = 0; values = replicate most_marks (pos 0) }

abbrev pub slot_key : List Key → ℕ → Key
slot_key keys x = get_or keys x no_key

abbrev pub held_keys : List Key → SlotList → List Key
held_keys keys s = map (slot_key keys) (held_slots s)

-- whether a slot has the key; a number that is no slot has none
unfoldable pub slot_has : List Key → Key → ℕ → Bool
slot_has keys k x = ltb x most_slots && same_key (slot_key keys x) k

-- a place in the order of use, if one is found
abbrev pub Found : Type 0
Found = Option ℕ

-- the first held place whose slot has the key
unfoldable pub find_of : List Key → SlotList → Key → Found
find_of keys s k = position (slot_has keys k) (held_slots s)

-- "no key is held twice"
unfoldable pub held_twice : List Key → SlotList → Bool
held_twice keys s = repeats same_key (held_keys keys s)
