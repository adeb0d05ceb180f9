-- Slot lists and keys, computed. Assumes nothing.
use Rattle.std.specs.Prelude.{◌≡◌, refl, true, false, List, [], ◌∷◌, map, ℕ, pos, neg_ℤ, replicate, Some, None}
use Rattle.slots.specs.declared.Key.{Key}
use Rattle.slots.specs.declared.SlotList.{SlotList}
use Rattle.slots.specs.Order.{sound_slots, open_of, front_of, taken_of, drop_by, drop_of, clear_of}
use Rattle.slots.specs.Keys.{key_of, same_key, slot_has, find_of, held_twice}

-- ---- the order of use; the last number of each list is no slot

abbrev listed : List ℕ → ℕ → ℕ → SlotList
listed l h n = record { order = l; held = h; count = n }

-- four slots, three of them held
abbrev four : SlotList
four = listed (3 ∷ 1 ∷ 0 ∷ 2 ∷ 9 ∷ []) 3 4

pub moved : map (front_of four) (2 ∷ 7 ∷ []) ≡ listed (0 ∷ 3 ∷ 1 ∷ 2 ∷ 9 ∷ []) 3 4 ∷ four ∷ []
unfolding front_of
moved = refl

-- the last slot, free and then held; and no slot
pub taken : map taken_of (four ∷ listed (2 ∷ 3 ∷ 1 ∷ 0 ∷ 9 ∷ []) 4 4 ∷ listed (9 ∷ []) 0 0 ∷ [])
    ≡ Some (record { slot = 2; slots = listed (2 ∷ 3 ∷ 1 ∷ 0 ∷ 9 ∷ []) 4 4 })
    ∷ Some (record { slot = 0; slots = listed (0 ∷ 2 ∷ 3 ∷ 1 ∷ 9 ∷ []) 4 4 })
    ∷ None
    ∷ []
unfolding taken_of front_of
taken = refl

-- slots 1 and 3 dropped: 0 stays held, they come behind it in their order, and then the free one
pub dropped : drop_of four (false ∷ true ∷ false ∷ true ∷ []) ≡ listed (0 ∷ 3 ∷ 1 ∷ 2 ∷ 9 ∷ []) 1 4
unfolding drop_by
dropped = refl

-- every one dropped: all are free, in their order
pub cleared : clear_of four ≡ listed (3 ∷ 1 ∷ 0 ∷ 2 ∷ 9 ∷ []) 0 4
unfolding drop_by
cleared = refl

-- sound ones; a slot twice; one that is not there; more held than there are
pub sound : map sound_slots (open_of 64 ∷ four ∷ listed (0 ∷ 1 ∷ 0 ∷ []) 0 3 ∷ listed (0 ∷ 3 ∷ 1 ∷ []) 0 3 ∷ listed (0 ∷ 1 ∷ []) 2 1 ∷ open_of 65 ∷ [])
    ≡ true ∷ true ∷ false ∷ false ∷ false ∷ false ∷ []
unfolding sound_slots open_of
sound = refl

-- ---- keys

abbrev key : ℕ → ℕ → List ℕ → Key
key q n l = record { query = q; count = n; values = map pos l }

-- what stands behind the count is not looked at; all values before it are, and the number is; a count past eight is eight
pub same : map (same_key (key 1 2 (5 ∷ 6 ∷ 7 ∷ [])))
    (key 1 2 (5 ∷ 6 ∷ 8 ∷ []) ∷ key 1 2 (5 ∷ 7 ∷ 7 ∷ []) ∷ key 1 1 (5 ∷ 6 ∷ 7 ∷ []) ∷ key 2 2 (5 ∷ 6 ∷ 7 ∷ []) ∷ [])
    ≡ true ∷ false ∷ false ∷ false ∷ []
unfolding same_key
same = refl

pub full : same_key (key 0 8 (replicate 8 4)) (key 0 200 (replicate 8 4)) ≡ true
unfolding same_key
full = refl

-- the first eight values, and zeros behind fewer
pub made : map (key_of 3) (replicate 9 (pos 4) ∷ (neg_ℤ (pos 2) ∷ []) ∷ [])
    ≡ key 3 8 (replicate 8 4) ∷ record { query = 3; count = 1; values = neg_ℤ (pos 2) ∷ replicate 7 (pos 0) } ∷ []
unfolding key_of
made = refl

-- slots 0 and 2 have the same key, and slot 1 another
abbrev keys : List Key
keys = key 1 1 (5 ∷ 6 ∷ []) ∷ key 1 1 (6 ∷ 6 ∷ []) ∷ key 1 1 (5 ∷ 7 ∷ []) ∷ []

-- looked for among the held places: found at the first; not found where it is free; a number that is no slot has no key
pub found : map (λ (s : SlotList). find_of keys s (key 1 1 (5 ∷ []))) (listed (1 ∷ 2 ∷ 0 ∷ []) 3 3 ∷ listed (1 ∷ 2 ∷ 0 ∷ []) 1 3 ∷ []) ≡ Some 1 ∷ None ∷ []
unfolding find_of slot_has same_key
found = refl

pub no_slot : find_of keys (listed (64 ∷ []) 1 1) (key 0 0 []) ≡ None
unfolding find_of slot_has same_key
no_slot = refl

pub twice : map (held_twice keys) (listed (1 ∷ 2 ∷ 0 ∷ []) 3 3 ∷ listed (1 ∷ 2 ∷ 0 ∷ []) 2 3 ∷ []) ≡ true ∷ false ∷ []
unfolding held_twice same_key
twice = refl
