-- The order of use as the program has it: document 01, "Slots". Of its array the first `count` places are the slots, the first `held` of them hold an answer, and what
-- stands behind is no slot and stays. The definitions are given for every struct, also one that is not sound. Assumes nothing: these are definitions.
use Rattle.std.specs.Prelude.{Bool, true, false, not, ◌&&◌, cond, List, ◌++◌, ℕ, ◌+◌, ◌-◌, min, leb, ltb, eqb, length, take, drop, get_or, Option, Some, None}
use Rattle.lists.specs.Lists.{all, keep, repeats, from}
use Rattle.meaning.specs.Limits.{most_slots}
use Rattle.slots.specs.declared.SlotList.{SlotList}
use Rattle.slots.specs.declared.Taken.{Taken}
use Rattle.slots.specs.Keys.{slots_of, held_slots}

abbrev pub free_slots : SlotList → List ℕ
free_slots s = drop s.held (slots_of s)

-- "its slot list names each slot once, held ones first"
unfoldable pub sound_slots : SlotList → Bool
sound_slots s =
    leb s.count most_slots
    && (leb s.held s.count && (all (λ (x : ℕ). ltb x s.count) (slots_of s) && not (repeats eqb (slots_of s))))

-- "at first 0, 1, 2 and on"; none is held
unfoldable pub open_of : ℕ → SlotList
open_of n = record { order = from 0 most_slots; held = 0; count = n }

-- a list with the member at place p moved to the front; with no such place, as it was
abbrev pub front : {A : Type 0} → ℕ → List A → List A
front p l = take 1 (drop p l) ++ (take p l ++ drop (p + 1) l)

-- "A kept answer found moves its slot to the front."
unfoldable pub front_of : SlotList → ℕ → SlotList
front_of s p = record { order = front p s.order; held = s.held; count = s.count }

-- "A new record that fits a slot takes the last slot and moves it to the front"; then one more is held, up to all
abbrev pub last_taken : SlotList → Taken
last_taken s =
    let moved = front_of s (s.count - 1) in
    record {
      slot = get_or s.order (s.count - 1) 0;
      slots = record { order = moved.order; held = min (s.held + 1) s.count; count = s.count };
    }

abbrev pub is_open : SlotList → Bool
is_open s = leb 1 s.count && leb s.count most_slots

-- with no slot, or more than there can be, none is taken
unfoldable pub taken_of : SlotList → Option Taken
taken_of s = cond (is_open s) (Some (last_taken s)) None

-- whether a slot is marked; a number past the marks is not
abbrev pub is_marked : List Bool → ℕ → Bool
is_marked marks x = get_or marks x false

-- "Drops put held slots first and free ones after, each in the order they had": of the held slots those that do not pass the test, then those that do, which are
-- free then, then the others
unfoldable pub drop_by : (ℕ → Bool) → SlotList → SlotList
drop_by p s =
    let kept = keep (λ (x : ℕ). not (p x)) (held_slots s) in
    record { order = kept ++ keep p (held_slots s) ++ drop s.held s.order; held = length kept; count = s.count }

-- the marked ones
abbrev pub drop_of : SlotList → List Bool → SlotList
drop_of s gone = drop_by (is_marked gone) s

-- "flush (drop every kept answer)"
abbrev pub clear_of : SlotList → SlotList
clear_of s = drop_by (λ x. true) s
