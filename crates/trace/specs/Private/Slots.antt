-- The slots: document 01, "Slots". The order of use is one list of slots, those that hold an answer first. Assumes nothing: these are definitions.
use Rattle.std.specs.Prelude.{◌≡◌, Bool, true, false, not, List, [], ◌∷◌, ◌++◌, map, ℕ, ◌*◌, ◌<◌, length, take, drop}
use mathlib.Core.HLevel.{Discrete}
use Rattle.std.proofs.Math.Option.{Option, none, some}
use Rattle.lists.specs.Lists.{All, Distinct, keep, count, unsnoc, from, written}

-- a slot that holds an answer: its number, the key, and the length of the record
pub record Held (K : Type 0) : Type 0 where
  pub slot : ℕ
  pub key : K
  pub len : ℕ

-- the kept answers: the slots that hold one and the free ones, each in the order of use, and the kept memory
pub record Cache (K : Type 0) : Type 0 where
  pub held : List (Held K)
  pub free : List ℕ
  pub memory : List ℕ

module _ {K : Type 0} where
  abbrev pub slots_of : List (Held K) → List ℕ
  slots_of l = map (λ (e : Held K). e.slot) l

  -- the order of use
  abbrev pub order : Cache K → List ℕ
  order c = slots_of c.held ++ c.free

  -- "Slot i is the kept memory from i times the slot's bytes": the record in a slot
  abbrev pub slot_bytes : ℕ → List ℕ → Held K → List ℕ
  slot_bytes size memory e = take e.len (drop (e.slot * size) memory)

  -- "at first 0, 1, 2 and on": n slots, none held
  abbrev pub empty : ℕ → List ℕ → Cache K
  empty n memory = record { held = []; free = from 0 n; memory = memory }

  -- ---- "A kept answer found moves its slot to the front."

  -- the slot that holds k, and the other held ones
  abbrev pub found : {P : Type 0} → Dec P → Held K → List (Held K) → Option (Held K × List (Held K)) → Option (Held K × List (Held K))
  found (yes p) e l o = some (e, l)
  found (no q) e l none = none
  found (no q) e l (some w) = some (w.0, e ∷ w.1)

  abbrev pub find : Discrete K → K → List (Held K) → Option (Held K × List (Held K))
  find same k [] = none
  find same k (e ∷ l) = found (same e.key k) e l (find same k l)

  abbrev pub move_to_front : Cache K → Held K × List (Held K) → Cache K
  move_to_front c w = record { held = w.0 ∷ w.1; free = c.free; memory = c.memory }

  -- ---- "A new record that fits a slot takes the last slot and moves it to the front."

  -- the last slot of the order, with the held and the free ones before it; none of no slots
  abbrev pub last_held : Option (List (Held K) × Held K) → Option (ℕ × List (Held K) × List ℕ)
  last_held none = none
  last_held (some w) = some (w.1.slot, w.0, [])

  abbrev pub last_free : List (Held K) → Option (List ℕ × ℕ) → Option (ℕ × List (Held K) × List ℕ)
  last_free l none = last_held (unsnoc l)
  last_free l (some w) = some (w.1, l, w.0)

  abbrev pub take_last : Cache K → Option (ℕ × List (Held K) × List ℕ)
  take_last c = last_free c.held (unsnoc c.free)

  -- "Slot bytes past the record, and of free slots, stay."
  abbrev pub put_in : ℕ → Cache K → K → List ℕ → Option (ℕ × List (Held K) × List ℕ) → Cache K
  put_in size c k r none = c
  put_in size c k r (some w) = record {
    held = record { slot = w.0; key = k; len = length r } ∷ w.1;
    free = w.2;
    memory = written c.memory (w.0 * size) r;
  }

  -- a record that does not fit is not kept
  abbrev pub put : ℕ → Bool → Cache K → K → List ℕ → Cache K
  put size true c k r = put_in size c k r (take_last c)
  put size false c k r = c

  -- ---- "Drops put held slots first and free ones after, each in the order they had."

  abbrev pub drop_by : (K → Bool) → Cache K → Cache K
  drop_by d c = record {
    held = keep (λ (e : Held K). not (d e.key)) c.held;
    free = slots_of (keep (λ (e : Held K). d e.key) c.held) ++ c.free;
    memory = c.memory;
  }

  abbrev pub drop_count : (K → Bool) → Cache K → ℕ
  drop_count d c = count (λ (e : Held K). d e.key) c.held

-- the list names each of n slots once
pub record Names (n : ℕ) (l : List ℕ) : Type 0 where
  pub once : Distinct l
  pub below : All (λ i. i < n) l
  pub count : length l ≡ n
