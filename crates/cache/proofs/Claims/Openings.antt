-- What an opening gives, taken or refused; and that a flush drops every kept answer. Assumes nothing.
use mathlib.Core.Path.{◌≡◌, refl, sym, ap}
use mathlib.Core.Logic.{◌≢◌, ◌↔◌}
use mathlib.Core.Bool.{Bool, true, false, cond}
use mathlib.Core.List.{[], map}
use Prim.Native.Nat.{◌≤◌}
use native.Mathlib.Omega.{arith}
use lib.IntN.{pos}
use lib.ListN.{length, replicate}
use Rattle.lists.proofs.Bools.{clash}
use Rattle.meaning.specs.Plain.{Opening, opening_refused}
use Rattle.slots.specs.declared.SlotList.{SlotList}
use Rattle.slots.specs.Keys.{key_read, slot_key, held_slots}
use Rattle.slots.specs.Order.{open_of as slots_open}
use Rattle.slots.proofs.Laws.{open-slots, clear-is}
use Rattle.cache.specs.Sound.{lengths, opening, OpeningWithin}
use Rattle.meaning.specs.Refusals.{or_else, settled}
use Rattle.cache.specs.Calls.{Flushed, Opens, unfit}
use Rattle.cache.specs.Gives.{open_of, flush_of, open_gives, empty_state, emptied}
use Rattle.cache.specs.Run.{Start, opening_of, opened_by, lent_by, store_of, step_flush, step}
use Rattle.cache.specs.Demand.{Fresh, OpensExactlyIf, OpeningTaken, OpeningRefused, keys_held, FlushDropsAll}
use Rattle.cache.proofs.Invariant.Sound.{sizes-fit, fit-sizes}

-- ---- opening

empty-fresh : (o : Opening) → o.slots ≤ 64 → Fresh (empty_state o) o
unfolding empty_state slots_open
empty-fresh o h = record { no_tables = refl; no_queries = refl; no_updates = refl; none_held = refl; sizes = refl; order = open-slots o.slots h }

module _ (o : Start) where
  abbrev by : Bool → Opens
  by b =
      cond b (open_gives (record { refusal = 1; state = empty_state (opening (lengths 0 0) 0 8) }) o.cells o.memory)
      (open_gives (record { refusal = 0; state = empty_state (opening_of o) }) (replicate (length o.cells) (pos 0)) (replicate (length o.memory) 0))

  exactly-by : (b : Bool) → opening_refused (opening_of o) ≡ b → ((by b).result.refusal ≡ 0) ↔ OpeningWithin (opening_of o)
  exactly-by true e = ((λ z. absurd (omega arith)), λ W. clash e (fit-sizes (opening_of o) W))
  exactly-by false e = ((λ z. sizes-fit (opening_of o) e), λ W. refl)

  taken-by : (b : Bool) → opening_refused (opening_of o) ≡ b → (by b).result.refusal ≡ 0
      → Fresh (store_of (by b)).state (opening_of o)
      × ((store_of (by b)).cells ≡ replicate (length o.cells) (pos 0))
      × ((store_of (by b)).memory ≡ replicate (length o.memory) 0)
  taken-by true e z = absurd (omega arith)
  taken-by false e z = (empty-fresh (opening_of o) (sizes-fit (opening_of o) e).few_slots, refl, refl)

  refused-is : (b : Bool) → opening_refused (opening_of o) ≡ b → (by b).result.refusal ≡ 0 → opening_refused (opening_of o) ≡ false
  refused-is true e z = absurd (omega arith)
  refused-is false e z = e

  refused-by : (b : Bool) → (by b).result.refusal ≢ 0
      → ((by b).result.refusal ≡ 1)
      × Fresh (store_of (by b)).state (opening (lengths 0 0) 0 8)
      × ((store_of (by b)).cells ≡ o.cells)
      × ((store_of (by b)).memory ≡ o.memory)
  refused-by true h = (refl, empty-fresh (opening (lengths 0 0) 0 8) (omega arith), refl, refl)
  refused-by false h = absurd (h refl)

pub opens_exactly_if : OpensExactlyIf
unfolding open_of
opens_exactly_if o = exactly-by o (opening_refused (opening_of o)) refl

pub not-refused : (o : Start) → (opened_by o).result.refusal ≡ 0 → opening_refused (opening_of o) ≡ false
unfolding open_of
not-refused o = refused-is o (opening_refused (opening_of o)) refl

pub opening_taken : OpeningTaken
unfolding open_of
opening_taken o = taken-by o (opening_refused (opening_of o)) refl

pub opening-refused : OpeningRefused
unfolding open_of
opening-refused o = refused-by o (opening_refused (opening_of o))

-- ---- flush

pub flush_drops_all : FlushDropsAll
unfolding step flush_of settled
flush_drops_all s = go (unfit s.state (lent_by s))
  where
    by : Bool → Flushed
    by b = settled (or_else b 2 0) (record { refusal = 0; state = emptied s.state }) (record { refusal = or_else b 2 0; state = s.state })

    go : (b : Bool) → (step_flush s (by b)).1.got.refusal ≡ 0 → (keys_held (step_flush s (by b)).0 ≡ []) × ((step_flush s (by b)).0.state.slots.order ≡ s.state.slots.order)
    go true z = absurd (omega arith)
    go false z = (
      ap (λ (l : SlotList). map key_read (map (slot_key s.state.keys) (held_slots l))) (sym (clear-is s.state.slots)),
      ap (λ (l : SlotList). l.order) (sym (clear-is s.state.slots)),
    )
