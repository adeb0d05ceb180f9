use mathlib.Core.Path.{◌≡◌}
use Rattle.slots.specs.Order.{is_marked}
use Rattle.slots.specs.Keys.{held_slots}
use Rattle.slots.proofs.Parts.{Parting}
use Rattle.slots.proofs.SlotList.drop.Given as goal

abbrev pub invariant-loop-x : goal.invariant-loop-x
invariant-loop-x l =
    (l.x-items ≡ held_slots l.fn.self)
    × (l.self.count ≡ l.fn.self.count)
    × Parting (is_marked l.gone) (held_slots l.fn.self) l.fn.self.order l.x-index l.self.order l.free l.kept l.dropped
