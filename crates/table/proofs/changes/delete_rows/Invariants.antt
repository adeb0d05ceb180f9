-- The rows before cell `from` that stay are moved up to cell `to`; of a block, those ahead are in the mask.
use Rattle.std.proofs.Common.{◌≡◌, ◌-◌, map, drop}
use Rattle.std.specs.Simd.Lanes.{mask_l}
use Rattle.table.specs.Rows.{area_rows}
use Rattle.table.specs.Private.Scanned.{passes_by}
use Rattle.table.proofs.Deleting.{Closed}
use Rattle.table.proofs.changes.delete_rows.Given as goal

abbrev pub invariant-loop-left : goal.invariant-loop-left
invariant-loop-left l = Closed (passes_by l.test) l.width l.used l.fn.area l.area l.from l.to l.left l.gone

abbrev pub decreases-loop-left : goal.decreases-loop-left
decreases-loop-left l = l.left

abbrev pub invariant-loop : goal.invariant-loop
invariant-loop l =
    Closed (passes_by l.test) l.width l.used l.fn.area l.area l.from l.to (l.left - l.counter) l.gone
    × (l.mask ≡ mask_l (map (passes_by l.test) (area_rows l.width (l.n - l.counter) (drop l.from l.fn.area))))
