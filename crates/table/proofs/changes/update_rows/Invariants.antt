-- The rows before cell `at` are worked on; of a block, those not yet worked on are in the mask.
use Rattle.std.proofs.Common.{◌≡◌, ◌-◌, map, drop}
use Rattle.std.specs.Simd.Lanes.{mask_l}
use Rattle.table.specs.Rows.{area_rows}
use Rattle.table.specs.Private.Scanned.{passes_by}
use Rattle.table.proofs.Assigning.{made}
use Rattle.table.proofs.Updating.{Left}
use Rattle.table.proofs.changes.update_rows.Given as goal

abbrev pub invariant-loop-left : goal.invariant-loop-left
invariant-loop-left l = Left (passes_by l.test) (made l.values l.settings) l.width l.used l.fn.area l.area l.at l.left l.found

abbrev pub decreases-loop-left : goal.decreases-loop-left
decreases-loop-left l = l.left

abbrev pub invariant-loop : goal.invariant-loop
invariant-loop l =
    Left (passes_by l.test) (made l.values l.settings) l.width l.used l.fn.area l.area l.at (l.left - l.counter) l.found
    × (l.mask ≡ mask_l (map (passes_by l.test) (area_rows l.width (l.n - l.counter) (drop l.at l.area))))
