-- The last i rows are tested.
use Rattle.std.proofs.Common.{◌≡◌, ◌-◌, drop, map}
use Rattle.std.specs.Simd.Lanes.{mask_l}
use Rattle.table.specs.Private.Scanned.{passes_by}
use Rattle.table.specs.Private.Masks.{behind}
use Rattle.table.proofs.rows.Test.mask_few.Given as goal

abbrev pub invariant-loop-i : goal.invariant-loop-i
invariant-loop-i l = l.mask ≡ mask_l (map (passes_by l.self) (drop (l.n - l.i) (behind l.front l.rows)))
