-- Those of the first k rows have gone on, and the mask of the others is left.
use Rattle.std.proofs.Common.{◌-◌, ◌≤◌}
use Rattle.table.specs.Private.Masks.{behind}
use Rattle.table.proofs.Singly.{Going}
use Rattle.table.proofs.rows.Test.lead_few.Given as goal

abbrev pub invariant-loop-left : goal.invariant-loop-left
invariant-loop-left l = (l.k ≤ l.rows.count) × Going l.self (behind l.front l.rows) l.i l.at l.k l.left

abbrev pub decreases-loop-left : goal.decreases-loop-left
decreases-loop-left l = l.rows.count - l.k
