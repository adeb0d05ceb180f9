-- The first i values are put.
use Rattle.std.proofs.Common.{◌≡◌}
use Rattle.std.proofs.Math.Seq.{paste}
use Rattle.table.specs.Private.Changing.{row_of}
use Rattle.table.proofs.changes.put_values.Given as goal

abbrev pub invariant-loop-i : goal.invariant-loop-i
invariant-loop-i l = l.row ≡ paste l.fn.row 0 (row_of l.settings l.values) l.i
