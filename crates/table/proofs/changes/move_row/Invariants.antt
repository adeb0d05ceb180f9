-- The first i cells are copied.
use Rattle.std.proofs.Common.{◌≡◌, drop}
use Rattle.std.proofs.Math.Seq.{paste}
use Rattle.table.proofs.changes.move_row.Given as goal

abbrev pub invariant-loop-i : goal.invariant-loop-i
invariant-loop-i l = l.area ≡ paste l.fn.area l.to (drop l.from l.fn.area) l.i
