-- From comparison i one arrives where one does from the start. The measure: the comparisons left.
use Rattle.std.proofs.Common.{◌-◌, ◌++◌}
use Rattle.table.specs.Tests.{met}
use Rattle.table.proofs.Tested.{Walking}
use Rattle.table.proofs.rows.Test.meets.Given as goal

abbrev pub invariant-loop-i : goal.invariant-loop-i
invariant-loop-i l = let t = l.self in Walking t.targets t.places t.numbers t.start (l.front ++ l.row) l.i

abbrev pub decreases-loop-i : goal.decreases-loop-i
decreases-loop-i l = met - l.i
