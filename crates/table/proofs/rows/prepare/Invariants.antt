-- The comparisons before i are prepared.
use Rattle.table.proofs.Preparing.{Filled}
use Rattle.std.proofs.Common.{min}
use Rattle.table.proofs.rows.prepare.Given as goal

abbrev pub invariant-loop-i : goal.invariant-loop-i
invariant-loop-i l = Filled l.condition l.values l.targets l.places l.numbers (min l.condition.count 8) l.i
