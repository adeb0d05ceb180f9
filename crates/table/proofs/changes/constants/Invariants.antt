-- The first i settings are written.
use Rattle.table.proofs.Removing.{Writes}
use Rattle.table.proofs.changes.constants.Given as goal

abbrev pub invariant-loop-i : goal.invariant-loop-i
invariant-loop-i l = Writes l.initial.list l.row l.i l.list
