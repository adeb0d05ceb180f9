use Rattle.statement.proofs.Outer.{Marking}
use Rattle.statement.proofs.assembling.outer_marks.Given as goal

abbrev pub invariant-loop-node : goal.invariant-loop-node
invariant-loop-node l = Marking l.nodes l.marks l.node-index
