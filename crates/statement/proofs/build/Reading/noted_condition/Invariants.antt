use Rattle.statement.specs.Private.Built.{dotted, place_in, step_in}
use Rattle.statement.proofs.Resolving.{Resolving}
use Rattle.statement.proofs.build.Reading.noted_condition.Given as goal

abbrev pub invariant-loop-node : goal.invariant-loop-node
invariant-loop-node l = Resolving (dotted l.scope) l.self.text.now l.self.nodes.now (place_in l.scope) l.fn.marks l.comparisons l.found l.m l.node-index

abbrev pub ghost-placed : goal.ghost-placed
ghost-placed a = step_in
