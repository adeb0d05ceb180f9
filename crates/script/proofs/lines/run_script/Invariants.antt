-- Each line leaves less of the script.
use Rattle.std.proofs.Common.{length}
use Rattle.script.proofs.lines.run_script.Given as goal

abbrev pub invariant-loop-rest : goal.invariant-loop-rest
invariant-loop-rest g l = Unit {0}

abbrev pub decreases-loop-rest : goal.decreases-loop-rest
decreases-loop-rest g l = length l.rest
