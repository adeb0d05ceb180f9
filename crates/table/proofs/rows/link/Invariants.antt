-- The parts of the condition so far are linked.
use Rattle.statement.specs.Sound.{used_steps}
use Rattle.table.proofs.Linking.{Linking}
use Rattle.table.proofs.rows.link.Given as goal

abbrev pub invariant-loop-step : goal.invariant-loop-step
invariant-loop-step l = Linking (used_steps l.condition) l.n l.fn.targets l.starts l.targets l.depth l.next l.step-index
