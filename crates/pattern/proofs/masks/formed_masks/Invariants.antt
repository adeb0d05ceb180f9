use Rattle.pattern.proofs.Running.{Running}
use Rattle.pattern.proofs.masks.formed_masks.Given as goal

abbrev pub invariant-loop-step : goal.invariant-loop-step
invariant-loop-step l = Running l.condition l.s l.step-index
