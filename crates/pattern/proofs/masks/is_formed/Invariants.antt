use Rattle.std.proofs.Common.{◌≡◌, ◌≤◌, drop}
use Rattle.statement.specs.Sound.{used_steps}
use Rattle.pattern.specs.Private.Masks.{balanced}
use Rattle.pattern.proofs.masks.is_formed.Given as goal

abbrev pub invariant-loop-step : goal.invariant-loop-step
invariant-loop-step l = (l.depth ≤ l.step-index) × (balanced l.depth (drop l.step-index (used_steps l.condition)) ≡ balanced 0 (used_steps l.condition))
