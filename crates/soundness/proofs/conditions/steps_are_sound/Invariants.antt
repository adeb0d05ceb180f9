use Rattle.std.proofs.Common.{◌≡◌, ◌≤◌, drop}
use Rattle.soundness.specs.Private.Parts.{steps_on}
use Rattle.soundness.proofs.conditions.steps_are_sound.Given as goal

abbrev pub invariant-loop-s : goal.invariant-loop-s
invariant-loop-s l = (l.depth ≤ l.s-index) × (steps_on l.depth (drop l.s-index l.steps) ≡ steps_on 0 l.steps)
