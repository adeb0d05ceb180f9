use Rattle.std.proofs.Common.{◌≡◌, ◌*◌, ◌≤◌, true, length, drop, reverse}
use Rattle.soundness.specs.Private.Parts.{outer_on}
use Rattle.soundness.proofs.conditions.marks_fit.Given as goal

abbrev pub invariant-loop-s : goal.invariant-loop-s
invariant-loop-s l = (l.need ≤ 2 * length l.yielded) × (outer_on l.ending l.need l.marks (drop (length l.yielded) (reverse l.steps)) ≡ outer_on true 0 l.outer (reverse l.steps))
