use Rattle.std.proofs.Common.{◌≡◌}
use Rattle.pattern.specs.Private.Literals.{exchanged_step}
use Rattle.pattern.proofs.Mapped.{mapped}
use Rattle.pattern.proofs.filled.exchange.Given as goal

abbrev pub invariant-loop-step : goal.invariant-loop-step
invariant-loop-step l = l.steps ≡ mapped exchanged_step l.fn.steps l.step-index
