use Rattle.std.proofs.Common.{◌≡◌, length, arith, rules}
use Rattle.pattern.specs.Private.Literals.{exchanged_step}
use Rattle.pattern.proofs.Mapped.{mapped-more}
use Rattle.pattern.proofs.filled.exchange.Goals as goal

pub loop-step-preserved : goal.loop-step-preserved
loop-step-preserved c =
    let h : length c.args.steps.now ≡ 15 = search rules in
    mapped-more exchanged_step c.args.steps.now c.loop-step.steps c.loop-step.step-index _ c.exchanged_step.result (omega arith) c.loop-step.invariant c.exchanged_step.ensures
