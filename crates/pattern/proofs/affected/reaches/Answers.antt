use Rattle.std.proofs.Common.{sym, ap, ◌∙◌}
use mathlib.Core.Bool.{not}
use Rattle.pattern.proofs.Deciding.{reach-other, reach-decided}
use Rattle.pattern.proofs.affected.reaches.Goals as goal

pub returns-then-not-is_separate : goal.returns-then-not-is_separate
returns-then-not-is_separate c =
    let e = c.if-not-is_separate.true in
    ap not e ∙ reach-other c.args.width c.args.query.now c.args.update.now c.args.values.now c.args.asked.now (sym c.is_separate.ensures.separate ∙ e)

pub returns-else-not-is_separate : goal.returns-else-not-is_separate
returns-else-not-is_separate c =
    c.decide.ensures
    ∙ reach-decided c.args.width c.args.query.now c.args.update.now c.args.values.now c.args.asked.now (sym c.is_separate.ensures.separate ∙ c.if-not-is_separate.false)
