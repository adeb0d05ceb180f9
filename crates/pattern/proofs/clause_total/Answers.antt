use Rattle.std.proofs.Common.{sym, ◌∙◌}
use Rattle.pattern.proofs.Agreeing.{total-none, total-many, total-worked}
use Rattle.pattern.proofs.clause_total.Goals as goal

pub returns-then-not-is_relevant : goal.returns-then-not-is_relevant
returns-then-not-is_relevant c = total-none c.args.query.now c.args.update.now (sym (rw (c.of-pair.ensures.query, c.of-pair.ensures.update) at c.if-not-is_relevant.ensures))

pub returns-in-None : goal.returns-in-None
returns-in-None c = total-many c.args.query.now c.args.update.now (sym (rw (c.of-pair.ensures.query, c.of-pair.ensures.update) at c.if-not-is_relevant.ensures)) (rw (c.of-pair.ensures.query, c.of-pair.ensures.update) at c.in-None.ensures)

pub returns-in-Some : goal.returns-in-Some
returns-in-Some c =
    let w = rw (c.of-pair.ensures.query, c.of-pair.ensures.update) at c.in-Some.ensures in
    w.1.total_is ∙ total-worked c.args.query.now c.args.update.now (sym (rw (c.of-pair.ensures.query, c.of-pair.ensures.update) at c.if-not-is_relevant.ensures)) w.0
