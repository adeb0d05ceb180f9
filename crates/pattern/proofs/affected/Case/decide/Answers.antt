use Rattle.std.proofs.Common.{rules, ◌∙◌}
use Rattle.pattern.proofs.Deciding.{decided-delete}
use Rattle.pattern.proofs.affected.Case.decide.Goals as goal

pub returns-in_default : goal.returns-in_default
returns-in_default c =
    let s = c.args.self in
    c.delete_reaches.ensures ∙ decided-delete s.update.now.form s.width s.query.now s.asked.now s.update.now s.given.now (search rules) (search rules)
