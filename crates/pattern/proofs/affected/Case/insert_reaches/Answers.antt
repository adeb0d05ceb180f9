use Rattle.std.proofs.Common.{◌∙◌}
use Rattle.statement.specs.Sound.{settings_read}
use Rattle.pattern.specs.declared.joint.Role.TheVariants.{Inserted}
use Rattle.pattern.proofs.Deciding.{stands-met, insert-decided}
use Rattle.pattern.proofs.affected.Case.insert_reaches.Goals as goal

pub returns : goal.returns
returns c =
    let s = c.args.self in
    let q = s.query.now in
    let u = s.update.now in
    c.some_beside.ensures
    ∙ insert-decided s.width q u s.given.now s.asked.now _ (stands-met Inserted (settings_read u) s.given.now s.asked.now q.condition c.requires.asked c.fill.result c.fill.ensures c.formed_masks.result c.formed_masks.ensures)
