use Rattle.std.proofs.Common.{◌∙◌}
use Rattle.statement.specs.Sound.{settings_read}
use Rattle.pattern.specs.declared.joint.Role.TheVariants.{Given, Asked}
use Rattle.pattern.proofs.Deciding.{stands-met, delete-decided}
use Rattle.pattern.proofs.affected.Case.delete_reaches.Goals as goal

pub returns : goal.returns
returns c =
    let s = c.args.self in
    let q = s.query.now in
    let u = s.update.now in
    let ss = settings_read u in
    c.some_pair.ensures
    ∙ delete-decided s.width q u s.given.now s.asked.now _ (stands-met Given ss s.given.now s.asked.now u.condition c.requires.given c.fill.result c.fill.ensures c.formed_masks.result c.formed_masks.ensures)
    _ (stands-met Asked ss s.given.now s.asked.now q.condition c.requires.asked c.fill-2.result c.fill-2.ensures c.formed_masks-2.result c.formed_masks-2.ensures)
