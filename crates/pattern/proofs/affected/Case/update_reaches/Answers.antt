use Rattle.std.proofs.Common.{length, ap, ◌∙◌}
use Rattle.statement.specs.Terms.{used_selected}
use Rattle.statement.specs.Sound.{settings_read}
use Rattle.pattern.specs.declared.joint.Role.TheVariants.{Given, Asked, Set}
use Rattle.pattern.proofs.Deciding.{stands-met, stands-unmet, stands-altered, update-decided}
use Rattle.pattern.proofs.affected.Case.update_reaches.Goals as goal

pub returns : goal.returns
returns c =
    let s = c.args.self in
    let q = s.query.now in
    let u = s.update.now in
    let ss = settings_read u in
    let us = s.given.now in
    let qs = s.asked.now in
    let asked = c.requires.asked in
    c.some_clause.ensures
    ∙ update-decided s.width q u us qs _ (stands-met Given ss us qs u.condition c.requires.given c.fill-3.result c.fill-3.ensures c.formed_masks-2.result c.formed_masks-2.ensures)
    (stands-met Asked ss us qs q.condition asked c.fill.result c.fill.ensures c.formed_masks.result c.formed_masks.ensures)
    (stands-met Set ss us qs q.condition asked c.fill-2.result c.fill-2.ensures c.formed_masks.result c.formed_masks.ensures)
    (stands-unmet Asked ss us qs q.condition asked c.fill.result c.fill.ensures c.not_masks.result c.not_masks.ensures)
    (stands-unmet Set ss us qs q.condition asked c.fill-2.result c.fill-2.ensures c.not_masks.result c.not_masks.ensures)
    (stands-altered s.width (used_selected q) ss us qs c.alterations-altered.result c.each_of.result _ c.alterations-altered.ensures (ap length c.used.ensures.are) c.each_of.ensures)
