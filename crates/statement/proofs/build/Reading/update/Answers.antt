use Rattle.std.proofs.Common.{◌∙◌, ap, length, take, leb, refl, arith}
use Rattle.statement.specs.declared.assembling.Settings.{Settings}
use Rattle.statement.specs.Private.Built.{column_names, lowest_by}
use Rattle.statement.specs.Refusals.{number_of}
use Rattle.statement.proofs.Assembled.{sets-few, update-made}
use Rattle.statement.proofs.Settled.{refused-is}
use Rattle.statement.proofs.build.Reading.update.Goals as goal

pub noted_condition-condition-requires : goal.noted_condition-condition-requires
noted_condition-condition-requires c =
    let r = c.args.self.now in
    let m = sets-few r.text.now r.items.now r.fits.listed (take (length r.items.now) c.positions-at.result) in
    omega (arith, ap (λ (x : Settings). x.marks) c.listed_settings-s.ensures, m)

pub returns-in_err-refuse : goal.returns-in_err-refuse
returns-in_err-refuse c =
    let d = c.default.ensures in
    let r = c.args.self.now in
    update-made r.text.now r.items.now r.nodes.now r.e (column_names c.args.found.now.table.now) _ _ c.listed_names-names.result c.positions-at.result c.listed_settings-s.result _ _ c.width.result c.is_repeated.result (number_of c.in_err-refuse.field-0.0) _
    c.listed_names-names.ensures c.positions-at.ensures c.listed_settings-s.ensures refl c.noted_condition-condition.ensures c.width.ensures c.is_repeated.ensures
    (c.in_err-refuse.ensures ∙ λ j. lowest_by (c.is_unknown.ensures j) c.is_repeated.result (d.1.1.0 j) (d.1.1.1.0 j) (leb 16 (c.from.ensures j)))
    (refused-is c.from_residual.result c.in_err-refuse.field-0.0 _ c.from_residual.ensures.1)

pub returns : goal.returns
returns c =
    let d = c.default.ensures in
    let r = c.args.self.now in
    update-made r.text.now r.items.now r.nodes.now r.e (column_names c.args.found.now.table.now) _ _ c.listed_names-names.result c.positions-at.result c.listed_settings-s.result _ _ c.width.result c.is_repeated.result 0 _
    c.listed_names-names.ensures c.positions-at.ensures c.listed_settings-s.ensures refl c.noted_condition-condition.ensures c.width.ensures c.is_repeated.ensures
    (c.in_ok-refuse.ensures ∙ λ j. lowest_by (c.is_unknown.ensures j) c.is_repeated.result (d.1.1.0 j) (d.1.1.1.0 j) (leb 16 (c.from.ensures j)))
    refl
