use Rattle.std.proofs.Common.{◌∙◌, not, eqb, leb, length, refl}
use Rattle.statement.specs.Private.Built.{lowest_by}
use Rattle.statement.proofs.Assembled.{insert-made}
use Rattle.statement.proofs.Empty.{condition-empty}
use Rattle.statement.proofs.Settled.{refused-is}
use Rattle.statement.proofs.build.Reading.insert.Goals as goal

pub returns-in_err-refuse : goal.returns-in_err-refuse
returns-in_err-refuse c =
    let d = c.default.ensures in
    let r = c.args.self.now in
    insert-made r.text.now r.items.now r.e _ _ _ _ _ _ _ _ _ c.listed_settings-s.ensures refl (condition-empty _ c.default-2.ensures) c.width.ensures
    (c.in_err-refuse.ensures ∙ λ j. lowest_by (d.0 j) (d.1.0 j) (not (eqb (length r.items.now) c.width.result)) (d.1.1.1.0 j) (leb 16 (c.from.ensures j)))
    (refused-is c.from_residual.result c.in_err-refuse.field-0.0 _ c.from_residual.ensures.1)

pub returns : goal.returns
returns c =
    let d = c.default.ensures in
    let r = c.args.self.now in
    insert-made r.text.now r.items.now r.e _ _ _ _ _ _ _ _ _ c.listed_settings-s.ensures refl (condition-empty _ c.default-2.ensures) c.width.ensures
    (c.in_ok-refuse.ensures ∙ λ j. lowest_by (d.0 j) (d.1.0 j) (not (eqb (length r.items.now) c.width.result)) (d.1.1.1.0 j) (leb 16 (c.from.ensures j)))
    refl
