use Rattle.std.proofs.Common.{refl, ◌∙◌, ap, leb, replicate}
use Rattle.statement.specs.Private.Built.{lowest_by}
use Rattle.statement.proofs.Assembled.{delete-made}
use Rattle.statement.proofs.Empty.{setting-empty}
use Rattle.statement.proofs.Settled.{refused-is}
use Rattle.statement.proofs.build.Reading.delete.Goals as goal

pub returns-in_err-refuse : goal.returns-in_err-refuse
returns-in_err-refuse c =
    let d = c.default.ensures in
    delete-made _ _ _ _ _ _ _ _ _ _ _ c.noted_condition-condition.ensures (ap (replicate 8) (setting-empty _ c.default-2.ensures)) c.width.ensures
    (c.in_err-refuse.ensures ∙ λ j. lowest_by (c.is_unknown.ensures j) (d.1.0 j) (d.1.1.0 j) (d.1.1.1.0 j) (leb 16 (c.from.ensures j)))
    (refused-is c.from_residual.result c.in_err-refuse.field-0.0 _ c.from_residual.ensures.1)

pub returns : goal.returns
returns c =
    let d = c.default.ensures in
    delete-made _ _ _ _ _ _ _ _ _ _ _ c.noted_condition-condition.ensures (ap (replicate 8) (setting-empty _ c.default-2.ensures)) c.width.ensures
    (c.in_ok-refuse.ensures ∙ λ j. lowest_by (c.is_unknown.ensures j) (d.1.0 j) (d.1.1.0 j) (d.1.1.1.0 j) (leb 16 (c.from.ensures j)))
    refl
