use Rattle.std.proofs.Common.{refl, ◌∙◌, ap, ◌*◌, ℕ, length}
use Rattle.statement.specs.Private.Built.{lowest_by}
use Rattle.statement.proofs.Assembled.{table-made}
use Rattle.statement.proofs.Settled.{refused-is}
use Rattle.statement.proofs.build.Reading.table.Goals as goal

pub returns-in_err-refuse : goal.returns-in_err-refuse
returns-in_err-refuse c =
    let d = c.default.ensures in
    let r = c.args.self.now in
    table-made r.text.now r.items.now r.e.table c.args.rows c.args.ring _ _ _ _ _ c.is_taken.result c.has_no_place.result _ _ _ c.name_at-name.ensures c.listed_names-columns.ensures c.rows_at-capacity.ensures c.is_taken.ensures
    (ap (λ (k : ℕ). length r.items.now * k) c.from.ensures) c.has_no_place.ensures
    (c.in_err-refuse.ensures ∙ λ j. lowest_by (d.0 j) c.is_taken.result (d.1.1.0 j) (d.1.1.1.0 j) c.has_no_place.result)
    (refused-is c.from_residual.result c.in_err-refuse.field-0.0 _ c.from_residual.ensures.1)

pub returns : goal.returns
returns c =
    let d = c.default.ensures in
    let r = c.args.self.now in
    table-made r.text.now r.items.now r.e.table c.args.rows c.args.ring _ _ _ _ _ c.is_taken.result c.has_no_place.result _ _ _ c.name_at-name.ensures c.listed_names-columns.ensures c.rows_at-capacity.ensures c.is_taken.ensures
    (ap (λ (k : ℕ). length r.items.now * k) c.from.ensures) c.has_no_place.ensures
    (c.in_ok-refuse.ensures ∙ λ j. lowest_by (d.0 j) c.is_taken.result (d.1.1.0 j) (d.1.1.1.0 j) c.has_no_place.result)
    refl
