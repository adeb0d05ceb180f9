use Rattle.std.proofs.Common.{refl, ◌∙◌, leb}
use Rattle.statement.specs.Private.Built.{lowest_by, dotted, place_in, width_in, start_in, twice_in}
use Rattle.statement.proofs.Assembled.{select-made}
use Rattle.statement.proofs.Settled.{refused-is}
use Rattle.statement.proofs.build.Reading.select.Goals as goal

pub returns-in_err-refuse : goal.returns-in_err-refuse
returns-in_err-refuse c =
    let a = c.args in
    let r = a.self.now in
    let s = a.scope.now in
    let d = c.default.ensures in
    select-made (dotted s) (place_in s) (width_in s) r.text.now r.items.now r.nodes.now r.e a.table a.second (start_in s) (twice_in s) a.queries _ _ _ _ _ _ _ _
    c.listed_places-selected.ensures c.noted_condition-condition.ensures c.width.ensures c.is_twice.ensures c.start.ensures c.outer_of.ensures
    (c.in_err-refuse.ensures ∙ λ j. lowest_by (c.is_unknown.ensures j) (d.1.0 j) (d.1.1.0 j) c.is_twice.result (leb 16 (c.from.ensures j)))
    (refused-is c.from_residual.result c.in_err-refuse.field-0.0 _ c.from_residual.ensures.1)

pub returns : goal.returns
returns c =
    let a = c.args in
    let r = a.self.now in
    let s = a.scope.now in
    let d = c.default.ensures in
    select-made (dotted s) (place_in s) (width_in s) r.text.now r.items.now r.nodes.now r.e a.table a.second (start_in s) (twice_in s) a.queries _ _ _ _ _ _ _ _
    c.listed_places-selected.ensures c.noted_condition-condition.ensures c.width.ensures c.is_twice.ensures c.start.ensures c.outer_of.ensures
    (c.in_ok-refuse.ensures ∙ λ j. lowest_by (c.is_unknown.ensures j) (d.1.0 j) (d.1.1.0 j) c.is_twice.result (leb 16 (c.from.ensures j)))
    refl
