use Rattle.std.proofs.Common.{map, take, min, length, ℕ, refl, sym, ap, ap₂, ◌∙◌, List}
use Rattle.lists.specs.Lists.{any}
use Rattle.lists.proofs.Walks.{take_min}
use Rattle.statement.specs.Sound.{comparison_read, used_steps}
use Rattle.statement.specs.declared.Comparison.{Comparison}
use Rattle.pattern.specs.Private.Relevance.{is_among, tests_any, comparison_steps}
use Rattle.pattern.proofs.Relevant.{by-selected, by-tested}
use Rattle.pattern.proofs.relevance.Pair.touches.Goals as goal

pub returns-then-selects : goal.returns-then-selects
returns-then-selects c =
    let s = c.args.self in
    let columns = c.in_use-columns.result.now in
    let e = c.in_use-columns.ensures.first ∙ ap₂ take c.from.ensures c.columns_of-all.ensures in
    sym (by-selected s.query.now s.update.now s.from columns e (ap (any (is_among columns)) (sym c.used.ensures.are) ∙ sym c.if-selects.ensures))

pub returns : goal.returns
returns c =
    let s = c.args.self in
    let columns = c.in_use-columns.result.now in
    let used = c.used-used.result.now in
    let e = c.in_use-columns.ensures.first ∙ ap₂ take c.from.ensures c.columns_of-all.ensures in
    let n = c.min-asked.ensures ∙ ap (λ (k : ℕ). min k (length used)) c.comparison_steps.ensures in
    let t = ap (λ (k : ℕ). take k used) n ∙ take_min (comparison_steps (used_steps s.query.now.condition)) (length used) used refl in
    c.tests.ensures
    ∙ ap (λ (l : List Comparison). any (tests_any columns) (map comparison_read l)) (t ∙ ap (take (comparison_steps (used_steps s.query.now.condition))) c.used-used.ensures.are)
    ∙ sym (by-tested s.query.now s.update.now s.from columns e (ap (any (is_among columns)) (sym c.used.ensures.are) ∙ sym c.if-selects.ensures))
