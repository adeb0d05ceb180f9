-- Assumes nothing.
use mathlib.Core.Path.{refl, ap, ◌∙◌}
use Rattle.std.specs.Prelude.{Ok, Err}
use Rattle.statement.specs.Compiled.{compiled}
use Rattle.cache.specs.Private.Outcomes.{lent_in}
use Rattle.cache.specs.Calls.{unfit}
use Rattle.cache.specs.Gives.{add_refused}
use Rattle.table.proofs.Recording.{numbered}
use Rattle.cache.proofs.Returns.Results.{none-said}
use Rattle.cache.proofs.Returns.Checks.{refused_if, fits}
use Rattle.cache.proofs.Returns.Adding.{add-unfit, add-refused, add_done, add-place, added-exit, beside-same}
use Rattle.cache.proofs.State.add_text.Goals as goal

pub returns-in_err-check : goal.returns-in_err-check
returns-in_err-check c =
    let s = c.args.self.now in
    let t = refused_if (unfit s (lent_in c.args.lent)) 2 c.in_err-check.field-0.0 c.in_err-check.ensures in
    add-unfit s _ _ _ refl t.0 _ (added-exit c.from_residual.result c.in_err-check.field-0.0 s c.from_residual.ensures.1 ∙ ap (add_refused s) t.1)

pub returns-in_err-statement : goal.returns-in_err-statement
returns-in_err-statement c =
    let a = c.args in
    let s = a.self.now in
    let r = c.in_err-statement.field-0.0 in
    let fit = fits s (lent_in a.lent) c.in_ok-check.ensures in
    let said = c.in_err-statement.ensures ∙ beside-same s a.text.now c.used_tables-tables.result.now c.used_tables-tables.ensures.size c.used_tables-tables.ensures.first in
    let out = c.from_residual-in_err-statement in
    add-refused s (lent_in a.lent) a.text.now _ refl fit (compiled (Err r)) said (numbered r) _ (added-exit out.result r s out.ensures.1)

pub put-requires : goal.put-requires
put-requires c =
    let a = c.args in
    let s = a.self.now in
    let st = c.in_ok-statement.statement in
    let fit = fits s (lent_in a.lent) c.in_ok-check.ensures in
    let said = c.in_ok-statement.ensures ∙ beside-same s a.text.now c.used_tables-tables.result.now c.used_tables-tables.ensures.size c.used_tables-tables.ensures.first in
    add-place s (lent_in a.lent) a.text.now _ refl fit (compiled (Ok st)) said c.used_tables-tables.ensures.size (none-said st)

pub returns : goal.returns
returns c =
    let a = c.args in
    let s = a.self.now in
    let st = c.in_ok-statement.statement in
    let fit = fits s (lent_in a.lent) c.in_ok-check.ensures in
    let said = c.in_ok-statement.ensures ∙ beside-same s a.text.now c.used_tables-tables.result.now c.used_tables-tables.ensures.size c.used_tables-tables.ensures.first in
    add_done s (lent_in a.lent) a.text.now _ refl fit (compiled (Ok st)) said (none-said st) _ c.put.ensures
