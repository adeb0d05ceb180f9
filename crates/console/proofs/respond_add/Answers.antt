-- `respond_add` meets its contract: refused or added. Assumes nothing.
use mathlib.Core.Path.{refl, sym, ap, ◌∙◌}
use Rattle.cache.specs.Given.{added_as}
use Rattle.meaning.specs.Call.{add}
use Rattle.table.proofs.Recording.{numbered}
use Rattle.console.proofs.Calling.{call-refused, call-done, add_is}
use Rattle.console.proofs.respond_add.Goals as goal

pub returns-in-Ok : goal.returns-in-Ok
returns-in-Ok c =
    let e = sym (ap (λ r. added_as r c.add.new.self) c.in-Ok.is) ∙ c.add.ensures in
    call-done _ _ _ _ _ (add _) _ (add_is _ _ _ _ _ e) _ _ refl (c.write_added.ensures.result, c.write_added.ensures.text)

pub returns-in-Err : goal.returns-in-Err
returns-in-Err c =
    let e = sym (ap (λ r. added_as r c.add.new.self) c.in-Err.is) ∙ c.add.ensures in
    call-refused _ _ _ _ _ (add _) _ (add_is _ _ _ _ _ e) _ _ (numbered c.in-Err.refusal) (c.write_refused.ensures.result, c.write_refused.ensures.text)
