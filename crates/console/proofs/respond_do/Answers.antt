-- `respond_do` meets its contract: refused or updated. Assumes nothing.
use mathlib.Core.Path.{refl, sym, ap, ◌∙◌}
use Rattle.cache.specs.Gives.{update_gives}
use Rattle.cache.specs.Given.{updated_as}
use Rattle.meaning.specs.Call.{change}
use Rattle.table.proofs.Recording.{numbered}
use Rattle.console.proofs.Calling.{call-refused, call-done, change-is}
use Rattle.console.proofs.respond_do.Goals as goal

pub returns-in-Ok : goal.returns-in-Ok
returns-in-Ok c =
    let e = sym (ap (λ r. update_gives (updated_as r c.update.new.self) c.update.new.cells) c.in-Ok.is) ∙ c.update.ensures in
    call-done _ _ _ _ _ (change _ _) _ (change-is _ _ _ _ _ _ e) _ _ refl (c.write_updated.ensures.result, c.write_updated.ensures.text)

pub returns-in-Err : goal.returns-in-Err
returns-in-Err c =
    let e = sym (ap (λ r. update_gives (updated_as r c.update.new.self) c.update.new.cells) c.in-Err.is) ∙ c.update.ensures in
    call-refused _ _ _ _ _ (change _ _) _ (change-is _ _ _ _ _ _ e) _ _ (numbered c.in-Err.refusal) (c.write_refused.ensures.result, c.write_refused.ensures.text)
