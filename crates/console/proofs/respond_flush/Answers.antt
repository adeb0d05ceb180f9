-- `respond_flush` meets its contract: refused or flushed. Assumes nothing.
use mathlib.Core.Path.{refl, sym, ap, ◌∙◌}
use Rattle.cache.specs.Given.{flushed_as}
use Rattle.meaning.specs.Call.{flush}
use Rattle.table.proofs.Recording.{numbered}
use Rattle.console.proofs.Calling.{call-refused, call-done, flush-is}
use Rattle.console.proofs.respond_flush.Goals as goal

pub returns-in-Ok : goal.returns-in-Ok
returns-in-Ok c =
    let e = sym (ap (λ r. flushed_as r c.flush.new.self) c.in-Ok.is) ∙ c.flush.ensures in
    call-done _ _ _ _ _ flush _ (flush-is _ _ _ _ e) _ _ refl (c.write_flushed.ensures.result, c.write_flushed.ensures.text)

pub returns-in-Err : goal.returns-in-Err
returns-in-Err c =
    let e = sym (ap (λ r. flushed_as r c.flush.new.self) c.in-Err.is) ∙ c.flush.ensures in
    call-refused _ _ _ _ _ flush _ (flush-is _ _ _ _ e) _ _ (numbered c.in-Err.refusal) (c.write_refused.ensures.result, c.write_refused.ensures.text)
