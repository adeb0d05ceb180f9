-- Assumes nothing.
use mathlib.Core.Path.{sym, ◌∙◌}
use Rattle.cache.specs.Private.Outcomes.{lent_in}
use Rattle.cache.proofs.Returns.Noting.{withdraw-done, withdraw-refused}
use Rattle.cache.proofs.State.take_note.Goals as goal

pub returns-then-is_ok : goal.returns-then-is_ok
returns-then-is_ok c =
    let a = c.args in
    withdraw-done a.self.now (lent_in a.lent) _ c.check_note.result c.check_note.ensures c.map-result.result c.map-result.ensures.cases (sym c.is_ok.ensures.value ∙ c.if-is_ok.true) _ c.none-self.ensures

pub returns-else-is_ok : goal.returns-else-is_ok
returns-else-is_ok c =
    let a = c.args in
    withdraw-refused a.self.now (lent_in a.lent) _ c.check_note.result c.check_note.ensures c.map-result.result c.map-result.ensures.cases (sym c.is_ok.ensures.value ∙ c.if-is_ok.false)
