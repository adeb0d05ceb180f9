-- Assumes nothing.
use mathlib.Core.Path.{sym, ◌∙◌}
use Rattle.cache.proofs.Returns.Flushing.{flush-refused, flush-done}
use Rattle.cache.proofs.State.clear.Goals as goal

pub returns-then-is_ok : goal.returns-then-is_ok
returns-then-is_ok c = flush-done c.args.self.now _ c.check-result.result c.check-result.ensures (sym c.is_ok.ensures.value ∙ c.if-is_ok.true) _ c.clear-self.ensures _ c.none-self.ensures

pub returns-else-is_ok : goal.returns-else-is_ok
returns-else-is_ok c = flush-refused c.args.self.now _ c.check-result.result c.check-result.ensures (sym c.is_ok.ensures.value ∙ c.if-is_ok.false)
