-- `Start::read_select` meets its contract. Assumes nothing.
use mathlib.Core.Path.{sym, ◌∙◌}
use Rattle.statement.proofs.Paired.{of-pair-form, of-single-form}
use Rattle.statement.proofs.sentences.Start.read_select.Goals as goal

pub returns-then-is_paired : goal.returns-then-is_paired
returns-then-is_paired c =
    let a = c.args in
    of-pair-form a.self.p.text.now a.self.p.c _ _ _ (sym c.is_paired.ensures ∙ c.if-is_paired.true) c.read_pair.ensures

pub returns : goal.returns
returns c =
    let a = c.args in
    of-single-form a.self.p.text.now a.self.p.c _ _ _ (sym c.is_paired.ensures ∙ c.if-is_paired.false) c.read_single.ensures
