-- `Parser::read_value` meets its contract. Assumes nothing.
use mathlib.Core.Path.{sym, ◌∙◌}
use Rattle.statement.proofs.SentenceTokens.{value_none, value_found}
use Rattle.statement.proofs.conditions.Parser.read_value.Goals as goal

pub returns-then-not-is_value : goal.returns-then-not-is_value
returns-then-not-is_value c =
    let a = c.args in
    value_none a.self.text.now a.self.c c.next-t.result c.next-t.ensures (sym c.is_value.ensures ∙ c.if-not-is_value.true)

pub returns : goal.returns
returns c =
    let a = c.args in
    rw (c.behind.ensures, c.is_past.ensures, c.marks_of.ensures)
    (value_found a.self.text.now a.self.c c.next-t.result c.next-t.ensures c.args.self.stands (sym c.is_value.ensures ∙ c.if-not-is_value.false))
