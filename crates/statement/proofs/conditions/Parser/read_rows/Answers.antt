-- `Parser::read_rows` meets its contract. Assumes nothing.
use mathlib.Core.Path.{sym}
use Rattle.statement.proofs.SentenceTokens.{rows_none, rows-found}
use Rattle.statement.proofs.conditions.Parser.read_rows.Goals as goal

pub returns-in_err-past : goal.returns-in_err-past
returns-in_err-past c =
    let a = c.args in
    rows_none a.self.text.now a.self.c c.next-t.result c.next-t.ensures _ (sym c.in_err-past.ensures) (cc)

pub returns : goal.returns
returns c =
    let a = c.args in
    rw c.behind.ensures (rows-found a.self.text.now a.self.c c.next-t.result c.next-t.ensures c.args.self.stands c.in_ok-past.past (sym c.in_ok-past.ensures))
