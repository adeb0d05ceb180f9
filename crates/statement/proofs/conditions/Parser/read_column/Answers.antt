-- `Parser::read_column` meets its contract. Assumes nothing.
use Rattle.statement.proofs.SentenceColumns.{column-none, column-found}
use Rattle.statement.proofs.conditions.Parser.read_column.Goals as goal

pub returns-in_err-d : goal.returns-in_err-d
returns-in_err-d c =
    let a = c.args in
    column-none a.self.text.now a.self.c (c.in_err-d.ensures a.self.c.at c.next.ensures) _ (cc)

pub returns : goal.returns
returns c =
    let a = c.args in
    rw c.behind.ensures (column-found a.self.text.now a.self.c c.in_ok-d.d (c.in_ok-d.ensures a.self.c.at c.next.ensures) c.args.self.stands)
