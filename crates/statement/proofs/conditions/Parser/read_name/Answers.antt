-- `Parser::read_name` meets its contract. Assumes nothing.
use Rattle.statement.proofs.SentenceTokens.{name-none, name-found}
use Rattle.statement.proofs.conditions.Parser.read_name.Goals as goal

pub returns-in_default : goal.returns-in_default
returns-in_default c =
    let a = c.args in
    name-none a.self.text.now a.self.c c.next-t.result c.next-t.ensures c.in_default.not-Name

pub returns : goal.returns
returns c =
    let a = c.args in
    rw (c.behind.ensures, c.is_past.ensures) (name-found a.self.text.now a.self.c c.next-t.result c.next-t.ensures c.args.self.stands c.in-Name.is)
