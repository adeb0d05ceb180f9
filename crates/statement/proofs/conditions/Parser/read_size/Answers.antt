-- `Parser::read_size` meets its contract. Assumes nothing.
use mathlib.Core.Path.{sym}
use Rattle.statement.proofs.SentenceTokens.{size_none, size-found}
use Rattle.statement.proofs.conditions.Parser.read_size.Goals as goal

pub returns-in_err-ring : goal.returns-in_err-ring
returns-in_err-ring c =
    let a = c.args in
    size_none a.self.text.now a.self.c c.next-t.result c.next-t.ensures _ (sym c.in_err-ring.ensures) (cc)

pub returns : goal.returns
returns c =
    let a = c.args in
    size-found a.self.text.now a.self.c c.next-t.result c.next-t.ensures c.args.self.stands c.in_ok-ring.ring (sym c.in_ok-ring.ensures)
