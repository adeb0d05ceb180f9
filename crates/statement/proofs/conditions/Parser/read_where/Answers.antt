-- `Parser::read_where` meets its contract. Assumes nothing.
use mathlib.Core.Path.{refl}
use Rattle.meaning.specs.Tokens.{keyword, WHERE}
use Rattle.statement.proofs.Steps.{goes, stops, stands-past}
use Rattle.statement.proofs.SentenceForms.{where-absent, where-read}
use Rattle.statement.proofs.conditions.Parser.read_where.Goals as goal

pub returns-in_default : goal.returns-in_default
returns-in_default c =
    let a = c.args in
    let s = a.self.text.now in
    where-absent s a.self.c a.nodes.now a.self.stands (stops s a.self.c.at c.next-t.result c.next-t.ensures (keyword WHERE) c.in_default.not-Where)

pub invariant_of-condition : goal.invariant_of-condition
invariant_of-condition c =
    let a = c.args in
    let s = a.self.text.now in
    let g = goes s a.self.c.at c.next-t.result c.next-t.ensures (keyword WHERE) refl c.in-Where.is in
    record { stands = stands-past a.self.c a.self.stands g }

pub returns : goal.returns
returns c =
    let a = c.args in
    let s = a.self.text.now in
    let g = goes s a.self.c.at c.next-t.result c.next-t.ensures (keyword WHERE) refl c.in-Where.is in
    where-read s a.self.c a.nodes.now c.next-t.result.next g _ _ c.read_or.ensures
