-- `Parser::expect` meets its contract. Assumes nothing.
use mathlib.Core.Path.{◌≡◌, sym}
use borrow.Author.Tests.{not-false}
use borrow.Author.Rules.{rules}
use Rattle.statement.proofs.Tells.{asked-same}
use Rattle.statement.proofs.SentenceTokens.{expect-none, expect-found}
use Rattle.statement.proofs.conditions.Parser.expect.Goals as goal

pub returns-then-ne : goal.returns-then-ne
returns-then-ne c =
    let a = c.args in
    expect-none a.self.text.now a.kind a.self.c c.next-t.result c.next-t.ensures (let h : c.next-t.result.kind ≡ a.kind → ⊥ = search rules in h)

pub returns : goal.returns
returns c =
    let a = c.args in
    expect-found a.self.text.now a.kind a.self.c c.next-t.result c.next-t.ensures c.args.self.stands
    (λ t f. asked-same c.next-t.result.kind a.kind t f (not-false _ (sym c.if-ne.ensures)))
