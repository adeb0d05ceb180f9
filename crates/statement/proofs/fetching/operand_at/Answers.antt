-- `operand_at` meets its contract. Assumes nothing.
use borrow.Author.Rules.{rules}
use mathlib.Core.Path.{◌≡◌, sym, ap, ◌∙◌}
use mir.Syntax.{w32}
use mir.Val.{to_z, of_z}
use lib.IntN.{ℤ}
use Rattle.meaning.specs.Statement as S
use Rattle.statement.specs.Compiled.{operand_struct}
use Rattle.statement.proofs.Values.{token-order, operand-column, operand-constant, operand-mark}
use Rattle.statement.proofs.fetching.operand_at.Goals as goal

pub column_of-i-requires : goal.column_of-i-requires
column_of-i-requires c = token-order _ _ _ c.next-t.ensures

pub returns-in-Name : goal.returns-in-Name
returns-in-Name c =
    let a = c.args in
    let n = c.next-t.ensures in
    operand-column _ _ _ n a.scope.now a.marks c.in-Name.is _ (c.column_of-i.ensures.is _ n)

pub returns-in-Some : goal.returns-in-Some
returns-in-Some c =
    let a = c.args in
    let n = c.next-t in
    let z = c.in-Some.number in
    let e : to_z w32 (of_z w32 z) ≡ z = search rules in
    ap (λ (y : ℤ). operand_struct (S.value (S.constant y))) e ∙ operand-constant _ _ n.result n.ensures a.scope.now a.marks c.in_default.not-Name z (sym c.in-Some.ensures)

pub returns-in-None : goal.returns-in-None
returns-in-None c =
    let a = c.args in
    let n = c.next-t in
    operand-mark _ _ n.result n.ensures a.scope.now a.marks c.in_default.not-Name (sym c.in-None.ensures)
