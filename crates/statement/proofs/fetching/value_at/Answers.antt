-- `value_at` meets its contract.
use borrow.Author.Rules.{rules}
use mathlib.Core.Path.{◌≡◌, sym, ap, ◌∙◌}
use mir.Syntax.{w32}
use mir.Val.{to_z, of_z}
use lib.IntN.{ℤ}
use Rattle.meaning.specs.Statement as S
use Rattle.statement.specs.Compiled.{value_struct}
use Rattle.statement.proofs.Values.{value-constant, value-mark}
use Rattle.statement.proofs.fetching.value_at.Goals as goal

pub returns-in-Some : goal.returns-in-Some
returns-in-Some c =
    let z = c.in-Some.number in
    let e : to_z w32 (of_z w32 z) ≡ z = search rules in
    ap (λ (y : ℤ). value_struct (S.constant y)) e ∙ value-constant _ _ c.next.result c.next.ensures _ z (sym c.in-Some.ensures)

pub returns-in-None : goal.returns-in-None
returns-in-None c = value-mark _ _ c.next.result c.next.ensures _ (sym c.in-None.ensures)
