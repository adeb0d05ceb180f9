-- `conditions::read_dotted` meets its contract. Assumes nothing.
use Rattle.statement.proofs.Columns.{no_table_lem, no-dot, no_column, dotted-found}
use Rattle.statement.proofs.conditions.read_dotted.Goals as goal

pub returns-in_default : goal.returns-in_default
returns-in_default c = let a = c.args in λ at e. no_table_lem a.text.now at a.first e c.in_default.not-Name

pub returns-in_default-kind : goal.returns-in_default-kind
returns-in_default-kind c = let a = c.args in λ at e. no-dot a.text.now at a.first e c.in-Name.is _ c.next-dot.ensures c.in_default-kind.not-Dot

pub returns-in_default-kind-2 : goal.returns-in_default-kind-2
returns-in_default-kind-2 c =
    let a = c.args in
    λ at e. no_column a.text.now at a.first e c.in-Name.is _ c.next-dot.ensures c.in-Dot.is _ c.next-t.ensures c.in_default-kind-2.not-Name

pub returns : goal.returns
returns c =
    let a = c.args in
    λ at e.
    dotted-found a.text.now at a.first e c.in-Name.is _ c.next-dot.ensures c.in-Dot.is _ c.next-t.ensures c.in-Name-kind.is _ _ _ c.is_past.ensures c.is_past-2.ensures
