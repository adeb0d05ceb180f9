-- `rows_at` meets its contract.
use borrow.Author.Rules.{rules}
use mathlib.Core.Path.{◌≡◌, sym, ap, ◌∙◌}
use mir.Syntax.{w32}
use mir.Val.{to_z, of_z}
use Rattle.std.specs.Option.{unwrap_or}
use Rattle.statement.specs.Private.Built.{size_in, rows_as}
use Rattle.statement.proofs.Values.{rows-there, no_rows}
use Rattle.statement.proofs.fetching.rows_at.Goals as goal

pub returns-in-Constant : goal.returns-in-Constant
returns-in-Constant c =
    let z = c.in-Constant.z in
    let e : to_z w32 (of_z w32 z) ≡ z = search rules in
    c.unwrap_or.ensures ∙ ap (λ o. unwrap_or o 0) (c.rows_in.ensures ∙ ap size_in e) ∙ sym (ap rows_as c.in-Constant.is) ∙ rows-there _ _ c.next.result c.next.ensures

pub returns-in_default : goal.returns-in_default
returns-in_default c = no_rows _ _ c.next.result c.next.ensures c.in_default.not-Constant
