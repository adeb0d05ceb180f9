-- `column_of` meets its contract. Assumes nothing.
use mathlib.Core.Path.{sym, ap, ◌∙◌}
use mathlib.Core.List.{List}
use Prim.Native.Nat.{ℕ}
use Rattle.token.specs.declared.Token.{Token}
use Rattle.token.specs.Tokens.{token_at}
use Rattle.statement.specs.Private.Places.{name_on}
use Rattle.statement.specs.Catalog.{name_of_struct}
use Rattle.statement.specs.Private.Built.{place_named, short_name}
use Rattle.statement.specs.declared.names.Scope.{Scope}
use Rattle.statement.specs.declared.names.Scope.TheVariants.{Two}
use Rattle.statement.proofs.Values.{name_back, column-place}
use Rattle.statement.proofs.fetching.column_of.Goals as goal

pub returns-in-One-clause-is : goal.returns-in-One-clause-is
returns-in-One-clause-is c p e =
    let a = c.args in
    let s = a.text.now in
    let n = name_of_struct c.name_of-name.result in
    c.find_column.ensures.is
    ∙ sym (ap (λ (x : Scope). place_named x n (short_name (name_on s (token_at s a.first.next).next))) c.in-One.is)
    ∙ column-place s p a.first e a.scope.now _ (c.name_of-name.ensures p e)

pub returns-in-Two-clause-is : goal.returns-in-Two-clause-is
returns-in-Two-clause-is c p e =
    let a = c.args in
    let s = a.text.now in
    let n = name_of_struct c.name_of-name.result in
    let k = c.in-Two in
    c.find_dotted.ensures.is
    ∙ ap (λ (m : List ℕ). place_named (Two k.t k.u) n m)
    (ap name_of_struct c.name_at.ensures ∙ name_back (short_name (name_on s c.next-dot.result.next)) ∙ ap (λ (t : Token). short_name (name_on s t.next)) c.next-dot.ensures)
    ∙ sym (ap (λ (x : Scope). place_named x n (short_name (name_on s (token_at s a.first.next).next))) k.is)
    ∙ column-place s p a.first e a.scope.now _ (c.name_of-name.ensures p e)
