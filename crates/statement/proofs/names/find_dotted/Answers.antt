use Rattle.std.proofs.Common.{◌≡◌, ◌∙◌, ap, ap₂, ◌+◌, ◌<◌, ◌≤◌, length, arith}
use Rattle.std.proofs.lemmas.List.{length-map}
use Rattle.meaning.specs.Grammar.{Dotted}
use Rattle.statement.specs.Catalog.{name_of_struct}
use Rattle.statement.specs.Private.Built.{column_names, place_of}
use Rattle.statement.proofs.Found.{pair-first, pair-second}
use Rattle.statement.proofs.names.find_dotted.Goals as goal

pub returns-then-i-n-clause-is : goal.returns-then-i-n-clause-is
returns-then-i-n-clause-is c =
    let a = c.args in
    let x : Dotted = (name_of_struct a.table.now, name_of_struct a.name.now) in
    let k : length c.names.result.now ≡ length (column_names a.t.now) = simp length-map (ap length c.names.ensures.are) in
    let h : place_of (name_of_struct a.t.now.name) (column_names a.t.now) x < length (column_names a.t.now) = omega (arith, c.find_in-i.ensures.is, k, c.if-i-n.true) in
    c.find_in-i.ensures.is ∙ pair-first (name_of_struct a.t.now.name) (column_names a.t.now) (name_of_struct a.u.now.name) (column_names a.u.now) x h

pub returns-else-i-n-clause-is : goal.returns-else-i-n-clause-is
returns-else-i-n-clause-is c =
    let a = c.args in
    let x : Dotted = (name_of_struct a.table.now, name_of_struct a.name.now) in
    let k : length c.names.result.now ≡ length (column_names a.t.now) = simp length-map (ap length c.names.ensures.are) in
    let h : length (column_names a.t.now) ≤ place_of (name_of_struct a.t.now.name) (column_names a.t.now) x = omega (arith, c.find_in-i.ensures.is, k, c.if-i-n.false) in
    ap₂ ◌+◌ k c.find_in.ensures.is ∙ pair-second (name_of_struct a.t.now.name) (column_names a.t.now) (name_of_struct a.u.now.name) (column_names a.u.now) x h
