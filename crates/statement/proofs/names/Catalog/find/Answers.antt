use Rattle.std.proofs.Common.{◌∙◌, sym, rules, tests}
use Rattle.std.proofs.lemmas.Iterator.{YieldsList-from_slice}
use Rattle.std.proofs.lemmas.Iterator.Search.{position_from_yields_List}
use Rattle.meaning.specs.Names.{same_name}
use Rattle.statement.specs.declared.Table.{Table}
use Rattle.statement.specs.Catalog.{name_of_struct}
use Rattle.statement.proofs.Found.{number-of, none-found}
use Rattle.statement.proofs.names.Catalog.find.Goals as goal

pub returns : goal.returns
returns c =
    let n = name_of_struct c.args.name.now in
    let ts = c.args.self.now.tables.now in
    (sym (number-of n ts _ (position_from_yields_List (λ (t : Table). same_name n (name_of_struct t.name)) _ _ c.position.result c.position.ensures.ran (YieldsList-from_slice ts cc) (λ x b q k. search (rules, tests)))) ∙ c.in_ok-i.was, λ d. search rules)

pub returns-in_err-i : goal.returns-in_err-i
returns-in_err-i c =
    let n = name_of_struct c.args.name.now in
    let ts = c.args.self.now.tables.now in
    none-found n ts _ c.from_residual.ensures
    (sym (number-of n ts _ (position_from_yields_List (λ (t : Table). same_name n (name_of_struct t.name)) _ _ c.position.result c.position.ensures.ran (YieldsList-from_slice ts cc) (λ x b q k. search (rules, tests)))) ∙ c.in_err-i.was)
