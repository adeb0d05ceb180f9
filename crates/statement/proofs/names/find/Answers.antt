use Rattle.std.proofs.Common.{◌∙◌, rules, tests}
use Rattle.std.proofs.lemmas.Iterator.{YieldsList-from_slice}
use Rattle.std.proofs.lemmas.Iterator.Search.{position_from_yields_List}
use Rattle.meaning.specs.Names.{same_name}
use Rattle.statement.specs.declared.Name.{Name}
use Rattle.statement.specs.Catalog.{name_of_struct}
use Rattle.statement.proofs.Chains.{position-or}
use Rattle.statement.proofs.names.find.Goals as goal

pub returns-clause-is : goal.returns-clause-is
returns-clause-is c =
    let n = name_of_struct c.args.name.now in
    let xs = c.args.names.now in
    c.unwrap_or.ensures
    ∙ position-or name_of_struct n xs _ (position_from_yields_List (λ (x : Name). same_name n (name_of_struct x)) _ _ c.position.result c.position.ensures.ran (YieldsList-from_slice xs cc) (λ x b q k. search (rules, tests)))
