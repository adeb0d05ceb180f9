use Rattle.std.proofs.Common.{rules, sym, Bool, ◌∙◌, tests}
use Rattle.std.proofs.lemmas.Iterator.{YieldsList-from_slice}
use Rattle.std.proofs.lemmas.Iterator.Search.{all_from_yields_List}
use Rattle.lists.proofs.Chains.{all-is}
use Rattle.statement.proofs.Stored.{all_map}
use Rattle.pattern.specs.declared.labels.Compared.{Compared}
use Rattle.pattern.specs.Private.Deciding.{literal, fits_code}
use Rattle.pattern.proofs.literals.all_fit.Goals as goal

pub returns : goal.returns
returns c =
    let a = c.args in
    let p : Compared → Bool = λ t. fits_code a.column a.w (literal a.want t) in
    all_from_yields_List p _ _ c.all.result c.all.ensures.ran (YieldsList-from_slice a.tests.now cc) (λ x b q k. search (rules, tests))
    ∙ all-is p a.tests.now ∙ sym (all_map (literal a.want) (fits_code a.column a.w) a.tests.now)
