use Rattle.std.proofs.Common.{rules, ◌∙◌, tests}
use Rattle.std.proofs.lemmas.Iterator.{YieldsList-from_slice}
use Rattle.std.proofs.lemmas.Iterator.Search.{any_from_yields_List}
use Rattle.lists.proofs.Chains.{any-is}
use Rattle.pattern.specs.Private.Deciding.{literals_of, beside_fits}
use Rattle.pattern.proofs.literals.Conjunction.some_fits.Goals as goal

pub returns : goal.returns
returns c =
    let p = beside_fits (literals_of c.args.self) c.args.column in
    any_from_yields_List p _ _ c.any.result c.any.ensures.ran (YieldsList-from_slice c.args.tests.now cc) (λ x b q k. search (rules, tests)) ∙ any-is p c.args.tests.now
