use Rattle.std.proofs.Common.{◌∙◌, Bool, ap, rules, tests}
use Rattle.std.proofs.lemmas.Iterator.{YieldsList-from_slice}
use Rattle.std.proofs.lemmas.Iterator.Search.{all_from_yields_List}
use Rattle.lists.specs.Lists.{all}
use Rattle.meaning.specs.Plain.{of_first}
use Rattle.statement.specs.Sound.{comparison_read}
use Rattle.statement.specs.declared.Comparison.{Comparison}
use Rattle.lists.proofs.Chains.{all-is}
use Rattle.statement.proofs.refusals.columns_below.Goals as goal

pub returns : goal.returns
returns c =
    let p : Comparison → Bool = λ k. of_first c.args.limit (comparison_read k) in
    let xs = c.used.result.now in
    all_from_yields_List p _ _ c.all.result c.all.ensures.ran (YieldsList-from_slice xs cc) (λ x b q k. search (rules, tests)) ∙ all-is p xs ∙ ap (all p) c.used.ensures.are
