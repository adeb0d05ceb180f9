use Rattle.std.proofs.Common.{rules, sym, ◌∙◌, tests}
use Rattle.std.proofs.lemmas.Iterator.{YieldsList-from_slice}
use Rattle.std.proofs.lemmas.Iterator.Search.{any_from_yields_List}
use Rattle.statement.specs.Sound.{comparison_read}
use Rattle.statement.specs.declared.Comparison.{Comparison}
use Rattle.pattern.specs.Private.Relevance.{tests_any}
use Rattle.lists.proofs.Chains.{any-is}
use Rattle.lists.proofs.Lists.{any-map}
use Rattle.pattern.proofs.relevance.tests.Goals as goal

pub returns : goal.returns
returns c =
    let e = any_from_yields_List (λ (x : Comparison). tests_any c.args.columns.now (comparison_read x)) _ _ c.any.result c.any.ensures.ran (YieldsList-from_slice c.args.comparisons.now cc) (λ x b q k. search (rules, tests)) in
    e ∙ any-is (λ (x : Comparison). tests_any c.args.columns.now (comparison_read x)) c.args.comparisons.now ∙ sym (any-map comparison_read (tests_any c.args.columns.now) c.args.comparisons.now)
