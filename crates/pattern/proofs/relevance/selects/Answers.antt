use Rattle.std.proofs.Common.{rules, ◌∙◌, tests}
use Rattle.std.proofs.lemmas.Iterator.{YieldsList-from_slice}
use Rattle.std.proofs.lemmas.Iterator.Search.{any_from_yields_List}
use Rattle.pattern.specs.Private.Relevance.{is_among}
use Rattle.lists.proofs.Chains.{any-is}
use Rattle.pattern.proofs.relevance.selects.Goals as goal

pub returns : goal.returns
returns c =
    let e = any_from_yields_List (is_among c.args.columns.now) _ _ c.any.result c.any.ensures.ran (YieldsList-from_slice c.args.selected.now cc) (λ x b q k. search (rules, tests)) in
    e ∙ any-is (is_among c.args.columns.now) c.args.selected.now
