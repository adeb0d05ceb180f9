use Rattle.std.proofs.Common.{rules, ℕ, eqb, ◌∙◌, tests}
use Rattle.std.proofs.lemmas.Iterator.{YieldsList-from_slice}
use Rattle.std.proofs.lemmas.Iterator.Search.{any_from_yields_List}
use Rattle.lists.proofs.Chains.{any-is}
use Rattle.pattern.proofs.relevance.is_among.Goals as goal

pub returns : goal.returns
returns c =
    let e = any_from_yields_List (λ (j : ℕ). eqb j c.args.column) _ _ c.any.result c.any.ensures.ran (YieldsList-from_slice c.args.columns.now cc) (λ x b q k. search (rules, tests)) in
    e ∙ any-is (λ (j : ℕ). eqb j c.args.column) c.args.columns.now
