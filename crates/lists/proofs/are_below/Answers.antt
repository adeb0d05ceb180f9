use Rattle.std.proofs.Common.{◌∙◌, ℕ, Bool, ltb, rules, tests}
use Rattle.std.proofs.lemmas.Iterator.{YieldsList-from_slice}
use Rattle.std.proofs.lemmas.Iterator.Search.{all_from_yields_List}
use Rattle.lists.proofs.Chains.{all-is}
use Rattle.lists.proofs.are_below.Goals as goal

pub returns : goal.returns
returns c =
    let p : ℕ → Bool = λ i. ltb i c.args.limit in
    let xs = c.args.numbers.now in
    all_from_yields_List p _ _ c.all.result c.all.ensures.ran (YieldsList-from_slice xs cc) (λ x b q k. search (rules, tests)) ∙ all-is p xs
