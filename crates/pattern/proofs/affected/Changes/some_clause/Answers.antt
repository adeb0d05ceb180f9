use Rattle.std.proofs.Common.{rules, true, sym, ap, ◌∙◌, ℕ, List, Bool, tests}
use Rattle.std.proofs.lemmas.Iterator.{YieldsList-from_slice}
use Rattle.std.proofs.lemmas.Iterator.Search.{any_from_yields_List}
use Rattle.lists.specs.Lists.{any}
use Rattle.lists.proofs.Lists.{any-map}
use Rattle.lists.proofs.Chains.{any-is}
use Rattle.pattern.specs.Private.Deciding.{Literal, masks_in, clause_of, changed}
use Rattle.pattern.proofs.affected.Changes.some_clause.Goals as goal

pub returns : goal.returns
returns c =
    let a = c.args.given in
    let p : List Literal → Bool = changed c.args.width c.args.self in
    let q : ℕ → Bool = λ m. p (clause_of true a m) in
    any_from_yields_List q _ _ c.any.result c.any.ensures.ran (YieldsList-from_slice c.masks.result.now cc) (λ x b q k. search (rules, tests))
    ∙ any-is q c.masks.result.now ∙ ap (any q) c.masks.ensures ∙ sym (any-map (clause_of true a) p (masks_in a.clauses.now))
