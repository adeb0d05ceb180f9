use Rattle.std.proofs.Common.{◌∙◌, rules, tests}
use Rattle.std.proofs.lemmas.Iterator.{YieldsList-from_slice}
use Rattle.std.proofs.lemmas.Iterator.Consumers.{YieldsList-from_enumerate}
use Rattle.std.proofs.lemmas.Iterator.Search.{any_from_yields_List}
use Rattle.statement.proofs.Found.{before, repeats-is}
use Rattle.statement.proofs.names.is_repeated.Goals as goal

pub returns : goal.returns
returns c =
    let xs = c.args.names.now in
    any_from_yields_List (before xs) _ _ c.any.result c.any.ensures.ran (YieldsList-from_enumerate (YieldsList-from_slice xs cc) cc) (λ x b q k. search (rules, tests))
    ∙ repeats-is xs
