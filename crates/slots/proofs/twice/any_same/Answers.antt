-- Assumes nothing.
use Rattle.std.proofs.Common.{◌∙◌, rules, tests}
use Rattle.std.proofs.lemmas.Iterator.{YieldsList-from_slice}
use Rattle.std.proofs.lemmas.Iterator.Consumers.{YieldsList-from_enumerate}
use Rattle.std.proofs.lemmas.Iterator.Search.{any_from_yields_List}
use Rattle.slots.proofs.SlotReads.{before, repeats-is}
use Rattle.slots.proofs.twice.any_same.Goals as goal

pub returns : goal.returns
returns c =
    let keys = c.args.keys.now in
    let xs = c.args.slots.now in
    any_from_yields_List (before keys xs) _ _ c.any.result c.any.ensures.ran (YieldsList-from_enumerate (YieldsList-from_slice xs cc) cc) (λ x b q k. search (rules, tests))
    ∙ repeats-is keys xs
