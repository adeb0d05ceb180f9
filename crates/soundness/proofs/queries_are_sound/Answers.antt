use Rattle.std.proofs.Common.{map, ◌∙◌, rules, tests}
use Rattle.std.proofs.lemmas.Iterator.{YieldsList-from_slice}
use Rattle.std.proofs.lemmas.Iterator.Search.{all_from_yields_List}
use Rattle.lists.proofs.Chains.{all-is}
use Rattle.soundness.specs.Private.Parts.{width_of, query_at}
use Rattle.soundness.proofs.Widths.{queries-beside}
use Rattle.soundness.proofs.queries_are_sound.Goals as goal

pub returns : goal.returns
returns c =
    let p = query_at (map width_of c.args.tables.now) in
    all_from_yields_List p _ _ _ c.all.ensures.ran (YieldsList-from_slice c.args.queries.now (cc)) (λ x b q k. search (rules, tests))
    ∙ all-is p c.args.queries.now ∙ queries-beside c.args.tables.now c.args.queries.now
