use Rattle.std.proofs.Common.{map, ◌∙◌, rules, tests}
use Rattle.std.proofs.lemmas.Iterator.{YieldsList-from_slice}
use Rattle.std.proofs.lemmas.Iterator.Search.{all_from_yields_List}
use Rattle.lists.proofs.Chains.{all-is}
use Rattle.soundness.specs.Private.Parts.{width_of, update_at}
use Rattle.soundness.proofs.Widths.{updates-beside}
use Rattle.soundness.proofs.updates_are_sound.Goals as goal

pub returns : goal.returns
returns c =
    let p = update_at (map width_of c.args.tables.now) in
    all_from_yields_List p _ _ _ c.all.ensures.ran (YieldsList-from_slice c.args.updates.now (cc)) (λ x b q k. search (rules, tests))
    ∙ all-is p c.args.updates.now ∙ updates-beside c.args.tables.now c.args.updates.now
