-- Assumes nothing.
use Rattle.std.proofs.Common.{◌∙◌, rules, tests}
use Rattle.std.proofs.lemmas.Iterator.{YieldsList-from_slice}
use Rattle.std.proofs.lemmas.Iterator.Search.{all_from_yields_List}
use Rattle.cache.specs.SoundTest.{rows_fit}
use Rattle.lists.proofs.Chains.{all-is}
use Rattle.cache.proofs.sound.rows_fit.Goals as goal

pub returns : goal.returns
returns c =
    let fit = rows_fit in
    let e = all_from_yields_List fit _ _ c.all.result c.all.ensures.ran (YieldsList-from_slice c.args.tables.now (cc)) (λ x b q k. search (rules, tests)) in
    e ∙ all-is fit c.args.tables.now
