use Rattle.std.proofs.Common.{◌∙◌, rules, tests}
use Rattle.std.proofs.lemmas.Iterator.{YieldsList-from_slice}
use Rattle.std.proofs.lemmas.Iterator.Search.{any_from_yields_List}
use Rattle.lists.proofs.Chains.{any-is}
use Rattle.soundness.specs.Private.Parts.{same_column}
use Rattle.soundness.proofs.statements.is_set.Goals as goal

pub returns : goal.returns
returns c =
    any_from_yields_List (same_column c.args.s.now) _ _ _ c.any.ensures.ran (YieldsList-from_slice c.args.settings.now (cc)) (λ x b q k. search (rules, tests))
    ∙ any-is (same_column c.args.s.now) c.args.settings.now
