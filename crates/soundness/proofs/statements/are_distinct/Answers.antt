use Rattle.std.proofs.Common.{ℕ, take, not, refl, ap, ◌∙◌, rules, tests}
use Rattle.std.proofs.lemmas.Iterator.{YieldsList-from_slice}
use Rattle.std.proofs.lemmas.Iterator.Consumers.{YieldsList-from_enumerate}
use Rattle.std.proofs.lemmas.Iterator.Search.{any_from_yields_List}
use Rattle.lists.specs.Lists.{any}
use Rattle.lists.proofs.Chains.{eqb-turned, repeats-is}
use Rattle.statement.specs.declared.Setting.{Setting}
use Rattle.soundness.specs.Private.Parts.{same_column}
use Rattle.soundness.proofs.statements.are_distinct.Goals as goal

pub returns : goal.returns
returns c =
    let xs = c.args.settings.now in
    let before = λ (e : ℕ × Setting). any (same_column e.1) (take e.0 xs) in
    ap not
    (any_from_yields_List before _ _ c.any.result c.any.ensures.ran (YieldsList-from_enumerate (YieldsList-from_slice xs cc) cc) (λ x b q k. search (rules, tests))
    ∙ repeats-is same_column (λ s t. eqb-turned s.column t.column) before xs (λ i x. refl))
