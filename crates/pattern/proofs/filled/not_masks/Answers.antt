use Rattle.std.proofs.Common.{◌≡◌, refl, rules, ap, subst, length, ◌∙◌}
use Rattle.statement.specs.declared.Condition.{Condition}
use Rattle.pattern.specs.Private.Masks.{Masked}
use Rattle.pattern.specs.Stored.{is_formed}
use Rattle.pattern.proofs.FilledCodes.{exchanged-formed, not_none, not_some}
use Rattle.pattern.proofs.filled.not_masks.Goals as goal

pub returns-then-condition-eq0 : goal.returns-then-condition-eq0
returns-then-condition-eq0 c = not_none c.args.condition.now c.if-condition-eq0.true _ refl refl

pub formed_masks-requires : goal.formed_masks-requires
formed_masks-requires c = ap is_formed c.exchanged.ensures ∙ exchanged-formed c.args.condition.now c.requires

pub returns : goal.returns
returns c =
    let s : length c.args.condition.now.steps ≡ 15 = search rules in
    not_some c.args.condition.now c.requires s c.if-condition-eq0.false _ (subst (λ (x : Condition). Masked x c.formed_masks.result) c.exchanged.ensures c.formed_masks.ensures)
