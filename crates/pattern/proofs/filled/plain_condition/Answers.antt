use Rattle.std.proofs.Common.{rules, sym, ap, ◌≡◌, ◌∙◌, tests}
use Rattle.std.proofs.lemmas.Iterator.{YieldsList-from_slice}
use Rattle.std.proofs.lemmas.Iterator.Search.{all_from_yields_List}
use Rattle.statement.specs.Sound.{comparison_read, used_comparisons}
use Rattle.statement.specs.declared.Comparison.{Comparison}
use Rattle.statement.proofs.Stored.{all_map}
use Rattle.lists.specs.Lists.{all}
use Rattle.lists.proofs.Chains.{all-is}
use Rattle.pattern.specs.Stored.{is_plain, plain_condition}
use Rattle.pattern.proofs.FilledCodes.{plain-read, plain-apart, plain-unformed, none-found}
use Rattle.pattern.proofs.filled.plain_condition.Goals as goal

pub returns-then-is_formed : goal.returns-then-is_formed
returns-then-is_formed c =
    let d = c.args.condition.now in
    let f = λ (x : Comparison). is_plain c.args.width (comparison_read x) in
    let formed = c.is_formed.ensures in
    let e : c.all.result ≡ plain_condition c.args.width d =
    all_from_yields_List f _ _ c.all.result c.all.ensures.ran (YieldsList-from_slice c.used.result.now cc) (λ x b q k. search (rules, tests))
    ∙ all-is f c.used.result.now
    ∙ ap (all f) c.used.ensures.are
    ∙ sym (all_map comparison_read (is_plain c.args.width) (used_comparisons d))
    ∙ sym (plain-read d formed.steps c.used.ensures.size c.args.width (sym formed.formed ∙ c.if-is_formed.true)) in
    record { plain = e; apart = λ h. plain-apart d formed.steps c.used.ensures.size c.args.width (sym e ∙ h) }

pub returns-else-is_formed : goal.returns-else-is_formed
returns-else-is_formed c =
    record {
      plain = c.if-is_formed.false ∙ sym (plain-unformed c.args.width c.args.condition.now (sym c.is_formed.ensures.formed ∙ c.if-is_formed.false));
      apart = none-found _ c.if-is_formed.false;
    }
