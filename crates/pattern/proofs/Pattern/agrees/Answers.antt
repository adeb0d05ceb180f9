use Rattle.std.proofs.Common.{◌∙◌, take, ℕ, ap, rules, tests}
use Rattle.std.proofs.lemmas.Iterator.{YieldsList-from_slice, YieldsList-from_zip}
use Rattle.std.proofs.lemmas.Iterator.Search.{all_from_yields_List}
use Rattle.std.specs.List.{zip}
use borrow.Author.Tests.{ne_eqb}
use Rattle.lists.proofs.Chains.{all-is}
use Rattle.pattern.proofs.Agreeing.{pair_agrees, other-count, pairs-agree, stored_is}
use Rattle.pattern.proofs.Pattern.agrees.Goals as goal

pub returns-then-values-entries : goal.returns-then-values-entries
returns-then-values-entries c =
    let values = c.args.values.now in
    let entries = c.in_use-entries.result.now in
    let e = c.in_use-entries.ensures.first ∙ ap (λ (k : ℕ). take k c.args.self.now.entries) c.from.ensures in
    all_from_yields_List pair_agrees c.all.new.self _ _ c.all.ensures.ran (YieldsList-from_zip (YieldsList-from_slice entries (cc)) (YieldsList-from_slice values (cc))) (λ x b q k. search (rules, tests))
    ∙ all-is pair_agrees (zip entries values)
    ∙ pairs-agree values entries c.if-values-entries.true
    ∙ stored_is c.args.self.now values entries e

pub returns-else-values-entries : goal.returns-else-values-entries
returns-else-values-entries c =
    let values = c.args.values.now in
    let entries = c.in_use-entries.result.now in
    let e = c.in_use-entries.ensures.first ∙ ap (λ (k : ℕ). take k c.args.self.now.entries) c.from.ensures in
    ne_eqb _ _ c.if-values-entries.false ∙ other-count values entries c.if-values-entries.false ∙ stored_is c.args.self.now values entries e
