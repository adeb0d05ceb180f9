use Rattle.std.proofs.Common.{◌≡◌, [], ◌∷◌, ◌++◌, ◌+◌, length, sym, ◌∙◌, rules, tests}
use lib.ListN.{length-append}
use Rattle.console.proofs.Words.{other_turn, other_end}
use Rattle.console.proofs.Commands.{counting_more, counting-stop, counting-end}
use Rattle.console.proofs.lines.count_values.Goals as goal

pub returns-in_err-_good : goal.returns-in_err-_good
returns-in_err-_good c =
    let t = other_turn c.split.result c.args.line.now c.split.ensures.rest c.split.ensures.done c.split.ensures.closure c.into_iter-word-iterator.ensures.into_iter_gives c.skip-word-items.ensures.source c.skip-word-items.ensures.count c.loop-word.yielded _ c.loop-word.yielded_by _ _ c.in-Some.word c.in-Some.is c.next.ensures.steps (λ x b q k. search (rules, tests)) in
    c.from_residual.ensures ∙ counting-stop _ _ _ c.loop-word.invariant _ t.0 t.1 (sym c.in_err-_good.was ∙ c.value_in.ensures)

pub loop-word-preserved : goal.loop-word-preserved
loop-word-preserved c =
    let t = other_turn c.split.result c.args.line.now c.split.ensures.rest c.split.ensures.done c.split.ensures.closure c.into_iter-word-iterator.ensures.into_iter_gives c.skip-word-items.ensures.source c.skip-word-items.ensures.count c.loop-word.yielded _ c.loop-word.yielded_by _ _ c.in-Some.word c.in-Some.is c.next.ensures.steps (λ x b q k. search (rules, tests)) in
    let n : length (c.loop-word.yielded ++ c.in-Some.word ∷ []) ≡ length c.loop-word.yielded + 1 = length-append c.loop-word.yielded (c.in-Some.word ∷ []) in
    rw n (counting_more _ _ _ c.loop-word.invariant _ t.0 t.1 _ (sym c.in_ok-_good.was ∙ c.value_in.ensures))

pub returns : goal.returns
returns c =
    counting-end _ _ _ c.loop-word.invariant (other_end c.split.result c.args.line.now c.split.ensures.rest c.split.ensures.done c.split.ensures.closure c.into_iter-word-iterator.ensures.into_iter_gives c.skip-word-items.ensures.source c.skip-word-items.ensures.count c.loop-word.yielded _ c.loop-word.yielded_by _ _ c.in-None.is c.next.ensures.steps (λ x b q k. search (rules, tests)))
