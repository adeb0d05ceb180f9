use Rattle.std.specs.Prelude as P
use Rattle.std.specs.Prelude.{unwrap_or}
use Rattle.std.proofs.Common.{◌≡◌, ℤ, pos, [], ◌∷◌, ◌++◌, ◌+◌, length, drop, ap, ◌∙◌, arith, rules, tests}
use mir.Syntax.{w32}
use mir.Val.{to_z, of_z}
use lib.ListN.{length-append, drop_of_length-le}
use Rattle.console.specs.Lines.{words}
use Rattle.console.specs.Private.Parts.{value_at, values_at}
use Rattle.console.specs.Private.Pieces.{Puts}
use Rattle.console.proofs.Puttings.{puts-as, left-more, left_end}
use Rattle.console.proofs.Words.{other_turn, other_end}
use Rattle.console.proofs.Commands.{word_here}
use Rattle.console.proofs.lines.put_values.Goals as goal

pub loop-word-preserved : goal.loop-word-preserved
loop-word-preserved c =
    let t = other_turn c.split.result c.args.line.now c.split.ensures.rest c.split.ensures.done c.split.ensures.closure c.into_iter-word-iterator.ensures.into_iter_gives c.skip-word-items.ensures.source c.skip-word-items.ensures.count c.loop-word.yielded _ c.loop-word.yielded_by _ _ c.in-Some.word c.in-Some.is c.next.ensures.steps (λ x b q k. search (rules, tests)) in
    let n : length (c.loop-word.yielded ++ c.in-Some.word ∷ []) ≡ length c.loop-word.yielded + 1 = length-append c.loop-word.yielded (c.in-Some.word ∷ []) in
    let z : to_z w32 (of_z w32 c.unwrap_or.result) ≡ c.unwrap_or.result = search rules in
    rw n (left-more (value_at c.in-Some.word.now ∷ []) _ (ap values_at (word_here _ _ _ t.0 t.1))
    (puts-as (ap (λ (v : ℤ). v ∷ []) (z ∙ c.unwrap_or.ensures ∙ ap (λ (o : P.Option ℤ). unwrap_or o (pos 0)) c.value_in.ensures)) c.put.ensures) c.loop-word.invariant)

pub returns : goal.returns
returns c =
    let n = (other_end c.split.result c.args.line.now c.split.ensures.rest c.split.ensures.done c.split.ensures.closure c.into_iter-word-iterator.ensures.into_iter_gives c.skip-word-items.ensures.source c.skip-word-items.ensures.count c.loop-word.yielded _ c.loop-word.yielded_by _ _ c.in-None.is c.next.ensures.steps (λ x b q k. search (rules, tests))) in
    let p : Puts c.at-writer.result (values_at (drop 2 (words c.args.line.now))) c.loop-word.writer =
    left_end (ap values_at (drop_of_length-le (drop 2 (words c.args.line.now)) (omega (arith, n)))) c.loop-word.invariant in
    search rules
