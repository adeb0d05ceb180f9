-- The first byte that does not pass ends the run.
use Rattle.std.proofs.Common.{◌≡◌, sym, ap, ◌∙◌, true, false, ◌-◌, arith, rules, length, take, drop, length-drop}
use borrow.Author.Tests.{tests}
use Rattle.std.specs.Option.{unwrap_or}
use Rattle.std.proofs.lemmas.Grind.{common_steps}
use Rattle.std.proofs.lemmas.Iterator.{IsFirst-from_position, YieldsList-from_slice}
use Rattle.lists.specs.Lists.{take_while}
use Rattle.lists.proofs.Runs.{take_short}
use Rattle.token.proofs.Runs.{run-first}
use Rattle.token.proofs.run_end.Goals as goal

pub returns : goal.returns
returns g c =
    let s = drop c.args.at c.args.text.now in
    let r : take (length c.args.text.now - c.args.at) s ≡ s = grind (arith, common_steps) in
    let first = IsFirst-from_position _ _ _ (λ b. g.test b ≡ false) (λ b. g.test b ≡ true) c.position.ensures.ran (YieldsList-from_slice s (c.iter.ensures.rest ∙ r)) (λ x q k. search (rules, tests)) (λ x q k. search (rules, tests)) in
    let e : c.unwrap_or.result ≡ length (take_while g.test s) = c.unwrap_or.ensures ∙ ap (λ u. unwrap_or c.position.result (length u)) r ∙ sym (run-first g.test s c.position.result first) in
    let l = take_short g.test s in
    let n = length-drop c.args.at c.args.text.now in
    (omega arith, omega arith)
