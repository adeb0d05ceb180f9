-- The first byte that is the one looked for ends the part.
use Rattle.std.proofs.Common.{◌≡◌, sym, ◌∙◌, true, false, arith, rules, length}
use borrow.Author.Tests.{tests}
use Rattle.std.proofs.lemmas.Iterator.{IsFirst-from_position, YieldsList-from_slice}
use Rattle.lists.specs.Lists.{take_while}
use Rattle.lists.proofs.Runs.{take_short}
use Rattle.token.proofs.Runs.{run-first}
use Rattle.script.specs.Script.{is_other}
use Rattle.script.proofs.lines.find.Goals as goal

pub returns : goal.returns
returns c =
    let s = c.args.text.now in
    let p = is_other c.args.byte in
    let first = IsFirst-from_position _ _ _ (λ b. p b ≡ false) (λ b. p b ≡ true) c.position.ensures.ran (YieldsList-from_slice s c.iter.ensures.rest) (λ x q k. search (rules, tests)) (λ x q k. search (rules, tests)) in
    let e : c.unwrap_or.result ≡ length (take_while p s) = c.unwrap_or.ensures ∙ sym (run-first p s c.position.result first) in
    let l = take_short p s in
    (omega (arith, e), omega (arith, e, l))
