use Rattle.std.proofs.Common.{◌≡◌, ap, ◌∙◌, arith, rules, length, take}
use Rattle.std.proofs.lemmas.Grind.{common_steps}
use Rattle.lists.specs.Lists.{take_while}
use Rattle.lists.proofs.Runs.{take-run}
use Rattle.script.specs.Script.{is_other}
use Rattle.script.proofs.lines.split_part.Goals as goal

pub overflow_add-end : goal.overflow_add-end
overflow_add-end c =
    let within = c.find-end.ensures.1 in
    search rules

pub slice_bounds-result-end : goal.slice_bounds-result-end
slice_bounds-result-end c =
    let within = c.find-end.ensures.1 in
    grind (arith, common_steps)

pub returns-clause-part : goal.returns-clause-part
returns-clause-part c =
    let p = is_other c.args.byte in
    let e : c.find-end.result ≡ length (take_while p c.args.text.now) = omega (arith, c.find-end.ensures.0) in
    ap (λ n. take n c.args.text.now) e ∙ take-run p c.args.text.now
