use Rattle.std.proofs.Common.{◌+◌, ℕ, map, sym, ap, subst, List, arith, ◌∙◌}
use mathlib.Core.List.{map-map}
use Rattle.meaning.specs.Condition as C
use Rattle.meaning.specs.Statement.{Operand}
use Rattle.statement.specs.Compiled as Compiled
use Rattle.statement.specs.Sound.{comparison_read, setting_read, used_comparisons}
use Rattle.statement.specs.declared.Comparison.{Comparison}
use Rattle.pattern.specs.declared.filled.Filled.{Filled}
use Rattle.pattern.specs.Private.Literals.{role_operand}
use Rattle.pattern.specs.Private.Deciding.{FilledAs}
use Rattle.pattern.proofs.Deciding.{filled-none, fill-more, fill-done}
use Rattle.pattern.proofs.filled.Filling.fill.Goals as goal

pub loop-c-init : goal.loop-c-init
loop-c-init c = let e = ap (λ (l : Filled). l.count) c.none-filled.ensures in (e, filled-none c.none-filled.result e)

pub loop-c-preserved : goal.loop-c-preserved
loop-c-preserved c =
    let s = c.args.self in
    let l = c.loop-c in
    let g : Comparison → C.Comparison Operand = λ x. C.renamed (role_operand s.role (map setting_read s.settings.now) s.given.now s.asked.now) (comparison_read x) in
    let items = c.used-c-items.result.now in (
      c.push.ensures.counted ∙ ap (λ (k : ℕ). k + 1) l.invariant.0,
      fill-more g items l.c-index Compiled.no_comparison (omega arith) l.filled c.push.new.self c.test.result l.invariant.1 c.test.ensures c.push.ensures.are,
    )

pub returns : goal.returns
returns c =
    let s = c.args.self in
    let l = c.loop-c in
    let f = role_operand s.role (map setting_read s.settings.now) s.given.now s.asked.now in
    let g : Comparison → C.Comparison Operand = λ x. C.renamed f (comparison_read x) in
    let items = c.used-c-items.result.now in
    subst (λ (cs : List (C.Comparison Operand)). FilledAs cs l.filled)
    (ap (map g) c.used-c-items.ensures.are ∙ sym (map-map (C.renamed f) comparison_read (used_comparisons c.args.condition.now)))
    (fill-done g items l.c-index l.filled (omega arith) l.invariant.1)
