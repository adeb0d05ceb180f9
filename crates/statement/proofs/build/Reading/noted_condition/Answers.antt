use Rattle.std.proofs.Common.{◌∙◌, ap, replicate, ◌+◌, ◌∷◌, drop}
use Rattle.statement.specs.declared.conditions.Node.{Node}
use Rattle.statement.specs.Private.Built.{dotted, place_in}
use Rattle.statement.proofs.Empty.{comparison-empty}
use Rattle.statement.proofs.Filled.{left-cons}
use Rattle.statement.proofs.Resolving.{resolving-start, resolving-more, resolving-pass, resolving-as, resolving-end}
use Rattle.statement.proofs.build.Reading.noted_condition.Goals as goal
use Rattle.statement.proofs.build.Reading.noted_condition.Goals.{in-Comparison, in_default}

pub loop-node-init : goal.loop-node-init
loop-node-init c = resolving-start _ _ _ _ _ _ (ap (replicate 8) (comparison-empty c.default-comparisons.result c.default-comparisons.ensures)) (c.args.self.now.fits.comparisons (dotted c.args.scope.now))

pub loop-node-preserved : goal.loop-node-preserved
loop-node-preserved c =
    let a = c.args in
    let l = c.loop-node in
    let s = a.self.now.text.now in
    let ns = a.self.now.nodes.now in
    let d = dotted a.scope.now in
    let p = place_in a.scope.now in
    let q = left-cons ns l.node-index _ c.loop-node-test.true in
    elim c.match-node.branch [
      | in-Comparison w ↦ resolving-as d s ns p a.marks w.comparisons-is w.found-is w.m-is
          (resolving-more d s ns p a.marks l.comparisons l.found l.m l.node-index l.invariant _ _ _ _ (q ∙ ap (λ (x : Node). x ∷ drop (l.node-index + 1) ns) w.in-Comparison.is)
          w.comparison_at-c.result w.marks-m.result w.comparison_at-c.ensures w.marks-m.ensures)
      | in_default w ↦ resolving-as d s ns p a.marks w.comparisons-is w.found-is w.m-is
          (resolving-pass d s ns p a.marks l.comparisons l.found l.m l.node-index l.invariant _ q w.in_default.not-Comparison)
    ]

pub returns : goal.returns
returns c =
    let a = c.args in
    let l = c.loop-node in
    resolving-end (dotted a.scope.now) a.self.now.text.now a.self.now.nodes.now (place_in a.scope.now) a.marks _ _ _ l.node-index _ c.loop-node-test.false l.invariant c.placed.ensures
