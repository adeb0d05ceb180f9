use Rattle.std.proofs.Common.{sym, ap, ◌∙◌, length-set, arith}
use Rattle.soundness.specs.Private.Parts.{some_if}
use Rattle.soundness.proofs.Tests.{some-yes}
use Rattle.soundness.proofs.Codes.{noted-more}
use Rattle.soundness.proofs.names.Digits.are_apart.Goals as goal

pub loop-i-preserved : goal.loop-i-preserved
loop-i-preserved g c =
    let l = c.loop-i in
    let z = c.index-items-i.result in
    let told = c.requires.1.1.1.1 _ _ _ c.code.ensures ∙ ap (λ (y : g.row.T.Denot). some_if (g.means.0 y) (g.means.1 y)) c.index-items-i.is in (
      simp length-set l.invariant.0,
      noted-more g.means.1 g.means.0 c.args.items.now l.codes l.same l.i z l.invariant.1 c.loop-i-test.true c.in-Some.number c.contains-same.result (omega arith)
          (some-yes _ _ _ (sym c.in-Some.is ∙ told)) c.contains-same.ensures.value,
    )
