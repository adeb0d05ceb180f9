use Rattle.std.proofs.Common.{◌≡◌, length, arith, rules}
use Rattle.pattern.specs.Private.Least.{rename_code}
use Rattle.pattern.proofs.Mapped.{mapped-more}
use Rattle.pattern.proofs.labels.relabel.Goals as goal

pub loop-label-preserved : goal.loop-label-preserved
loop-label-preserved c =
    let h : length c.args.labels.now ≡ 40 = search rules in
    mapped-more (rename_code c.args.from c.args.to) c.args.labels.now c.loop-label.labels c.loop-label.label-index 0 c.renamed.result (omega arith) c.loop-label.invariant c.renamed.ensures
