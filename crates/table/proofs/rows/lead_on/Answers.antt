-- A target that led to `from`, and any other.
use Rattle.std.proofs.Common.{◌∙◌}
use Rattle.std.proofs.lemmas.List.{set-get_or}
use Rattle.table.proofs.Linking.{led-met, led-stay}
use Rattle.table.proofs.rows.lead_on.Goals.{then-target-from, else-target-from}
use Rattle.table.proofs.rows.lead_on.Goals as goal

pub loop-target-preserved : goal.loop-target-preserved
loop-target-preserved c =
    let a = c.args in
    let l = c.loop-target in
    elim c.if-target-from.branch [
      | then-target-from w ↦ w.targets-is ∙ led-met a.from a.b a.targets.now l.targets l.target-index c.loop-target-test.true l.invariant w.if-target-from.true
      | else-target-from w ↦ w.targets-is ∙ set-get_or l.targets l.target-index 0 ∙ led-stay a.from a.b a.targets.now l.targets l.target-index c.loop-target-test.true l.invariant w.if-target-from.false
    ]
