-- The targets before `target` are led on.
use Rattle.std.proofs.Common.{◌≡◌}
use Rattle.table.proofs.Linking.{led}
use Rattle.table.proofs.rows.lead_on.Given as goal

abbrev pub invariant-loop-target : goal.invariant-loop-target
invariant-loop-target l = l.targets ≡ led l.from l.b l.fn.targets l.target-index
