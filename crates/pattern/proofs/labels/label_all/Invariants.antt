use Rattle.std.proofs.Common.{◌≡◌, false, length}
use Rattle.pattern.proofs.Labelling.{Labelling}
use Rattle.pattern.proofs.labels.label_all.Given as goal

abbrev pub invariant-loop-i : goal.invariant-loop-i
invariant-loop-i l = (length l.labels ≡ 40) × Labelling l.clause.codes l.clause.ops l.clause.count l.labels false l.i
