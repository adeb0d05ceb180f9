use Rattle.std.proofs.Common.{◌≡◌}
use Rattle.pattern.specs.Private.Least.{rename_code}
use Rattle.pattern.proofs.Mapped.{mapped}
use Rattle.pattern.proofs.labels.relabel.Given as goal

abbrev pub invariant-loop-label : goal.invariant-loop-label
invariant-loop-label l = l.labels ≡ mapped (rename_code l.from l.to) l.fn.labels l.label-index
