use Rattle.pattern.proofs.Numbering.{Setting-on}
use Rattle.pattern.proofs.joint.Reading.set.Given as goal

abbrev pub invariant-loop-item : goal.invariant-loop-item
invariant-loop-item l = Setting-on l.self.settings.now l.from l.column l.code l.item-index
