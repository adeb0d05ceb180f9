use Rattle.std.proofs.Common.{map}
use Rattle.pattern.specs.Private.Flat.{operand_of}
use Rattle.statement.specs.Sound.{setting_read, comparison_read}
use Rattle.pattern.proofs.Adding.{Adding}
use Rattle.pattern.proofs.joint.Joined.add.Given as goal

abbrev pub invariant-loop-c : goal.invariant-loop-c
invariant-loop-c l = Adding (operand_of l.reading.role l.reading.from (map setting_read l.reading.settings.now)) (map comparison_read l.c-items) l.fn.self.codes l.fn.self.ops l.fn.self.count l.mask l.self.codes l.self.ops l.self.count l.left l.c-index
