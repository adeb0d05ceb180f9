use Rattle.std.proofs.Common.{false, length}
use Rattle.pattern.specs.Private.Flat.{failing, clause_at}
use Rattle.pattern.proofs.Searching.{Seeking}
use Rattle.pattern.proofs.labels.some_fails.Given as goal

abbrev pub invariant-loop-i : goal.invariant-loop-i
invariant-loop-i l = Seeking failing (clause_at l.labels l.ops (length l.ops)) false l.i
