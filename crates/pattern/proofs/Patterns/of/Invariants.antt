use Rattle.pattern.proofs.Listed.{Listing}
use Rattle.pattern.proofs.Patterns.of.Given as goal

abbrev pub invariant-loop-i : goal.invariant-loop-i
invariant-loop-i l = Listing l.query l.update l.list.items l.list.count l.i
