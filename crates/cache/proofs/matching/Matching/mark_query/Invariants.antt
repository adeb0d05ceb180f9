use Rattle.slots.specs.Keys.{held_slots}
use Rattle.cache.proofs.Returns.MarkingLoops.{Clauses}
use Rattle.cache.proofs.matching.Matching.mark_query.Given as goal

abbrev pub invariant-loop-i : goal.invariant-loop-i
invariant-loop-i l = Clauses l.self.state.now.keys (held_slots l.self.state.now.slots) l.q l.query l.update l.self.values.now l.fn.marks.all l.i l.marks.all
