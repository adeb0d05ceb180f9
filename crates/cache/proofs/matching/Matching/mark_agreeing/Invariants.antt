use Rattle.slots.specs.Keys.{held_slots}
use Rattle.cache.specs.Private.Marks.{agrees_at}
use Rattle.cache.proofs.Returns.MarkingLoops.{Marking}
use Rattle.cache.proofs.matching.Matching.mark_agreeing.Given as goal

abbrev pub invariant-loop-x : goal.invariant-loop-x
invariant-loop-x l = Marking (agrees_at l.self.state.now.keys l.q l.p) (held_slots l.self.state.now.slots) l.fn.marks.all l.x-index l.marks.all
