use Rattle.slots.specs.Keys.{held_slots}
use Rattle.cache.specs.Private.Marks.{reached_at}
use Rattle.cache.proofs.Returns.MarkingLoops.{Marking}
use Rattle.cache.proofs.matching.Matching.mark_reached.Given as goal

abbrev pub invariant-loop-x : goal.invariant-loop-x
invariant-loop-x l =
    let s = l.self.state.now in
    Marking (reached_at s.keys s.queries l.width l.self.values.now l.update l.matched.all) (held_slots s.slots) l.fn.marks l.x-index l.marks
