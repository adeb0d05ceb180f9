use Rattle.slots.specs.Keys.{held_slots}
use Rattle.cache.proofs.Returns.MarkingLoops.{Finding}
use Rattle.cache.proofs.matching.Matching.queries_held.Given as goal

abbrev pub invariant-loop-x : goal.invariant-loop-x
invariant-loop-x l = Finding l.self.state.now.keys (held_slots l.self.state.now.slots) l.x-index l.found
