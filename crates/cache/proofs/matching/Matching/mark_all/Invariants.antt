use Rattle.cache.proofs.Returns.MarkingLoops.{Queries}
use Rattle.cache.proofs.matching.Matching.mark_all.Given as goal

abbrev pub invariant-loop-q : goal.invariant-loop-q
invariant-loop-q l =
    Queries l.self.state.now.keys l.self.state.now.slots l.self.state.now.queries l.self.state.now.query_count l.update l.self.values.now l.fn.marks.all l.q l.marks.all
