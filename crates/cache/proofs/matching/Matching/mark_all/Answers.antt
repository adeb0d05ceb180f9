use Rattle.cache.specs.declared.matching.Marks.{Marks}
use Rattle.std.proofs.Common.{◌≡◌, ◌+◌, ◌<◌, get_or, List, sym, ap, subst, ◌∙◌, arith}
use Rattle.lists.proofs.Bools.{and_left}
use Rattle.statement.specs.declared.Query.{Query}
use Rattle.statement.specs.Compiled.{no_query}
use Rattle.cache.proofs.Returns.MarkingLoops.{Queries, queries-start, queries-yes, queries-no, queries-end, query-at, used-many}
use Rattle.cache.proofs.matching.Matching.mark_all.Goals.{then-found-q, else-found-q}
use Rattle.cache.proofs.matching.Matching.mark_all.Goals as goal

pub loop-q-init : goal.loop-q-init
loop-q-init c =
    let m = c.args.self.now in
    let s = m.state.now in
    queries-start s.keys s.slots s.queries s.query_count c.args.update.now m.values.now c.args.marks.now.all

pub loop-q-preserved : goal.loop-q-preserved
loop-q-preserved c =
    let a = c.args in
    let m = a.self.now in
    let s = m.state.now in
    let u = a.update.now in
    let us = m.values.now in
    let q = c.loop-q.q in
    let marks = c.loop-q.marks.all in
    let found = c.queries_held-found.result in
    let used = c.used_queries-queries.result.now in
    let size = c.used_queries-queries.ensures.size in
    let many = used-many s.queries _ used size m.few c.used_queries-queries.ensures.first in
    let lt : q < s.query_count = omega (arith, c.loop-q-test.true, many) in
    let at : (d : Query) → get_or used q d ≡ get_or s.queries q no_query = (λ d. ap (λ (l : List Query). get_or l q d) c.used_queries-queries.ensures.first ∙ query-at s.queries s.query_count q d size m.few lt) in
    elim c.if-found-q.branch [
      | then-found-q w ↦ subst (Queries s.keys s.slots s.queries s.query_count u us a.marks.now.all (q + 1)) (sym (ap (λ (m : Marks). m.all) w.marks-is))
          (queries-yes s.keys s.slots s.queries s.query_count u us a.marks.now.all q marks lt c.loop-q.invariant found m.few c.queries_held-found.ensures _ w.mark_query.new.marks.all (at _) (and_left _ _ w.if-found-q.true) w.mark_query.ensures)
      | else-found-q w ↦ subst (Queries s.keys s.slots s.queries s.query_count u us a.marks.now.all (q + 1)) (sym (ap (λ (m : Marks). m.all) w.marks-is))
          (queries-no s.keys s.slots s.queries s.query_count u us a.marks.now.all q marks lt c.loop-q.invariant found m.few c.queries_held-found.ensures _ c.reads-same.result (at _) c.reads-same.ensures w.if-found-q.false)
    ]

pub returns : goal.returns
returns c =
    let m = c.args.self.now in
    let s = m.state.now in
    let many = used-many s.queries _ c.used_queries-queries.result.now c.used_queries-queries.ensures.size m.few c.used_queries-queries.ensures.first in
    queries-end s.keys s.slots s.queries s.query_count c.args.update.now m.values.now c.args.marks.now.all c.loop-q.q c.loop-q.marks.all (omega (arith, c.loop-q-test.false, many)) c.loop-q.invariant
