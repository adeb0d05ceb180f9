use Rattle.cache.specs.declared.matching.Marks.{Marks}
use Rattle.std.proofs.Common.{◌+◌, ◌<◌, sym, ap, subst, ◌∙◌, arith}
use Rattle.slots.specs.Keys.{held_slots}
use Rattle.cache.specs.Private.Marks.{agrees_at, marked}
use Rattle.pattern.specs.declared.Pattern.{Pattern}
use Rattle.pattern.specs.Stored.{clause_total}
use Rattle.cache.proofs.Returns.MarkingLoops.{Clauses, clauses-more, clauses-stay, clauses-end}
use Rattle.cache.proofs.matching.Matching.mark_query.Goals.{in-Some, in_default}
use Rattle.cache.proofs.matching.Matching.mark_query.Goals as goal

pub loop-i-preserved : goal.loop-i-preserved
loop-i-preserved c =
    let a = c.args in
    let s = a.self.now.state.now in
    let h = held_slots s.slots in
    let i = c.loop-i.i in
    let u = a.update.now in
    let us = a.self.now.values.now in
    let q = a.query.now in
    let next = Clauses s.keys h a.q q u us a.marks.now.all (i + 1) in
    let lt : i < clause_total q u = omega (arith, c.clause_total-i-end.ensures) in
    elim c.match-clause_pattern.branch [
      | in-Some w ↦ subst next (sym (ap (λ (m : Marks). m.all) w.marks-is)) (clauses-more s.keys h a.q q u us a.marks.now.all i c.loop-i.marks.all lt c.loop-i.invariant w.in-Some.p w.mark_agreeing.new.marks.all (sym w.in-Some.ensures)
          (w.mark_agreeing.ensures ∙ ap (λ (f : Pattern). marked (agrees_at s.keys a.q f) h c.loop-i.marks.all) w.filled.ensures))
      | in_default w ↦ subst next (sym (ap (λ (m : Marks). m.all) w.marks-is)) (clauses-stay s.keys h a.q q u us a.marks.now.all i c.loop-i.marks.all lt c.loop-i.invariant (sym w.in_default.ensures))
    ]

pub returns : goal.returns
returns c =
    let a = c.args in
    let s = a.self.now.state.now in
    clauses-end s.keys (held_slots s.slots) a.q a.query.now a.update.now a.self.now.values.now a.marks.now.all c.loop-i.i c.loop-i.marks.all (omega (arith, c.clause_total-i-end.ensures)) c.loop-i.invariant
