use Rattle.std.proofs.Common.{false, ap, ap₂, ◌∙◌, List, Bool, replicate}
use Rattle.statement.specs.declared.Update.{Update}
use Rattle.slots.specs.Keys.{held_slots}
use Rattle.cache.specs.declared.matching.Marks.{Marks}
use Rattle.cache.specs.Private.Marks.{marked, marks_of, reached_at}
use Rattle.cache.proofs.Returns.MarkingLoops.{none-goal, both-goal, own-goal}
use Rattle.cache.proofs.matching.dropped_by.Goals.{then-is_pushing, else-is_pushing}
use Rattle.cache.proofs.matching.dropped_by.Goals as goal

pub returns-then-state-eq0 : goal.returns-then-state-eq0
returns-then-state-eq0 c =
    let a = c.args in
    let s = a.state.now in
    none-goal s.keys s.slots s.queries s.query_count a.update.now a.table.now a.start a.cells.now a.values.now c.if-state-eq0.true

pub returns : goal.returns
returns c =
    let a = c.args in
    let s = a.state.now in
    let u = a.update.now in
    let t = a.table.now in
    let us = a.values.now in
    let reached = λ (v : Update) (matched marks : List Bool). marked (reached_at s.keys s.queries t.count us v matched) (held_slots s.slots) marks in
    let first = c.mark_all.ensures ∙ ap (marks_of s.keys s.slots s.queries s.query_count u us) c.none-matched.ensures in
    c.mark_reached-2.ensures
    ∙ elim c.if-is_pushing.branch [
      | then-is_pushing w ↦
          ap₂ (reached u) (ap (λ (m : Marks). m.all) w.matched-is) w.dropped-is
          ∙ both-goal s.keys s.slots s.queries s.query_count u t a.start a.cells.now us c.mark_all.new.marks.all first _ _
          (w.mark_all-then-is_pushing.ensures ∙ ap (λ (v : Update). marks_of s.keys s.slots s.queries s.query_count v us c.mark_all.new.marks.all) w.removal-out.ensures)
          (w.mark_reached.ensures ∙ ap (λ (v : Update). reached v w.mark_all-then-is_pushing.new.marks.all (replicate 64 false)) w.removal-out.ensures)
          (rw c.is_full.ensures at w.if-is_pushing.true)
      | else-is_pushing w ↦
          ap₂ (reached u) (ap (λ (m : Marks). m.all) w.matched-is) w.dropped-is
          ∙ own-goal s.keys s.slots s.queries s.query_count u t a.start a.cells.now us c.mark_all.new.marks.all first (rw c.is_full.ensures at w.if-is_pushing.false)
    ]
