-- A slot list that is not sound ends it; else each held slot by itself. Assumes nothing.
use mathlib.Core.Path.{refl, sym, ◌∙◌}
use Rattle.slots.specs.Keys.{held_twice}
use borrow.Author.Tests.{not-true, not-false}
use Rattle.cache.proofs.Returns.Tested.{answers-tested, answers-past}
use Rattle.cache.proofs.State.answers_are_sound.Goals as goal

pub returns-then-not-is_sound : goal.returns-then-not-is_sound
returns-then-not-is_sound c = answers-past c.args.self.now (sym c.is_sound.ensures ∙ not-true _ c.if-not-is_sound.true-raw)

pub returns-then-fit : goal.returns-then-fit
returns-then-fit c =
    let sound = sym c.is_sound.ensures ∙ not-false _ c.if-not-is_sound.false-raw in
    rw c.if-fit.true at (answers-tested c.args.self.now c.held_fit-fit.result c.held_twice.result sound c.held_fit-fit.ensures c.held_twice.ensures)

pub returns-else-fit : goal.returns-else-fit
returns-else-fit c =
    let s = c.args.self.now in
    let sound = sym c.is_sound.ensures ∙ not-false _ c.if-not-is_sound.false-raw in
    c.if-fit.false ∙ (rw c.if-fit.false at (answers-tested s c.held_fit-fit.result (held_twice s.keys s.slots) sound c.held_fit-fit.ensures refl))
