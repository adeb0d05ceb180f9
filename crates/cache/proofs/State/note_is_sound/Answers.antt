-- Assumes nothing.
use mathlib.Core.Path.{ap₂, sym, ◌∙◌}
use Rattle.cache.specs.SoundTest.{would_refuse}
use Rattle.cache.proofs.Returns.Checks.{none-noted, some-noted}
use Rattle.cache.proofs.State.note_is_sound.Goals as goal

pub returns-in-None : goal.returns-in-None
returns-in-None c = none-noted c.args.self.now (sym c.note.ensures ∙ c.in-None.is)

pub returns-in-Some : goal.returns-in-Some
returns-in-Some c =
    let s = c.args.self.now in
    c.is_ok.ensures.value ∙ some-noted s c.in-Some.note (sym c.note.ensures ∙ c.in-Some.is) c.check_number.result (c.check_number.ensures ∙ ap₂ (would_refuse s) c.from.ensures c.from-in-Some.ensures)
