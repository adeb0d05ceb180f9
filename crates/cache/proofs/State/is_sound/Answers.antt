-- Assumes nothing.
use mathlib.Core.Path.{sym, ap₂, ◌∙◌}
use mathlib.Core.Bool.{not}
use Prim.Native.Nat.{ℕ}
use Rattle.meaning.specs.Plain.{opening_refused}
use Rattle.cache.specs.Sound.{lengths, opening}
use borrow.Author.Tests.{not-true, not-false}
use Rattle.cache.proofs.Returns.Tested.{sound-fails, sound-rest}
use Rattle.cache.proofs.State.is_sound.Goals as goal

pub returns-then-not-sizes-counts : goal.returns-then-not-sizes-counts
returns-then-not-sizes-counts c = sound-fails c.args.self.now _ _ (c.sizes_fit-sizes.ensures ∙ ap₂ (λ (n m : ℕ). not (opening_refused (opening (lengths c.args.self.now.cells c.args.self.now.memory) n m))) c.from-count.ensures c.from-bytes.ensures) c.counts_fit-counts.ensures (not-true _ c.if-not-sizes-counts.true-raw)

pub returns-else-texts_are_sound : goal.returns-else-texts_are_sound
returns-else-texts_are_sound c =
    let s = c.args.self.now in
    let rest = sound-rest s _ _ (c.sizes_fit-sizes.ensures ∙ ap₂ (λ (n m : ℕ). not (opening_refused (opening (lengths c.args.self.now.cells c.args.self.now.memory) n m))) c.from-count.ensures c.from-bytes.ensures) c.counts_fit-counts.ensures (not-false _ c.if-not-sizes-counts.false-raw) in
    c.if-texts_are_sound.false ∙ (rw (sym c.texts_are_sound.ensures ∙ c.if-texts_are_sound.false) at rest)

pub returns-then-answers_are_sound : goal.returns-then-answers_are_sound
returns-then-answers_are_sound c =
    let s = c.args.self.now in
    let rest = sound-rest s _ _ (c.sizes_fit-sizes.ensures ∙ ap₂ (λ (n m : ℕ). not (opening_refused (opening (lengths c.args.self.now.cells c.args.self.now.memory) n m))) c.from-count.ensures c.from-bytes.ensures) c.counts_fit-counts.ensures (not-false _ c.if-not-sizes-counts.false-raw) in
    c.note_is_sound.ensures ∙ (rw (sym c.texts_are_sound.ensures ∙ c.if-texts_are_sound.true, sym c.answers_are_sound.ensures ∙ c.if-answers_are_sound.true) at rest)

pub returns-else-answers_are_sound : goal.returns-else-answers_are_sound
returns-else-answers_are_sound c =
    let s = c.args.self.now in
    let rest = sound-rest s _ _ (c.sizes_fit-sizes.ensures ∙ ap₂ (λ (n m : ℕ). not (opening_refused (opening (lengths c.args.self.now.cells c.args.self.now.memory) n m))) c.from-count.ensures c.from-bytes.ensures) c.counts_fit-counts.ensures (not-false _ c.if-not-sizes-counts.false-raw) in
    c.if-answers_are_sound.false ∙ (rw (sym c.texts_are_sound.ensures ∙ c.if-texts_are_sound.true, sym c.answers_are_sound.ensures ∙ c.if-answers_are_sound.false) at rest)
