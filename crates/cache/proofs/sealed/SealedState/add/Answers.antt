-- Assumes nothing.
use mathlib.Core.Path.{ap, ◌∙◌}
use Rattle.meaning.specs.Plain.{Lengths}
use Rattle.cache.specs.Gives.{add_of}
use Rattle.cache.proofs.Invariant.Sealed.{add-sealed}
use Rattle.cache.proofs.sealed.SealedState.add.Goals as goal

pub invariant_of-self : goal.invariant_of-self
invariant_of-self c = add-sealed _ c.self.invariant c.args.cells.now c.args.memory.now _ _ (c.add_text.ensures ∙ ap (λ (l : Lengths). add_of c.self.inside.state l c.args.text.now) c.«of».ensures)
