-- Assumes nothing.
use mathlib.Core.Path.{ap, ◌∙◌}
use Rattle.cache.specs.Gives.{withdraw_of}
use Rattle.cache.proofs.Invariant.Sealed.{withdraw-sealed}
use Rattle.cache.proofs.sealed.SealedState.withdraw.Goals as goal

pub invariant_of-self : goal.invariant_of-self
invariant_of-self c = withdraw-sealed _ c.self.invariant c.args.cells.now c.args.memory.now _ (c.take_note.ensures ∙ ap (withdraw_of c.self.inside.state) c.«of».ensures)
