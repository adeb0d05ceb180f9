-- Assumes nothing.
use mathlib.Core.Path.{ap, ◌∙◌}
use Rattle.cache.specs.Gives.{flush_of}
use Rattle.cache.proofs.Invariant.Sealed.{flush-sealed}
use Rattle.cache.proofs.sealed.SealedState.flush.Goals as goal

pub invariant_of-self : goal.invariant_of-self
invariant_of-self c = flush-sealed _ c.self.invariant c.args.cells.now c.args.memory.now _ (c.clear.ensures ∙ ap (flush_of c.self.inside.state) c.«of».ensures)
