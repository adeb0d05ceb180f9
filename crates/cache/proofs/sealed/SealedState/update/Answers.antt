-- Assumes nothing.
use Rattle.cache.proofs.Invariant.Sealed.{update-sealed}
use Rattle.cache.proofs.sealed.SealedState.update.Goals as goal

pub invariant_of-self : goal.invariant_of-self
invariant_of-self c = update-sealed _ c.self.invariant _ _ _ _ _ c.make_update.ensures
