-- Assumes nothing.
use Rattle.cache.proofs.Invariant.Sealed.{open-sealed}
use Rattle.cache.proofs.sealed.SealedState.open_in.Goals as goal

pub invariant_of-self : goal.invariant_of-self
invariant_of-self c = open-sealed _ _ _ _ _ c.open_in.ensures
