-- Assumes nothing.
use Rattle.cache.proofs.Invariant.Sealed.{open-sealed}
use Rattle.cache.proofs.sealed.SealedState.open.Goals as goal

pub invariant_of-result : goal.invariant_of-result
invariant_of-result c = open-sealed _ _ _ _ _ c.open-opened.ensures.opens
