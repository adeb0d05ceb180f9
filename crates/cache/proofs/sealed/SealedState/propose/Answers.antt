-- Assumes nothing.
use Rattle.cache.proofs.Invariant.Sealed.{propose-sealed}
use Rattle.cache.proofs.sealed.SealedState.propose.Goals as goal

pub invariant_of-self : goal.invariant_of-self
invariant_of-self c = propose-sealed _ c.self.invariant _ _ _ _ _ _ c.note_update.ensures
