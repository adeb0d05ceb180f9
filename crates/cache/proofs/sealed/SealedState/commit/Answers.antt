-- Assumes nothing.
use Rattle.cache.proofs.Invariant.Sealed.{commit-sealed}
use Rattle.cache.proofs.sealed.SealedState.commit.Goals as goal

pub invariant_of-self : goal.invariant_of-self
invariant_of-self c = commit-sealed _ c.self.invariant _ _ _ c.make_noted.ensures
