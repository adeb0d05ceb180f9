-- Assumes nothing.
use Rattle.cache.proofs.Invariant.Sealed.{ask-sealed}
use Rattle.cache.proofs.sealed.SealedState.ask.Goals as goal

pub invariant_of-self : goal.invariant_of-self
invariant_of-self c = ask-sealed _ c.self.invariant _ _ _ _ _ _ c.answer_query.ensures
