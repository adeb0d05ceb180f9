-- Every call on a sound state, a question whose answer is kept aside, gets what it gets from the plain store that the state stands for, and leaves what stands for what
-- that store is then. Assumes nothing.
use mathlib.Core.Logic.{inl, inr}
use Rattle.meaning.specs.Call.{add, ask, change, flush, propose, commit, withdraw}
use Rattle.cache.specs.Demand.{DoesAsPlain}
use Rattle.cache.proofs.Refinement.Adding.{add_same}
use Rattle.cache.proofs.Refinement.Asking.{ask-same, ask-refused-same}
use Rattle.cache.proofs.Refinement.Updating.{update_same}
use Rattle.cache.proofs.Refinement.Proposing.{flush-same, propose-same, commit-same, withdraw-same}

pub does_as_plain : DoesAsPlain
does_as_plain s (add text) p T h m a = add_same s p T h m text
does_as_plain s (ask k buffer) p T h m (inl a) = ask-same s p T h m k buffer a
does_as_plain s (ask k buffer) p T h m (inr (a, b)) = ask-refused-same s p T h m k buffer a b
does_as_plain s (change n us) p T h m a = update_same s p T h m n us
does_as_plain s flush p T h m a = flush-same s p h m
does_as_plain s (propose n us) p T h m a = propose-same s p T h m n us
does_as_plain s commit p T h m a = commit-same s p T h m
does_as_plain s withdraw p T h m a = withdraw-same s p h m
