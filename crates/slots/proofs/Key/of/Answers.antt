-- Assumes nothing.
use Rattle.slots.proofs.KeyLaws.{key_made}
use Rattle.slots.proofs.Key.of.Goals as goal

pub returns : goal.returns
returns c = key_made _ _ _ _ c.min-n.ensures c.copy_from_slice.ensures.after
