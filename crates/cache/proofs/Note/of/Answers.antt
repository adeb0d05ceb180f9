-- Assumes nothing.
use mathlib.Core.Path.{ap}
use Rattle.slots.specs.declared.Key.{Key}
use Rattle.slots.specs.Keys.{key_of}
use Rattle.cache.specs.Gives.{note_of}
use Rattle.cache.proofs.Note.«of».Goals as goal

pub returns : goal.returns
unfolding note_of key_of
returns c = ap (λ (k : Key). record { update = c.args.update; count = k.count; values = k.values }) c.of-key.ensures
