use mathlib.Core.Path.{◌≡◌}
use lib.ListN.{drop}
use Rattle.slots.specs.Private.Fingerprints.{mixed_all}
use Rattle.slots.proofs.twice.print_of.Given as goal

-- the values left are still to be mixed in
abbrev pub invariant-loop-v : goal.invariant-loop-v
invariant-loop-v l = mixed_all l.h (drop l.v-index l.values) ≡ mixed_all l.initial.h l.values
