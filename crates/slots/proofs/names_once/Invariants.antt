use mathlib.Core.Path.{◌≡◌}
use lib.ListN.{length}
use Rattle.slots.proofs.Named.{Naming}
use Rattle.slots.proofs.names_once.Given as goal

abbrev pub invariant-loop-x : goal.invariant-loop-x
invariant-loop-x l = (length l.seen ≡ 64) × Naming l.places l.seen l.x-index
