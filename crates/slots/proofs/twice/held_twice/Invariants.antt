use mathlib.Core.Path.{◌≡◌}
use lib.ListN.{length}
use Rattle.slots.specs.Private.Fingerprints.{slot_print}
use Rattle.slots.proofs.Noted.{Noted}
use Rattle.slots.proofs.twice.held_twice.Given as goal

abbrev pub invariant-loop-i : goal.invariant-loop-i
invariant-loop-i l = (length l.prints ≡ 64) × (length l.seen ≡ 1024) × Noted (slot_print l.keys) l.held l.prints l.seen l.i
