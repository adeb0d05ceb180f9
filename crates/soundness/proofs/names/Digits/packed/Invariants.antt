use Rattle.std.proofs.Common.{length}
use Rattle.soundness.proofs.Packed.{Packing}
use Rattle.soundness.proofs.names.Digits.packed.Given as goal

abbrev pub invariant-loop-b : goal.invariant-loop-b
invariant-loop-b l = Packing l.bytes l.code (length l.yielded)
