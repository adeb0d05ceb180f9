use Rattle.std.proofs.Common.{◌≡◌, length}
use Rattle.soundness.proofs.Codes.{Noted}
use Rattle.soundness.proofs.names.Digits.are_apart.Given as goal

abbrev pub invariant-loop-i : goal.invariant-loop-i
invariant-loop-i g l = (length l.codes ≡ 8) × Noted g.means.1 g.means.0 l.items l.codes l.same l.i
