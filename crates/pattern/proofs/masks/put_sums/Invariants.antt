use Rattle.std.proofs.Common.{◌≡◌, ◌+◌, map, length, ℕ}
use lib.Seq.{paste}
use Rattle.pattern.proofs.masks.put_sums.Given as goal

abbrev pub invariant-loop-j : goal.invariant-loop-j
invariant-loop-j l = (length l.out ≡ 18) × (l.out ≡ paste l.fn.out l.at (map (λ (b : ℕ). l.mask + b) l.masks) l.j)
