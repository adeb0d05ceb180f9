use Rattle.std.proofs.Common.{◌≡◌, length}
use Rattle.pattern.proofs.Sums.{Rows}
use Rattle.pattern.proofs.masks.put_products.Given as goal

abbrev pub invariant-loop-mask : goal.invariant-loop-mask
invariant-loop-mask l = (length l.out ≡ 18) × Rows l.fn.out l.start l.lefts l.rights l.out l.at l.mask-index
