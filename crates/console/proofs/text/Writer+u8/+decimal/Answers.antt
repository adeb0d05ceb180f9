use Rattle.std.proofs.Common.{sym}
use Rattle.console.proofs.Digits.{decimal-one, decimal-more}
use Rattle.console.proofs.Puttings.{puts-as, puts-both}
use Rattle.console.proofs.text.Writer+u8.+decimal.Goals as goal
use Rattle.console.proofs.text.Writer+u8.+decimal.Goals.{then-n-ge10, else-n-ge10}

pub returns : goal.returns
returns t c = elim c.if-n-ge10.branch [
  | then-n-ge10 w ↦ puts-as (sym (decimal-more _ w.if-n-ge10.true c.ranges.n.fits)) (puts-both w.decimal.ensures (rw w.self-is at c.put.ensures))
  | else-n-ge10 w ↦ puts-as (sym (decimal-one _ w.if-n-ge10.false)) (rw w.self-is at c.put.ensures)
]
