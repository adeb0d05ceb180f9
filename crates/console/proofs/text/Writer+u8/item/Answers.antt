use Rattle.console.proofs.Puttings.{puts-both}
use Rattle.console.proofs.text.Writer+u8.item.Goals as goal

pub returns : goal.returns
returns c = puts-both c.put_all.ensures (puts-both c.put.ensures c.decimal.ensures)
