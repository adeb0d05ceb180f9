-- They lie first.
use Rattle.std.proofs.Common.{sym}
use Rattle.table.proofs.Round.{rows-early}
use Rattle.table.proofs.area.Rows.early.Goals as goal

pub returns : goal.returns
returns c = let r = c.args.self.now in sym (rows-early r.width r.oldest r.count r.cells.now r.oldest_in)
