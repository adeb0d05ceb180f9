-- Assumes nothing.
use Rattle.slots.proofs.Laws.{clear-is}
use Rattle.slots.proofs.SlotList.clear.Goals as goal

pub returns : goal.returns
returns c = clear-is c.args.self
