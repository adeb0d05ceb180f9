use Rattle.table.proofs.DemandTexts.{demands}
use Rattle.table.proofs.claims_hold.Goals as goal

pub returns : goal.returns
returns c = demands
