use Rattle.console.proofs.Demand.{demands}
use Rattle.console.proofs.claims_hold.Goals as goal

pub returns : goal.returns
returns c = demands
