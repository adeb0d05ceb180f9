use Rattle.cache.proofs.Demand.{demands}
use Rattle.cache.proofs.claims_hold.Goals as goal

pub returns : goal.returns
returns c = demands
