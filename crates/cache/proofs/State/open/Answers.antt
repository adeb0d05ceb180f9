-- `State::open` meets its contract. Assumes nothing.
use Rattle.cache.proofs.Demand.{third_demand}
use Rattle.cache.proofs.State.open.Goals as goal

pub returns-clause-third_demand : goal.returns-clause-third_demand
returns-clause-third_demand c = third_demand
