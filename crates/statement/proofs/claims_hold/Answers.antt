-- The record of claims, whole.
use Rattle.statement.proofs.Demand.{demands}
use Rattle.statement.proofs.claims_hold.Goals as goal

pub returns : goal.returns
returns c = demands
