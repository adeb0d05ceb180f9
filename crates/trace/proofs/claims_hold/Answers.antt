-- The record of claims, whole.
use Rattle.trace.proofs.Demand.{demands}
use Rattle.trace.proofs.claims_hold.Goals as goal

pub returns : goal.returns
returns c = demands
