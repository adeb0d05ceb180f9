-- The record of claims, whole.
use Rattle.answer.proofs.Demand.{demands}
use Rattle.answer.proofs.claims_hold.Goals as goal

pub returns : goal.returns
returns c = demands
