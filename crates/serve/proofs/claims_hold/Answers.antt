use Rattle.serve.proofs.Feeding.{demands}
use Rattle.serve.proofs.claims_hold.Goals as goal

pub returns : goal.returns
returns c = demands
