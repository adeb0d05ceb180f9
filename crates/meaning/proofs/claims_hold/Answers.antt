-- The claims and the tables, whole.
use Rattle.meaning.proofs.Demand.{demands}
use Rattle.meaning.proofs.Computed.{computed}
use Rattle.meaning.proofs.claims_hold.Goals as goal

pub returns-clause-demands : goal.returns-clause-demands
returns-clause-demands c = demands

pub returns-clause-tables : goal.returns-clause-tables
returns-clause-tables c = computed
