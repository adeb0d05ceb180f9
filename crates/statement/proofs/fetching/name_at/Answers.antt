-- `name_at` meets its contract. Assumes nothing.
use Rattle.statement.proofs.Values.{token-order}
use Rattle.statement.proofs.fetching.name_at.Goals as goal

pub name_of-requires : goal.name_of-requires
name_of-requires c = token-order _ _ _ c.next.ensures

pub returns : goal.returns
returns c = c.name_of.ensures _ c.next.ensures
