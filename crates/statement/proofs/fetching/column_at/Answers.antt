-- `column_at` meets its contract. Assumes nothing.
use Rattle.statement.proofs.Values.{token-order}
use Rattle.statement.proofs.fetching.column_at.Goals as goal

pub column_of-requires : goal.column_of-requires
column_of-requires c = token-order _ _ _ c.next.ensures

pub returns : goal.returns
returns c = c.column_of.ensures.is _ c.next.ensures
