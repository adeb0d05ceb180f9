-- `State::empty` meets its contract. Assumes nothing.
use Rattle.statement.proofs.Empty.{table-empty, query-empty, update-empty}
use Rattle.cache.specs.Gives.{empty_state}
use Rattle.cache.proofs.Returns.Opening.{key-empty}
use Rattle.cache.proofs.State.empty.Goals as goal

pub returns : goal.returns
unfolding empty_state
returns c = rw (table-empty _ c.default.ensures, query-empty _ c.default-2.ensures, update-empty _ c.default-3.ensures, key-empty _ c.default-4.ensures, c.«open».ensures, c.none.ensures)
