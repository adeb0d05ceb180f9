-- `State::reset` meets its contract. Assumes nothing.
use Rattle.statement.proofs.Empty.{table-empty, query-empty, update-empty}
use Rattle.cache.specs.Gives.{empty_state}
use Rattle.cache.proofs.Returns.Opening.{key-empty}
use Rattle.cache.proofs.State.reset.Goals as goal

pub returns : goal.returns
unfolding empty_state
returns c = rw (table-empty _ c.default-self.ensures, query-empty _ c.default-self-2.ensures, update-empty _ c.default-self-3.ensures, key-empty _ c.default-self-4.ensures, c.open-self.ensures, c.none-self.ensures)
