-- `name_of` meets its contract. Assumes nothing.
use mathlib.Core.Path.{◌∙◌}
use Rattle.statement.proofs.Empty.{name-empty}
use Rattle.statement.proofs.Values.{name-there, nothing-there}
use Rattle.statement.proofs.fetching.name_of.Goals as goal

pub returns-in-Name : goal.returns-in-Name
returns-in-Name c p e = c.name_from.ensures ∙ name-there _ p _ e c.in-Name.is

pub returns-in_default : goal.returns-in_default
returns-in_default c p e = name-empty c.default.result c.default.ensures ∙ nothing-there _ p _ e c.in_default.not-Name
