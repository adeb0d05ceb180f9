-- `sizes_fit` meets its contract: the product is worked out where both sizes are within the limits. Assumes nothing.
use mathlib.Core.Path.{◌∙◌}
use Rattle.cache.proofs.Returns.Tested.{sizes-tested, sizes-past}
use Rattle.cache.proofs.sound.sizes_fit.Goals as goal

pub returns-then-within : goal.returns-then-within
returns-then-within c = let a = c.args in sizes-tested a.cells a.memory a.slots a.bytes c.if-within.true

pub returns-else-within : goal.returns-else-within
returns-else-within c = let a = c.args in c.if-within.false ∙ sizes-past a.cells a.memory a.slots a.bytes c.if-within.false
