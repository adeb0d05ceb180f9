-- Inside, or not.
use Rattle.std.proofs.Common.{rules, tests}
use Rattle.table.specs.Changed.{area_fits}
use Rattle.table.proofs.changes.area_fits.Goals as goal

pub returns-then-is_inside : goal.returns-then-is_inside
unfolding area_fits
returns-then-is_inside c = search (rules, tests)

pub returns-else-is_inside : goal.returns-else-is_inside
unfolding area_fits
returns-else-is_inside c = search (rules, tests)
