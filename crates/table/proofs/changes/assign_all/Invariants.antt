-- The rows before cell `at` are set.
use Rattle.std.proofs.Common.{◌-◌, true}
use Rattle.meaning.specs.Meaning.{Row}
use Rattle.table.proofs.Assigning.{made}
use Rattle.table.proofs.Updating.{Left}
use Rattle.table.proofs.changes.assign_all.Given as goal

abbrev pub invariant-loop : goal.invariant-loop
invariant-loop l = Left (λ (r : Row). true) (made l.values l.settings) l.width l.used l.fn.area l.area l.at (l.used - l.counter) l.counter
