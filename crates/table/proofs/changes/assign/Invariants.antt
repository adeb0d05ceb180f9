-- The settings from the index on, made on the row as it is, give what all give.
use Rattle.std.proofs.Common.{◌≡◌, drop}
use Rattle.table.proofs.Assigning.{made}
use Rattle.table.proofs.changes.assign.Given as goal

abbrev pub invariant-loop-setting : goal.invariant-loop-setting
invariant-loop-setting l = made l.values (drop l.setting-index l.settings) l.row ≡ made l.values l.settings l.fn.row
