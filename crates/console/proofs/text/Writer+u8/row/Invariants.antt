use Rattle.std.proofs.Common.{drop}
use Rattle.meaning.specs.Record.{numbers_of}
use Rattle.console.specs.Printed.{row_text}
use Rattle.console.proofs.Puttings.{Left}
use Rattle.console.proofs.Shown.{values_in}
use Rattle.console.proofs.text.Writer+u8.row.Given as goal

abbrev pub invariant-loop-value : goal.invariant-loop-value
invariant-loop-value l = Left (row_text (numbers_of l.row)) l.fn.self (row_text (values_in (drop l.value-index l.values))) l.self
