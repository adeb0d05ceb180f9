use Rattle.console.specs.Private.Pieces.{rows_from}
use Rattle.console.specs.Printed.{further_text}
use Rattle.console.proofs.Puttings.{Left}
use Rattle.console.proofs.text.Writer+u8.further.Given as goal

abbrev pub invariant-loop-i : goal.invariant-loop-i
invariant-loop-i l = Left (further_text (rows_from l.bytes 1)) l.fn.self (further_text (rows_from l.bytes l.i)) l.self
