use Rattle.std.proofs.Common.{length, drop}
use Rattle.console.specs.Lines.{words}
use Rattle.console.specs.Private.Parts.{values_at}
use Rattle.console.proofs.Puttings.{Left}
use Rattle.console.proofs.lines.put_values.Given as goal

abbrev pub invariant-loop-word : goal.invariant-loop-word
invariant-loop-word l = Left (values_at (drop 2 (words l.line))) l.initial.writer (values_at (drop (length l.yielded) (drop 2 (words l.line)))) l.writer
