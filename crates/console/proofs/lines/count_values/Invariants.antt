use Rattle.std.proofs.Common.{length, drop}
use Rattle.console.specs.Lines.{words}
use Rattle.console.proofs.Commands.{Counting}
use Rattle.console.proofs.lines.count_values.Given as goal

abbrev pub invariant-loop-word : goal.invariant-loop-word
invariant-loop-word l = Counting (drop 2 (words l.line)) l.count (length l.yielded)
