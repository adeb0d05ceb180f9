use Rattle.statement.proofs.Filled.{Filled}
use Rattle.statement.proofs.fetching.placed.Given as goal

abbrev pub invariant-loop-i : goal.invariant-loop-i
invariant-loop-i g l = Filled g.made g.row.N l.fn.blank l.items l.all l.i
