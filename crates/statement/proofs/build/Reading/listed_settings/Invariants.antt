use Rattle.statement.proofs.Sets.{SetUp}
use Rattle.statement.proofs.build.Reading.listed_settings.Given as goal

abbrev pub invariant-loop-i : goal.invariant-loop-i
invariant-loop-i l = SetUp l.self.text.now l.self.items.now l.columns l.all l.marks l.i
