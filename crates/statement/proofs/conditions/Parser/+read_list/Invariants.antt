-- The measure is the length of the text that is left.
use Prim.Native.Nat.{◌-◌}
use lib.ListN.{length}
use Rattle.statement.proofs.conditions.Parser.+read_list.Given as goal

abbrev pub decreases-read_list : goal.decreases-read_list
decreases-read_list l = length l.self.text.now - l.self.c.at
