-- A measure is three times the length of the text that is left, and the level's rank.
use Prim.Native.Nat.{◌+◌, ◌-◌, ◌*◌}
use lib.ListN.{length}
use Rattle.statement.proofs.conditions.Nested.+read_and_read_one_read_or.Given as goal

abbrev pub decreases-read_one : goal.decreases-read_one
decreases-read_one l = 3 * (length l.self.now.p.text.now - l.self.now.p.c.at) + 1

abbrev pub decreases-read_and : goal.decreases-read_and
decreases-read_and l = 3 * (length l.self.now.p.text.now - l.self.now.p.c.at) + 2

abbrev pub decreases-read_or : goal.decreases-read_or
decreases-read_or l = 3 * (length l.self.now.p.text.now - l.self.now.p.c.at) + 3
