use Rattle.std.proofs.Common.{◌≡◌, ◌≤◌, ◌++◌, take, drop, length}
use Rattle.pattern.specs.Private.Masks.{select}
use Rattle.pattern.proofs.filled.Filled.chosen.Given as goal

-- the comparisons before are looked at, and `left` is the mask of the others
abbrev pub invariant-loop-test : goal.invariant-loop-test
invariant-loop-test l =
    (length l.chosen.tests ≡ 8)
    × (l.chosen.count ≤ l.test-index)
    × (take l.chosen.count l.chosen.tests ++ select (drop l.test-index l.test-items) l.left ≡ select l.test-items l.mask)
