use Rattle.std.proofs.Common.{◌≤◌, map, take}
use Rattle.statement.specs.Sound.{setting_read}
use Rattle.pattern.specs.Private.Literals.{role_operand}
use Rattle.pattern.specs.Private.Deciding.{FilledAs, altered_tests}
use Rattle.pattern.proofs.filled.Filling.alterations.Given as goal

abbrev pub invariant-loop-item : goal.invariant-loop-item
invariant-loop-item l =
    (l.altered.count ≤ l.item-index)
    × FilledAs
    (altered_tests l.width l.selected (map setting_read (take l.item-index l.item-items))
    (role_operand l.self.role (map setting_read l.self.settings.now) l.self.given.now l.self.asked.now))
    l.altered
