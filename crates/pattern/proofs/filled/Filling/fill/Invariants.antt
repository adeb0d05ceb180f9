use Rattle.std.proofs.Common.{◌≡◌, map, take}
use Rattle.meaning.specs.Condition as C
use Rattle.statement.specs.Sound.{comparison_read, setting_read}
use Rattle.statement.specs.declared.Comparison.{Comparison}
use Rattle.pattern.specs.Private.Literals.{role_operand}
use Rattle.pattern.specs.Private.Deciding.{FilledAs}
use Rattle.pattern.proofs.filled.Filling.fill.Given as goal

abbrev pub invariant-loop-c : goal.invariant-loop-c
invariant-loop-c l =
    (l.filled.count ≡ l.c-index)
    × FilledAs
    (map (λ (x : Comparison). C.renamed (role_operand l.self.role (map setting_read l.self.settings.now) l.self.given.now l.self.asked.now) (comparison_read x)) (take l.c-index l.c-items))
    l.filled
