use Rattle.std.proofs.Common.{map, subst, List, ℕ}
use Rattle.meaning.specs.Statement as M
use Rattle.statement.specs.declared.Setting.{Setting}
use Rattle.statement.specs.Sound.{setting_read, operand_read}
use Rattle.pattern.specs.Private.Flat.{operand_of, Coding}
use Rattle.pattern.specs.Private.Literals.{Sided}
use Rattle.pattern.specs.declared.joint.Role.{Role}
use Rattle.pattern.proofs.FilledCodes.{operand-filled}
use Rattle.pattern.proofs.filled.Filling.operand.Goals as goal

pub returns : goal.returns
returns c =
    let s = c.args.self in
    let ss = map setting_read s.settings.now in
    let o = operand_read c.args.o in
    let r = c.reading.ensures in
    subst (λ (x : M.Operand). Sided x c.filled.result) (operand-filled s.given.now s.asked.now s.role ss o)
    (c.filled.ensures.follows (operand_of s.role 0 ss o)
    (subst (λ (l : List Setting). Coding (operand_of s.role 0 (map setting_read l) o) c.operand.result) r.settings
    (subst (λ (k : ℕ). Coding (operand_of s.role k (map setting_read c.reading.result.settings.now) o) c.operand.result) r.from
    (subst (λ (x : Role). Coding (operand_of x c.reading.result.from (map setting_read c.reading.result.settings.now) o) c.operand.result) r.role
    c.operand.ensures))))
