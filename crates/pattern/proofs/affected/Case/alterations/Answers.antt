use Rattle.std.proofs.Common.{map, subst, List, ℕ}
use Rattle.meaning.specs.Statement.{Operand}
use Rattle.statement.specs.declared.Setting.{Setting}
use Rattle.statement.specs.Terms.{used_selected}
use Rattle.statement.specs.Sound.{setting_read, settings_read}
use Rattle.pattern.specs.Private.Deciding.{FilledAs, altered_tests}
use Rattle.pattern.specs.Private.Literals.{role_operand}
use Rattle.pattern.proofs.Deciding.{read-same}
use Rattle.pattern.proofs.affected.Case.alterations.Goals as goal

pub returns : goal.returns
returns c =
    let s = c.args.self in
    let e = c.filling.ensures in
    let r = c.filling.result in
    let ss = settings_read s.update.now in
    read-same (λ (f : Operand → Operand). FilledAs (altered_tests s.width (used_selected s.query.now) ss f) c.alterations.result) _ _ _ _ _ _ _ _ e.role e.settings e.given e.asked
    (subst (λ (l : List ℕ). FilledAs (altered_tests s.width l ss (role_operand r.role (map setting_read r.settings.now) r.given.now r.asked.now)) c.alterations.result) c.used.ensures.are
    (subst (λ (l : List Setting). FilledAs (altered_tests s.width c.used.result.now (map setting_read l) (role_operand r.role (map setting_read r.settings.now) r.given.now r.asked.now)) c.alterations.result)
    e.settings c.alterations.ensures))
