use Rattle.std.proofs.Common.{◌+◌, get_or, ℕ, ap, subst, ◌∙◌, arith}
use Rattle.pattern.specs.Private.Flat.{Coding}
use Rattle.meaning.specs.Pattern.{of_value}
use Rattle.statement.specs.declared.Value.{Value}
use Rattle.statement.specs.Compiled.{new_value, no_setting}
use Rattle.statement.specs.Sound.{value_read}
use Rattle.pattern.proofs.Numbering.{inserted_below, inserted-there, inserted-past}
use Rattle.pattern.proofs.joint.Reading.inserted.Goals.{in-Some+in_default-get, in_default}
use Rattle.pattern.proofs.joint.Reading.inserted.Goals as goal

pub returns-in-Some-get : goal.returns-in-Some-get
returns-in-Some-get c =
    let s = c.args.self in
    let at = c.in-Some-get.ensures.lookup.3 in
    let k = c.from.ensures ∙ c.in-Some.ensures.1 in
    inserted-there s.settings.now s.from c.args.column c.value_code.result no_setting c.in-Some.ensures.0 (omega (arith, at.0, k))
    (subst (λ (v : Value). Coding (of_value (value_read v)) c.value_code.result) (c.new_value.ensures ∙ ap new_value (at.1 no_setting ∙ ap (λ (j : ℕ). get_or s.settings.now j no_setting) k)) c.value_code.ensures)

pub returns : goal.returns
returns c =
    let s = c.args.self in
    elim c.match-checked_sub.branch [
      | in-Some+in_default-get w ↦ inserted-past s.settings.now s.from c.args.column _ w.in-Some.ensures.0 (omega (arith, w.in_default-get.ensures.lookup.3, w.from.ensures, w.in-Some.ensures.1)) (omega arith) (ap (λ (k : ℕ). 4295098368 + k) c.from-2.ensures)
      | in_default w ↦ inserted_below s.settings.now s.from c.args.column _ (omega (arith, w.in_default.ensures)) (omega arith) (ap (λ (k : ℕ). 4295098368 + k) c.from-2.ensures)
    ]
