-- `Parser::read_operand` meets its contract. Assumes nothing.
use mathlib.Core.Path.{refl, sym, ap, ◌∙◌}
use mathlib.Core.Bool.{true}
use Rattle.lists.proofs.Bools.{and_left, and_right, and_both, clash}
use Rattle.statement.specs.Private.Reading.{is_name}
use Rattle.statement.proofs.Columns.{name-is, dotted-operand, no-single, single-side}
use Rattle.statement.proofs.Comparisons.{side-as}
use Rattle.statement.proofs.conditions.Parser.read_operand.Goals as goal

pub returns-then-is_dotted : goal.returns-then-is_dotted
returns-then-is_dotted c =
    let a = c.args in
    let s = a.self.text.now in
    let t = sym c.is_dotted.ensures ∙ c.if-is_dotted.true in
    side-as s a.first c.read_dotted.result true a.self.c.dotted (sym (and_left a.self.c.dotted (is_name a.first.kind) t))
    (λ at e. dotted-operand s at a.first e (name-is a.first.kind (and_right a.self.c.dotted (is_name a.first.kind) t)) c.read_dotted.result (c.read_dotted.ensures at e))

pub returns-then-not-is_operand : goal.returns-then-not-is_operand
returns-then-not-is_operand c =
    let a = c.args in
    λ at e.
    no-single a.self.text.now at a.first e a.self.c.dotted
    (λ x y. clash (and_both a.self.c.dotted (is_name a.first.kind) x (ap is_name y)) (sym c.is_dotted.ensures ∙ c.if-is_dotted.false))
    (sym c.is_operand.ensures ∙ c.if-not-is_operand.true)

pub returns : goal.returns
returns c =
    let a = c.args in
    λ at e.
    single-side a.self.text.now at a.first e a.self.c.dotted
    (λ x y. clash (and_both a.self.c.dotted (is_name a.first.kind) x (ap is_name y)) (sym c.is_dotted.ensures ∙ c.if-is_dotted.false))
    (sym c.is_operand.ensures ∙ c.if-not-is_operand.false)
    _
    c.is_past.ensures c.marks_of.ensures refl refl
