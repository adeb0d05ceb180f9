use Rattle.std.proofs.Common.{◌≡◌, ℕ, ◌+◌, ap, rules}
use mir.Syntax.{w32}
use mir.Val.{to_z, of_z}
use Rattle.statement.specs.Private.Built.{dotted, place_in}
use Rattle.statement.proofs.Parts.{comparison-made}
use Rattle.statement.proofs.assembling.comparison_at.Goals as goal

pub returns : goal.returns
returns c =
    let a = c.args in
    let d = dotted a.scope.now in
    let s = a.text.now in
    let p = place_in a.scope.now in
    let l = c.operand_at-a.result in
    let r = c.operand_at-b.result in
    let e : to_z w32 (of_z w32 l.number) ≡ l.number = search rules in
    let f : to_z w32 (of_z w32 r.number) ≡ r.number = search rules in
    rw (e, f)
    (comparison-made d s p a.op a.left a.right a.marks _ _ _ _ c.operator.ensures c.operand_at-a.ensures
    (ap (λ (k : ℕ). a.marks + k) c.marks.ensures) c.operand_at-b.ensures)
