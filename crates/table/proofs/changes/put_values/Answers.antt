-- A value.
use Rattle.std.proofs.Common.{◌≡◌, ap, ◌∙◌, rules}
use mir.Syntax.{w32}
use mir.Val.{to_z, of_z}
use Rattle.meaning.specs.Meaning.{value_of}
use Rattle.statement.specs.declared.Value.{Value}
use Rattle.statement.specs.Sound.{value_read}
use Rattle.table.proofs.Assigning.{row-put}
use Rattle.table.proofs.changes.put_values.Goals as goal

pub loop-i-preserved : goal.loop-i-preserved
loop-i-preserved c =
    let l = c.loop-i in
    let vs = c.args.values.now in
    let z : to_z w32 (of_z w32 c.value_of.result) ≡ value_of vs (value_read c.new_value.result) = search rules ∙ c.value_of.ensures in
    row-put vs c.args.settings.now _ l.i c.args.row.now l.row _ c.requires c.loop-i-test.true l.invariant (z ∙ ap (λ (v : Value). value_of vs (value_read v)) c.new_value.ensures)
