-- A setting.
use Rattle.std.proofs.Common.{◌≡◌, ℤ, ap, ◌∙◌, replicate, pos, get_or, arith, rules}
use mir.Syntax.{w32}
use mir.Val.{to_z, of_z}
use Rattle.std.proofs.lemmas.List.{length-set}
use Rattle.statement.proofs.Empty.{setting-empty}
use Rattle.table.proofs.Removing.{writes-turn, writes-done}
use Rattle.table.proofs.changes.constants.Goals as goal

pub loop-i-preserved : goal.loop-i-preserved
loop-i-preserved c =
    let l = c.loop-i in
    let row = c.args.row.now in
    let e = c.filled-list.ensures ∙ ap (replicate 8) (setting-empty c.default.result c.default.ensures) in
    let z : to_z w32 (of_z w32 (get_or row l.i (pos 0))) ≡ get_or row l.i (pos 0) = search rules in (
      length-set l.list l.i _ ∙ l.invariant.0,
      writes-turn c.filled-list.result row e c.requires l.i l.list _ c.loop-i-test.true l.invariant.1 (ap (λ (y : ℤ). record { column = l.i; mark = 0; number = y }) z),
    )

pub returns : goal.returns
returns c =
    let e = c.filled-list.ensures ∙ ap (replicate 8) (setting-empty c.default.result c.default.ensures) in
    writes-done c.filled-list.result c.args.row.now e c.requires c.loop-i.i c.loop-i.list (omega arith) c.loop-i.invariant.1
