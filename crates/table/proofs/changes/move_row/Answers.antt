-- A cell.
use Rattle.std.proofs.Common.{◌≡◌, ◌+◌, ◌<◌, pos, length, drop, get_or, ◌∙◌, refl, arith, rules}
use mir.Syntax.{w32}
use mir.Val.{to_z, of_z}
use Rattle.std.proofs.lemmas.List.{length-drop}
use Rattle.table.proofs.Copied.{pasted, read-ahead, paste-own}
use Rattle.table.proofs.changes.move_row.Goals as goal

pub loop-i-preserved : goal.loop-i-preserved
loop-i-preserved c =
    let a = c.args in
    let l = c.loop-i in
    let d = a.area.now in
    let z : to_z w32 (of_z w32 (get_or l.area (a.from + l.i) (pos 0))) ≡ get_or l.area (a.from + l.i) (pos 0) = search rules in
    let n : l.i < length (drop a.from d) = omega (arith, length-drop a.from d) in
    pasted d a.to (drop a.from d) l.i (pos 0) l.area (a.to + l.i) _ (omega arith) n l.invariant refl
    (z ∙ read-ahead d a.from a.to l.i (pos 0) l.area c.requires.0 (omega arith) l.invariant)

pub returns-then-from-to : goal.returns-then-from-to
returns-then-from-to c = paste-own c.args.area.now c.args.from c.args.to c.args.columns c.if-from-to.true
