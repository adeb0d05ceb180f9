-- The oldest row, and its values.
use Rattle.std.proofs.Common.{◌≡◌, ap, ◌∙◌, refl, List, ℤ}
use Rattle.std.specs.Borrow.{Bor}
use Rattle.statement.proofs.Empty.{condition-empty}
use Rattle.table.specs.Changed.{oldest_row}
use Rattle.table.proofs.Removing.{oldest-there, oldest-none, removes}
use Rattle.table.proofs.changes.removal.Goals as goal
use Rattle.table.proofs.changes.removal.Goals.{then-rows-eq0, else-rows-eq0}

pub returns : goal.returns
returns c =
    let a = c.args in
    let r = c.paired-rows.result in
    let row : c.if-rows-eq0.oldest.now ≡ oldest_row a.table a.start a.cells.now =
    elim c.if-rows-eq0.branch [
      | then-rows-eq0 w ↦ ap (λ (b : Bor (List ℤ)). b.now) w.oldest-is ∙ oldest-none a.table a.start a.cells.now r c.paired-rows.ensures.rows w.if-rows-eq0.true
      | else-rows-eq0 w ↦ ap (λ (b : Bor (List ℤ)). b.now) w.oldest-is ∙ oldest-there a.table a.start a.cells.now r c.paired-rows.ensures.rows w.row-oldest.result.now w.row-oldest.ensures.row
    ] in
    removes a.table a.start a.cells.now c.if-rows-eq0.oldest.now row a.number c.constants.result c.constants.ensures _ refl _ (condition-empty c.default.result c.default.ensures)
