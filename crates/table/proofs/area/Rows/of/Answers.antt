-- Where the rows lie.
use Rattle.std.proofs.Common.{◌≡◌, ℕ, ◌+◌, ◌*◌, ◌-◌, length, take, drop, sym, ap, ap₂, ◌∙◌, arith}
use Rattle.std.proofs.lemmas.List.{take_all, length-drop}
use borrow.Author.Tests.{lt-ltb, le-ltb}
use lib.Dec.{leb, ltb}
use mathlib.Core.Bool.{true, Bool}
use Rattle.lists.specs.Lists.{turned}
use Rattle.table.specs.Evaluated.{if_so}
use Rattle.table.specs.Rows.{area_rows}
use Rattle.table.proofs.Round.{used-from}
use Rattle.table.proofs.area.Rows.of.Goals.{then-table, else-table}
use Rattle.table.proofs.area.Rows.of.Goals as goal

pub returns-clause-rows : goal.returns-clause-rows
returns-clause-rows c =
    let t = c.args.table.now in
    let cells = c.args.cells.now in
    let start = c.args.start in
    let there : take (length cells - start) (drop start cells) ≡ drop start cells = take_all _ _ (omega (arith, length-drop start cells)) in
    let k : c.if-table.result ≡ if_so (ltb t.oldest t.rows) t.oldest =
    elim c.if-table.branch [
      | then-table w ↦ w.result-is ∙ sym (ap (λ (b : Bool). if_so b t.oldest) (lt-ltb t.oldest t.rows w.if-table.true))
      | else-table w ↦ w.result-is ∙ sym (ap (λ (b : Bool). if_so b t.oldest) (le-ltb t.oldest t.rows w.if-table.false))
    ] in
    let in_cells : leb (start + t.count * t.rows) (length cells) ≡ true =
    sym (ap₂ (λ (w n : ℕ). leb (start + w * n) (length cells)) c.from-width.ensures c.from.ensures) ∙ sym c.is_inside.ensures ∙ c.if-not-is_inside.false in
    ap (λ (w : ℕ). turned c.if-table.result (area_rows w t.rows (take (length cells - start) (drop start cells)))) c.from-width.ensures
    ∙ used-from t start cells in_cells (take (length cells - start) (drop start cells)) c.if-table.result there k
