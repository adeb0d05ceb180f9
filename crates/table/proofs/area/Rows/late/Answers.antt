-- They lie behind the others.
use Rattle.std.proofs.Common.{◌≡◌, ℕ, ◌-◌, ◌*◌, length, take, drop, sym, ap, ◌∙◌, arith}
use Rattle.std.proofs.lemmas.List.{take_all, length-drop}
use Rattle.table.specs.Rows.{area_rows}
use Rattle.table.proofs.Round.{rows-late}
use Rattle.table.proofs.area.Rows.late.Goals as goal

pub returns : goal.returns
returns c =
    let r = c.args.self.now in
    let l = r.cells.now in
    let at : ℕ = c.from.result * r.width in
    let part : take (length l - at) (drop at l) ≡ drop at l = take_all (length l - at) (drop at l) (omega (arith, length-drop at l)) in
    ap (area_rows r.width (r.count - r.oldest)) (part ∙ ap (λ (k : ℕ). drop (k * r.width) l) c.from.ensures) ∙ sym (rows-late r.width r.oldest r.count l r.oldest_in)
