-- The row, in its cells.
use Rattle.std.proofs.Common.{◌≡◌, ℕ, ◌+◌, ◌-◌, ◌*◌, take, drop, sym, ap, ◌∙◌, arith}
use Rattle.table.proofs.Round.{row-round}
use Rattle.table.proofs.area.Rows.row.Goals as goal

pub returns-clause-row : goal.returns-clause-row
returns-clause-row c =
    let r = c.args.self.now in
    let at : ℕ = c.place.result * r.width in
    let e : at + r.width - at ≡ r.width = omega arith in
    ap (λ (k : ℕ). take k (drop at r.cells.now)) e
    ∙ ap (λ (k : ℕ). take r.width (drop (k * r.width) r.cells.now)) c.place.ensures.place
    ∙ sym (row-round r.width r.oldest r.count c.args.i r.cells.now (omega (arith, r.oldest_in)) (omega (arith, c.requires)))
