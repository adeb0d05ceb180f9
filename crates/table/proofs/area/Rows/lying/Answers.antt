-- The row, in its cells.
use Rattle.std.proofs.Common.{◌≡◌, ℕ, ◌+◌, ◌-◌, ◌*◌, take, drop, sym, ap, ◌∙◌, arith}
use Rattle.table.proofs.Round.{rows_at}
use Rattle.table.proofs.area.Rows.lying.Goals as goal

pub returns : goal.returns
returns c =
    let r = c.args.self.now in
    let at : ℕ = c.args.i * r.width in
    let e : at + r.width - at ≡ r.width = omega arith in
    ap (λ (k : ℕ). take k (drop at r.cells.now)) e ∙ sym (rows_at r.width r.count c.args.i r.cells.now c.requires)
