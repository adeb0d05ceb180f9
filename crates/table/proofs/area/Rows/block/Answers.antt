-- They lie behind the others, and are as many as there are.
use Rattle.std.proofs.Common.{◌≡◌, ℕ, ◌+◌, ◌-◌, ◌*◌, ◌≤◌, min, length, take, drop, sym, ap, ◌∙◌, arith}
use Rattle.std.proofs.Math.Nat.{add-mul, mul-le-mul_right}
use Rattle.std.proofs.lemmas.List.{take_all, length-drop}
use Rattle.table.specs.Rows.{area_rows}
use Rattle.lists.proofs.Walks.{take_min}
use Rattle.meaning.proofs.Cells.{rows-length}
use Rattle.table.proofs.Round.{rows-late, rows-early}
use Rattle.table.proofs.area.Rows.block.Goals as goal

pub invariant_of-result : goal.invariant_of-result
invariant_of-result c =
    let r = c.args.self.now in
    let i = c.args.i in
    let l = r.cells.now in
    let n = c.min.result in
    let k : i + n ≤ r.count = omega (arith, c.min.ensures, c.from.ensures, c.requires) in
    let m : (i + n) * r.width ≤ r.count * r.width = mul-le-mul_right r.width k in
    let part : take (length l - i * r.width) (drop (i * r.width) l) ≡ drop (i * r.width) l = take_all (length l - i * r.width) (drop (i * r.width) l) (omega (arith, length-drop (i * r.width) l)) in
    record {
      inside = omega (arith, m, add-mul i n r.width, r.inside, ap length part, length-drop (i * r.width) l);
      oldest_in = omega arith;
      few = omega (arith, c.min.ensures);
    }

pub returns-clause-rows : goal.returns-clause-rows
returns-clause-rows c =
    let r = c.args.self.now in
    let i = c.args.i in
    let l = r.cells.now in
    let at : ℕ = i * r.width in
    let part : take (length l - at) (drop at l) ≡ drop at l = take_all (length l - at) (drop at l) (omega (arith, length-drop at l)) in
    let n = c.min.result in
    let k : n ≤ r.count - i = omega (arith, c.min.ensures, c.from.ensures) in
    let late = rows-late r.width i r.count l c.requires in
    let early = rows-early r.width n (r.count - i) (drop at l) k in
    let e : n ≡ min 64 (r.count - i) = omega (arith, c.min.ensures, c.from.ensures) in
    ap (area_rows r.width n) part
    ∙ sym early
    ∙ ap (λ (m : ℕ). take m (area_rows r.width (r.count - i) (drop at l))) e
    ∙ take_min 64 (r.count - i) (area_rows r.width (r.count - i) (drop at l)) (rows-length r.width (r.count - i) (drop at l))
    ∙ ap (take 64) (sym late)
