-- A row is in front of those behind it.
use Rattle.std.proofs.Common.{◌≡◌, ◌≤◌, ◌<◌, ◌+◌, ◌-◌, length, map, drop, sym, ap, ◌∙◌, arith}
use Rattle.std.proofs.lemmas.List.{drop_all}
use Rattle.std.specs.Simd.Lanes.{mask_l}
use Rattle.table.specs.Private.Scanned.{passes_by}
use Rattle.table.specs.Private.Masks.{behind}
use Rattle.table.proofs.Masking.{behind-at, behind-count}
use Rattle.table.proofs.Marked.{in-front}
use Rattle.table.proofs.rows.Test.mask_few.Goals as goal

pub loop-i-init : goal.loop-i-init
loop-i-init c =
    let rs = behind c.args.front.now c.args.rows.now in
    let n : length rs ≤ c.from-n.result - 0 = omega (arith, c.from-n.ensures, behind-count c.args.front.now c.args.rows.now) in
    sym (ap (λ l. mask_l (map (passes_by c.args.self.now) l)) (drop_all (c.from-n.result - 0) rs n))

pub loop-i-preserved : goal.loop-i-preserved
loop-i-preserved c =
    let r = c.args.rows.now in
    let front = c.args.front.now in
    let rs = behind front r in
    let p = passes_by c.args.self.now in
    let l = c.loop-i in
    let k = c.from-n.result - 1 - l.i in
    let size = behind-count front r in
    let few : length rs ≤ 64 = omega (arith, size, c.requires) in
    let inside : k < r.count = omega (arith, c.from-n.ensures, c.loop-i-test.true) in
    let after : c.from-n.result - l.i ≡ k + 1 = omega (arith, c.loop-i-test.true) in
    let here : c.from-n.result - (l.i + 1) ≡ k = omega (arith, c.loop-i-test.true) in
    in-front p rs few k (omega (arith, size, inside)) l.mask (l.invariant ∙ ap (λ i. mask_l (map p (drop i rs))) after)
    c.meets.result (c.meets.ensures.test ∙ ap p (behind-at front r k c.lying.result.now inside c.lying.ensures)) _ c.from.ensures
    ∙ sym (ap (λ i. mask_l (map p (drop i rs))) here)
