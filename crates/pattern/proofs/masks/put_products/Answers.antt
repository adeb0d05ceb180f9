use Rattle.std.proofs.Common.{◌+◌, ◌*◌, ◌≤◌, length, refl, arith, rules}
use Rattle.pattern.proofs.Sums.{rows-room, rows_more, rows_fit}
use Rattle.pattern.proofs.masks.put_products.Goals as goal

pub put_sums-requires : goal.put_sums-requires
put_sums-requires c =
    let a = c.args in
    let l = c.loop-mask in
    let room : a.start + length a.lefts.now * length a.rights.now ≤ length a.out.now = omega (arith, c.requires.0) in (
      omega (arith, rows-room a.out.now a.start a.lefts.now a.rights.now room l.out l.at l.mask-index (omega arith) l.invariant.1),
      l.invariant.0,
      rows_fit a.out.now a.start a.lefts.now a.rights.now room l.mask-index _ (omega arith) refl c.requires.2,
    )

pub loop-mask-preserved : goal.loop-mask-preserved
loop-mask-preserved c =
    let a = c.args in
    let l = c.loop-mask in
    let room : a.start + length a.lefts.now * length a.rights.now ≤ length a.out.now = omega (arith, c.requires.0) in (
      search rules,
      rows_more a.out.now a.start a.lefts.now a.rights.now room l.out c.put_sums.new.out l.at l.mask-index _ (omega arith) refl c.put_sums.ensures l.invariant.1,
    )
