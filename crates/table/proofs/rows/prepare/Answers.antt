-- A comparison.
use Rattle.std.proofs.Common.{◌≡◌, length, min, sym, ap, ◌∙◌, refl, arith}
use Rattle.std.proofs.lemmas.List.{length-take}
use Rattle.table.proofs.Preparing.{fill_start, fill_read, fill_done}
use Rattle.table.proofs.Linking.{none-linked}
use Rattle.table.proofs.rows.prepare.Goals as goal

pub loop-i-init : goal.loop-i-init
loop-i-init c =
    let d = c.args.condition.now in
    let u = c.used-list.ensures in
    fill_start d _ _ _ _ _ (record { eight = u.size; count_is = refl }) (none-linked _ c.filled-targets.ensures) (ap length c.filled-places.ensures) (ap length c.filled-numbers.ensures)

pub loop-i-preserved : goal.loop-i-preserved
loop-i-preserved c =
    let d = c.args.condition.now in
    let l = c.loop-i in
    let u = c.used-list.ensures in
    let n : min d.count 8 ≡ length c.used-list.result.now = sym (ap length u.are ∙ length-take d.count d.comparisons ∙ ap (min d.count) u.size) in
    fill_read d _ _ _ _ _ l.i l.invariant _ _ c.used-list.result.now _ _ _ _ _ _ _ u.are n (omega (arith, n, c.loop-i-test.true)) refl
    c.left_side.ensures c.right_tested.ensures c.put_targets.ensures
    c.put_side.ensures.place c.put_side.ensures.number c.put_side-in-loop-i.ensures.place c.put_side-in-loop-i.ensures.number

pub returns : goal.returns
returns c =
    let l = c.loop-i in
    let d = c.args.condition.now in
    let u = c.used-list.ensures in
    let n : length c.used-list.result.now ≡ min d.count 8 = ap length u.are ∙ length-take d.count d.comparisons ∙ ap (min d.count) u.size in
    fill_done _ _ _ _ _ _ l.i l.invariant (omega (arith, n, c.loop-i-test.false)) _ _ c.link-start.ensures
