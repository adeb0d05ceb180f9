-- Each comparison leads to a later place.
use Rattle.std.proofs.Common.{◌++◌, arith}
use Rattle.table.proofs.Tested.{walk_start, walk-on, walk_more, walk-done}
use Rattle.table.proofs.Parting.{tests-row}
use Rattle.table.proofs.rows.Test.meets.Goals as goal

pub loop-i-init : goal.loop-i-init
loop-i-init c = walk_start _ _ _ _ _

pub loop-i-smaller : goal.loop-i-smaller
loop-i-smaller c =
    let t = c.args.self.now in
    let l = c.loop-i in
    omega (arith, c.next-i.ensures, walk-on t.targets t.places t.numbers t.start (c.args.front.now ++ c.args.row.now) l.i l.invariant t.forward c.loop-i-test.true)

pub loop-i-preserved : goal.loop-i-preserved
loop-i-preserved c =
    let t = c.args.self.now in
    let l = c.loop-i in
    walk_more t.targets t.places t.numbers t.start (c.args.front.now ++ c.args.row.now) l.i l.invariant t.forward c.loop-i-test.true _ c.next-i.ensures

pub returns : goal.returns
returns c =
    let t = c.args.self.now in
    let e = walk-done t.targets t.places t.numbers t.start (c.args.front.now ++ c.args.row.now) c.loop-i.i c.loop-i.invariant c.loop-i-test.false in
    record { test = e; means = tests-row t (c.args.front.now ++ c.args.row.now) _ e }
