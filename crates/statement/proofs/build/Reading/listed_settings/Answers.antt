use Rattle.std.proofs.Common.{◌≡◌, ap, replicate, get_or, arith, rules}
use mir.Syntax.{w32}
use mir.Val.{to_z, of_z}
use Rattle.statement.proofs.Empty.{setting-empty}
use Rattle.statement.proofs.Filled.{left-cons}
use Rattle.statement.proofs.Sets.{set-start, set_more, set-end}
use Rattle.statement.proofs.build.Reading.listed_settings.Goals as goal

pub loop-i-init : goal.loop-i-init
loop-i-init c = let a = c.args in set-start _ _ _ _ (ap (replicate 8) (setting-empty c.default-all.result c.default-all.ensures)) (omega (arith, c.requires, a.self.now.fits.listed))

pub loop-i-preserved : goal.loop-i-preserved
loop-i-preserved c =
    let a = c.args in
    let l = c.loop-i in
    let v = c.value_at-value in
    let e : to_z w32 (of_z w32 v.result.number) ≡ v.result.number = search rules in
    let f = v.ensures in
    rw e
    (set_more a.self.now.text.now a.self.now.items.now a.columns.now l.all l.marks l.i c.marks-marks.result (get_or a.columns.now l.i 0) _ v.result (left-cons a.columns.now l.i 0 (omega (arith, c.requires, c.loop-i-test.true)))
    (left-cons a.self.now.items.now l.i _ c.loop-i-test.true) f c.marks-marks.ensures l.invariant)

pub returns : goal.returns
returns c = let l = c.loop-i in set-end _ _ _ _ _ l.i (omega (arith, c.requires, c.loop-i-test.false)) c.loop-i-test.false l.invariant
