use Rattle.std.proofs.Common.{◌≡◌, ◌+◌, true, false, length, refl, arith, rules}
use Rattle.pattern.proofs.Labelling.{label-start, label-more, label-clash, label-done}
use Rattle.pattern.proofs.labels.label_all.Goals as goal

pub loop-i-init : goal.loop-i-init
loop-i-init c =
    let d = c.args.clause.now in
    let n : length d.codes ≡ 40 = search rules in
    (n, label-start d.codes d.ops d.count c.requires.readable)

pub returns-then-clashes : goal.returns-then-clashes
returns-then-clashes c =
    let d = c.args.clause.now in
    let l = c.loop-i in
    let n : length d.codes ≡ 40 = search rules in
    label-clash d.codes d.ops d.count _ (l.i + 1)
    (label-more d.codes d.ops d.count n (omega (arith, c.requires.few)) l.labels false l.i l.invariant.1 (omega arith) _ true refl (search rules))

pub loop-i-preserved : goal.loop-i-preserved
loop-i-preserved c =
    let d = c.args.clause.now in
    let l = c.loop-i in
    let n : length d.codes ≡ 40 = search rules in (
      search rules,
      label-more d.codes d.ops d.count n (omega (arith, c.requires.few)) l.labels false l.i l.invariant.1 (omega arith) c.join.new.labels false (search rules) (search rules),
    )

pub returns : goal.returns
returns c =
    let d = c.args.clause.now in
    label-done d.codes d.ops d.count c.loop-i.labels c.loop-i.i (omega arith) c.loop-i.invariant.1
