use Rattle.std.proofs.Common.{◌∙◌, sym, ap, Bool, cond}
use Rattle.statement.proofs.Filled.{left-cons}
use Rattle.statement.proofs.Outer.{marking-room, marking-end, outer-as}
use Rattle.statement.proofs.assembling.outer_marks.Goals as goal

pub with_mark-marks-requires : goal.with_mark-marks-requires
with_mark-marks-requires c = let l = c.loop-node in marking-room c.args.nodes.now l.marks l.node-index _ l.invariant (left-cons c.args.nodes.now l.node-index _ c.loop-node-test.true) c.requires

pub returns-then-ends_in_or : goal.returns-then-ends_in_or
returns-then-ends_in_or c =
    let l = c.loop-node in
    sym (ap (λ (b : Bool). cond b 0 l.marks) c.if-ends_in_or.true) ∙ outer-as c.args.nodes.now _ _ c.ends_in_or.ensures (marking-end c.args.nodes.now l.marks l.node-index c.loop-node-test.false l.invariant)

pub returns-else-ends_in_or : goal.returns-else-ends_in_or
returns-else-ends_in_or c =
    let l = c.loop-node in
    sym (ap (λ (b : Bool). cond b 0 l.marks) c.if-ends_in_or.false) ∙ outer-as c.args.nodes.now _ _ c.ends_in_or.ensures (marking-end c.args.nodes.now l.marks l.node-index c.loop-node-test.false l.invariant)
