use Rattle.std.proofs.Common.{◌+◌, ℕ, ap, arith}
use Rattle.pattern.proofs.Numbering.{set-start, set_more}
use Rattle.pattern.proofs.joint.Reading.set.Goals as goal

pub loop-item-init : goal.loop-item-init
loop-item-init c = set-start c.args.self.settings.now c.args.self.from c.args.column _ (omega arith) (ap (λ (k : ℕ). 4295098368 + k) c.from-code.ensures)

pub loop-item-preserved : goal.loop-item-preserved
loop-item-preserved c =
    let s = c.args.self in
    let l = c.loop-item in
    set_more s.settings.now s.from c.args.column l.code c.set_once-code.result l.item-index _ (omega arith) c.set_once-code.ensures l.invariant
