use Rattle.std.proofs.Common.{◌&&◌, eqb, length, reverse, ◌∙◌, arith}
use Rattle.std.proofs.lemmas.List.{length_push}
use Rattle.std.proofs.lemmas.Iterator.Adapters.{YieldsList-from_rev_slice}
use Rattle.std.proofs.lemmas.Iterator.Consumers.{YieldsList-turn}
use Rattle.soundness.proofs.Outer.{need-bound, outer-more, outer-stop}
use Rattle.soundness.proofs.conditions.marks_fit.Goals as goal

pub returns-then-not-mark_fits : goal.returns-then-not-mark_fits
returns-then-not-mark_fits c =
    let l = c.loop-s in
    let t = YieldsList-turn (YieldsList-from_rev_slice c.args.steps.now (cc)) c.loop-s.yielded _ c.loop-s.yielded_by _ _ c.in-Some.s c.in-Some.is c.next.ensures.steps in
    outer-stop l.ending l.need l.marks (length l.yielded) c.in-Some.s.now (reverse c.args.steps.now) t.0 t.1 (cc) ∙ l.invariant.1

pub loop-s-preserved : goal.loop-s-preserved
loop-s-preserved c =
    let l = c.loop-s in
    let s = c.in-Some.s.now in
    let t = YieldsList-turn (YieldsList-from_rev_slice c.args.steps.now (cc)) c.loop-s.yielded _ c.loop-s.yielded_by _ _ c.in-Some.s c.in-Some.is c.next.ensures.steps in
    let n = length_push l.yielded c.in-Some.s in (
      omega (arith, need-bound (l.ending && eqb s 1) l.need s),
      rw (n, c.need_after-need.ensures, c.marks_after-marks.ensures)
          (outer-more l.ending l.need l.marks (length l.yielded) s (reverse c.args.steps.now) t.0 t.1 (cc) ∙ l.invariant.1),
    )
