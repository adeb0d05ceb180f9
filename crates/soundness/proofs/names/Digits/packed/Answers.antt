use Rattle.std.proofs.Common.{length, arith}
use Rattle.std.proofs.lemmas.List.{length_push, length-reverse}
use Rattle.std.proofs.lemmas.Iterator.Adapters.{YieldsList-from_rev_slice}
use Rattle.std.proofs.lemmas.Iterator.Consumers.{YieldsList-turn}
use Rattle.soundness.proofs.Packed.{packing-more, packing-stop, power_small}
use Rattle.soundness.proofs.names.Digits.packed.Goals as goal

pub returns-then-d-eq0 : goal.returns-then-d-eq0
returns-then-d-eq0 c =
    let l = c.loop-b in
    let t = YieldsList-turn (YieldsList-from_rev_slice c.args.bytes.now (cc)) c.loop-b.yielded _ c.loop-b.yielded_by _ _ c.in-Some.b c.in-Some.is c.next.ensures.steps in
    packing-stop c.args.bytes.now l.code (length l.yielded) c.in-Some.b.now l.invariant (omega (arith, length-reverse c.args.bytes.now)) t.1 (cc)

pub overflow_mul-code : goal.overflow_mul-code
overflow_mul-code c =
    let l = c.loop-b in
    let t = YieldsList-turn (YieldsList-from_rev_slice c.args.bytes.now (cc)) c.loop-b.yielded _ c.loop-b.yielded_by _ _ c.in-Some.b c.in-Some.is c.next.ensures.steps in
    omega (arith, l.invariant.small, power_small (length l.yielded) (omega (arith, length-reverse c.args.bytes.now)))

pub overflow_add-code : goal.overflow_add-code
overflow_add-code c =
    let l = c.loop-b in
    let t = YieldsList-turn (YieldsList-from_rev_slice c.args.bytes.now (cc)) c.loop-b.yielded _ c.loop-b.yielded_by _ _ c.in-Some.b c.in-Some.is c.next.ensures.steps in
    omega (arith, l.invariant.small, power_small (length l.yielded) (omega (arith, length-reverse c.args.bytes.now)))

pub loop-b-preserved : goal.loop-b-preserved
loop-b-preserved c =
    let l = c.loop-b in
    let t = YieldsList-turn (YieldsList-from_rev_slice c.args.bytes.now (cc)) c.loop-b.yielded _ c.loop-b.yielded_by _ _ c.in-Some.b c.in-Some.is c.next.ensures.steps in
    let n = length_push l.yielded c.in-Some.b in
    rw n (packing-more c.args.bytes.now l.code (length l.yielded) c.in-Some.b.now l.invariant (omega (arith, length-reverse c.args.bytes.now)) t.1 c.from.result (cc) (λ e. c.if-d-eq0.false (cc)))
