use Rattle.std.proofs.Common.{refl, pos, arith}
use lib.ListN.{replicate, length-take}
use Rattle.console.proofs.Replying.{text-inside, asked-inside, changed-inside, reply-add, reply-ask, reply-change, reply-flush, reply-bad}
use Rattle.console.proofs.respond.Goals as goal

pub slice_bounds-respond_add-count : goal.slice_bounds-respond_add-count
slice_bounds-respond_add-count c = text-inside c.args.line.now c.in-Add.ensures.result

pub slice_bounds-values-end : goal.slice_bounds-values-end
slice_bounds-values-end c = asked-inside c.args.line.now (replicate 512 (pos 0)) c.read_line.new.values refl c.in-Ask.ensures.values c.in-Ask.number c.in-Ask.count c.in-Ask.ensures.result

pub slice_bounds-values-end-in-Do : goal.slice_bounds-values-end-in-Do
slice_bounds-values-end-in-Do c = changed-inside c.args.line.now (replicate 512 (pos 0)) c.read_line.new.values refl c.in-Do.ensures.values c.in-Do.number c.in-Do.count c.in-Do.ensures.result

pub slice_bounds-respond_ask-end : goal.slice_bounds-respond_ask-end
slice_bounds-respond_ask-end c =
    omega (arith, length-take c.in-Ask.count c.read_line.new.values, asked-inside c.args.line.now (replicate 512 (pos 0)) c.read_line.new.values refl c.in-Ask.ensures.values c.in-Ask.number c.in-Ask.count c.in-Ask.ensures.result)

pub slice_bounds-respond_do-end : goal.slice_bounds-respond_do-end
slice_bounds-respond_do-end c =
    omega (arith, length-take c.in-Do.count c.read_line.new.values, changed-inside c.args.line.now (replicate 512 (pos 0)) c.read_line.new.values refl c.in-Do.ensures.values c.in-Do.number c.in-Do.count c.in-Do.ensures.result)

pub returns-in-Add : goal.returns-in-Add
returns-in-Add c = reply-add c.args.line.now _ _ _ _ _ _ _ c.in-Add.ensures.result c.respond_add.ensures

pub returns-in-Ask : goal.returns-in-Ask
returns-in-Ask c = reply-ask c.args.line.now _ _ _ _ _ (replicate 512 (pos 0)) c.read_line.new.values refl c.in-Ask.ensures.values c.in-Ask.number c.in-Ask.count _ _ _ _ c.in-Ask.ensures.result c.respond_ask.ensures

pub returns-in-Do : goal.returns-in-Do
returns-in-Do c = reply-change c.args.line.now _ _ _ _ _ (replicate 512 (pos 0)) c.read_line.new.values refl c.in-Do.ensures.values c.in-Do.number c.in-Do.count _ _ _ c.in-Do.ensures.result c.respond_do.ensures

pub returns-in-Flush : goal.returns-in-Flush
returns-in-Flush c = reply-flush c.args.line.now _ _ _ _ _ _ _ c.in-Flush.ensures.result c.respond_flush.ensures

pub returns-in-Bad : goal.returns-in-Bad
returns-in-Bad c = reply-bad c.args.line.now _ _ _ _ _ _ _ c.in-Bad.ensures.result (c.write_bad.ensures.result, c.write_bad.ensures.text)

pub slice_bounds-respond_add-start : goal.slice_bounds-respond_add-start
slice_bounds-respond_add-start c = text-inside c.args.line.now c.in-Add.ensures.result
