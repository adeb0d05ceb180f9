use Rattle.std.proofs.Common.{◌≡◌, ◌+◌, ◌<◌, true, false, length, get_or, ℕ, refl, sym, ap, ◌∙◌, arith, rules, List, Bool}
use Rattle.pattern.specs.Private.Flat.{failing, clause_at, comparison_at}
use Rattle.pattern.proofs.Labelling.{clause-length, clause-at}
use Rattle.pattern.proofs.Searching.{Seeking, seek-more, seek-done}
use Rattle.pattern.proofs.labels.some_fails.Goals as goal

turned : (labels ops : List ℕ) (i : ℕ) (b : Bool) → i < length ops → b ≡ failing (comparison_at labels ops i)
    → Seeking failing (clause_at labels ops (length ops)) false i → Seeking failing (clause_at labels ops (length ops)) b (i + 1)
turned labels ops i b h e inv =
    let cs = clause_at labels ops (length ops) in
    let x = comparison_at labels ops i in
    let at : get_or cs i x ≡ x = clause-at labels ops (length ops) i x h in
    seek-more failing cs i x false b b (omega (arith, clause-length labels ops (length ops))) refl (e ∙ ap failing (sym at)) inv

pub returns-then-fails : goal.returns-then-fails
returns-then-fails c = turned c.args.labels.now c.args.ops.now c.loop-i.i true (omega arith) (search rules) c.loop-i.invariant

pub loop-i-preserved : goal.loop-i-preserved
loop-i-preserved c = turned c.args.labels.now c.args.ops.now c.loop-i.i false (omega arith) (search rules) c.loop-i.invariant

pub returns : goal.returns
returns c =
    let ops = c.args.ops.now in
    seek-done failing (clause_at c.args.labels.now ops (length ops)) c.loop-i.i false (omega (arith, clause-length c.args.labels.now ops (length ops))) c.loop-i.invariant
