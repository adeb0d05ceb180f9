use Rattle.std.proofs.Common.{◌≡◌, ◌+◌, ◌≤◌, ◌<◌, drop, length, get_or, ℕ, sym, ap, ◌∙◌, arith, rules, List, ◌∷◌}
use borrow.Author.Tests.{eqb-true, eqb-false}
use lib.ListN.{drop_of_length-le, length-take}
use Rattle.pattern.specs.Private.Masks.{balanced}
use Rattle.statement.specs.Sound.{used_steps}
use Rattle.statement.specs.declared.Condition.{Condition}
use Rattle.pattern.proofs.Formed.{join-fails, balanced-end, formed-many, formed-none, formed-some}
use Rattle.pattern.proofs.Searching.{drop-next}
use Rattle.pattern.proofs.masks.is_formed.Goals as goal

-- the steps from the i-th on
next : (d : Condition) (items : List ℕ) (i : ℕ) → items ≡ used_steps d → i < length items → drop i (used_steps d) ≡ get_or items i 0 ∷ drop (i + 1) (used_steps d)
next d items i e h = ap (drop i) (sym e) ∙ drop-next items i 0 h ∙ ap (λ (l : List ℕ). get_or items i 0 ∷ drop (i + 1) l) e

pub returns-then-comparisons-from-clause-formed : goal.returns-then-comparisons-from-clause-formed
returns-then-comparisons-from-clause-formed c =
    let d = c.args.condition.now in
    let n = ap length c.used-comparisons.ensures.are ∙ length-take d.count d.comparisons in
    sym (formed-many d (omega (arith, n, c.used-comparisons.ensures.size)))

pub returns-then-is_empty-clause-formed : goal.returns-then-is_empty-clause-formed
returns-then-is_empty-clause-formed c =
    let d = c.args.condition.now in
    let n = ap length c.used-comparisons.ensures.are ∙ length-take d.count d.comparisons in
    let z = eqb-true _ 0 (sym c.if-is_empty.ensures) in
    sym (formed-none d (omega (arith, n, z, c.used-comparisons.ensures.size)))

pub returns-then-depth-lt2-clause-formed : goal.returns-then-depth-lt2-clause-formed
returns-then-depth-lt2-clause-formed c =
    let d = c.args.condition.now in
    let l = c.loop-step in
    let items = c.used_steps-steps.result.now in
    let n = next d items l.step-index c.used_steps-steps.ensures.are c.loop-step-test.true in
    let k : length d.steps ≡ 15 = search rules in
    sym (join-fails l.depth (get_or items l.step-index 0) (drop (l.step-index + 1) (used_steps d)) c.if-step-eq-COMPARISON.false c.if-depth-lt2.true)
    ∙ ap (balanced l.depth) (sym n) ∙ l.invariant.1
    ∙ sym (formed-some d k (omega (arith, c.used-comparisons.ensures.few, c.from.ensures))
    (λ e. eqb-false _ 0 (sym c.if-is_empty.ensures) (omega (arith, ap length c.used-comparisons.ensures.are, length-take d.count d.comparisons))))

pub returns-clause-formed : goal.returns-clause-formed
returns-clause-formed c =
    let d = c.args.condition.now in
    let l = c.loop-step in
    let k : length d.steps ≡ 15 = search rules in
    let e : length (used_steps d) ≤ l.step-index = omega (arith, ap length c.used_steps-steps.ensures.are) in
    sym (balanced-end l.depth) ∙ ap (balanced l.depth) (sym (drop_of_length-le (used_steps d) e)) ∙ l.invariant.1
    ∙ sym (formed-some d k (omega (arith, c.used-comparisons.ensures.few, c.from.ensures))
    (λ e. eqb-false _ 0 (sym c.if-is_empty.ensures) (omega (arith, ap length c.used-comparisons.ensures.are, length-take d.count d.comparisons))))
