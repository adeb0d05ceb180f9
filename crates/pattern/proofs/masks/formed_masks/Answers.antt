use Rattle.std.proofs.Common.{◌≡◌, true, false, eqb, ◌+◌, ◌*◌, ◌<◌, length, get_or, ℕ, refl, sym, ap, subst, ◌∙◌, arith, rules, List}
use borrow.Author.Tests.{eqb-true, eqb-false}
use lib.ListN.{length-take}
use Rattle.statement.specs.declared.Comparison.{Comparison}
use Rattle.statement.specs.declared.Condition.{Condition}
use Rattle.statement.specs.Sound.{used_comparisons, used_steps}
use Rattle.pattern.specs.Stored.{is_formed}
use Rattle.pattern.specs.declared.masks.Stack.{Stack}
use Rattle.pattern.proofs.Formed.{steps-at, steps-length, formed-few, formed-some}
use Rattle.pattern.proofs.Running.{Running, run-start, run-steps, run_more, run-done, run_none}
use Rattle.pattern.proofs.masks.formed_masks.Goals as goal

-- how many comparisons are in use, and that there is one
count-is : (d : Condition) (l : List Comparison) → l ≡ used_comparisons d → length d.comparisons ≡ 8 → is_formed d ≡ true → length l ≡ d.count
count-is d l e k f = omega (arith, formed-few d f, ap length e, length-take d.count d.comparisons)

some-is : (d : Condition) (l : List Comparison) → l ≡ used_comparisons d → length d.comparisons ≡ 8 → is_formed d ≡ true → eqb (length l) 0 ≡ false → d.count ≡ 0 → ⊥
some-is d l e k f h z = eqb-false _ 0 h (omega (arith, count-is d l e k f, z))

pub returns-then-is_empty : goal.returns-then-is_empty
returns-then-is_empty c =
    let d = c.args.condition.now in
    let n = count-is d c.used.result.now c.used.ensures.are c.used.ensures.size c.requires in
    run_none d (omega (arith, n, eqb-true _ 0 (sym c.if-is_empty.ensures))) _ refl refl refl

pub loop-step-init : goal.loop-step-init
loop-step-init c =
    let d = c.args.condition.now in
    let f = c.requires in
    let k : length d.steps ≡ 15 = search rules in
    let some = some-is d c.used.result.now c.used.ensures.are c.used.ensures.size f (sym c.if-is_empty.ensures) in
    subst (λ (x : Stack). Running d x 0) (sym c.empty-s.ensures) (run-start d (sym (formed-some d k (formed-few d f) some) ∙ f))

-- the step of a turn
module _ (d : Condition) (k : length d.steps ≡ 15) (formed : is_formed d ≡ true) (items : List ℕ) (u : items ≡ used_steps d) (i : ℕ) (h : i < length items) where
  there : i + 1 < 2 * d.count
  there = omega (arith, ap length u, steps-length d k (formed-few d formed))

  next : get_or d.steps i 0 ≡ get_or items i 0
  next = sym (ap (λ (x : List ℕ). get_or x i 0) u ∙ steps-at d i there)

pub step-requires : goal.step-requires
step-requires c =
    let d = c.args.condition.now in
    let l = c.loop-step in
    let f = c.requires in
    let k : length d.steps ≡ 15 = search rules in
    let items = c.used_steps-step-items.result.now in
    let u = c.used_steps-step-items.ensures.are in
    run-steps d k c.used.ensures.size (formed-few d f) l.s l.step-index l.invariant (there d k f items u l.step-index c.loop-step-test.true) _ (next d k f items u l.step-index c.loop-step-test.true)

pub loop-step-preserved : goal.loop-step-preserved
loop-step-preserved c =
    let d = c.args.condition.now in
    let l = c.loop-step in
    let f = c.requires in
    let k : length d.steps ≡ 15 = search rules in
    let items = c.used_steps-step-items.result.now in
    let u = c.used_steps-step-items.ensures.are in
    subst (λ (x : Stack). Running d x (l.step-index + 1)) (sym c.step.ensures)
    (run_more d k c.used.ensures.size (formed-few d f) l.s l.step-index l.invariant (there d k f items u l.step-index c.loop-step-test.true) _ (next d k f items u l.step-index c.loop-step-test.true))

pub returns : goal.returns
returns c =
    let d = c.args.condition.now in
    let l = c.loop-step in
    let f = c.requires in
    let k : length d.steps ≡ 15 = search rules in
    let some = some-is d c.used.result.now c.used.ensures.are c.used.ensures.size f (sym c.if-is_empty.ensures) in
    let e : l.step-index + 1 ≡ 2 * d.count = omega (arith, ap length c.used_steps-step-items.ensures.are, steps-length d k (formed-few d f)) in
    run-done d k (formed-few d f) l.s l.step-index e l.invariant
