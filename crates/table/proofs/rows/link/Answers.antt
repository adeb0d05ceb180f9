-- A step of the condition.
use Rattle.std.proofs.Common.{◌≡◌, ℕ, ◌≤◌, List, length, min, get_or, sym, subst, ap, ◌∙◌, arith}
use Rattle.std.proofs.lemmas.List.{length-take}
use Rattle.statement.specs.Sound.{used_steps}
use Rattle.table.specs.Private.Linking.{Linked}
use Rattle.table.proofs.Linking.{no-starts, link_start, link-step, link-done}
use Rattle.table.proofs.rows.link.Goals as goal

pub loop-step-init : goal.loop-step-init
loop-step-init c =
    let d = c.args.condition.now in
    let e = no-starts _ c.filled-starts.ensures in
    let m : length (used_steps d) ≤ 15 = omega (arith, c.used_steps-step-items.ensures.few, ap length c.used_steps-step-items.ensures.are) in
    link_start (used_steps d) _ c.args.targets.now c.used.ensures.few m _ e.0 e.1 c.requires

pub loop-step-preserved : goal.loop-step-preserved
loop-step-preserved c =
    let l = c.loop-step in
    let d = c.args.condition.now in
    let u = c.used_steps-step-items.ensures in
    let m : length (used_steps d) ≤ 15 = omega (arith, u.few, ap length u.are) in
    link-step (used_steps d) _ c.args.targets.now c.used.ensures.few m l.starts l.targets l.depth l.next l.step-index l.invariant _ (ap (λ (ss : List ℕ). get_or ss l.step-index 0) u.are) (omega (arith, c.loop-step-test.true, ap length u.are))
    _ _ _ _ c.from-next.ensures c.link_step-depth.ensures

pub returns : goal.returns
returns c =
    let l = c.loop-step in
    let d = c.args.condition.now in
    let u = c.used_steps-step-items.ensures in
    let m : length (used_steps d) ≤ 15 = omega (arith, u.few, ap length u.are) in
    let n : length c.used.result.now ≡ min d.count 8 = ap length c.used.ensures.are ∙ length-take d.count d.comparisons ∙ ap (min d.count) c.used.ensures.size in
    subst (λ (k : ℕ). Linked (used_steps d) k c.args.targets.now l.targets c.start_of.result) n
    (subst (λ (start : ℕ). Linked (used_steps d) (length c.used.result.now) c.args.targets.now l.targets start) (sym c.start_of.ensures)
    (link-done (used_steps d) _ c.args.targets.now c.used.ensures.few m l.starts l.targets l.depth l.next l.step-index l.invariant (omega (arith, c.loop-step-test.false, ap length u.are))))
