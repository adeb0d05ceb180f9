use Rattle.std.proofs.Common.{◌+◌, ◌≤◌, ℕ, map, take, sym, ap, subst, Bool, arith, ◌∙◌}
use Rattle.meaning.specs.Condition as C
use Rattle.meaning.specs.Statement as M
use Rattle.meaning.specs.Statement.{Operand, column}
use Rattle.statement.specs.Sound.{setting_read}
use Rattle.pattern.specs.declared.filled.Filled.{Filled}
use Rattle.pattern.specs.Private.Literals.{role_operand, holds_number}
use Rattle.pattern.specs.Private.Deciding.{FilledAs, altered_tests, is_altered}
use Rattle.pattern.proofs.Deciding.{filled-none, keep-push, keep-not, keep-done}
use Rattle.pattern.proofs.filled.Filling.alterations.Goals as goal
use Rattle.pattern.proofs.filled.Filling.alterations.Goals.{then-is_altered, else-is_altered}

pub loop-item-init : goal.loop-item-init
loop-item-init c = let e = ap (λ (l : Filled). l.count) c.none-altered.ensures in (omega (arith, e), filled-none c.none-altered.result e)

pub loop-item-preserved : goal.loop-item-preserved
loop-item-preserved c =
    let s = c.args.self in
    let l = c.loop-item in
    let i = l.item-index in
    let items = s.settings.now in
    let f = role_operand s.role (map setting_read items) s.given.now s.asked.now in
    let p : ℕ × M.Value → Bool = λ x. is_altered c.args.width c.args.selected.now x.0 in
    let g : ℕ × M.Value → C.Comparison Operand = λ x. holds_number x.0 (f (column x.0)) in
    let goes : Filled → Type 0 = λ r. (r.count ≤ i + 1) × FilledAs (altered_tests c.args.width c.args.selected.now (map setting_read (take (i + 1) items)) f) r in
    elim c.if-is_altered.branch [
      | then-is_altered w ↦
          subst goes (sym w.altered-is) (
            omega (arith, w.push.ensures.counted, l.invariant.0),
            keep-push setting_read p g items i _ (omega arith) l.altered l.invariant.1 w.push.new.self w.unaltered.result (sym c.is_altered.ensures ∙ w.if-is_altered.true) w.unaltered.ensures
                w.push.ensures.are,
          )
      | else-is_altered w ↦
          subst goes (sym w.altered-is) (omega (arith, l.invariant.0), keep-not setting_read p g items i _ (omega arith) l.altered l.invariant.1 (sym c.is_altered.ensures ∙ w.if-is_altered.false))
    ]

pub returns : goal.returns
returns c =
    let s = c.args.self in
    let l = c.loop-item in
    let items = s.settings.now in
    let f = role_operand s.role (map setting_read items) s.given.now s.asked.now in
    keep-done setting_read (λ (x : ℕ × M.Value). is_altered c.args.width c.args.selected.now x.0) (λ (x : ℕ × M.Value). holds_number x.0 (f (column x.0))) items l.item-index l.altered
    (omega arith) l.invariant.1
