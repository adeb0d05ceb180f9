use Rattle.std.proofs.Common.{◌≡◌, ◌≤◌, ℕ, Bool, true, length, sym, ◌∙◌, arith}
use Rattle.statement.specs.SoundTest.{sound_condition_on}
use Rattle.statement.specs.declared.Condition.{Condition}
use Rattle.soundness.specs.Private.Parts.{Ordered}
use Rattle.soundness.proofs.Comparisons.{condition-long, condition-short, condition-ordered}
use Rattle.soundness.proofs.conditions.is_sound.Goals as goal

told : (k : Condition) (columns m p : ℕ) (r : Bool) → length k.comparisons ≡ 8 → length k.steps ≡ 15 → r ≡ sound_condition_on columns m p k
    → record { sound : r ≡ sound_condition_on columns m p k; ordered : r ≡ true → Ordered k }
told k columns m p r eight fifteen e = record { sound = e; ordered = λ t. condition-ordered columns m p k eight fifteen (sym e ∙ t) }

pub returns-then-n-gt-COMPARISONS-clause-sound : goal.returns-then-n-gt-COMPARISONS-clause-sound
returns-then-n-gt-COMPARISONS-clause-sound c = condition-long c.args.columns c.args.m c.args.parameters c.args.c.now (omega arith)

pub returns : goal.returns
returns c =
    let k = c.args.c.now in
    let fifteen : length k.steps ≡ 15 = c.used_steps-steps.ensures.size in
    let eight : length k.comparisons ≡ 8 = c.used.ensures.size in
    let fits : k.count ≤ 8 = omega arith in
    told k c.args.columns c.args.m c.args.parameters _ eight fifteen
    (rw (c.from.ensures, c.steps_are_sound.ensures, c.eq.ensures, c.after_comparisons.ensures, c.used_steps-steps.ensures.are, c.used.ensures.are)
    (condition-short c.args.columns c.args.m c.args.parameters k fits fifteen eight))
