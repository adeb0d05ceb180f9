use Rattle.std.proofs.Common.{◌≡◌, ◌+◌, ◌≤◌, drop}
use Rattle.soundness.specs.Private.Parts.{settings_fit, setting_marks}
use Rattle.soundness.proofs.statements.after_settings.Given as goal

abbrev pub invariant-loop-i : goal.invariant-loop-i
invariant-loop-i l =
    (l.next ≤ l.i)
    × (settings_fit l.form l.columns l.i l.next (drop l.i l.settings) ≡ settings_fit l.form l.columns 0 0 l.settings)
    × (l.next + setting_marks (drop l.i l.settings) ≡ setting_marks l.settings)
