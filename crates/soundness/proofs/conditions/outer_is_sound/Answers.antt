use Rattle.std.proofs.Common.{ℕ, List, true, reverse, ap, ◌∙◌}
use Rattle.soundness.specs.Private.Parts.{outer_on}
use Rattle.soundness.proofs.Outer.{outer_told}
use Rattle.soundness.proofs.conditions.outer_is_sound.Goals as goal

pub returns : goal.returns
returns c =
    c.marks_fit.ensures ∙ ap (λ (l : List ℕ). outer_on true 0 c.args.outer (reverse l)) c.used_steps.ensures.are ∙ outer_told c.args.outer c.args.c.now c.requires
