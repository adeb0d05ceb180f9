use Rattle.std.proofs.Common.{◌≡◌, drop}
use Rattle.soundness.specs.Private.Parts.{after_all}
use Rattle.soundness.proofs.conditions.after_comparisons.Given as goal

abbrev pub invariant-loop-c : goal.invariant-loop-c
invariant-loop-c l = after_all l.columns l.next (drop l.c-index l.comparisons) ≡ after_all l.columns l.m l.comparisons
