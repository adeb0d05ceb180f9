use Rattle.std.proofs.Common.{◌∙◌}
use Rattle.soundness.proofs.Tables.{columns-told}
use Rattle.soundness.proofs.names.Digits.columns_are_sound.Goals as goal

pub returns : goal.returns
returns c = c.are_apart.ensures ∙ columns-told c.args.names.now
