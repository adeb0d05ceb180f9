use Rattle.soundness.specs.Private.Parts.{single}
use Rattle.soundness.proofs.Tables.{table_number}
use Rattle.soundness.proofs.tables_are_sound.Given as goal

abbrev pub ghost-are_apart : goal.ghost-are_apart
ghost-are_apart a = (single, table_number)
