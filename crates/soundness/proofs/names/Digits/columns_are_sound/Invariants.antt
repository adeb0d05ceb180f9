use Rattle.statement.specs.SoundTest.{sound_name}
use Rattle.soundness.specs.Private.Parts.{name_number}
use Rattle.soundness.proofs.names.Digits.columns_are_sound.Given as goal

abbrev pub ghost-are_apart : goal.ghost-are_apart
ghost-are_apart a = (sound_name, name_number)
