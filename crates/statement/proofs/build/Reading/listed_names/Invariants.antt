use Rattle.statement.specs.declared.sentences.Item.{Item}
use Rattle.statement.specs.Private.Places.{name_on}
use Rattle.statement.specs.Compiled.{name_struct}
use Rattle.statement.specs.Private.Built.{short_name}
use Rattle.statement.proofs.build.Reading.listed_names.Given as goal

abbrev pub ghost-placed : goal.ghost-placed
ghost-placed a = λ (i : Item). name_struct (short_name (name_on a.make.0.now i.name))
