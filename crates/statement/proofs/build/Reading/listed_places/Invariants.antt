use Rattle.statement.specs.declared.sentences.Item.{Item}
use Rattle.statement.specs.Private.Places.{column_on}
use Rattle.statement.specs.Private.Built.{dotted, place_in, short_column}
use Rattle.statement.proofs.build.Reading.listed_places.Given as goal

abbrev pub ghost-placed : goal.ghost-placed
ghost-placed a = λ (i : Item). place_in a.make.1.now (short_column (dotted a.make.1.now) (column_on (dotted a.make.1.now) a.make.0.now i.name))
