use Rattle.meaning.specs.Names.{position}
use Rattle.statement.specs.declared.Name.{Name}
use Rattle.statement.specs.Catalog.{name_of_struct}
use Rattle.statement.specs.Private.Built.{column_names}
use Rattle.statement.proofs.names.positions.Given as goal

abbrev pub ghost-placed : goal.ghost-placed
ghost-placed a = λ (x : Name). position (column_names a.make.0.now) (name_of_struct x)
