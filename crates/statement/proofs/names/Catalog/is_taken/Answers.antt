use Rattle.std.proofs.Common.{◌∙◌, ap₂, ◌||◌}
use Rattle.statement.specs.Catalog.{name_of_struct}
use Rattle.statement.proofs.Found.{has-number}
use Rattle.statement.proofs.names.Catalog.is_taken.Goals as goal

pub returns : goal.returns
returns c =
    ap₂ ◌||◌ (c.is_some.ensures ∙ has-number c.args.self.now.tables.now (name_of_struct c.args.name.now) c.find.result c.find.ensures) c.is_repeated.ensures
