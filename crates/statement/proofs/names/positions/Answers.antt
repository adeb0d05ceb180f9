use Rattle.std.proofs.Common.{◌∙◌, sym, ap}
use Rattle.std.proofs.lemmas.Simd.{map-map}
use Rattle.meaning.specs.Names.{position}
use Rattle.statement.specs.Catalog.{name_of_struct}
use Rattle.statement.specs.Private.Built.{column_names}
use Rattle.statement.specs.Compiled.{padded}
use Rattle.statement.proofs.names.positions.Goals as goal

pub returns : goal.returns
returns c =
    let a = c.args in
    c.placed.ensures ∙ ap (padded 8 0) (sym (map-map (position (column_names a.t.now)) name_of_struct a.names.now))
