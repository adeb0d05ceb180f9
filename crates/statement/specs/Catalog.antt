-- The tables that there are, as the plain store has them: what a text is read beside. Assumes nothing: these are definitions.
use Rattle.std.specs.Prelude.{List, map, ℕ, ◌-◌, take}
use Rattle.meaning.specs.Names.{Schema}
use Rattle.meaning.specs.Cells.{areas_size}
use Rattle.meaning.specs.Refusals.{Catalog}
use Rattle.statement.specs.declared.Name.{Name}
use Rattle.statement.specs.declared.Table.{Table}

-- a name is its first `len` bytes
abbrev pub name_of_struct : Name → List ℕ
name_of_struct n = take n.len n.bytes

abbrev pub names_of : List Name → ℕ → List (List ℕ)
names_of names count = map name_of_struct (take count names)

-- what a table's TABLE text says
abbrev pub schema_of : Table → Schema
schema_of t = record { name = name_of_struct t.name; columns = names_of t.columns t.count; capacity = t.capacity; ring = t.ring }

abbrev pub schemas_of : List Table → ℕ → List Schema
schemas_of tables used = map schema_of (take used tables)

-- what a text is read beside: the first `used` tables, so many questions and updates, and what cells of that length leave
abbrev pub catalog : List Table → ℕ → ℕ → ℕ → ℕ → Catalog
catalog tables used queries updates cells =
    let schemas = schemas_of tables used in
    record { tables = schemas; queries = queries; updates = updates; cells_left = cells - areas_size schemas }
