-- Whether the tables, questions and updates of a store are such as texts compile to: the tests of crate `statement` (specs/Sound), of those in use.
-- Assumes nothing: these are definitions.
use Rattle.std.specs.Prelude.{Bool, List, [], ℕ, take}
use Rattle.lists.specs.Lists.{all}
use Rattle.statement.specs.Catalog.{schemas_of}
use Rattle.statement.specs.SoundTest.{sound_schemas, sound_query, sound_update}
use Rattle.statement.specs.declared.Table.{Table}
use Rattle.statement.specs.declared.Query.{Query}
use Rattle.statement.specs.declared.Update.{Update}

-- the first `used` tables, each beside those before it
unfoldable pub tables_sound : List Table → ℕ → Bool
tables_sound tables used = sound_schemas [] (take used tables)

-- the first n questions and updates, beside those tables
unfoldable pub queries_sound : List Table → ℕ → List Query → ℕ → Bool
queries_sound tables used queries n = all (sound_query (schemas_of tables used)) (take n queries)

unfoldable pub updates_sound : List Table → ℕ → List Update → ℕ → Bool
updates_sound tables used updates n = all (sound_update (schemas_of tables used)) (take n updates)
