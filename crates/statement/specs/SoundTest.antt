-- The tests of what may be stored, which the code computes: each holds exactly of the compiled forms of sentences (proofs/SoundTable, SoundQuery, SoundUpdate). Assumes nothing: these are definitions.
use Rattle.std.specs.Prelude.{◌≡◌, Bool, true, false, not, ◌&&◌, List, [], ◌∷◌, ◌++◌, map, reverse, ℕ, zero, suc, ◌+◌, ◌≤◌, eqb, leb, ltb, length, get_or, take}
use Rattle.std.proofs.Math.Option.{Option, none, some}
use Rattle.lists.specs.Lists.{All, all, repeats, from}
use Rattle.lists.specs.Tests.{eq_list}
use Rattle.meaning.specs.Condition.{sides}
use Rattle.meaning.specs.Postfix.{leaves, is_postfix, within, chained}
use Rattle.meaning.specs.Resolve.{parameter_count, numbered_on, numbered_from, columns_below, is_test}
use Rattle.meaning.specs.Tokens.{is_name}
use Rattle.meaning.specs.Limits.{most_items, most_rows, most_marks, most_comparisons, most_name}
use Rattle.meaning.specs.Names.{Schema, no_schema, same_name, has, table_names}
use Rattle.meaning.specs.Statement as M
use Rattle.meaning.specs.Statement.{value}
use Rattle.statement.specs.Catalog.{name_of_struct, schema_of}
use Rattle.statement.specs.declared.Name.{Name}
use Rattle.statement.specs.declared.Table.{Table}
use Rattle.statement.specs.declared.Comparison.{Comparison}
use Rattle.statement.specs.declared.Condition.{Condition}
use Rattle.statement.specs.declared.Query.{Query}
use Rattle.statement.specs.declared.Update.{Update}
use Rattle.statement.specs.Sound.{used_columns, comparison_read, used_comparisons, used_steps, condition_nodes, second_read, outer_back, settings_read}

-- the columns set, and what VALUES or SET give, as operands
abbrev pub setting_columns : Update → List ℕ
setting_columns u = map (λ (s : ℕ × M.Value). s.0) (settings_read u)

abbrev pub setting_values : Update → List M.Value
setting_values u = map (λ (s : ℕ × M.Value). s.1) (settings_read u)

abbrev pub setting_operands : Update → List M.Operand
setting_operands u = map value (setting_values u)

-- 1 to 12 bytes that are a name
abbrev pub sound_name : Name → Bool
sound_name n = leb n.len most_name && is_name (name_of_struct n)

-- a table beside others: refusals 5 and 7
unfoldable pub sound_table : List Schema → Table → Bool
sound_table others t =
    leb 1 t.count
    && (leb t.count most_items
    && (sound_name t.name
    && (all sound_name (used_columns t)
    && (not (repeats same_name (map name_of_struct (used_columns t)))
    && (not (has (table_names others) (name_of_struct t.name))
    && (leb 1 t.capacity && leb t.capacity most_rows))))))

-- tables, each beside those before it: then each is sound beside all others (proofs/SoundTables)
abbrev pub sound_schemas : List Schema → List Table → Bool
sound_schemas before [] = true
sound_schemas before (t ∷ ts) = sound_table before t && sound_schemas (before ++ (schema_of t ∷ [])) ts

-- by one of the operators; a null test (A.5: "on columns") has one column on both sides
abbrev pub sound_predicate : Comparison → Bool
sound_predicate k = ltb k.op 8 && is_test (comparison_read k)

-- a condition over a table of so many columns, where m question marks stand before
unfoldable pub sound_condition : ℕ → ℕ → Condition → Bool
sound_condition columns m c =
    leb c.count most_comparisons
    && (all (λ (s : ℕ). ltb s 3) (used_steps c)
    && (all sound_predicate (used_comparisons c)
    && (is_postfix (condition_nodes c)
    && (columns_below columns (condition_nodes c) && numbered_from m (condition_nodes c)))))

-- its question marks
abbrev pub condition_marks : Condition → ℕ
condition_marks c = parameter_count (sides (leaves (condition_nodes c)))

-- a statement's condition, where with its own question marks there are p
unfoldable pub sound_condition_on : ℕ → ℕ → ℕ → Condition → Bool
sound_condition_on columns m p c = sound_condition columns m c && (eqb p (m + condition_marks c) && leb p most_marks)

-- a question of so many columns
abbrev pub sound_query_on : ℕ → Query → Bool
sound_query_on columns q =
    leb 1 q.count
    && (leb q.count most_items
    && (all (λ (i : ℕ). ltb i columns) (take q.count q.selected) && sound_condition_on columns 0 q.parameters q.condition))

-- the settings of an INSERT, an UPDATE or a DELETE of a table of so many columns
abbrev pub sound_form : ℕ → ℕ → Update → Bool
sound_form zero columns u =
    eqb u.count columns && (eq_list eqb (setting_columns u) (from 0 u.count) && eqb u.condition.count 0)
sound_form (suc zero) columns u =
    leb 1 u.count
    && (leb u.count most_items && (all (λ (i : ℕ). ltb i columns) (setting_columns u) && not (repeats eqb (setting_columns u))))
sound_form (suc (suc zero)) columns u = eqb u.count 0
sound_form (suc (suc (suc k))) columns u = false

-- an update of a table of so many columns: question marks of VALUES or SET stand before those of the condition
abbrev pub sound_update_on : ℕ → Update → Bool
sound_update_on columns u =
    sound_form u.form columns u
    && (numbered_on 0 (setting_operands u) && sound_condition_on columns (parameter_count (setting_operands u)) u.parameters u.condition)

-- both beside the tables that there are
abbrev pub columns_at : List Schema → ℕ → ℕ
columns_at ts i = length (get_or ts i no_schema).columns

-- A.1: a second table is there, is another one than the first, and its columns stand behind those of the first
abbrev pub sound_second : List Schema → ℕ → ℕ → Option M.Second → Bool
sound_second ts table columns none = true
sound_second ts table columns (some s) = ltb s.table (length ts) && (not (eqb s.table table) && eqb s.start columns)

-- the columns of both
abbrev pub columns_with : List Schema → ℕ → Option M.Second → ℕ
columns_with ts columns none = columns
columns_with ts columns (some s) = columns + columns_at ts s.table

-- A.6: of a question over two tables each comparison that is marked may be outer in a text
abbrev pub sound_outer : Option M.Second → Query → Bool
sound_outer none q = true
sound_outer (some s) q = within (outer_back q) (chained true 0 (reverse (condition_nodes q.condition)))

unfoldable pub sound_query : List Schema → Query → Bool
sound_query ts q =
    let n : ℕ = columns_at ts q.table in
    ltb q.table (length ts)
    && (sound_second ts q.table n (second_read q) && (sound_query_on (columns_with ts n (second_read q)) q && sound_outer (second_read q) q))

unfoldable pub sound_update : List Schema → Update → Bool
sound_update ts u = ltb u.table (length ts) && sound_update_on (columns_at ts u.table) u

-- the tables that there are: different names, and each within the limits
pub record TableFits (t : Schema) : Type 0 where
  pub some_columns : 1 ≤ length t.columns
  pub few_columns : length t.columns ≤ most_items
  pub different : repeats same_name t.columns ≡ false
  pub names : All (λ n. is_name n ≡ true) (t.name ∷ t.columns)
  pub short : All (λ n. length n ≤ most_name) (t.name ∷ t.columns)

pub record TablesFit (ts : List Schema) : Type 0 where
  pub different : repeats same_name (table_names ts) ≡ false
  pub each : All TableFits ts
