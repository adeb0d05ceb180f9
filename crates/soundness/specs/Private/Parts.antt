-- The parts of the tests, as the code takes them: names as numbers, steps by the depth of the stack, comparisons and settings by the number of the next
-- parameter, tables by how many columns they have. proofs/Tables, Comparisons, Outer, Widths and Settings show that they are the tests of crate `statement`.
-- Assumes nothing: these are definitions.
use Rattle.std.specs.Prelude.{◌≡◌, Bool, true, false, not, ◌&&◌, ◌||◌, cond, List, [], ◌∷◌, map, reverse, Option, Some, None, option_map, option_and_then, slice_get, ℕ, ◌+◌, ◌-◌, ◌*◌, ◌/◌, ◌%◌, ◌≤◌, eqb, leb, ltb, length}
use Rattle.lists.specs.Lists.{all, repeats, from}
use Rattle.meaning.specs.Tokens.{is_digit, is_small, is_name_byte}
use Rattle.meaning.specs.Limits.{most_items, most_rows}
use Rattle.meaning.specs.Names.{same_name}
use Rattle.meaning.specs.Postfix.{is_postfix, within, chained}
use Rattle.meaning.specs.Resolve.{is_numbered}
use Rattle.meaning.specs.Statement.{is_below, value}
use Rattle.statement.specs.Private.Built.{mark_in_value, mark_in_side}
use Rattle.statement.specs.Catalog.{name_of_struct, schema_of}
use Rattle.statement.specs.Compiled.{left_side, right_side, new_value}
use Rattle.statement.specs.Sound.{value_read, operand_read, used_columns, used_steps, used_comparisons, condition_nodes, second_read, digits_back}
use Rattle.statement.specs.SoundTest.{sound_name, sound_predicate, sound_query_on, sound_outer, sound_update_on}
use Rattle.statement.specs.declared.Name.{Name}
use Rattle.statement.specs.declared.Table.{Table}
use Rattle.statement.specs.declared.Operand.{Operand}
use Rattle.statement.specs.declared.Comparison.{Comparison}
use Rattle.statement.specs.declared.Condition.{Condition}
use Rattle.statement.specs.declared.Query.{Query}
use Rattle.statement.specs.declared.Value.{Value}
use Rattle.statement.specs.declared.Setting.{Setting}
use Rattle.statement.specs.declared.Update.{Update}

-- whether there is a value, and it passes the test
abbrev pub passes : {A : Type 0} → (A → Bool) → Option A → Bool
passes p None = false
passes p (Some x) = p x

-- the value, where the test holds
abbrev pub some_if : {A : Type 0} → Bool → A → Option A
some_if true x = Some x
some_if false x = None

-- ---- names as numbers

-- a digit of base 38 for each byte of a name, and 0 for other bytes
abbrev pub digit_of : ℕ → ℕ
digit_of b = cond (is_small b) (b - 97 + 1) (cond (is_digit b) (b - 48 + 27) (cond (eqb b 95) 37 0))

unfoldable pub digit_table : List ℕ
digit_table = map digit_of (from 0 256)

abbrev pub packed : List ℕ → ℕ
packed [] = 0
packed (b ∷ bs) = digit_of b + 38 * packed bs

abbrev pub packed_name : List ℕ → Option ℕ
packed_name bs = some_if (all is_name_byte bs) (packed bs)

abbrev pub name_number : Name → ℕ
name_number n = packed (name_of_struct n)

abbrev pub code_of : Name → Option ℕ
code_of n = some_if (sound_name n) (name_number n)

-- ---- a table but for its name

unfoldable pub columns_on : List Name → Bool
columns_on ns = all sound_name ns && not (repeats same_name (map name_of_struct ns))

unfoldable pub table_on : Table → Bool
table_on t = leb 1 t.count && (leb t.count most_items && (columns_on (used_columns t) && (leb 1 t.capacity && leb t.capacity most_rows)))

-- a table by itself
abbrev pub single : Table → Bool
single t = sound_name t.name && table_on t

-- how many columns a table has
abbrev pub width_of : Table → ℕ
width_of t = length (schema_of t).columns

-- A.1: the columns of the tables of a question, by the code of the second (0 none, else its number and 1), if they fit
abbrev pub fits_second : ℕ → ℕ → ℕ → ℕ → Bool
fits_second table columns second start = not (eqb second table) && eqb start columns

abbrev pub width_beside : List ℕ → ℕ → ℕ → ℕ → ℕ → Option ℕ
width_beside widths table second start columns =
    cond (eqb second 0) (Some columns)
    (cond (fits_second table columns (second - 1) start) (option_map (λ (w : ℕ). columns + w) (slice_get widths (second - 1))) None)

abbrev pub width_with : List ℕ → ℕ → ℕ → ℕ → Option ℕ
width_with widths table second start = option_and_then (width_beside widths table second start) (slice_get widths table)

-- ---- steps, where k values are on the stack

-- if the step fits
abbrev pub depth_after : ℕ → ℕ → Option ℕ
depth_after k s = cond (eqb s 0) (Some (k + 1)) (some_if (ltb s 3 && leb 2 k) (k - 1))

-- each step fits, and at most one value is left
abbrev pub steps_on : ℕ → List ℕ → Bool
steps_on k [] = leb k 1
steps_on k (s ∷ ss) = passes (λ (d : ℕ). steps_on d ss) (depth_after k s)

-- ---- A.6: marks of outer comparisons, by the steps from the last one on: `Postfix.chained`, with the marks that are left

-- a comparison in a part that an AND or OR joins has no mark
abbrev pub mark_fits : ℕ → ℕ → ℕ → Bool
mark_fits need marks s = (not (eqb s 0) || eqb need 0) || not (eqb (marks % 2) 1)

abbrev pub marks_after : ℕ → ℕ → ℕ
marks_after marks s = cond (eqb s 0) (marks / 2) marks

-- `ending`: this step too is one of the ANDs at the end
abbrev pub need_after : Bool → ℕ → ℕ → ℕ
need_after ending need s = cond (eqb need 0) (cond (eqb s 0 || ending) 0 2) (cond (eqb s 0) (need - 1) (need + 1))

abbrev pub outer_on : Bool → ℕ → ℕ → List ℕ → Bool
outer_on ending need marks [] = true
outer_on ending need marks (s ∷ ss) =
    mark_fits need marks s && outer_on (ending && eqb s 1) (need_after (ending && eqb s 1) need s) (marks_after marks s) ss

-- the steps of a condition are a postfix order
pub record Ordered (c : Condition) : Type 0 where
  pub few : c.count ≤ 8
  pub known : all (λ (s : ℕ). ltb s 3) (used_steps c) ≡ true
  pub postfix : is_postfix (condition_nodes c) ≡ true
  pub eight : length c.comparisons ≡ 8
  pub fifteen : length c.steps ≡ 15

-- each comparison that is marked may be outer in a text
abbrev pub outer_fits : Condition → ℕ → Bool
outer_fits c outer = within (digits_back (length (used_comparisons c)) outer) (chained true 0 (reverse (condition_nodes c)))

-- ---- a question of so many columns

abbrev pub query_on : ℕ → Query → Bool
query_on columns q = sound_query_on columns q && sound_outer (second_read q) q

-- questions and updates beside tables of so many columns
abbrev pub query_at : List ℕ → Query → Bool
query_at widths q = passes (λ (n : ℕ). query_on n q) (width_with widths q.table q.second q.start)

abbrev pub update_at : List ℕ → Update → Bool
update_at widths u = passes (λ (n : ℕ). sound_update_on n u) (slice_get widths u.table)

-- ---- comparisons, where m parameters stand before

abbrev pub side_fits : ℕ → ℕ → Operand → Bool
side_fits columns m o = is_below columns (operand_read o) && is_numbered m (operand_read o)

abbrev pub comparison_fits : ℕ → ℕ → Comparison → Bool
comparison_fits columns m c = (sound_predicate c && side_fits columns m (left_side c)) && side_fits columns (m + mark_in_side (left_side c)) (right_side c)

abbrev pub comparison_marks : Comparison → ℕ
comparison_marks c = mark_in_side (left_side c) + mark_in_side (right_side c)

-- the number of the next parameter behind a part, where m is the next before, if the part fits
abbrev pub after_side : ℕ → ℕ → Operand → Option ℕ
after_side columns m o = some_if (side_fits columns m o) (m + mark_in_side o)

unfoldable pub after_comparison : ℕ → ℕ → Comparison → Option ℕ
after_comparison columns m c = some_if (comparison_fits columns m c) (m + comparison_marks c)

abbrev pub after_all : ℕ → ℕ → List Comparison → Option ℕ
after_all columns m [] = Some m
after_all columns m (c ∷ cs) = option_and_then (λ (k : ℕ). after_all columns k cs) (after_comparison columns m c)

-- ---- settings, where the table has so many columns

abbrev pub same_column : Setting → Setting → Bool
same_column s t = eqb s.column t.column

-- so many settings and comparisons: 0 INSERT, 1 UPDATE, 2 DELETE
abbrev pub form_fits : ℕ → ℕ → ℕ → ℕ → Bool
form_fits form count columns comparisons =
    cond (eqb form 0) (eqb count columns && eqb comparisons 0) (cond (eqb form 1) (leb 1 count && leb count most_items) (eqb form 2 && eqb count 0))

-- the column of the i-th setting: in an INSERT its own place
abbrev pub column_fits : ℕ → ℕ → ℕ → ℕ → Bool
column_fits form columns i c = cond (eqb form 0) (eqb c i) (ltb c columns)

abbrev pub value_fits : ℕ → Value → Bool
value_fits m v = is_numbered m (value (value_read v))

abbrev pub setting_fits : ℕ → ℕ → ℕ → ℕ → Setting → Bool
setting_fits form columns i m s = column_fits form columns i s.column && value_fits m (new_value s)

-- settings from the i-th on, where m parameters stand before
abbrev pub settings_fit : ℕ → ℕ → ℕ → ℕ → List Setting → Bool
settings_fit form columns i m [] = true
settings_fit form columns i m (s ∷ ss) = setting_fits form columns i m s && settings_fit form columns (i + 1) (m + mark_in_value (new_value s)) ss

abbrev pub setting_marks : List Setting → ℕ
setting_marks [] = 0
setting_marks (s ∷ ss) = mark_in_value (new_value s) + setting_marks ss

-- the number of the next parameter
abbrev pub settings_on : ℕ → ℕ → List Setting → Option ℕ
settings_on form columns ss = some_if (settings_fit form columns 0 0 ss) (setting_marks ss)
