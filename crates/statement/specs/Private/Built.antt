-- What the functions that put statements together make of noted places. Assumes nothing: these are definitions.
use Rattle.std.specs.Prelude.{◌≡◌, Bool, true, false, not, ◌&&◌, ◌||◌, cond, List, [], ◌∷◌, map, ℕ, suc, ◌+◌, ◌-◌, ◌*◌, ◌≤◌, eqb, ltb, leb, ℤ, pos, nat_abs, length, get_or, take, Option as Maybe, Some, None}
use Rattle.std.specs.Int.Signed.{lt_z}
use Rattle.std.specs.Option.{unwrap_or}
use Rattle.lists.specs.Lists.{all, repeats, from}
use Rattle.meaning.specs.Condition as C
use Rattle.meaning.specs.Condition.{renamed}
use Rattle.meaning.specs.Postfix.{Node, leaf, all_of, any_of, leaves}
use Rattle.meaning.specs.Grammar.{Given, constant, mark, Term, column, given, Dotted}
use Rattle.meaning.specs.Limits.{most_tables, most_queries, most_updates, most_items, most_rows, most_name, most_marks, most_comparisons, is_within32, mark_in, mark_count}
use Rattle.meaning.specs.Names.{Schema, same_name, has, position, table_names, columns_of, pair_place}
use Rattle.meaning.specs.Statement.{numbered, value}
use Rattle.meaning.specs.Resolve.{mark_in_operand}
use Rattle.meaning.specs.Private.Walk.{resolve_nodes}
use Rattle.meaning.specs.Cells.{areas_size}
use Rattle.meaning.specs.Plain.{of_first}
use Rattle.meaning.specs.Refusals.{sentence_conditions, lowest_of}
use Rattle.token.specs.declared.Kind.{Kind}
use Rattle.token.specs.declared.Kind.TheVariants.{Constant, Big}
use Rattle.token.specs.Tokens.{kind_of}
use Rattle.statement.specs.Operators.{predicate_at}
use Rattle.statement.specs.Private.Places.{token_on, name_on, Column, column_on, term_on, nodes_on, bare_marks_on}
use Rattle.statement.specs.Private.Sentences.{givens_on}
use Rattle.statement.specs.Catalog.{name_of_struct, schema_of, names_of}
use Rattle.statement.specs.Compiled.{most_steps, insert_form, update_form, delete_form, padded, table_struct, value_struct, setting_with, no_setting, condition_struct, marks_number, compiled_table, compiled_query, compiled_update, compiled_refusal, compiled_by, Compiled}
use Rattle.statement.specs.Sound.{value_read, operand_read, comparison_read, used_comparisons}
use Rattle.statement.specs.declared.Operand.{Operand}
use Rattle.statement.specs.declared.Table.{Table}
use Rattle.statement.specs.declared.Condition.{Condition}
use Rattle.statement.specs.declared.Value.{Value}
use Rattle.statement.specs.declared.Setting.{Setting}
use Rattle.statement.specs.declared.conditions.Node.{Node as Noted}
use Rattle.statement.specs.declared.conditions.Node.TheVariants as N
use Rattle.statement.specs.declared.sentences.Item.{Item}
use Rattle.statement.specs.declared.names.Found.{Found}
use Rattle.statement.specs.declared.names.Scope.{Scope}
use Rattle.statement.specs.declared.names.Scope.TheVariants.{One, Two}
use Rattle.statement.specs.declared.sentences.Form.{Form}
use Rattle.statement.specs.declared.sentences.Form.TheVariants.{Select, Insert, Update, Pair}
use Rattle.statement.specs.declared.sentences.Entry.{Entry}
use Rattle.statement.specs.declared.assembling.Settings.{Settings}

-- the lowest of 6 to 9 that applies, or 0
abbrev pub lowest_by : Bool → Bool → Bool → Bool → Bool → ℕ
lowest_by unknown taken miscounted twice full = lowest_of (sentence_conditions unknown taken miscounted twice full)

-- ---- columns looked up: bare ones in one table, dotted ones in two (A.1)

-- the names of a table's columns
abbrev pub column_names : Table → List (List ℕ)
column_names t = names_of t.columns t.count

-- the places of names among others
abbrev pub places_of : List (List ℕ) → List (List ℕ) → List ℕ
places_of columns names = map (position columns) names

-- the place of a column if t is its table, which has the columns cs, or how many those are
abbrev pub place_of : List ℕ → List (List ℕ) → Dotted → ℕ
place_of t cs c = cond (same_name c.0 t) (position cs c.1) (length cs)

-- whether columns are dotted: over two tables
abbrev pub dotted : Scope → Bool
dotted (One t) = false
dotted (Two t u) = true

-- the place of a column; of its first name and the one behind the dot, which only a dotted one has
abbrev pub place_in : (c : Scope) → Column (dotted c) → ℕ
place_in (One t) n = position (column_names t.now) n
place_in (Two t u) d = pair_place (name_of_struct t.now.name) (column_names t.now) (name_of_struct u.now.name) (column_names u.now) d

abbrev pub place_named : Scope → List ℕ → List ℕ → ℕ
place_named (One t) n m = place_in (One t) n
place_named (Two t u) n m = place_in (Two t u) (n, m)

-- how many columns there are; where those of the second table start; whether both tables have one name
abbrev pub width_in : Scope → ℕ
width_in (One t) = length (column_names t.now)
width_in (Two t u) = length (column_names t.now) + length (column_names u.now)

abbrev pub start_in : Scope → ℕ
start_in (One t) = 0
start_in (Two t u) = length (column_names t.now)

abbrev pub twice_in : Scope → Bool
twice_in (One t) = false
twice_in (Two t u) = same_name (name_of_struct t.now.name) (name_of_struct u.now.name)

-- the number of the table of that name, if there is one
abbrev pub table_number : List Schema → List ℕ → Maybe ℕ
table_number ts n = cond (ltb (position (table_names ts) n) (length ts)) (Some (position (table_names ts) n)) None

-- the table of that name, if there is one: the one of that number
abbrev pub Finds : List Table → List ℕ → Maybe Found → Type 0
Finds ts n None = table_number (map schema_of ts) n ≡ None
Finds ts n (Some f) = (table_number (map schema_of ts) n ≡ Some f.number) × ((d : Table) → f.table.now ≡ get_or ts f.number d)

-- ---- what is kept of a name and of a constant: all, where a text is within the limits

abbrev pub short_name : List ℕ → List ℕ
short_name n = take most_name n

abbrev pub short_names : List (List ℕ) → List (List ℕ)
short_names ns = map short_name ns

abbrev pub short_given : Given → Given
short_given (constant z) = constant (cond (is_within32 z) z (pos 0))
short_given mark = mark

abbrev pub short_column : (b : Bool) → Column b → Column b
short_column false n = short_name n
short_column true c = (short_name c.0, short_name c.1)

module _ {C : Type 0} (short : C → C) where
  abbrev pub short_term : Term C → Term C
  short_term (column c) = column (short c)
  short_term (given v) = given (short_given v)

  abbrev pub short_node : Node (Term C) → Node (Term C)
  short_node (leaf c) = leaf (renamed short_term c)
  short_node all_of = all_of
  short_node any_of = any_of

  abbrev pub short_nodes : List (Node (Term C)) → List (Node (Term C))
  short_nodes ns = map short_node ns

-- a side of a comparison, and the nodes of a condition, as they are kept
abbrev pub side_on : (b : Bool) → List ℕ → ℕ → Term (Column b)
side_on b s p = short_term (short_column b) (term_on b s p)

abbrev pub kept_on : (b : Bool) → List ℕ → List Noted → List (Node (Term (Column b)))
kept_on b s ps = short_nodes (short_column b) (nodes_on b s ps)

-- the columns of the items of a list
abbrev pub columns_on : (b : Bool) → List ℕ → List Item → List (Column b)
columns_on b s ls = map (short_column b) (map (λ i. column_on b s i.name) ls)

-- ---- tokens

-- the constant that a token is; one outside 32 bits counts as 0
abbrev pub constant_in : Kind → Maybe ℤ
constant_in (Constant z) = Some z
constant_in Big = Some (pos 0)
constant_in _ = None

-- 1 to 512 rows
abbrev pub size_in : ℤ → Maybe ℕ
size_in z = cond (lt_z z (pos 1) || lt_z (pos most_rows) z) None (Some (nat_abs z))

abbrev pub rows_as : Kind → ℕ
rows_as (Constant z) = unwrap_or (size_in z) 0
rows_as _ = 0

abbrev pub rows_on : List ℕ → ℕ → ℕ
rows_on s p = rows_as (kind_of (token_on s p))

-- ---- settings

abbrev pub mark_in_value : Value → ℕ
mark_in_value v = mark_in_operand (value (value_read v))

-- values for columns, where m marks stand before
abbrev pub settings_from : ℕ → List ℕ → List Given → List Setting
settings_from m [] vs = []
settings_from m (c ∷ cs) [] = []
settings_from m (c ∷ cs) (v ∷ vs) = setting_with c (value_struct (numbered m v)) ∷ settings_from (m + mark_in v) cs vs

abbrev pub settings_on : List ℕ → List Given → Settings
settings_on cs vs = record { all = padded most_items no_setting (settings_from 0 cs (map short_given vs)); marks = mark_count vs }

-- ---- conditions

abbrev pub mark_in_side : Operand → ℕ
mark_in_side o = mark_in_operand (operand_read o)

abbrev pub comparison_on : (d : Bool) → List ℕ → ℕ → ℕ → ℕ → C.Comparison (Term (Column d))
comparison_on d s k a b = record { left = term_on d s a; op = predicate_at k; right = term_on d s b }

abbrev pub step_in : Noted → ℕ
step_in (N.Comparison op bare a b) = 0
step_in N.And = 1
step_in N.Or = 2

-- A.6: the marks of the outer comparisons as a number: those that are bare, but none if the last node is OR
abbrev pub last_of : ℕ → List ℕ → ℕ
last_of k [] = k
last_of k (x ∷ xs) = last_of x xs

abbrev pub outer_by : ℕ → ℕ → ℕ
outer_by last marks = cond (eqb last 2) 0 marks

unfoldable pub outer_on : List Noted → ℕ
outer_on nodes = outer_by (last_of 0 (map step_in nodes)) (marks_number 0 (bare_marks_on nodes))

-- of a question over two tables; over one it is 0
abbrev pub outer_in : Bool → List Noted → ℕ
outer_in false nodes = 0
outer_in true nodes = outer_on nodes

-- columns below a limit
abbrev pub condition_below : ℕ → Condition → Bool
condition_below n c = all (λ k. of_first n (comparison_read k)) (used_comparisons c)

abbrev pub places_below : ℕ → List ℕ → Bool
places_below n at = all (λ (i : ℕ). ltb i n) at

-- ---- the six forms, of a sentence as it was read

-- what was noted is within the limits
pub record Fits (s : List ℕ) (ls : List Item) (ps : List Noted) (e : Entry) : Type 0 where
  pub listed : length ls ≤ most_items
  pub marks : e.c.marks ≤ most_marks
  pub nodes : length ps ≤ most_steps
  pub comparisons : (b : Bool) → length (leaves (nodes_on b s ps)) ≤ most_comparisons

-- its condition where m marks stand before it
abbrev pub condition_on : (b : Bool) → (Column b → ℕ) → List ℕ → List Noted → ℕ → Condition
condition_on b place s ps m = condition_struct (resolve_nodes place m (kept_on b s ps))

-- places or columns of its condition that are not there
abbrev pub unknown_on : ℕ → List ℕ → Condition → Bool
unknown_on width at condition = not (places_below width at && condition_below width condition)

-- a TABLE by the places of its name and of the constant of its ROWS or RING
abbrev pub schema_on : List ℕ → List Item → ℕ → ℕ → Bool → Schema
schema_on s ls table rows ring = record { name = short_name (name_on s table); columns = columns_on false s ls; capacity = rows_on s rows; ring = ring }

-- beside the tables ts
unfoldable pub table_on : List ℕ → List Item → ℕ → ℕ → Bool → List Schema → ℕ → Compiled
table_on s ls table rows ring ts cells =
    compiled_by
    (lowest_by false
    (has (table_names ts) (short_name (name_on s table)) || repeats same_name (columns_on false s ls))
    false
    false
    (leb most_tables (length ts) || ltb (cells - areas_size ts) (length ls * rows_on s rows)))
    (compiled_table (table_struct (schema_on s ls table rows ring)))

-- of the table of number i, and of a second one by its code, whose columns start there; `place` is where a column stands among so many
unfoldable pub select_on : (b : Bool) → (Column b → ℕ) → ℕ → List ℕ → List Item → List Noted → Entry → ℕ → ℕ → ℕ → Bool → ℕ → Compiled
select_on b place width s ls ps e i second start twice queries =
    compiled_by (lowest_by (unknown_on width (map place (columns_on b s ls)) (condition_on b place s ps 0)) false false twice (leb most_queries queries))
    (compiled_query (record {
      table = i;
      selected = padded most_items 0 (map place (columns_on b s ls));
      count = length ls;
      parameters = e.c.marks;
      second = second;
      start = start;
      outer = outer_in b ps;
      condition = condition_on b place s ps 0;
    }))

-- of one table, which has these columns
unfoldable pub insert_on : List ℕ → List Item → Entry → List (List ℕ) → ℕ → ℕ → Compiled
insert_on s ls e columns i updates =
    compiled_by (lowest_by false false (not (eqb (length ls) (length columns))) false (leb most_updates updates))
    (compiled_update (record {
      form = insert_form;
      table = i;
      settings = (settings_on (take (length ls) (from 0 most_items)) (givens_on s ls)).all;
      count = length ls;
      parameters = e.c.marks;
      condition = condition_struct [];
    }))

-- the settings of an UPDATE
abbrev pub sets_on : List ℕ → List Item → List (List ℕ) → Settings
sets_on s ls columns = settings_on (places_of columns (columns_on false s ls)) (givens_on s ls)

unfoldable pub update_on : List ℕ → List Item → List Noted → Entry → List (List ℕ) → ℕ → ℕ → Compiled
update_on s ls ps e columns i updates =
    compiled_by
    (lowest_by (unknown_on (length columns) (places_of columns (columns_on false s ls)) (condition_on false (position columns) s ps (sets_on s ls columns).marks))
    (repeats same_name (columns_on false s ls)) false false (leb most_updates updates))
    (compiled_update (record {
      form = update_form;
      table = i;
      settings = (sets_on s ls columns).all;
      count = length ls;
      parameters = e.c.marks;
      condition = condition_on false (position columns) s ps (sets_on s ls columns).marks;
    }))

unfoldable pub delete_on : List ℕ → List Noted → Entry → List (List ℕ) → ℕ → ℕ → Compiled
delete_on s ps e columns i updates =
    compiled_by (lowest_by (unknown_on (length columns) [] (condition_on false (position columns) s ps 0)) false false false (leb most_updates updates))
    (compiled_update (record {
      form = delete_form;
      table = i;
      settings = padded most_items no_setting [];
      count = 0;
      parameters = e.c.marks;
      condition = condition_on false (position columns) s ps 0;
    }))

-- a question of one table or an update, by its form
abbrev pub form_as : Form → List ℕ → List Item → List Noted → Entry → List (List ℕ) → ℕ → ℕ → ℕ → Compiled
form_as Select s ls ps e columns i queries updates = select_on false (position columns) (length columns) s ls ps e i 0 0 false queries
form_as Insert s ls ps e columns i queries updates = insert_on s ls e columns i updates
form_as Update s ls ps e columns i queries updates = update_on s ls ps e columns i updates
form_as _ s ls ps e columns i queries updates = delete_on s ps e columns i updates

abbrev pub form_on : List ℕ → List Item → List Noted → Entry → List (List ℕ) → ℕ → ℕ → ℕ → Compiled
form_on s ls ps e columns i queries updates = form_as e.form s ls ps e columns i queries updates

-- the number of the table that the text names at a place
abbrev pub number_on : List ℕ → ℕ → List Schema → ℕ
number_on s p ts = position (table_names ts) (short_name (name_on s p))

-- a question of table i, which the text names t, and of the one that it names at the place `second`
abbrev pub pair_with : List ℕ → List (List ℕ) → List ℕ → List (List ℕ) → List ℕ → List Item → List Noted → Entry → ℕ → ℕ → ℕ → Compiled
pair_with t cs u ds s ls ps e i j queries =
    select_on true (pair_place t cs u ds) (length cs + length ds) s ls ps e i (suc j) (length cs) (same_name t u) queries

abbrev pub pair_on : List ℕ → List (List ℕ) → ℕ → List ℕ → List Item → List Noted → Entry → List Schema → ℕ → ℕ → Compiled
pair_on t cs second s ls ps e ts i queries =
    cond (ltb (number_on s second ts) (length ts))
    (pair_with t cs (short_name (name_on s second)) (columns_of ts (short_name (name_on s second))) s ls ps e i (number_on s second ts) queries)
    (compiled_refusal 6)

-- of the table of ts that is named t
abbrev pub beside_as : Form → List ℕ → List ℕ → List Item → List Noted → Entry → List Schema → ℕ → ℕ → Compiled
beside_as (Pair second) t s ls ps e ts queries updates = pair_on t (columns_of ts t) second s ls ps e ts (position (table_names ts) t) queries
beside_as f t s ls ps e ts queries updates = form_as f s ls ps e (columns_of ts t) (position (table_names ts) t) queries updates

abbrev pub beside_on : List ℕ → List Item → List Noted → Entry → List Schema → ℕ → ℕ → Compiled
beside_on s ls ps e ts queries updates =
    cond (ltb (number_on s e.table ts) (length ts)) (beside_as e.form (short_name (name_on s e.table)) s ls ps e ts queries updates) (compiled_refusal 6)
