-- What a text compiles to: the statement of its sentence, in the types of the code, or the number of its refusal. Assumes nothing: these are definitions.
use Rattle.std.specs.Prelude.{Result, Ok, Err, Bool, true, false, List, [], ◌∷◌, ◌++◌, map, ℕ, zero, suc, ◌+◌, ◌*◌, ◌-◌, pos, length, replicate}
use Rattle.std.proofs.Math.Option.{Option, none, some}
use Rattle.meaning.specs.Condition as C
use Rattle.meaning.specs.Condition.{Where, always}
use Rattle.meaning.specs.Postfix.{Node, leaf, all_of, any_of, nodes_in, leaves, outer_marks_in}
use Rattle.meaning.specs.Grammar.{Sentence}
use Rattle.meaning.specs.Reader.{sentence}
use Rattle.meaning.specs.Limits.{most_items, most_comparisons, most_name}
use Rattle.meaning.specs.Names.{Schema}
use Rattle.meaning.specs.Statement as S
use Rattle.meaning.specs.Statement.{statement_of}
use Rattle.meaning.specs.Pattern.{placed_from}
use Rattle.meaning.specs.Refusals.{Catalog, text_conditions, lowest_of}
use Rattle.statement.specs.Operators.{predicate_number}
use Rattle.statement.specs.Catalog.{catalog}
use Rattle.statement.specs.declared.Name.{Name}
use Rattle.statement.specs.declared.Table.{Table}
use Rattle.statement.specs.declared.Operand.{Operand}
use Rattle.statement.specs.declared.Comparison.{Comparison}
use Rattle.statement.specs.declared.Condition.{Condition}
use Rattle.statement.specs.declared.Query.{Query}
use Rattle.statement.specs.declared.Value.{Value}
use Rattle.statement.specs.declared.Setting.{Setting}
use Rattle.statement.specs.declared.Update.{Update}
use Rattle.statement.specs.declared.Refusal.{Refusal}
use Rattle.statement.specs.declared.Statement.{Statement}
use Rattle.statement.specs.declared.Statement.TheVariants as V
use Rattle.statement.specs.Refusals.{number_of}

-- a list in an array of n places: d stands behind it
abbrev pub padded : {A : Type 0} → ℕ → A → List A → List A
padded n d xs = xs ++ replicate (n - length xs) d

-- ---- tables

abbrev pub name_struct : List ℕ → Name
name_struct n = record { bytes = padded most_name 0 n; len = length n }

abbrev pub no_name : Name
no_name = name_struct []

abbrev pub table_struct : Schema → Table
table_struct t = record {
  name = name_struct t.name;
  columns = padded most_items no_name (map name_struct t.columns);
  count = length t.columns;
  capacity = t.capacity;
  rows = 0;
  oldest = 0;
  ring = t.ring;
}

abbrev pub no_table : Table
no_table = table_struct (record { name = []; columns = []; capacity = 0; ring = false })

-- ---- conditions

-- a step for each comparison, and one for each AND and OR between two
abbrev pub most_steps : ℕ
most_steps = 2 * most_comparisons - 1

-- question marks are counted from 0; a number that is not used is 0
abbrev pub mark_place : ℕ → ℕ
mark_place zero = zero
mark_place (suc k) = k

abbrev pub value_struct : S.Value → Value
value_struct (S.constant z) = record { mark = 0; number = z }
value_struct (S.parameter k) = record { mark = suc (mark_place k); number = pos 0 }

abbrev pub operand_struct : S.Operand → Operand
operand_struct (S.value (S.constant z)) = record { code = 0; number = z }
operand_struct (S.value (S.parameter k)) = record { code = 2 * mark_place k + 1; number = pos 0 }
operand_struct (S.column i) = record { code = 2 * i + 2; number = pos 0 }

-- a comparison holds its operands' codes and numbers
abbrev pub comparison_with : Operand → ℕ → Operand → Comparison
comparison_with a op b = record { op = op; left = a.code; right = b.code; left_number = a.number; right_number = b.number }

abbrev pub left_side : Comparison → Operand
left_side c = record { code = c.left; number = c.left_number }

abbrev pub right_side : Comparison → Operand
right_side c = record { code = c.right; number = c.right_number }

abbrev pub comparison_struct : C.Comparison S.Operand → Comparison
comparison_struct c = comparison_with (operand_struct c.left) (predicate_number c.op) (operand_struct c.right)

abbrev pub no_comparison : Comparison
no_comparison = comparison_with (operand_struct (S.value (S.constant (pos 0)))) 0 (operand_struct (S.value (S.constant (pos 0))))

abbrev pub step_of : {A : Type 0} → Node A → ℕ
step_of (leaf c) = 0
step_of all_of = 1
step_of any_of = 2

abbrev pub condition_struct : List (Node S.Operand) → Condition
condition_struct ns = record {
  comparisons = padded most_comparisons no_comparison (map comparison_struct (leaves ns));
  steps = padded most_steps 0 (map step_of ns);
  count = length (leaves ns);
}

-- ---- questions

-- A.1: the second table, by its number and 1, and the position of its first column; 0 where there is none
abbrev pub second_code : Option S.Second → ℕ
second_code none = 0
second_code (some s) = suc s.table

abbrev pub second_start : Option S.Second → ℕ
second_start none = 0
second_start (some s) = s.start

-- A.6: the marks of the outer comparisons as a number, a binary digit each, the last one's last
abbrev pub digit : Bool → ℕ
digit true = 1
digit false = 0

abbrev pub marks_number : ℕ → List Bool → ℕ
marks_number n [] = n
marks_number n (b ∷ bs) = marks_number (2 * n + digit b) bs

-- of a question over two tables; over one it is 0
abbrev pub outer_number : Option S.Second → Where S.Operand → ℕ
outer_number none w = 0
outer_number (some s) w = marks_number 0 (outer_marks_in w)

abbrev pub query_struct : S.Query → Query
query_struct q = record {
  table = q.table;
  selected = padded most_items 0 q.selected;
  count = length q.selected;
  parameters = q.parameters;
  second = second_code q.second;
  start = second_start q.second;
  outer = outer_number q.second q.condition;
  condition = condition_struct (nodes_in q.condition);
}

abbrev pub no_query : Query
no_query = query_struct (record { table = 0; second = none; selected = []; condition = always; parameters = 0 })

-- ---- updates

-- a setting holds its value's mark and number
abbrev pub setting_with : ℕ → Value → Setting
setting_with i v = record { column = i; mark = v.mark; number = v.number }

abbrev pub new_value : Setting → Value
new_value s = record { mark = s.mark; number = s.number }

abbrev pub setting_struct : ℕ × S.Value → Setting
setting_struct s = setting_with s.0 (value_struct s.1)

abbrev pub no_setting : Setting
no_setting = setting_with 0 (value_struct (S.constant (pos 0)))

-- numbers of the forms of updates
abbrev pub insert_form : ℕ
insert_form = 0

abbrev pub update_form : ℕ
update_form = 1

abbrev pub delete_form : ℕ
delete_form = 2

abbrev pub form_of_change : S.Change → ℕ
form_of_change (S.insert vs) = insert_form
form_of_change (S.update ss w) = update_form
form_of_change (S.delete w) = delete_form

-- an INSERT sets each column in its place
abbrev pub settings_of_change : S.Change → List (ℕ × S.Value)
settings_of_change (S.insert vs) = placed_from 0 vs
settings_of_change (S.update ss w) = ss
settings_of_change (S.delete w) = []

abbrev pub where_of_change : S.Change → Where S.Operand
where_of_change (S.insert vs) = always
where_of_change (S.update ss w) = w
where_of_change (S.delete w) = w

abbrev pub update_struct : S.Update → Update
update_struct u = record {
  form = form_of_change u.change;
  table = u.table;
  settings = padded most_items no_setting (map setting_struct (settings_of_change u.change));
  count = length (settings_of_change u.change);
  parameters = u.parameters;
  condition = condition_struct (nodes_in (where_of_change u.change));
}

abbrev pub no_update : Update
no_update = update_struct (record { table = 0; change = S.insert []; parameters = 0 })

-- ---- statements, as numbers and what they say: the refusal's number or 0; the kind's number, 0 where refused; everything else is empty

-- numbers of the kinds of statements
abbrev pub of_table : ℕ
of_table = 1

abbrev pub of_query : ℕ
of_query = 2

abbrev pub of_update : ℕ
of_update = 3

pub record Compiled : Type 0 where
  pub refusal : ℕ
  pub kind : ℕ
  pub table : Table
  pub query : Query
  pub update : Update

abbrev pub compiled_table : Table → Compiled
compiled_table t = record { refusal = 0; kind = of_table; table = t; query = no_query; update = no_update }

abbrev pub compiled_query : Query → Compiled
compiled_query q = record { refusal = 0; kind = of_query; table = no_table; query = q; update = no_update }

abbrev pub compiled_update : Update → Compiled
compiled_update u = record { refusal = 0; kind = of_update; table = no_table; query = no_query; update = u }

abbrev pub compiled_refusal : ℕ → Compiled
compiled_refusal n = record { refusal = n; kind = 0; table = no_table; query = no_query; update = no_update }

-- what compiling gave, read so
abbrev pub compiled : Result Statement Refusal → Compiled
compiled (Ok (V.Table t)) = compiled_table t
compiled (Ok (V.Query q)) = compiled_query q
compiled (Ok (V.Update u)) = compiled_update u
compiled (Err r) = compiled_refusal (number_of r)

unfoldable pub struct_of : S.Statement → Compiled
struct_of (S.creates t) = compiled_table (table_struct t)
struct_of (S.asks q) = compiled_query (query_struct q)
struct_of (S.changes u) = compiled_update (update_struct u)

-- ---- texts

abbrev pub struct_of_text : List Schema → Option Sentence → Compiled
struct_of_text ts none = compiled_refusal 0
struct_of_text ts (some s) = struct_of (statement_of ts s)

-- the statement, or the number of the refusal if there is one
abbrev pub compiled_by : ℕ → Compiled → Compiled
compiled_by zero done = done
compiled_by (suc n) done = compiled_refusal (suc n)

unfoldable pub compiled_of : List ℕ → List Table → ℕ → ℕ → ℕ → ℕ → Compiled
compiled_of text tables used queries updates cells =
    let c : Catalog = catalog tables used queries updates cells in
    let s : Option Sentence = sentence text in
    compiled_by (lowest_of (text_conditions c text s)) (struct_of_text c.tables s)
