-- What a stored table or statement may be: document 01, "The store and its calls" ("its tables and statements are such as refusals 4 to 8 let pass beside the
-- rest"). How its used entries are read, and what it is to be the compiled form of a sentence that passes (`FromTable`, `FromQuery`, `FromUpdate`): this is the
-- definition. The tests that the code computes are in `SoundTest`. Entries past the counts do not matter. Assumes nothing: these are definitions.
use Rattle.std.specs.Prelude.{◌≡◌, Bool, true, false, cond, List, [], ◌∷◌, map, reverse, ℕ, zero, suc, ◌*◌, ◌-◌, ◌/◌, ◌%◌, eqb, ℤ, pos, length, take}
use Rattle.std.proofs.Math.Option.{Option, none, some}
use Rattle.lists.specs.Lists.{All}
use Rattle.meaning.specs.Operator.{by, eq}
use Rattle.meaning.specs.Condition as C
use Rattle.meaning.specs.Condition.{Where, sides, comparisons_in}
use Rattle.meaning.specs.Postfix.{Node, leaf, all_of, any_of, nodes_in, leaves, outer_marks_in}
use Rattle.meaning.specs.Tokens.{tokens}
use Rattle.meaning.specs.Grammar.{Sentence, spell}
use Rattle.meaning.specs.Limits.{most_items, most_comparisons, most_name, is_within32, past_limit}
use Rattle.meaning.specs.Names.{Schema, unknown_name, taken, miscounted, twice}
use Rattle.meaning.specs.Statement as M
use Rattle.meaning.specs.Statement.{column, value, constant, parameter, creates, asks, changes, statement_of}
use Rattle.statement.specs.Operators.{predicate_at, predicate_number}
use Rattle.statement.specs.Catalog.{name_of_struct}
use Rattle.statement.specs.Compiled.{most_steps, left_side, right_side, new_value, step_of, form_of_change, settings_of_change, where_of_change}
use Rattle.statement.specs.declared.Name.{Name}
use Rattle.statement.specs.declared.Table.{Table}
use Rattle.statement.specs.declared.Operand.{Operand}
use Rattle.statement.specs.declared.Comparison.{Comparison}
use Rattle.statement.specs.declared.Condition.{Condition}
use Rattle.statement.specs.declared.Query.{Query}
use Rattle.statement.specs.declared.Value.{Value}
use Rattle.statement.specs.declared.Setting.{Setting}
use Rattle.statement.specs.declared.Update.{Update}

-- ---- reading the used entries

abbrev pub used_columns : Table → List Name
used_columns t = take t.count t.columns

-- a value by its mark: 0 the constant z, else that question mark; document 01 numbers question marks from 1
abbrev pub value_by : ℕ → ℤ → M.Value
value_by zero z = constant z
value_by (suc k) z = parameter (suc k)

-- an operand by its code: 0 the constant z, 2 k + 1 parameter k counted from 0, 2 i + 2 column i
abbrev pub operand_by : ℕ → ℤ → M.Operand
operand_by n z = cond (eqb n 0) (value (constant z)) (cond (eqb (n % 2) 1) (value (parameter (suc (n / 2)))) (column (n / 2 - 1)))

abbrev pub value_read : Value → M.Value
value_read v = value_by v.mark v.number

abbrev pub operand_read : Operand → M.Operand
operand_read o = operand_by o.code o.number

abbrev pub comparison_read : Comparison → C.Comparison M.Operand
comparison_read c = record { left = operand_read (left_side c); op = predicate_at c.op; right = operand_read (right_side c) }

abbrev pub no_comparison : C.Comparison M.Operand
no_comparison = record { left = value (constant (pos 0)); op = by eq; right = value (constant (pos 0)) }

-- steps and the comparisons that they take: 0 the next comparison, 1 AND, 2 OR
abbrev pub nodes_read : List ℕ → List Comparison → List (Node M.Operand)
nodes_read [] cs = []
nodes_read (zero ∷ ss) [] = leaf no_comparison ∷ nodes_read ss []
nodes_read (zero ∷ ss) (c ∷ cs) = leaf (comparison_read c) ∷ nodes_read ss cs
nodes_read (suc zero ∷ ss) cs = all_of ∷ nodes_read ss cs
nodes_read (suc (suc k) ∷ ss) cs = any_of ∷ nodes_read ss cs

-- the first `count` comparisons, and 2 * count - 1 steps, none for no comparison
abbrev pub used_comparisons : Condition → List Comparison
used_comparisons c = take c.count c.comparisons

abbrev pub used_steps : Condition → List ℕ
used_steps c = take (2 * c.count - 1) c.steps

unfoldable pub condition_nodes : Condition → List (Node M.Operand)
condition_nodes c = nodes_read (used_steps c) (used_comparisons c)

-- A.1: the second table by its code: 0 none, else its number and 1
abbrev pub second_by : ℕ → ℕ → Option M.Second
second_by zero start = none
second_by (suc k) start = some (record { table = k; start = start })

abbrev pub second_read : Query → Option M.Second
second_read q = second_by q.second q.start

-- A.6: the marks of the outer comparisons by their number: from the last one on, and in the text's order
abbrev pub digits_back : ℕ → ℕ → List Bool
digits_back zero m = []
digits_back (suc n) m = eqb (m % 2) 1 ∷ digits_back n (m / 2)

abbrev pub outer_back : Query → List Bool
outer_back q = digits_back (length (used_comparisons q.condition)) q.outer

abbrev pub outer_read : Query → List Bool
outer_read q = reverse (outer_back q)

abbrev pub used_settings : Update → List Setting
used_settings u = take u.count u.settings

abbrev pub setting_read : Setting → ℕ × M.Value
setting_read s = (s.column, value_read (new_value s))

abbrev pub settings_read : Update → List (ℕ × M.Value)
settings_read u = map setting_read (used_settings u)

-- ---- the compiled form of a sentence

-- a sentence that refusals 4 to 8 let pass beside the tables: some text spells it (4), it is within the limits (5), its names are known (6) and not taken or twice (7),
-- it has a value for each column (8), and it names no table twice (15: "barred from a sound state")
pub record Passes (ts : List Schema) (s : Sentence) : Type 0 where
  pub spelled : (text : List ℕ) × (tokens text ≡ spell s)
  pub within : past_limit s ≡ false
  pub known : unknown_name ts s ≡ false
  pub fresh : taken ts s ≡ false
  pub counted : miscounted ts s ≡ false
  pub different : twice s ≡ false

-- the stored condition is that WHERE in every used entry
pub record AgreesCondition (c : Condition) (w : Where M.Operand) : Type 0 where
  pub count_is : c.count ≡ length (comparisons_in w)
  pub steps_are : used_steps c ≡ map step_of (nodes_in w)
  pub operators_are : map (λ (k : Comparison). k.op) (used_comparisons c) ≡ map (λ (k : C.Comparison M.Operand). predicate_number k.op) (leaves (nodes_in w))
  pub nodes_are : condition_nodes c ≡ nodes_in w

-- A.6: the marks of a question over two tables are those of the comparisons that are outer in its WHERE; over one table they are not read
abbrev pub AgreesOuter : Option M.Second → Query → Where M.Operand → Type 0
AgreesOuter none q w = Unit {0}
AgreesOuter (some s) q w = outer_read q ≡ outer_marks_in w

pub record AgreesQuery (q : Query) (r : M.Query) : Type 0 where
  pub table_is : q.table ≡ r.table
  pub second_is : second_read q ≡ r.second
  pub count_is : q.count ≡ length r.selected
  pub selected_are : take q.count q.selected ≡ r.selected
  pub parameters_are : q.parameters ≡ r.parameters
  pub condition_is : AgreesCondition q.condition r.condition
  pub outer_are : AgreesOuter r.second q r.condition

pub record AgreesUpdate (u : Update) (r : M.Update) : Type 0 where
  pub form_is : u.form ≡ form_of_change r.change
  pub table_is : u.table ≡ r.table
  pub count_is : u.count ≡ length (settings_of_change r.change)
  pub settings_are : settings_read u ≡ settings_of_change r.change
  pub parameters_are : u.parameters ≡ r.parameters
  pub condition_is : AgreesCondition u.condition (where_of_change r.change)

pub record AgreesTable (t : Table) (r : Schema) : Type 0 where
  pub name_length : t.name.len ≡ length r.name
  pub name_is : name_of_struct t.name ≡ r.name
  pub count_is : t.count ≡ length r.columns
  pub column_lengths : map (λ (n : Name). n.len) (used_columns t) ≡ map length r.columns
  pub columns_are : map name_of_struct (used_columns t) ≡ r.columns
  pub capacity_is : t.capacity ≡ r.capacity
  pub ring_is : t.ring ≡ r.ring

-- a sentence that passes, and its statement, of which the struct is the compiled form
pub record FromQuery (ts : List Schema) (q : Query) : Type 0 where
  pub sentence : Sentence
  pub passes : Passes ts sentence
  pub statement : M.Query
  pub says : statement_of ts sentence ≡ asks statement
  pub agrees : AgreesQuery q statement

pub record FromUpdate (ts : List Schema) (u : Update) : Type 0 where
  pub sentence : Sentence
  pub passes : Passes ts sentence
  pub statement : M.Update
  pub says : statement_of ts sentence ≡ changes statement
  pub agrees : AgreesUpdate u statement

pub record FromTable (others : List Schema) (t : Table) : Type 0 where
  pub sentence : Sentence
  pub passes : Passes others sentence
  pub schema : Schema
  pub says : statement_of others sentence ≡ creates schema
  pub agrees : AgreesTable t schema

-- ---- what the structs' types say

-- what the structs' types give: lengths of arrays, and 32 bits of constants
abbrev pub ValueFits : Value → Type 0
ValueFits v = is_within32 v.number ≡ true

abbrev pub OperandFits : Operand → Type 0
OperandFits o = is_within32 o.number ≡ true

abbrev pub ComparisonFits : Comparison → Type 0
ComparisonFits c = OperandFits (left_side c) × OperandFits (right_side c)

pub record ConditionFits (c : Condition) : Type 0 where
  pub eight : length c.comparisons ≡ most_comparisons
  pub fifteen : length c.steps ≡ most_steps
  pub constants : All ComparisonFits c.comparisons

pub record QueryFits (q : Query) : Type 0 where
  pub eight : length q.selected ≡ most_items
  pub condition_fits : ConditionFits q.condition

pub record UpdateFits (u : Update) : Type 0 where
  pub eight : length u.settings ≡ most_items
  pub constants : All (λ (s : Setting). ValueFits (new_value s)) u.settings
  pub condition_fits : ConditionFits u.condition

abbrev pub NameFits : Name → Type 0
NameFits n = length n.bytes ≡ most_name

pub record TableStructFits (t : Table) : Type 0 where
  pub eight : length t.columns ≡ most_items
  pub name_fits : NameFits t.name
  pub columns_fit : All NameFits t.columns
