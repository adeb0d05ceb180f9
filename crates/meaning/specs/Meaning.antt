-- What statements do: document 01, "Meaning", first paragraph, and request A.5 (only where the condition is true). Assumes nothing: these are definitions.
use Rattle.std.specs.Prelude.{Bool, not, cond, List, [], ◌∷◌, ◌++◌, map, ℕ, zero, suc, ℤ, pos, get_or, set}
use Rattle.lists.specs.Lists.{keep, count}
use Rattle.meaning.specs.Condition.{Where, eval_where}
use Rattle.meaning.specs.Statement.{Value, constant, parameter, Operand, column, value, Query, Change, insert, delete, update}

abbrev pub Row : Type 0
Row = List ℤ

-- column i of a row, counted from 0; a row has its table's columns, and past them 0 stands in
abbrev pub cell : Row → ℕ → ℤ
cell r i = get_or r i (pos 0)

-- the value of question mark k, counted from 1
abbrev pub value_at : List ℤ → ℕ → ℤ
value_at vs zero = pos 0
value_at vs (suc k) = get_or vs k (pos 0)

abbrev pub value_of : List ℤ → Value → ℤ
value_of vs (constant z) = z
value_of vs (parameter k) = value_at vs k

abbrev pub operand_value : Row → List ℤ → Operand → ℤ
operand_value r vs (column i) = cell r i
operand_value r vs (value v) = value_of vs v

-- whether a row meets a WHERE (A.5: its condition is true), with the values of the question marks
abbrev pub meets_where : Where Operand → List ℤ → Row → Bool
meets_where w vs r = eval_where (operand_value r vs) w

-- ---- a question: "lists the selected columns (repeats allowed) of each row whose condition holds, in row order"

abbrev pub takes : Query → List ℤ → Row → Bool
takes q vs r = meets_where q.condition vs r

abbrev pub selected : Query → Row → Row
selected q r = map (cell r) q.selected

unfoldable pub answer : Query → List ℤ → List Row → List Row
answer q vs rows = map (selected q) (keep (takes q vs) rows)

-- ---- an update

-- the row of an INSERT
abbrev pub new_row : List Value → List ℤ → Row
new_row os vs = map (value_of vs) os

-- "then sets": a row with the set columns changed, the first one first
abbrev pub assigned : List (ℕ × Value) → List ℤ → Row → Row
assigned [] vs r = r
assigned (s ∷ ss) vs r = assigned ss vs (set r s.0 (value_of vs s.1))

-- "UPDATE tests each row as it was, then sets."
abbrev pub updated_row : List (ℕ × Value) → Where Operand → List ℤ → Row → Row
updated_row ss g vs r = cond (meets_where g vs r) (assigned ss vs r) r

-- the table's rows after it: "Rows stand in order of insertion"; "DELETE closes up in order."
unfoldable pub changed : Change → List ℤ → List Row → List Row
changed (insert os) vs rows = rows ++ (new_row os vs ∷ [])
changed (delete g) vs rows = keep (λ (r : Row). not (meets_where g vs r)) rows
changed (update ss g) vs rows = map (updated_row ss g vs) rows

-- "the rows inserted, matched or deleted"
unfoldable pub rows_changed : Change → List ℤ → List Row → ℕ
rows_changed (insert os) vs rows = 1
rows_changed (delete g) vs rows = count (meets_where g vs) rows
rows_changed (update ss g) vs rows = count (meets_where g vs) rows
