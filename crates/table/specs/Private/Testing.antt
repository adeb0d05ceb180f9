-- What the private functions of `rows` prepare and test. Assumes nothing: these are definitions.
use Rattle.std.specs.Prelude.{◌≡◌, Bool, cond, List, [], ◌∷◌, ℕ, zero, suc, ◌+◌, ◌-◌, ◌≤◌, ℤ, pos, length}
use Rattle.meaning.specs.Limits.{most_comparisons}
use Rattle.meaning.specs.Condition.{Where}
use Rattle.meaning.specs.Statement as M
use Rattle.meaning.specs.Statement.{column, value}
use Rattle.meaning.specs.Meaning.{Row, value_of, meets_where}
use Rattle.statement.specs.declared.Condition.{Condition}
use Rattle.statement.specs.declared.Operand.{Operand}
use Rattle.statement.specs.declared.Comparison.{Comparison}
use Rattle.statement.specs.declared.Query.{Query}
use Rattle.statement.specs.Compiled.{left_side, right_side}
use Rattle.statement.specs.Operators.{predicate_at, is_null_test}
use Rattle.statement.specs.Sound.{operand_read, AgreesCondition}
use Rattle.table.specs.Rows.{meets_stored, passes_stored}
use Rattle.table.specs.Tests.{longest, met, Prepared}

-- a side: its place in a row, and what it is where the row ends before that place. No row reaches the place of a side that is no column
abbrev pub place_in : M.Operand → ℕ
place_in (column i) = i
place_in (value v) = longest

abbrev pub number_in : List ℤ → M.Operand → ℤ
number_in vs (column i) = pos 0
number_in vs (value v) = value_of vs v

abbrev pub place_of : Operand → ℕ
place_of o = place_in (operand_read o)

abbrev pub number_of : List ℤ → Operand → ℤ
number_of vs o = number_in vs (operand_read o)

-- the right side of a comparison as a row is tested: a null test (A.5) looks at its left side alone
abbrev pub right_tested : Comparison → Operand
right_tested c = cond (is_null_test (predicate_at c.op)) (left_side c) (right_side c)

-- the place behind that of a row that meets the condition (`Tests.met`): it does not
abbrev pub unmet : ℕ
unmet = met + 1

-- the steps of comparisons that are joined by AND, each with those before it: of the first one, and of n further ones
abbrev pub and_steps : ℕ → List ℕ
and_steps zero = []
and_steps (suc n) = 0 ∷ 1 ∷ and_steps n

abbrev pub all_steps : List ℕ
all_steps = 0 ∷ and_steps (most_comparisons - 1)

-- a condition that holds of exactly the rows that pass, of every question with that condition, those marks and that start of the second table's columns
abbrev pub TestsFirst : Condition → ℕ → ℕ → Condition → Type 0
TestsFirst c outer start r =
    (q : Query) → q.condition ≡ c → q.outer ≡ outer → q.start ≡ start → (vs : List ℤ) (row : Row) → meets_stored r vs row ≡ passes_stored q vs row
