-- Tests of a condition with names as places, in postfix order: whether its columns are those of a table, whether its question marks are numbered from left to right, and whether its null tests are of
-- columns. Assumes nothing: these are definitions.
use Rattle.std.specs.Prelude.{Bool, true, false, ◌&&◌, List, [], ◌∷◌, ℕ, suc, ◌+◌, eqb}
use Rattle.lists.specs.Lists.{all}
use Rattle.meaning.specs.Operator.{Predicate, by, is-null, is-not-null}
use Rattle.meaning.specs.Condition.{Comparison, sides}
use Rattle.meaning.specs.Postfix.{Node, leaves}
use Rattle.meaning.specs.Statement.{Operand, column, value, constant, parameter, is_below}

-- ---- what is in it

abbrev pub mark_in_operand : Operand → ℕ
mark_in_operand (column i) = 0
mark_in_operand (value (constant z)) = 0
mark_in_operand (value (parameter k)) = 1

abbrev pub parameter_count : List Operand → ℕ
parameter_count [] = 0
parameter_count (o ∷ os) = mark_in_operand o + parameter_count os

-- ---- tests

-- a question mark is m + 1
abbrev pub is_numbered : ℕ → Operand → Bool
is_numbered m (column i) = true
is_numbered m (value (constant z)) = true
is_numbered m (value (parameter k)) = eqb k (suc m)

-- the question marks are m + 1, m + 2 and on, from left to right
abbrev pub numbered_on : ℕ → List Operand → Bool
numbered_on m [] = true
numbered_on m (o ∷ os) = is_numbered m o && numbered_on (m + mark_in_operand o) os

abbrev pub numbered_from : ℕ → List (Node Operand) → Bool
numbered_from m ns = numbered_on m (sides (leaves ns))

abbrev pub columns_below : ℕ → List (Node Operand) → Bool
columns_below n ns = all (is_below n) (sides (leaves ns))

-- A.5: a null test has one column on both sides
abbrev pub same_column : Operand → Operand → Bool
same_column (column i) (column j) = eqb i j
same_column (column i) (value v) = false
same_column (value v) o = false

abbrev pub is_test_by : Predicate → Operand → Operand → Bool
is_test_by (by o) a b = true
is_test_by is-null a b = same_column a b
is_test_by is-not-null a b = same_column a b

abbrev pub is_test : Comparison Operand → Bool
is_test c = is_test_by c.op c.left c.right
