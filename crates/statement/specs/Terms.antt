-- What the code reads an operand and a value as, in the words of document 01: question marks are counted from 0 in the code and from 1 there.
-- Assumes nothing: these are definitions.
use Rattle.std.specs.Prelude.{ℕ, zero, suc, List, take, Option, None, Some}
use Rattle.std.specs.declared.cmp.Ordering.{Ordering}
use Rattle.std.specs.declared.cmp.Ordering.TheVariants as C
use Rattle.statement.specs.declared.Query.{Query}
use Rattle.statement.specs.declared.Order.{Order}
use Rattle.statement.specs.declared.Order.TheVariants.{Less, Equal, Greater}
use Rattle.meaning.specs.Statement as M
use Rattle.meaning.specs.Statement.{column, value, constant, parameter}
use Rattle.statement.specs.declared.Term.{Term}
use Rattle.statement.specs.declared.Term.TheVariants as T
use Rattle.statement.specs.declared.Given.{Given}
use Rattle.statement.specs.declared.Given.TheVariants as G

abbrev pub given_read : Given → M.Value
given_read (G.Constant z) = constant z
given_read (G.Parameter k) = parameter (suc k)

abbrev pub term_read : Term → M.Operand
term_read (T.Constant z) = value (constant z)
term_read (T.Parameter k) = value (parameter (suc k))
term_read (T.Column i) = column i

-- the order of two sides that are not null
abbrev pub order_said : Ordering → Order
order_said C.Less = Less
order_said C.Equal = Equal
order_said C.Greater = Greater

-- the columns that a question selects
abbrev pub used_selected : Query → List ℕ
used_selected q = take q.count q.selected

-- A.1: the number of the second table: by its code 0 none, else that number and 1
abbrev pub second_said : ℕ → Option ℕ
second_said zero = None
second_said (suc k) = Some k
