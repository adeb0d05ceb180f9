-- Which matched answers an update drops: request A.7, "Fewer answers dropped". Assumes nothing: these are definitions.
use Rattle.std.specs.Prelude.{◌≡◌, Bool, true, false, not, ◌&&◌, ◌||◌, List, [], ◌∷◌, ◌++◌, map, ℕ, zero, suc, ℤ, eqb, length}
use Rattle.std.proofs.Math.Option.{Option, none, some}
use Rattle.std.proofs.Math.IntN.{suc_ℤ}
use Rattle.lists.specs.Lists.{All, any, keep, flat}
use Rattle.meaning.specs.Operator.{null, Predicate, by, is-null, is-not-null}
use Rattle.meaning.specs.Condition.{Comparison, comparisons_in, operands_in}
use Rattle.meaning.specs.Limits.{is_within32}
use Rattle.meaning.specs.Statement as S
use Rattle.meaning.specs.Statement.{Value, Operand, value, Second, Query, Change, insert, delete, update, Update}
use Rattle.meaning.specs.Meaning.{Row, value_of, takes}
use Rattle.meaning.specs.Pattern.{matters, matches_two}

-- ---- "Where question and update are of one table and neither compares a column with a column"

abbrev pub is_column : Operand → Bool
is_column (S.column i) = true
is_column (value v) = false

-- IS NULL and IS NOT NULL have one operand
abbrev pub compares_columns : Predicate → Operand → Operand → Bool
compares_columns (by o) a b = is_column a && is_column b
compares_columns is-null a b = false
compares_columns is-not-null a b = false

abbrev pub with_columns : Comparison Operand → Bool
with_columns c = compares_columns c.op c.left c.right

-- the comparisons of the update's condition; INSERT has none
abbrev pub comparisons_of : Change → List (Comparison Operand)
comparisons_of (insert os) = []
comparisons_of (delete g) = comparisons_in g
comparisons_of (update ss g) = comparisons_in g

-- a question over one table
abbrev pub is_single : Option Second → Bool
is_single none = true
is_single (some s) = false

unfoldable pub is_separate : Query → Update → Bool
is_separate q u =
    (is_single q.second && eqb q.table u.table)
    && not (any with_columns (comparisons_in q.condition ++ comparisons_of u.change))

-- ---- "a matched answer is dropped exactly if some row of 32-bit numbers, null allowed, meets the update's condition and, through the update, enters or leaves what the
-- question takes, or is taken before and after and alters in a selected column": a row of so many columns through which the update matters

-- a row of so many 32-bit numbers
abbrev pub IsRow : ℕ → Row → Type 0
IsRow columns r = (length r ≡ columns) × All (λ z. is_within32 z ≡ true) r

abbrev pub Affected : ℕ → Query → List ℤ → Update → List ℤ → Type 0
Affected columns q qs u us = (r : Row) × IsRow columns r × (matters q qs u us r [] ≡ true)

-- the same as a test: it is enough to try, in every column, null, the least number that is not null, each number that stands in the statements with their values
-- filled in, and the number after it

abbrev pub numbers_in : List ℤ → List Operand → List ℤ
numbers_in vs [] = []
numbers_in vs (S.column i ∷ os) = numbers_in vs os
numbers_in vs (value v ∷ os) = value_of vs v ∷ numbers_in vs os

abbrev pub change_numbers : Change → List ℤ → List ℤ
change_numbers (insert os) us = []
change_numbers (delete g) us = numbers_in us (operands_in g)
change_numbers (update ss g) us = map (λ (s : ℕ × Value). value_of us s.1) ss ++ numbers_in us (operands_in g)

abbrev pub critical : List ℤ → List ℤ
critical zs = keep is_within32 (null ∷ suc_ℤ null ∷ (zs ++ map suc_ℤ zs))

-- the rows of n columns over some numbers
abbrev pub rows_from : List ℤ → ℕ → List Row
rows_from zs zero = [] ∷ []
rows_from zs (suc n) = flat (map (λ (z : ℤ). map (λ (r : Row). z ∷ r) (rows_from zs n)) zs)

unfoldable pub affects : ℕ → Query → List ℤ → Update → List ℤ → Bool
affects columns q qs u us =
    any (λ (r : Row). matters q qs u us r []) (rows_from (critical (numbers_in qs (operands_in q.condition) ++ change_numbers u.change us)) columns)

-- ---- a kept answer of the question with the values qs is dropped: a pattern matches and, under these premises, some row is affected. "For an INSERT under these premises,
-- and for a row it pushes out of a ring, the row is known, and the test is whether the question takes it": of INSERT `matters` is that test; `out` are the rows pushed out

unfoldable pub drops : ℕ → Query → Update → List Row → List ℤ → List ℤ → Bool
drops columns q u out us qs = matches_two q u out us qs && (not (is_separate q u) || (affects columns q qs u us || any (takes q qs) out))
