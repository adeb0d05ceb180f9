-- The operators by their numbers, the opposite of each, the order of two numbers, and what an operator says of two sides by their order. Null tests (A.5) are the last two.
-- Assumes nothing: these are definitions.
use Rattle.std.specs.Prelude.{Bool, true, false, ◌||◌, cond, List, [], ◌∷◌, ℕ, ltb, ℤ, pos, get_or}
use Rattle.std.specs.Int.Signed.{lt_z}
use Rattle.lists.specs.Tests.{eq_z}
use Rattle.statement.specs.declared.Order.{Order}
use Rattle.statement.specs.declared.Order.TheVariants.{Less, Equal, Greater, Unknown}
use Rattle.meaning.specs.Operator.{Operator, eq, ne, lt, le, gt, ge, null, is_null, Predicate, by, is-null, is-not-null, truth}

-- the six operators in their order
abbrev pub operator_number : Operator → ℕ
operator_number eq = 0
operator_number ne = 1
operator_number lt = 2
operator_number le = 3
operator_number gt = 4
operator_number ge = 5

abbrev pub predicates : List Predicate
predicates = by eq ∷ by ne ∷ by lt ∷ by le ∷ by gt ∷ by ge ∷ is-null ∷ is-not-null ∷ []

-- a number past the last is read as <>
abbrev pub predicate_at : ℕ → Predicate
predicate_at k = get_or predicates k (by ne)

abbrev pub predicate_number : Predicate → ℕ
predicate_number (by o) = operator_number o
predicate_number is-null = 6
predicate_number is-not-null = 7

abbrev pub is_null_test : Predicate → Bool
is_null_test (by o) = false
is_null_test is-null = true
is_null_test is-not-null = true

-- the comparison that is true where k is false, and false where k is true: = <>, < >=, <= >, IS NULL and IS NOT NULL
unfoldable pub opposite_of : ℕ → ℕ
opposite_of k = cond (ltb k 8) (get_or (1 ∷ 0 ∷ 5 ∷ 4 ∷ 3 ∷ 2 ∷ 7 ∷ 6 ∷ []) k 0) k

-- the order of two numbers: unknown if one is null
abbrev pub order_of : ℤ → ℤ → Order
order_of a b = cond (is_null a || is_null b) Unknown (cond (lt_z a b) Less (cond (eq_z a b) Equal Greater))

-- an order by its number: 0 the left side is less, 1 equal, 2 greater, 3 unknown, since one is null. A number past the last is read as unknown
abbrev pub order_at : ℕ → Order
order_at n = get_or (Less ∷ Equal ∷ Greater ∷ []) n Unknown

-- whether a comparison is true of two sides in this order; a null test has its column on both
abbrev pub truth_by : Predicate → Order → Bool
truth_by p Less = truth p (pos 0) (pos 1)
truth_by p Equal = truth p (pos 0) (pos 0)
truth_by p Greater = truth p (pos 1) (pos 0)
truth_by p Unknown = truth p null null
