-- Document 01, "Which form each place takes": "A constant array gives each comparison's opposite; opposite twice is itself, and it negates the truth." The array is
-- `OPPOSITES` of src/operators.rt. A constant of the code has no name in specs: what is read of it is what `operators::opposite` gives, and the contract of that function
-- says, for every number, that this is `opposite_of`. So each claim is one about the array's entries, eight since request A.5. They are proved in proofs/Demand.antt.
-- Assumes nothing: these are definitions.
use Rattle.std.specs.Prelude.{◌≡◌, ℕ, ◌≤◌, ◌<◌, ℤ, length}
use Rattle.meaning.specs.Operator.{Predicate, not₃, compared, opposite}
use Rattle.statement.specs.Operators.{predicates, predicate_at, predicate_number, opposite_of}

-- the number of one of the comparisons: the six, and A.5: "`level IS NULL` and `level IS NOT NULL` .. count as comparisons"
abbrev pub IsOperator : ℕ → Type 0
IsOperator k = k < length predicates

-- "opposite twice is itself"
abbrev pub OppositeTwice : Type 0
OppositeTwice = (k : ℕ) → IsOperator k → opposite_of (opposite_of k) ≡ k

-- "and it negates the truth", of any two numbers; A.5: by the three values
abbrev pub OppositeNegates : Type 0
OppositeNegates = (k : ℕ) → IsOperator k → (a b : ℤ) → compared (predicate_at (opposite_of k)) a b ≡ not₃ (compared (predicate_at k) a b)

-- rule 4, "a fixed table of the six comparisons and their opposites", with A.5's null tests, "each the opposite of the other": the array is that table, by the
-- numbers of its comparisons
abbrev pub OppositeIsRule : Type 0
OppositeIsRule = (p : Predicate) → opposite_of (predicate_number p) ≡ predicate_number (opposite p)

-- each comparison has its own number
abbrev pub NumbersStand : Type 0
NumbersStand = (p : Predicate) → predicate_at (predicate_number p) ≡ p

-- a number of no comparison stays
abbrev pub OthersStay : Type 0
OthersStay = (k : ℕ) → length predicates ≤ k → opposite_of k ≡ k

-- ---- all of these

pub record Demands : Type 0 where
  pub opposite_twice : OppositeTwice
  pub opposite_negates : OppositeNegates
  pub opposite_is_rule : OppositeIsRule
  pub numbers_stand : NumbersStand
  pub others_stay : OthersStay
