-- The test of a row (request A.3): prepared once a question as numbers alone, the values of the question marks filled in; and what it is to be prepared. `Demand` says that a row
-- then passes where Meaning says so. Assumes nothing: these are definitions.
use Rattle.std.specs.Prelude.{◌≡◌, Bool, cond, List, ℕ, zero, suc, ◌+◌, ◌*◌, ◌≤◌, ◌<◌, ltb, eqb, ℤ, pos, length, get_or}
use Rattle.meaning.specs.Limits.{most_comparisons}
use Rattle.meaning.specs.Meaning.{Row}
use Rattle.statement.specs.declared.Condition.{Condition}
use Rattle.statement.specs.declared.Order.{Order}
use Rattle.statement.specs.declared.Order.TheVariants.{Less, Equal, Greater, Unknown}
use Rattle.statement.specs.Operators.{order_of}
use Rattle.table.specs.Rows.{meets_stored}

-- ---- the sides of a comparison

-- no row is longer
abbrev pub longest : ℕ
longest = 65535

-- side j of the comparisons, two a comparison
abbrev pub side_at : List ℕ → List ℤ → Row → ℕ → ℤ
side_at places numbers row j = get_or row (get_or places j 0) (get_or numbers j (pos 0))

-- ---- from comparison to comparison

-- the place behind the comparisons: the row meets the condition
abbrev pub met : ℕ
met = most_comparisons

-- the place of an order among the four targets of a comparison
abbrev pub target_place : Order → ℕ
target_place Less = 0
target_place Equal = 1
target_place Greater = 2
target_place Unknown = 3

-- where comparison i leads: of its four targets the one by the order of its sides
unfoldable pub next_at : List ℕ → List ℕ → List ℤ → Row → ℕ → ℕ
next_at targets places numbers row i = get_or targets (4 * i + target_place (order_of (side_at places numbers row (2 * i)) (side_at places numbers row (2 * i + 1)))) 0

-- where one is after at most so many comparisons, from place i on
abbrev pub arrives : (ℕ → ℕ) → ℕ → ℕ → ℕ
arrives next zero i = i
arrives next (suc k) i = cond (ltb i met) (arrives next k (next i)) i

-- every comparison leads to a later one, or behind them all
abbrev pub Forward : List ℕ → Type 0
Forward targets = (i k : ℕ) → i < met → k ≤ 3 → i < get_or targets (4 * i + k) 0

-- whether a row passes the test
unfoldable pub passes : List ℕ → List ℕ → List ℤ → ℕ → Row → Bool
passes targets places numbers start row = eqb (arrives (next_at targets places numbers row) met start) met

-- ---- what is promised

-- numbers that test what a condition says with these values, of every row
pub record Prepared (c : Condition) (vs : List ℤ) (targets places : List ℕ) (numbers : List ℤ) (start : ℕ) : Type 0 where
  pub forward : Forward targets
  pub says : (row : Row) → length row ≤ longest → passes targets places numbers start row ≡ meets_stored c vs row
