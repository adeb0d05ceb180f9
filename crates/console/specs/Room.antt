-- Lent memory of any length: as much is written as there is room for. Assumes nothing: these are definitions.
use Rattle.std.specs.Prelude.{List, ℕ, ◌+◌, ◌-◌, length, take}
use Rattle.lists.specs.Lists.{written}

module _ {A : Type 0} where
  -- what there is room for from `at` on
  abbrev pub fitting : List A → ℕ → List A → List A
  fitting xs at ys = take (length xs - at) ys

  -- xs with ys from `at` on, as far as there is room; and where that ends
  abbrev pub filled : List A → ℕ → List A → List A
  filled xs at ys = written xs at (fitting xs at ys)

  abbrev pub filled_to : List A → ℕ → List A → ℕ
  filled_to xs at ys = at + length (fitting xs at ys)
