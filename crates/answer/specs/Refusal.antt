-- The papers' number of a row that is not shown: document 01, "Numbers for a call not taken". Assumes nothing: these are definitions.
use Rattle.std.specs.Prelude.{ℕ, Result, Ok, Err}
use Rattle.answer.specs.declared.NoRow.{NoRow}

abbrev pub number_of : NoRow → ℕ
number_of r = 14

-- 0 where it is shown
abbrev pub number_in : {A : Type 0} → Result A NoRow → ℕ
number_in (Ok x) = 0
number_in (Err r) = number_of r
