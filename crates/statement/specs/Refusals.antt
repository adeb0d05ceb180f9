-- The papers' numbers for calls not taken: document 01, "Numbers for a call not taken"; 15 and 16 of request A.1, 17 of A.8. "If an answer is an enum, a definition tells you this paper's
-- number and values for each of its cases. The promises use that definition." (14, of a row that is not there, is of crate `answer`.) Assumes nothing: these are definitions.
use Rattle.std.specs.Prelude.{ℕ, Result, Ok, Err}
use Rattle.statement.specs.declared.Refusal.{Refusal}
use Rattle.statement.specs.declared.Refusal.TheVariants.{Opening, State, Text, Sentence, Limit, Unknown, Taken, Miscounted, Place, Number, Values, Full, Buffer, Twice, Rows, Note}

abbrev pub number_of : Refusal → ℕ
number_of Opening = 1
number_of State = 2
number_of Text = 3
number_of Sentence = 4
number_of Limit = 5
number_of Unknown = 6
number_of Taken = 7
number_of Miscounted = 8
number_of Place = 9
number_of Number = 10
number_of Values = 11
number_of Full = 12
number_of Buffer = 13
number_of Twice = 15
number_of Rows = 16
number_of Note = 17

-- 0 where nothing is refused
abbrev pub number_in : {A : Type 0} → Result A Refusal → ℕ
number_in (Ok x) = 0
number_in (Err r) = number_of r
