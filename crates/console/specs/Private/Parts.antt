-- What the private functions of `lines` find: numbers and values that are good or not, counts of values, commands. Assumes nothing: these are definitions.
use Rattle.std.specs.Prelude as P
use Rattle.std.specs.Prelude.{cond, List, [], ◌∷◌, map, ℕ, ◌+◌, ℤ, pos, length, unwrap_or}
use Rattle.std.proofs.Math.Option.{Option, none, some}
use Rattle.console.specs.declared.Line.{Line}
use Rattle.console.specs.declared.Line.TheVariants.{Ask, Do}
use Rattle.console.specs.Lines.{is_word, word_number, word_value, word_values}

-- as the program has what may be missing
abbrev pub as_option : {A : Type 0} → Option A → P.Option A
as_option none = P.None
as_option (some x) = P.Some x

-- the value of a word; 0 where it is none
abbrev pub value_at : List ℕ → ℤ
value_at w = unwrap_or (as_option (word_value w)) (pos 0)

abbrev pub values_at : List (List ℕ) → List ℤ
values_at ws = map value_at ws

-- how many values there are, if all are good, counted on from n
abbrev pub count_on : ℕ → Option (List ℤ) → P.Option ℕ
count_on n none = P.None
count_on n (some zs) = P.Some (n + length zs)

-- ASK or DO, by their word
abbrev pub named_line : List ℕ → ℕ → ℕ → P.Option Line
named_line w n k = cond (is_word "ASK" w) (P.Some (Ask n k)) (cond (is_word "DO" w) (P.Some (Do n k)) P.None)

-- the same, where the number and the count may be missing
abbrev pub counted_line : List ℕ → P.Option ℕ → P.Option ℕ → P.Option Line
counted_line w (P.Some n) (P.Some k) = named_line w n k
counted_line w (P.Some n) P.None = P.None
counted_line w P.None k = P.None

-- what two words or more say
abbrev pub numbered_line : List (List ℕ) → P.Option Line
numbered_line [] = P.None
numbered_line (w ∷ []) = P.None
numbered_line (w ∷ n ∷ vs) = counted_line w (as_option (word_number n)) (count_on 0 (word_values vs))
