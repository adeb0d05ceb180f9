-- Rules 6 and 7 of "Patterns" with operands as numbers: constants are the lowest, then the update's question marks, then all others. Every class is labelled by
-- its least operand, so a label is the class's constant, else its lowest update mark. proofs/Least shows that this is what `Pattern` of crate `meaning` says.
-- Assumes nothing: these are definitions.
use Rattle.std.specs.Prelude.{Bool, false, not, ◌&&◌, ◌||◌, cond, List, [], ◌∷◌, map, ℕ, ◌+◌, ◌-◌, min, max, ℤ, pos, negsuc, ◌-ℤ◌, eqb, ltb}
use Rattle.lists.specs.Lists.{any, from}
use Rattle.meaning.specs.Operator.{eq, ne, lt, le, gt, ge, Predicate, by, is-null, is-not-null, truth}
use Rattle.meaning.specs.Condition.{Comparison, renamed}
use Rattle.statement.specs.Operators.{is_null_test}
use Rattle.meaning.specs.Pattern.{Joint, column, constant, asked, given, Clause, strict, Entry, number, mark, anything}

-- the first code that is no constant; of the query's question marks; of columns
abbrev pub marks_from : ℕ
marks_from = 4294967296

abbrev pub asked_from : ℕ
asked_from = 4295032832

abbrev pub columns_from : ℕ
columns_from = 4295098368

abbrev pub constant_code : ℤ → ℕ
constant_code (pos n) = 2147483648 + n
constant_code (negsuc n) = 2147483647 - n

abbrev pub code_of : Joint → ℕ
code_of (constant z) = constant_code z
code_of (given k) = marks_from + k
code_of (asked k) = asked_from + k
code_of (column i) = columns_from + i

abbrev pub code_constant : ℕ → ℤ
code_constant n = pos n -ℤ pos 2147483648

abbrev pub is_constant : ℕ → Bool
is_constant n = ltb n marks_from

abbrev pub Coded : Type 0
Coded = List (Comparison ℕ)

abbrev pub coded : Clause → Coded
coded cs = map (renamed code_of) cs

-- ---- labels: each `=` renames the greater label of its sides to the lesser

abbrev pub rename_code : ℕ → ℕ → ℕ → ℕ
rename_code from to x = cond (eqb x from) to x

abbrev pub join_least : Predicate → ℕ → ℕ → ℕ → ℕ
join_least (by eq) a b = rename_code (max a b) (min a b)
join_least (by ne) a b = λ x. x
join_least (by lt) a b = λ x. x
join_least (by le) a b = λ x. x
join_least (by gt) a b = λ x. x
join_least (by ge) a b = λ x. x
join_least is-null a b = λ x. x
join_least is-not-null a b = λ x. x

abbrev pub least_on : (ℕ → ℕ) → Coded → ℕ → ℕ
least_on f [] = f
least_on f (c ∷ cs) = least_on (λ x. join_least c.op (f c.left) (f c.right) (f x)) cs

abbrev pub least : Coded → ℕ → ℕ
least cs = least_on (λ x. x) cs

-- ---- rule 6: an `=` that joins two different constants; a comparison that cannot hold of its labels

abbrev pub clashes : Predicate → ℕ → ℕ → Bool
clashes (by eq) a b = is_constant (max a b) && not (eqb a b)
clashes (by ne) a b = false
clashes (by lt) a b = false
clashes (by le) a b = false
clashes (by gt) a b = false
clashes (by ge) a b = false
clashes is-null a b = false
clashes is-not-null a b = false

abbrev pub clashes_on : (ℕ → ℕ) → Coded → Bool
clashes_on f [] = false
clashes_on f (c ∷ cs) = clashes c.op (f c.left) (f c.right) || clashes_on (λ x. join_least c.op (f c.left) (f c.right) (f x)) cs

-- A.5: the null constant has the least code of all, 0, so a class holds it exactly if that is its label
abbrev pub never_code : Predicate → ℕ → Bool
never_code p a = not (is_null_test p) && eqb a 0

abbrev pub fails : Predicate → ℕ → ℕ → Bool
fails p a b =
    (strict p && eqb a b)
    || ((never_code p a || never_code p b) || (is_constant (max a b) && not (truth p (code_constant a) (code_constant b))))

unfoldable pub contradicts : Coded → Bool
contradicts cs = clashes_on (λ x. x) cs || any (λ (c : Comparison ℕ). fails c.op (least cs c.left) (least cs c.right)) cs

-- ---- rule 7: what a label says of a question mark

abbrev pub entry_of_code : ℕ → Entry
entry_of_code n = cond (ltb n marks_from) (number (code_constant n)) (cond (ltb n asked_from) (mark (n - marks_from)) anything)

unfoldable pub least_entry : Coded → ℕ → Entry
least_entry cs k = entry_of_code (least cs (asked_from + k))
