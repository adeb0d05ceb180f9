-- Which kept answers an update can change: document 01, "Patterns", rules 1 to 7. F is the query's condition, G the update's. For a question over two tables
-- A.1: "An update of one table is judged as before, with the other table's columns as free operands." For a row that a ring pushes out A.4, at the end. Nulls
-- (A.5) are in rule 6.
-- Assumes nothing: these are definitions.
use Rattle.std.specs.Prelude.{Bool, true, false, not, ◌&&◌, ◌||◌, cond, List, [], ◌∷◌, ◌++◌, map, ℕ, suc, ◌+◌, ◌*◌, min, ℤ, replicate, eqb, ltb}
use Rattle.std.proofs.Math.Option.{Option, none, some}
use Rattle.lists.specs.Lists.{any, keep, pairs, distinct, flat, from}
use Rattle.lists.specs.Tests.{is_yes, dec_n, dec_z, eq_z, eq_list}
use Rattle.meaning.specs.Operator.{eq, ne, lt, le, gt, ge, Predicate, by, is-null, is-not-null, is_null, truth}
use Rattle.meaning.specs.Condition.{Comparison, sides, Where, operands_in, clauses_of, count_of, replaced_in}
use Rattle.meaning.specs.Statement as S
use Rattle.meaning.specs.Statement.{Value, parameter, Operand, value, Second, Query, Change, insert, delete, update, Update}
use Rattle.meaning.specs.Meaning.{Row, value_at, meets_where, takes, selected, new_row, assigned}

-- ---- A.1: which of the question's tables the update changes; a question over one table has that as its first

pub data Side : Type 0 where
  neither first second : Side

abbrev pub second_side : Option Second → ℕ → Side
second_side none t = neither
second_side (some s) t = cond (eqb s.table t) second neither

unfoldable pub side_of : Query → Update → Side
side_of q u = cond (eqb q.table u.table) first (second_side q.second u.table)

abbrev pub is_side : Side → Bool
is_side neither = false
is_side first = true
is_side second = true

-- ---- "Source document 000 gives the condition: an update matters when a row enters, leaves or changes what is selected."

-- a row that is r before and s after: it leaves, enters, or is taken before and after and differs in a selected column
abbrev pub differs : Query → List ℤ → Row → Row → Bool
differs q qs r s =
    (takes q qs r && not (takes q qs s))
    || ((not (takes q qs r) && takes q qs s)
    || (takes q qs r && (takes q qs s && not (eq_list eq_z (selected q r) (selected q s)))))

-- a row r of the updated table and a row o of the other one as the pair that the question tests; over one table there is no other, and o has no columns
abbrev pub beside : Side → Row → Row → Row
beside neither r o = r ++ o
beside first r o = r ++ o
beside second r o = o ++ r

-- the update, with its values us, matters for the query with its values qs through the row r of its table (for INSERT, through the new row) and o beside it
abbrev pub matters_in : Query → List ℤ → Side → Change → List ℤ → Row → Row → Bool
matters_in q qs s (insert os) us r o = takes q qs (beside s (new_row os us) o)
matters_in q qs s (delete g) us r o = meets_where g us r && takes q qs (beside s r o)
matters_in q qs s (update ss g) us r o = meets_where g us r && differs q qs (beside s r o) (beside s (assigned ss us r) o)

unfoldable pub matters : Query → List ℤ → Update → List ℤ → Row → Row → Bool
matters q qs u us r o = is_side (side_of q u) && matters_in q qs (side_of q u) u.change us r o

-- ---- rule 1: "Different tables: no pattern."

abbrev pub same_table : Query → Update → Bool
same_table q u = is_side (side_of q u)

-- how many columns stand in a pair before those of the updated table: its column i is the question's column k + i
abbrev pub second_start : Option Second → ℕ
second_start none = 0
second_start (some s) = s.start

abbrev pub start_of : Query → Side → ℕ
start_of q neither = 0
start_of q first = 0
start_of q second = second_start q.second

-- ---- rule 2: "UPDATE that sets no column the question selects or tests: no pattern."

abbrev pub operand_columns : List Operand → List ℕ
operand_columns [] = []
operand_columns (S.column i ∷ os) = i ∷ operand_columns os
operand_columns (value v ∷ os) = operand_columns os

-- the columns that it selects or tests
abbrev pub columns_used : Query → List ℕ
columns_used q = q.selected ++ operand_columns (operands_in q.condition)

-- settings of the updated table's columns as settings of the question's
abbrev pub moved : ℕ → List (ℕ × Value) → List (ℕ × Value)
moved k [] = []
moved k (s ∷ ss) = (k + s.0, s.1) ∷ moved k ss

abbrev pub touches : ℕ → Query → Change → Bool
touches k q (insert os) = true
touches k q (delete g) = true
touches k q (update ss g) = any (λ (s : ℕ × Value). any (eqb s.0) (columns_used q)) (moved k ss)

-- ---- rule 3: the joint formula. "INSERT: F with columns replaced by the inserted operands. DELETE: G and F. UPDATE: (G and F), then (G and F'),
-- where F' is F with set columns replaced."

-- its operands: columns are shared; `asked` is a question mark of the query and `given` one of the update
pub data Joint : Type 0 where
  column : ℕ → Joint
  constant : ℤ → Joint
  asked given : ℕ → Joint
  deriving Discrete as Joint-discrete

abbrev pub of_value : Value → Joint
of_value (S.constant z) = constant z
of_value (parameter k) = given k

-- an operand of the update, whose column i is column k + i
abbrev pub of_update : ℕ → Operand → Joint
of_update k (S.column i) = column (k + i)
of_update k (value v) = of_value v

-- an operand of the query, with `f` for its columns
abbrev pub of_query : (ℕ → Joint) → Operand → Joint
of_query f (S.column i) = f i
of_query f (value (S.constant z)) = constant z
of_query f (value (parameter k)) = asked k

-- x, or what the column i is set to
abbrev pub set_column : List (ℕ × Value) → ℕ → Joint → Joint
set_column [] i x = x
set_column (s ∷ ss) i x = set_column ss i (cond (eqb i s.0) (of_value s.1) x)

-- the inserted operands as settings of the columns from k on
abbrev pub placed_from : ℕ → List Value → List (ℕ × Value)
placed_from k [] = []
placed_from k (o ∷ os) = (k, o) ∷ placed_from (suc k) os

-- F' and INSERT: a column that is not set stays, and so does every column of the other table
abbrev pub replacing : List (ℕ × Value) → ℕ → Joint
replacing ss i = set_column ss i (column i)

abbrev pub Clause : Type 0
Clause = List (Comparison Joint)

-- the clauses of F, with f for its columns; of G; of G and F
abbrev pub query_clauses : (ℕ → Joint) → Query → List Clause
query_clauses f q = clauses_of (replaced_in (of_query f) q.condition)

abbrev pub update_clauses : ℕ → Where Operand → List Clause
update_clauses k g = clauses_of (replaced_in (of_update k) g)

abbrev pub both_clauses : ℕ → Where Operand → (ℕ → Joint) → Query → List Clause
both_clauses k g f q = pairs (update_clauses k g) (query_clauses f q)

unfoldable pub joint_clauses : ℕ → Query → Change → List Clause
joint_clauses k q (insert os) = query_clauses (replacing (placed_from k os)) q
joint_clauses k q (delete g) = both_clauses k g column q
joint_clauses k q (update ss g) = both_clauses k g column q ++ both_clauses k g (replacing (moved k ss)) q

-- ---- rule 5: "If INSERT's count, DELETE's product, or twice UPDATE's product passes 64, the list is one pattern, all any." (Rule 4 is `clauses`.)

abbrev pub joint_count : Query → Change → ℕ
joint_count q (insert os) = count_of q.condition
joint_count q (delete g) = count_of g * count_of q.condition
joint_count q (update ss g) = 2 * (count_of g * count_of q.condition)

abbrev pub most_clauses : ℕ
most_clauses = 64

-- ---- rule 6: "In a clause `=` joins operands into classes."

abbrev pub same : Joint → Joint → Bool
same x y = is_yes (Joint-discrete dec_n dec_z x y)

-- each operand has a label, at first itself; each `=` renames the label of its left side to that of its right side
abbrev pub rename : Joint → Joint → Joint → Joint
rename a b x = cond (same x a) b x

abbrev pub join : Predicate → Joint → Joint → Joint → Joint
join (by eq) a b = rename a b
join (by ne) a b = λ x. x
join (by lt) a b = λ x. x
join (by le) a b = λ x. x
join (by gt) a b = λ x. x
join (by ge) a b = λ x. x
join is-null a b = λ x. x
join is-not-null a b = λ x. x

abbrev pub labels_on : (Joint → Joint) → Clause → Joint → Joint
labels_on f [] = f
labels_on f (c ∷ cs) = labels_on (λ x. join c.op (f c.left) (f c.right) (f x)) cs

abbrev pub label : Clause → Joint → Joint
label cs = labels_on (λ x. x) cs

-- the operands of the clause that are in the class of x
unfoldable pub class : Clause → Joint → List Joint
class cs x = keep (λ (y : Joint). same (label cs y) (label cs x)) (sides cs)

abbrev pub constants : List Joint → List ℤ
constants [] = []
constants (column i ∷ xs) = constants xs
constants (constant z ∷ xs) = z ∷ constants xs
constants (asked k ∷ xs) = constants xs
constants (given k ∷ xs) = constants xs

abbrev pub update_marks : List Joint → List ℕ
update_marks [] = []
update_marks (column i ∷ xs) = update_marks xs
update_marks (constant z ∷ xs) = update_marks xs
update_marks (asked k ∷ xs) = update_marks xs
update_marks (given k ∷ xs) = k ∷ update_marks xs

-- "The clause goes if a class has two different constants, .."
abbrev pub differ : List ℤ → Bool
differ [] = false
differ (y ∷ zs) = any (λ (z : ℤ). not (eq_z y z)) zs

-- ".. if `<>` `<` `>` has both sides in one class, .."
abbrev pub strict : Predicate → Bool
strict (by eq) = false
strict (by ne) = true
strict (by lt) = true
strict (by le) = false
strict (by gt) = true
strict (by ge) = false
strict is-null = false
strict is-not-null = false

-- A.5: "any other comparison with an operand whose class holds the null constant is never true"
abbrev pub never_of : Predicate → List ℤ → Bool
never_of (by o) zs = any is_null zs
never_of is-null zs = false
never_of is-not-null zs = false

-- ".. or if a comparison is false of the constants of its sides' classes."; A.5: "IS NULL and IS NOT NULL are tested on the class's constant where there is one"
abbrev pub false_of : Predicate → List ℤ → List ℤ → Bool
false_of o [] zs = false
false_of o (y ∷ ys) [] = false
false_of o (y ∷ ys) (z ∷ zs) = not (truth o y z)

abbrev pub broken : Clause → Comparison Joint → Bool
broken cs c =
    (strict c.op && same (label cs c.left) (label cs c.right))
    || ((never_of c.op (constants (class cs c.left)) || never_of c.op (constants (class cs c.right)))
    || false_of c.op (constants (class cs c.left)) (constants (class cs c.right)))

unfoldable pub contradictory : Clause → Bool
contradictory cs = any (λ (x : Joint). differ (constants (class cs x))) (sides cs) || any (broken cs) cs

-- ---- rule 7: "Each question mark of the question becomes its class's constant, else the lowest update mark in its class, else any."

pub data Entry : Type 0 where
  number : ℤ → Entry
  mark : ℕ → Entry
  anything : Entry
  deriving Discrete as Entry-discrete

abbrev pub lowest : ℕ → List ℕ → ℕ
lowest k [] = k
lowest k (m ∷ ms) = min k (lowest m ms)

abbrev pub mark_entry : List ℕ → Entry
mark_entry [] = anything
mark_entry (k ∷ ks) = mark (lowest k ks)

abbrev pub class_entry : List ℤ → List ℕ → Entry
class_entry [] ks = mark_entry ks
class_entry (z ∷ zs) ks = number z

unfoldable pub entry : Clause → ℕ → Entry
entry cs k = class_entry (constants (class cs (asked k))) (update_marks (class cs (asked k)))

abbrev pub Pattern : Type 0
Pattern = List Entry

-- the pattern of a clause, for a query of n question marks
abbrev pub pattern : ℕ → Clause → Pattern
pattern n cs = map (entry cs) (from 1 n)

abbrev pub same_entry : Entry → Entry → Bool
same_entry e f = is_yes (Entry-discrete dec_z dec_n e f)

-- "Equal patterns keep the first."
abbrev pub clause_patterns : ℕ → List Clause → List Pattern
clause_patterns n cs = distinct (eq_list same_entry) (map (pattern n) (keep (λ (c : Clause). not (contradictory c)) cs))

-- by whether the update can matter at all (rules 1 and 2), and whether the clauses are too many (rule 5)
abbrev pub chosen : Bool → Bool → ℕ → List Clause → List Pattern
chosen false many n cs = []
chosen true true n cs = replicate n anything ∷ []
chosen true false n cs = clause_patterns n cs

unfoldable pub patterns : Query → Update → List Pattern
patterns q u =
    let k = start_of q (side_of q u) in
    chosen (same_table q u && touches k q u.change) (ltb most_clauses (joint_count q u.change)) q.parameters (joint_clauses k q u.change)

-- ---- "A kept answer is dropped when a pattern, filled with the update's values, agrees with its key."

abbrev pub agrees_at : List ℤ → Entry → ℤ → Bool
agrees_at us (number y) z = eq_z y z
agrees_at us (mark k) z = eq_z (value_at us k) z
agrees_at us anything z = true

abbrev pub agrees : List ℤ → List ℤ → Pattern → Bool
agrees us [] [] = true
agrees us [] (e ∷ es) = false
agrees us (z ∷ zs) [] = false
agrees us (z ∷ zs) (e ∷ es) = agrees_at us e z && agrees us zs es

-- the update with the values us matches the query with the values qs
unfoldable pub matches : Query → Update → List ℤ → List ℤ → Bool
matches q u us qs = any (agrees us qs) (patterns q u)

-- ---- A.4: "When a row is pushed out, kept answers are judged for it as well: F with its columns replaced by that row's values is worked into patterns"

-- rule 3 of an INSERT of these values: the row r of table t goes
abbrev pub removal : ℕ → Row → Update
removal t r = record { table = t; change = insert (map S.constant r); parameters = 0 }

-- what is judged where an update pushes the rows `out` out (one, or none): the update, and each of these rows
abbrev pub judged : Update → List Row → List Update
judged u out = u ∷ map (removal u.table) out

-- "the patterns of the two": those of the row "after those of the INSERT, and 64 bounds each list alone"
abbrev pub patterns_of_two : Query → Update → List Row → List Pattern
patterns_of_two q u out = flat (map (patterns q) (judged u out))

-- the update with the values us, which pushes the rows `out` out, matches the query with the values qs
unfoldable pub matches_two : Query → Update → List Row → List ℤ → List ℤ → Bool
matches_two q u out us qs = any (agrees us qs) (patterns_of_two q u out)
