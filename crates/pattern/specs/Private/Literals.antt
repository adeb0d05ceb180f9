-- Whether some row meets a list of comparisons, each to be true or not true: column by column, over a few numbers of each. What the code of modules `literals` and `affected`
-- decides A.7 by; proofs/Choice and proofs/Conjunctions show that it is what `affects_stored` says. Assumes nothing: these are definitions.
use Rattle.std.specs.Prelude.{◌≡◌, ◌⊎◌, Bool, true, false, not, ◌&&◌, ◌||◌, cond, List, [], ◌∷◌, ◌++◌, map, ℕ, zero, suc, ◌+◌, ◌-◌, ◌≤◌, ◌<◌, ℤ, eqb, leb, ltb, length, take}
use Rattle.std.proofs.Math.Option.{Option, none, some}
use Rattle.std.proofs.Math.IntN.{suc_ℤ}
use Rattle.lists.specs.Lists.{any, all, keep, flat, from, pairs}
use Rattle.meaning.specs.Operator.{eq, null, is_null, Predicate, by, is-null, is-not-null}
use Rattle.meaning.specs.Condition.{Comparison, renamed, holds}
use Rattle.meaning.specs.Limits.{is_within32}
use Rattle.meaning.specs.Postfix.{Node, leaf, all_of, any_of, top, run_on}
use Rattle.meaning.specs.Statement as M
use Rattle.meaning.specs.Statement.{Operand, column, value, constant}
use Rattle.meaning.specs.Meaning.{value_of}
use Rattle.meaning.specs.Pattern.{placed_from}
use Rattle.statement.specs.declared.Condition.{Condition}
use Rattle.statement.specs.declared.Query.{Query}
use Rattle.statement.specs.declared.Update.{Update}
use Rattle.statement.specs.Sound.{condition_nodes, settings_read}
use Rattle.statement.specs.SoundTest.{setting_values}
use Rattle.pattern.specs.Private.Least.{columns_from, marks_from, code_constant}
use Rattle.pattern.specs.Private.Flat.{values_of}
use Rattle.pattern.specs.Private.Masks.{select, comparisons_read}
use Rattle.pattern.specs.declared.masks.Clauses.{Clauses}
use Rattle.pattern.specs.declared.joint.Role.{Role}
use Rattle.pattern.specs.declared.joint.Role.TheVariants.{Given, Asked, Inserted, Set}
use Rattle.pattern.specs.Stored.{clauses_read}

-- ---- literals: comparisons with their values filled in (operands are columns and constants), to be true or not true

pub record Literal : Type 0 where
  pub test : Comparison Operand
  pub want : Bool

abbrev pub agree : Bool → Bool → Bool
agree true b = b
agree false b = not b

abbrev pub wanted : Bool → Comparison Operand → Literal
wanted b c = record { test = c; want = b }

abbrev pub trues : List (Comparison Operand) → List Literal
trues cs = map (wanted true) cs

abbrev pub falses : List (Comparison Operand) → List Literal
falses cs = map (wanted false) cs

-- the column of a comparison that compares no two columns
abbrev pub column_by : Predicate → Operand → Operand → Option ℕ
column_by (by o) (column i) b = some i
column_by (by o) (value v) (column j) = some j
column_by (by o) (value v) (value w) = none
column_by is-null (column i) b = some i
column_by is-null (value v) b = none
column_by is-not-null (column i) b = some i
column_by is-not-null (value v) b = none

abbrev pub column_in : Comparison Operand → Option ℕ
column_in c = column_by c.op c.left c.right

abbrev pub is_other : ℕ → Option ℕ → Bool
is_other i none = false
is_other i (some j) = not (eqb i j)

-- every column holds w
abbrev pub at_value : ℤ → Operand → ℤ
at_value w (column i) = w
at_value w (value v) = value_of [] v

-- with w in column i the literal is met, or it is of another column
abbrev pub fits_at : ℕ → ℤ → Literal → Bool
fits_at i w l = is_other i (column_in l.test) || agree l.want (holds (at_value w) l.test)

-- ---- the numbers that are tried for column i: null, the least number that is not null, each number that a literal compares the column with, and the number after it

abbrev pub number_beside : ℕ → Operand → Operand → List ℤ
number_beside i (column j) (value v) = cond (eqb i j) (value_of [] v ∷ []) []
number_beside i (value v) (column j) = cond (eqb i j) (value_of [] v ∷ []) []
number_beside i (column j) (column k) = []
number_beside i (value v) (value w) = []

abbrev pub with_next : List ℤ → List ℤ
with_next [] = []
with_next (z ∷ zs) = z ∷ suc_ℤ z ∷ with_next zs

abbrev pub tried : ℕ → List Literal → List ℤ
tried i ls = keep is_within32 (null ∷ suc_ℤ null ∷ with_next (flat (map (λ (l : Literal). number_beside i l.test.left l.test.right) ls)))

abbrev pub column_possible : List Literal → ℕ → Bool
column_possible ls i = any (λ (w : ℤ). all (fits_at i w) ls) (tried i ls)

-- each of n columns has a number that meets the literals on it, and those on no column
unfoldable pub possible : ℕ → List Literal → Bool
possible n ls = all (column_possible ls) (from 0 n)

-- ---- sides by their numbers, constants below 2 to the 32 and columns from `columns_from` on

abbrev pub operand_of_code : ℕ → Operand
operand_of_code x = cond (ltb x marks_from) (value (constant (code_constant x))) (column (x - columns_from))

-- a constant or a column
abbrev pub IsSide : ℕ → Type 0
IsSide x = (x < marks_from) ⊎ ((columns_from ≤ x) × (x < columns_from + 512))

-- the number of an operand with its value
pub record Sided (o : Operand) (code : ℕ) : Type 0 where
  pub is_side : IsSide code
  pub reads : operand_of_code code ≡ o

-- ---- the conjunctions that are tried: F and G with their values filled in

abbrev pub filled_operand : List ℤ → Operand → Operand
filled_operand vs (column i) = column i
filled_operand vs (value v) = value (constant (value_of vs v))

-- an operand of F as the row is after an UPDATE: what the column is last set to; after an INSERT: what is inserted there
abbrev pub set_operand : List (ℕ × M.Value) → List ℤ → ℕ → Operand → Operand
set_operand [] us i o = o
set_operand (s ∷ ss) us i o = set_operand ss us i (cond (eqb i s.0) (value (constant (value_of us s.1))) o)

abbrev pub after_operand : List (ℕ × M.Value) → List ℤ → List ℤ → Operand → Operand
after_operand ss us qs (column i) = set_operand ss us i (column i)
after_operand ss us qs (value v) = value (constant (value_of qs v))

-- an operand by whose it is: the update's, the query's, the query's as INSERT and UPDATE with the settings ss leave the row; us are the update's values and qs the query's
abbrev pub role_operand : Role → List (ℕ × M.Value) → List ℤ → List ℤ → Operand → Operand
role_operand Given ss us qs = filled_operand us
role_operand Asked ss us qs = filled_operand qs
role_operand Inserted ss us qs = after_operand (placed_from 0 (values_of ss)) us qs
role_operand Set ss us qs = after_operand ss us qs

-- the clauses of "not true": AND and OR exchanged, each comparison not true; an absent WHERE has none
module _ {O : Type 0} where
  abbrev pub exchanged : Node O → Node O
  exchanged (leaf c) = leaf c
  exchanged all_of = any_of
  exchanged any_of = all_of

  abbrev pub clauses_not : List (Node O) → List (List (Comparison O))
  clauses_not ns = top [] (run_on (λ (c : Comparison O). (c ∷ []) ∷ []) pairs ◌++◌ (map exchanged ns) [])

-- the same of a stored condition: its steps
abbrev pub exchanged_step : ℕ → ℕ
exchanged_step zero = 0
exchanged_step (suc zero) = 2
exchanged_step (suc (suc k)) = 1

abbrev pub exchanged_of : Condition → Condition
exchanged_of c = record { comparisons = c.comparisons; steps = map exchanged_step c.steps; count = c.count }

-- the first `count` masks are those of c, at most 18
pub record NotMasked (c : Condition) (r : Clauses) : Type 0 where
  pub few : r.count ≤ 18
  pub long : length r.masks ≡ 18
  pub clauses_are : clauses_not (condition_nodes c) ≡ map (select (comparisons_read c)) (take r.count r.masks)

abbrev pub filled_clauses : (Operand → Operand) → List (List (Comparison Operand)) → List (List (Comparison Operand))
filled_clauses f cs = map (map (renamed f)) cs

abbrev pub where_clauses : (Operand → Operand) → Condition → List (List (Comparison Operand))
where_clauses f c = filled_clauses f (clauses_read c)

abbrev pub not_clauses : (Operand → Operand) → Condition → List (List (Comparison Operand))
not_clauses f c = filled_clauses f (clauses_not (condition_nodes c))

-- "alters in a selected column": of a set column of the table that is selected, it does not hold what it is last set to
abbrev pub holds_number : ℕ → Operand → Comparison Operand
holds_number i (value v) = record { left = column i; op = cond (is_null (value_of [] v)) is-null (by eq); right = value v }
holds_number i (column j) = record { left = column i; op = by eq; right = column j }

abbrev pub alterations_of : ℕ → List ℕ → List (ℕ × M.Value) → List ℤ → List (List Literal)
alterations_of n selected ss us =
    map (λ (s : ℕ × M.Value). falses (holds_number s.0 (set_operand ss us s.0 (column s.0)) ∷ [])) (keep (λ (s : ℕ × M.Value). ltb s.0 n && any (eqb s.0) selected) ss)

abbrev pub alterations : ℕ → Query → Update → List ℤ → List (List Literal)
alterations n q u us = alterations_of n (take q.count q.selected) (settings_read u) us

-- one of some lists of literals is possible beside others
abbrev pub some_possible : ℕ → List Literal → List (List Literal) → Bool
some_possible n ls lss = any (λ (ms : List Literal). possible n (ls ++ ms)) lss

-- what `separate_stored` asks but for the conditions
unfoldable pub alike_stored : ℕ → Query → Update → Bool
alike_stored n q u = (eqb q.second 0 && eqb q.table u.table) && (ltb 0 n && (not (eqb u.form 0) || leb n (length (settings_read u))))

-- by the update's form: F of the inserted row; a row that meets G and F and alters, or leaves; one that meets G and enters; of a DELETE, one that meets G and F
unfoldable pub decided : ℕ → ℕ → Query → List ℤ → Update → List ℤ → Bool
decided zero n q qs u us = some_possible n [] (map trues (where_clauses (after_operand (placed_from 0 (setting_values u)) us qs) q.condition))
decided (suc zero) n q qs u us =
    any (λ (g : List (Comparison Operand)).
    any (λ (f : List (Comparison Operand)). some_possible n (trues g ++ trues f) (alterations n q u us ++ map falses (not_clauses (after_operand (settings_read u) us qs) q.condition)))
    (where_clauses (filled_operand qs) q.condition)
    || any (λ (f : List (Comparison Operand)). some_possible n (trues g ++ trues f) (map falses (not_clauses (filled_operand qs) q.condition)))
    (where_clauses (after_operand (settings_read u) us qs) q.condition))
    (where_clauses (filled_operand us) u.condition)
decided (suc (suc f)) n q qs u us =
    any (λ (g : List (Comparison Operand)). some_possible n (trues g) (map trues (where_clauses (filled_operand qs) q.condition))) (where_clauses (filled_operand us) u.condition)
