-- What the code of modules `literals`, `filled` and `affected` does: comparisons are structs whose sides are numbers as in `Least`, constants and columns alone, and clauses are masks of
-- comparisons. proofs/Trying and proofs/Deciding show that it decides what `Literals` says. Assumes nothing: these are definitions.
use Rattle.std.specs.Prelude.{Option, Some, None, ◌≡◌, Bool, true, false, not, ◌&&◌, ◌||◌, cond, List, [], ◌∷◌, ◌++◌, map, ℕ, ◌+◌, ℤ, eqb, leb, ltb, length, take, replicate}
use Rattle.std.proofs.Math.Bool.{beq}
use Rattle.lists.specs.Lists.{All, any, all, keep, from}
use Rattle.meaning.specs.Operator.{truth}
use Rattle.meaning.specs.Condition.{Comparison}
use Rattle.meaning.specs.Statement as M
use Rattle.meaning.specs.Statement.{Operand, column, value, constant}
use Rattle.meaning.specs.Exact.{with_columns}
use Rattle.statement.specs.declared.Condition.{Condition}
use Rattle.statement.specs.Operators.{predicate_at, is_null_test}
use Rattle.pattern.specs.Private.Least.{columns_from, marks_from, rename_code, code_constant}
use Rattle.pattern.specs.Private.Masks.{select, comparisons_read}
use Rattle.pattern.specs.Private.Literals as Said
use Rattle.pattern.specs.Private.Literals.{wanted, operand_of_code, IsSide, Sided, role_operand, holds_number, decided}
use Rattle.statement.specs.declared.Query.{Query}
use Rattle.statement.specs.declared.Update.{Update}
use Rattle.pattern.specs.Stored.{is_formed, separate_stored}
use Rattle.pattern.specs.Private.Flat.{Coding}
use Rattle.meaning.specs.Meaning.{value_at}
use Rattle.meaning.specs.Pattern as P
use Rattle.meaning.specs.Pattern.{Joint}
use Rattle.pattern.specs.declared.masks.Clauses.{Clauses}
use Rattle.pattern.specs.declared.affected.Alternatives.{Alternatives}
use Rattle.pattern.specs.declared.affected.Changes.{Changes}
use Rattle.pattern.specs.declared.affected.Case.{Case}
use Rattle.pattern.specs.declared.filled.Filling.{Filling}
use Rattle.pattern.specs.declared.joint.Role.{Role}
use Rattle.statement.specs.Sound.{setting_read, settings_read}
use Rattle.pattern.specs.declared.labels.Compared.{Compared}
use Rattle.pattern.specs.declared.literals.Conjunction.{Conjunction}
use Rattle.pattern.specs.declared.filled.Filled.{Filled}

-- ---- one literal: a comparison of numbers, to be true or not true

pub record Literal : Type 0 where
  pub test : Compared
  pub want : Bool

abbrev pub literal : Bool → Compared → Literal
literal b c = record { test = c; want = b }

-- a comparison with a number in place of another
abbrev pub replaced : ℕ → ℕ → Compared → Compared
replaced x y c = record { op = c.op; left = rename_code x y c.left; right = rename_code x y c.right }

-- a side that it looks at is no constant
abbrev pub is_open : Compared → Bool
is_open c = leb marks_from c.left || (leb marks_from c.right && not (is_null_test (predicate_at c.op)))

abbrev pub holds_code : Compared → Bool
holds_code c = truth (predicate_at c.op) (code_constant c.left) (code_constant c.right)

-- with the constant w in a column it is met, or it is of another column
abbrev pub fits_code : ℕ → ℕ → Literal → Bool
fits_code x w l = is_open (replaced x w l.test) || beq (holds_code (replaced x w l.test)) l.want

-- the constant that a comparison compares the column with
abbrev pub other_code : ℕ → Compared → ℕ
other_code x c = cond (eqb c.left x) c.right (cond (eqb c.right x) c.left x)

abbrev pub beside_code : ℕ → Compared → Option ℕ
beside_code x c = cond (ltb (other_code x c) marks_from) (Some (other_code x c)) None

-- ---- conjunctions

abbrev pub all_fit : List Literal → ℕ → ℕ → Bool
all_fit ls x w = all (fits_code x w) ls

-- with the constant w in a column, or the next one
abbrev pub number_fits : List Literal → ℕ → ℕ → Bool
number_fits ls x w = all_fit ls x w || (ltb w 4294967295 && all_fit ls x (w + 1))

abbrev pub some_number : List Literal → ℕ → Option ℕ → Bool
some_number ls x None = false
some_number ls x (Some w) = number_fits ls x w

abbrev pub beside_fits : List Literal → ℕ → Compared → Bool
beside_fits ls x c = some_number ls x (beside_code x c)

-- by the numbers beside these comparisons
abbrev pub column_fits : List Literal → List Compared → ℕ → Bool
column_fits ls cs x = number_fits ls x 0 || any (beside_fits ls x) cs

abbrev pub tests_of : List Literal → List Compared
tests_of ls = map (λ (l : Literal). l.test) ls

unfoldable pub possible_code : ℕ → List Literal → Bool
possible_code n ls = all (λ (i : ℕ). column_fits ls (tests_of ls) (columns_from + i)) (from 0 n)

-- ---- lists in arrays

abbrev pub tests_in : Filled → List Compared
tests_in f = take f.count f.tests

abbrev pub no_tests : Filled
no_tests = record { tests = replicate 8 (record { op = 0; left = 0; right = 0 }); count = 0 }

abbrev pub masks_in : Clauses → List ℕ
masks_in c = take c.count c.masks

abbrev pub trues_of : List Compared → List Literal
trues_of cs = map (literal true) cs

abbrev pub literals_of : Conjunction → List Literal
literals_of c = trues_of c.first.now ++ (trues_of c.second.now ++ map (literal c.want) c.third.now)

-- ---- clauses beside others

abbrev pub clause_in : Bool → Filled → ℕ → List Literal
clause_in want f m = map (literal want) (select (tests_in f) m)

abbrev pub clauses_in : Bool → Filled → Clauses → List (List Literal)
clauses_in want f c = map (clause_in want f) (masks_in c)

abbrev pub clause_of : Bool → Alternatives → ℕ → List Literal
clause_of want a m = clause_in want a.filled.now m

abbrev pub alternatives : Bool → Alternatives → List (List Literal)
alternatives want a = clauses_in want a.filled.now a.clauses.now

-- some row meets two lists of literals and one of others
abbrev pub some_beside : ℕ → List Literal → List Literal → List (List Literal) → Bool
some_beside n first second lss = any (λ (ls : List Literal). possible_code n (first ++ (second ++ ls))) lss

-- some row meets literals, a list and one of others
abbrev pub some_pair : ℕ → List Literal → List (List Literal) → List (List Literal) → Bool
some_pair n first lss mss = any (λ (ls : List Literal). some_beside n first ls mss) lss

-- an UPDATE beside literals that a row meets: it is taken and alters, leaves, or enters, by the clauses of either condition and what is not to be true
abbrev pub changed_by : ℕ → List (List Literal) → List (List Literal) → List (List Literal) → List (List Literal) → List (List Literal) → List Literal → Bool
changed_by n before after not_before not_after altered first =
    some_pair n first before altered || (some_pair n first before not_after || some_pair n first after not_before)

abbrev pub changed : ℕ → Changes → List Literal → Bool
changed n t =
    changed_by n (clauses_in true t.before.now t.met.now) (clauses_in true t.after.now t.met.now) (clauses_in false t.before.now t.unmet.now) (clauses_in false t.after.now t.unmet.now)
    (clauses_in false t.altered.now t.each.now)

-- ---- what structs stand for

abbrev pub test_read : Compared → Comparison Operand
test_read c = record { left = operand_of_code c.left; op = predicate_at c.op; right = operand_of_code c.right }

abbrev pub literal_read : Literal → Said.Literal
literal_read l = wanted l.want (test_read l.test)

-- what a question mark becomes
abbrev pub filled_joint : List ℤ → List ℤ → Joint → Operand
filled_joint us qs (P.column i) = column i
filled_joint us qs (P.constant z) = value (constant z)
filled_joint us qs (P.given k) = value (constant (value_at us k))
filled_joint us qs (P.asked k) = value (constant (value_at qs k))

-- the number of an operand becomes that of the operand with its value
pub record Fills (us qs : List ℤ) (code r : ℕ) : Type 0 where
  pub follows : (x : Joint) → Coding x code → Sided (filled_joint us qs x) r

-- the sides of a comparison are constants and columns
abbrev pub Sides : Compared → Type 0
Sides c = IsSide c.left × IsSide c.right

-- numbers are this comparison
pub record Reads (k : Comparison Operand) (c : Compared) : Type 0 where
  pub left : IsSide c.left
  pub right : IsSide c.right
  pub test_is : test_read c ≡ k

-- numbers are these comparisons
pub record FilledAs (cs : List (Comparison Operand)) (r : Filled) : Type 0 where
  pub sides : All Sides (tests_in r)
  pub read_are : map test_read (tests_in r) ≡ cs

-- a column of the first n that is selected
abbrev pub is_altered : ℕ → List ℕ → ℕ → Bool
is_altered n selected i = ltb i n && any (eqb i) selected

-- what is altered: of each set column of the table that is selected, that it holds what it becomes
abbrev pub altered_tests : ℕ → List ℕ → List (ℕ × M.Value) → (Operand → Operand) → List (Comparison Operand)
altered_tests n selected ss f = map (λ (s : ℕ × M.Value). holds_number s.0 (f (column s.0))) (keep (λ (s : ℕ × M.Value). is_altered n selected s.0) ss)

-- a condition that may come from a text and compares no two columns
pub record IsApart (c : Condition) : Type 0 where
  pub formed : is_formed c ≡ true
  pub apart : All (λ (k : Comparison Operand). with_columns k ≡ false) (comparisons_read c)

-- a query and an update of which A.7 decides
pub record Separated (n : ℕ) (q : Query) (u : Update) : Type 0 where
  pub separate : separate_stored n q u ≡ true
  pub asked : IsApart q.condition
  pub given : IsApart u.condition

-- what the code that decides asks of a literal
pub record Sound (l : Literal) : Type 0 where
  pub sides : Sides l.test
  pub apart : with_columns (test_read l.test) ≡ false

-- clauses are these
pub record Stands (said : List (List Said.Literal)) (lss : List (List Literal)) : Type 0 where
  pub sound : All (All Sound) lss
  pub read_are : map (map literal_read) lss ≡ said

-- the masks of n comparisons, each by itself
pub record Each (n : ℕ) (r : Clauses) : Type 0 where
  pub each : (cs : List Compared) → length cs ≡ n → map (select cs) (masks_in r) ≡ map (λ (c : Compared). c ∷ []) cs

-- ---- how operands are read

abbrev pub operand_in : Filling → Operand → Operand
operand_in f = role_operand f.role (map setting_read f.settings.now) f.given.now f.asked.now

abbrev pub operand_of : Case → Role → Operand → Operand
operand_of c r = role_operand r (settings_read c.update.now) c.given.now c.asked.now

-- what is asked of a query and an update with their values, by the update's form
abbrev pub reached : ℕ → Case → Bool
reached form c = decided form c.width c.query.now c.asked.now c.update.now c.given.now

abbrev pub IsDecided : Case → Type 0
IsDecided c = Separated c.width c.query.now c.update.now
