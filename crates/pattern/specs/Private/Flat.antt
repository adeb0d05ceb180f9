-- A joint clause in arrays: operands as the numbers of `Least`, the sides of comparison k at 2 k and 2 k + 1 of forty, and the query's question marks 1 to 8 behind
-- them, from 32 on; operators by their numbers. What the code of module `labels` makes of it. Assumes nothing: these are definitions.
use Rattle.std.specs.Prelude.{Option, Some, None, ◌≡◌, Bool, true, false, cond, List, map, ◌++◌, ℕ, ◌+◌, ◌*◌, ◌≤◌, ◌<◌, eqb, get_or, drop, replicate, ℤ, set}
use Rattle.lists.specs.Lists.{All, from}
use Rattle.meaning.specs.Condition.{Comparison, sides, renamed}
use Rattle.meaning.specs.Limits.{is_within32}
use Rattle.meaning.specs.Operator.{eq, ne, lt, le, gt, ge, Predicate, by, is-null, is-not-null}
use Rattle.meaning.specs.Pattern.{Joint, column, constant, asked, given, Clause, of_value, moved, placed_from, replacing, same_entry}
use Rattle.meaning.specs.Statement as M
use Rattle.statement.specs.declared.Condition.{Condition}
use Rattle.statement.specs.declared.Setting.{Setting}
use Rattle.statement.specs.Sound.{value_read}
use Rattle.statement.specs.Compiled.{padded, new_value}
use Rattle.statement.specs.Operators.{predicate_at}
use Rattle.pattern.specs.Private.Least.{marks_from, asked_from, code_of, Coded, coded, least, clashes_on, fails, contradicts, entry_of_code, least_entry}
use Rattle.pattern.specs.Stored.{entry_struct, pattern_struct, blank, filled_of, entry_read, agrees_stored}
use Rattle.pattern.specs.declared.Entry.TheVariants.{Any}
use Rattle.pattern.specs.declared.Entry.{Entry}
use Rattle.pattern.specs.declared.Pattern.{Pattern}
use Rattle.pattern.specs.Private.Masks.{select, comparisons_read}
use Rattle.pattern.specs.declared.joint.Role.{Role}
use Rattle.pattern.specs.declared.joint.Role.TheVariants.{Given, Asked, Inserted, Set}
use Rattle.pattern.specs.declared.joint.Joined.{Joined}
use Rattle.lists.specs.Tests.{eq_list}
use Rattle.meaning.specs.Statement.{is_below}
use Rattle.pattern.specs.declared.Patterns.{Patterns}

abbrev pub comparison_at : List ℕ → List ℕ → ℕ → Comparison ℕ
comparison_at codes ops k = record { left = get_or codes (2 * k) 0; op = predicate_at (get_or ops k 0); right = get_or codes (2 * k + 1) 0 }

-- the clause of the first n comparisons
abbrev pub clause_at : List ℕ → List ℕ → ℕ → Coded
clause_at codes ops n = map (comparison_at codes ops) (from 0 n)

-- a comparison of labels that cannot hold
abbrev pub failing : Comparison ℕ → Bool
failing c = fails c.op c.left c.right

-- ---- `=` alone joins

abbrev pub is_join : Predicate → Bool
is_join (by eq) = true
is_join (by ne) = false
is_join (by lt) = false
is_join (by le) = false
is_join (by gt) = false
is_join (by ge) = false
is_join is-null = false
is_join is-not-null = false

-- ---- operands of stored statements

abbrev pub Narrow : Joint → Type 0
Narrow (column i) = i < 512
Narrow (constant z) = is_within32 z ≡ true
Narrow (asked k) = (1 ≤ k) × (k ≤ 256)
Narrow (given k) = (1 ≤ k) × (k ≤ 256)

-- a number whose entry can be read: it is no question mark of the update, or one that a struct holds
pub record Readable (code : ℕ) : Type 0 where
  pub some : code ≡ marks_from → ⊥
  pub few : code < asked_from → code ≤ marks_from + 256

-- the arrays of a clause of n comparisons
pub record Ready (codes : List ℕ) (n : ℕ) : Type 0 where
  pub few : n ≤ 16
  pub readable : All Readable codes
  pub marks_there : drop 32 codes ≡ map (λ (k : ℕ). asked_from + k) (from 1 8)

-- the labels of all numbers, where no `=` joins two different constants
pub record LabelsOf (codes ops : List ℕ) (n : ℕ) (labels : List ℕ) : Type 0 where
  pub labels_are : labels ≡ map (least (clause_at codes ops n)) codes
  pub no_clash : clashes_on (λ x. x) (clause_at codes ops n) ≡ false
  pub readable : All Readable labels

-- there are none, where one does
abbrev pub Labelled : List ℕ → List ℕ → ℕ → Option (List ℕ) → Type 0
Labelled codes ops n None = clashes_on (λ x. x) (clause_at codes ops n) ≡ true
Labelled codes ops n (Some labels) = LabelsOf codes ops n labels

-- the entries of a pattern, by the labels of its question marks
unfoldable pub entries_of : List ℕ → List Entry
entries_of labels = padded 8 Any (map (λ (x : ℕ). entry_struct (entry_of_code x)) labels)

-- the pattern of a clause, by numbers, for n question marks
unfoldable pub coded_pattern : ℕ → Coded → Option Pattern
coded_pattern n cs = cond (contradicts cs) None (Some (pattern_struct (map (least_entry cs) (from 1 n))))

-- ---- operands of the statements, as module `joint` writes them, by whose they are: the update's, the query's, the query's with columns replaced as INSERT
-- and UPDATE do; ss are the update's settings, and k columns of the query stand before those of the updated table (A.1)

abbrev pub values_of : List (ℕ × M.Value) → List M.Value
values_of ss = map (λ (s : ℕ × M.Value). s.1) ss

abbrev pub column_of : Role → ℕ → List (ℕ × M.Value) → ℕ → Joint
column_of Given k ss i = column (k + i)
column_of Asked k ss i = column i
column_of Inserted k ss i = replacing (placed_from k (values_of ss)) i
column_of Set k ss i = replacing (moved k ss) i

abbrev pub mark_of : Role → ℕ → Joint
mark_of Given k = given k
mark_of Asked k = asked k
mark_of Inserted k = asked k
mark_of Set k = asked k

abbrev pub operand_of : Role → ℕ → List (ℕ × M.Value) → M.Operand → Joint
operand_of r k ss (M.column i) = column_of r k ss i
operand_of r k ss (M.value (M.constant z)) = constant z
operand_of r k ss (M.value (M.parameter m)) = mark_of r m

-- the number of an operand
pub record Coding (x : Joint) (code : ℕ) : Type 0 where
  pub is : code ≡ code_of x
  pub narrow : Narrow x

-- what one setting makes of the number of a column, or of what that was set to
pub record SetOnce (item : Setting) (k i code r : ℕ) : Type 0 where
  pub follows : (x : Joint) → Coding x code → Coding (cond (eqb i (k + item.column)) (of_value (value_read (new_value item))) x) r

-- the clause that a mask selects of a condition
abbrev pub chosen_of : Role → ℕ → List (ℕ × M.Value) → Condition → ℕ → Clause
chosen_of r k ss c mask = map (renamed (operand_of r k ss)) (select (comparisons_read c) mask)

abbrev pub no_clause : Joined
no_clause = record { codes = replicate 32 0 ++ map (λ (k : ℕ). asked_from + k) (from 1 8); ops = replicate 16 0; count = 0 }

-- the arrays with a clause added behind the first n comparisons
pub record Extended (codes ops : List ℕ) (n : ℕ) (added : Clause) (r : Joined) : Type 0 where
  pub clause_is : clause_at r.codes r.ops r.count ≡ clause_at codes ops n ++ coded added
  pub narrow : All Narrow (sides added)
  pub few : r.count ≤ n + 8
  pub readable : All Readable codes → All Readable r.codes
  pub marks_stay : drop 32 r.codes ≡ drop 32 codes

-- ---- lists of patterns, as module `listing` makes and reads them

-- a list in the making
abbrev pub no_patterns : Patterns
no_patterns = record { items = replicate 64 blank; count = 0 }

abbrev pub with_pattern : Patterns → Pattern → Patterns
with_pattern l p = record { items = set l.items l.count p; count = l.count + 1 }

-- two patterns of the same entries
abbrev pub same_struct : Pattern → Pattern → Bool
same_struct a b = eq_list same_entry (map entry_read a.entries) (map entry_read b.entries)

-- the pattern of a clause, if it has one, agrees with the values of a key, filled with those of the update
abbrev pub clause_agrees : List ℤ → List ℤ → Option Pattern → Bool
clause_agrees us qs None = false
clause_agrees us qs (Some p) = agrees_stored (filled_of us p) qs
