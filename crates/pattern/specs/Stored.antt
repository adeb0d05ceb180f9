-- The patterns of a stored query and a stored update: document 01, "Patterns", rules 1 to 7, on the structs of the code. They are given for every two structs; of a
-- query and an update that texts compile to, they are the patterns of their sentences (proofs/Laws). A struct whose condition no text compiles to is treated
-- as one with too many clauses. Assumes nothing: these are definitions.
use Rattle.std.specs.Prelude.{Option, Some, None, Bool, true, not, ◌&&◌, ◌||◌, cond, List, [], ◌++◌, map, ℕ, zero, suc, min, eqb, leb, ltb, ℤ, pos, length, get_or, take, ◌+◌, replicate}
use Rattle.std.proofs.Math.Option as Maybe
use Rattle.lists.specs.Lists.{any, all, pairs}
use Rattle.lists.specs.Tests.{eq_z, eq_list}
use Rattle.meaning.specs.Condition as C
use Rattle.meaning.specs.Condition.{sides, renamed, Comparison}
use Rattle.meaning.specs.Postfix.{clauses_of_nodes, leaves, is_postfix}
use Rattle.meaning.specs.Statement.{is_below}
use Rattle.meaning.specs.Limits.{most_comparisons, most_marks}
use Rattle.meaning.specs.Statement as M
use Rattle.meaning.specs.Meaning.{Row, new_row, assigned}
use Rattle.meaning.specs.Exact.{with_columns, numbers_in, critical, rows_from}
use Rattle.meaning.specs.Pattern as P
use Rattle.meaning.specs.Pattern.{Side, neither, first, second, second_side, is_side, second_start, moved, column, of_update, of_query, placed_from, replacing, operand_columns, Clause, contradictory, pattern, chosen, most_clauses, number, mark, anything, same_entry, agrees}
use Rattle.statement.specs.declared.Condition.{Condition}
use Rattle.statement.specs.declared.Query.{Query}
use Rattle.statement.specs.declared.Update.{Update}
use Rattle.statement.specs.Compiled.{padded, mark_place}
use Rattle.table.specs.Rows.{meets_stored, selected_stored}
use Rattle.statement.specs.Sound.{condition_nodes, second_read, settings_read}
use Rattle.statement.specs.SoundTest.{setting_values}
use Rattle.pattern.specs.declared.Entry.{Entry}
use Rattle.pattern.specs.declared.Entry.TheVariants.{Constant, Parameter, Any}
use Rattle.pattern.specs.declared.Pattern.{Pattern}
use Rattle.pattern.specs.declared.Patterns.{Patterns}

-- ---- A.1: which table of the query is updated, and how many columns of the query stand before that table's

-- the first by its number, the second, and the updated table by its number
abbrev pub side_by : ℕ → Maybe.Option M.Second → ℕ → Side
side_by table m t = cond (eqb table t) first (second_side m t)

abbrev pub side_read : Query → Update → Side
side_read q u = side_by q.table (second_read q) u.table

abbrev pub start_by : Maybe.Option M.Second → Side → ℕ
start_by m neither = 0
start_by m first = 0
start_by m second = second_start m

unfoldable pub start_read : Query → Update → ℕ
start_read q u = start_by (second_read q) (side_read q u)

-- ---- rules 1 and 2

-- rule 1 (A.1): whether the updated table t is the query's first, or its second one, given by its number and 1
abbrev pub is_read : ℕ → ℕ → ℕ → Bool
is_read table beside t = eqb table t || eqb beside (t + 1)

abbrev pub columns_used : Query → List ℕ
columns_used q = take q.count q.selected ++ operand_columns (sides (leaves (condition_nodes q.condition)))

-- where k columns stand before the updated table's, by the update's form, 0 INSERT, 1 UPDATE, any other DELETE
abbrev pub touches : ℕ → ℕ → Query → Update → Bool
touches k zero q u = true
touches k (suc zero) q u = any (λ (s : ℕ × M.Value). any (eqb s.0) (columns_used q)) (moved k (settings_read u))
touches k (suc (suc f)) q u = true

unfoldable pub relevant : Query → Update → Bool
relevant q u = is_side (side_read q u) && touches (start_read q u) u.form q u

-- ---- rules 3 and 4: the joint clauses

unfoldable pub clauses_read : Condition → List (List (C.Comparison M.Operand))
clauses_read c = clauses_of_nodes (condition_nodes c)

abbrev pub query_clauses : (ℕ → P.Joint) → Query → List Clause
query_clauses f q = map (map (renamed (of_query f))) (clauses_read q.condition)

abbrev pub update_clauses : ℕ → Update → List Clause
update_clauses k u = map (map (renamed (of_update k))) (clauses_read u.condition)

abbrev pub both_clauses : ℕ → Update → (ℕ → P.Joint) → Query → List Clause
both_clauses k u f q = pairs (update_clauses k u) (query_clauses f q)

unfoldable pub joint_clauses : ℕ → ℕ → Query → Update → List Clause
joint_clauses k zero q u = query_clauses (replacing (placed_from k (setting_values u))) q
joint_clauses k (suc zero) q u = both_clauses k u column q ++ both_clauses k u (replacing (moved k (settings_read u))) q
joint_clauses k (suc (suc f)) q u = both_clauses k u column q

abbrev pub joint : Query → Update → List Clause
joint q u = joint_clauses (start_read q u) u.form q u

-- ---- rule 5, and what no text compiles to

unfoldable pub is_formed : Condition → Bool
is_formed c = leb c.count most_comparisons && is_postfix (condition_nodes c)

unfoldable pub all_any : Query → Update → Bool
all_any q u = not (is_formed q.condition && is_formed u.condition) || ltb most_clauses (length (joint q u))

-- ---- rules 6 and 7, and the list

-- how many entries a pattern has
abbrev pub entry_count : Query → ℕ
entry_count q = min q.parameters most_marks

unfoldable pub patterns_stored : Query → Update → List P.Pattern
patterns_stored q u = chosen (relevant q u) (all_any q u) (entry_count q) (joint q u)

-- the update with the values us matches the query with the values qs
unfoldable pub matches_stored : Query → Update → List ℤ → List ℤ → Bool
matches_stored q u us qs = any (agrees us qs) (patterns_stored q u)

-- ---- the same one clause at a time

-- how many joint clauses there are by rules 3 to 5, and to look at by rules 1 and 2
abbrev pub clause_count : Query → Update → ℕ
clause_count q u = cond (all_any q u) 1 (length (joint q u))

unfoldable pub clause_total : Query → Update → ℕ
clause_total q u = cond (relevant q u) (clause_count q u) 0

-- question marks of the update are counted from 0 in structs
abbrev pub entry_struct : P.Entry → Entry
entry_struct (number z) = Constant z
entry_struct (mark k) = Parameter (mark_place k)
entry_struct anything = Any

abbrev pub pattern_struct : P.Pattern → Pattern
pattern_struct es = record { entries = padded most_marks Any (map entry_struct es); count = length es }

-- of a clause that goes, none
abbrev pub clause_pattern : ℕ → Clause → Option Pattern
clause_pattern n cs = cond (contradictory cs) None (Some (pattern_struct (pattern n cs)))

-- the pattern of clause i, whether rules 1 and 2 let the clauses be looked at or not
unfoldable pub pattern_at : Query → Update → ℕ → Option Pattern
pattern_at q u i =
    cond (ltb i (clause_count q u))
    (cond (all_any q u) (Some (pattern_struct (replicate (entry_count q) anything))) (clause_pattern (entry_count q) (get_or (joint q u) i [])))
    None

-- the list without repeats, and what stands behind it
abbrev pub blank : Pattern
blank = record { entries = replicate most_marks Any; count = 0 }

unfoldable pub pattern_list : Query → Update → Patterns
pattern_list q u = record { items = padded most_clauses blank (map pattern_struct (patterns_stored q u)); count = length (patterns_stored q u) }

-- ---- a pattern with the update's values, and whether it agrees with those of a key

abbrev pub filled_entry : List ℤ → Entry → Entry
filled_entry us (Constant z) = Constant z
filled_entry us (Parameter k) = Constant (get_or us k (pos 0))
filled_entry us Any = Any

unfoldable pub filled_of : List ℤ → Pattern → Pattern
filled_of us p = record { entries = map (filled_entry us) p.entries; count = p.count }

abbrev pub entry_read : Entry → P.Entry
entry_read (Constant z) = number z
entry_read (Parameter k) = mark (suc k)
entry_read Any = anything

-- a question mark that is not filled in counts as 0
unfoldable pub agrees_stored : Pattern → List ℤ → Bool
agrees_stored p qs = agrees [] qs (map entry_read (take p.count p.entries))

-- ---- A.7: whether an update with its values us can change the answer of a query with its values qs, in a table of n columns. Of structs that no text compiles to the patterns
-- alone decide.

-- "question and update are of one table and neither compares a column with a column"; their conditions may come from texts, and columns in them are the table's; an INSERT has
-- a value for each column
abbrev pub is_plain : ℕ → C.Comparison M.Operand → Bool
is_plain n c = not (with_columns c) && (is_below n c.left && is_below n c.right)

abbrev pub plain_condition : ℕ → Condition → Bool
plain_condition n c = is_formed c && all (is_plain n) (leaves (condition_nodes c))

unfoldable pub separate_stored : ℕ → Query → Update → Bool
separate_stored n q u =
    (eqb q.second 0 && eqb q.table u.table)
    && ((ltb 0 n && (not (eqb u.form 0) || leb n (length (settings_read u))))
    && (plain_condition n q.condition && plain_condition n u.condition))

-- a row that is r before and s after: it leaves, enters, or is taken before and after and differs in a selected column
abbrev pub differs_stored : Query → List ℤ → Row → Row → Bool
differs_stored q qs r s =
    (meets_stored q.condition qs r && not (meets_stored q.condition qs s))
    || ((not (meets_stored q.condition qs r) && meets_stored q.condition qs s)
    || (meets_stored q.condition qs r && (meets_stored q.condition qs s && not (eq_list eq_z (selected_stored q r) (selected_stored q s)))))

-- through the row r, by the update's form, 0 INSERT, 1 UPDATE, any other DELETE
abbrev pub matters_stored : ℕ → Query → List ℤ → Update → List ℤ → Row → Bool
matters_stored zero q qs u us r = meets_stored q.condition qs (new_row (setting_values u) us)
matters_stored (suc zero) q qs u us r = meets_stored u.condition us r && differs_stored q qs r (assigned (settings_read u) us r)
matters_stored (suc (suc f)) q qs u us r = meets_stored u.condition us r && meets_stored q.condition qs r

abbrev pub numbers_stored : Condition → List ℤ → List ℤ
numbers_stored c vs = numbers_in vs (sides (leaves (condition_nodes c)))

-- the numbers in the update with its values
abbrev pub change_numbers_stored : ℕ → Update → List ℤ → List ℤ
change_numbers_stored zero u us = []
change_numbers_stored (suc zero) u us = new_row (setting_values u) us ++ numbers_stored u.condition us
change_numbers_stored (suc (suc f)) u us = numbers_stored u.condition us

unfoldable pub affects_stored : ℕ → Query → List ℤ → Update → List ℤ → Bool
affects_stored n q qs u us =
    any (matters_stored u.form q qs u us) (rows_from (critical (numbers_stored q.condition qs ++ change_numbers_stored u.form u us)) n)

-- as far as A.7 says the update can change the answer
unfoldable pub reaches_stored : ℕ → Query → Update → List ℤ → List ℤ → Bool
reaches_stored n q u us qs = not (separate_stored n q u) || affects_stored n q qs u us
