-- Questions and updates of a table t of the columns a and b with 3 rows of which 2 are in use, (7, 120) and (8, null). Assumes nothing: each holds by computing.
use Rattle.std.specs.Prelude.{◌≡◌, refl, Bool, true, false, List, [], ◌∷◌, map, ℕ, ℤ, pos, replicate}
use Prim.Native.String.{String}
use Rattle.lists.specs.Lists.{bytes}
use Rattle.meaning.specs.Operator.{null}
use Rattle.meaning.specs.Tokens.{is_name_byte, is_word_byte, decimal, is_name, word, negative, token_from, first_token, scan, tokens}
use Rattle.meaning.specs.Reader.{a_condition, a_sentence, read}
use Rattle.meaning.specs.Limits.{past_limit}
use Rattle.meaning.specs.Names.{unknown_name, taken, miscounted, twice}
use Rattle.meaning.specs.Statement.{insert, constant, statement_of}
use Rattle.meaning.specs.Plain.{other_lengths}
use Rattle.meaning.specs.Refusals.{no_place}
use Rattle.meaning.specs.Meaning.{Row}
use Rattle.meaning.specs.Cells.{stored}
use Rattle.meaning.specs.Record.{body, encode}
use Rattle.answer.specs.Answer.{put}
use Rattle.statement.specs.declared.Query.{Query}
use Rattle.statement.specs.declared.Table.{Table}
use Rattle.statement.specs.Compiled.{Compiled, name_struct, update_struct, struct_of, compiled_of}
use Rattle.statement.specs.Sound.{condition_nodes}
use Rattle.table.specs.Changed.{laid, oldest_after, count_after, area_fits, change_fits, changed_of, change_of, cells_after, oldest_row, removal_of}
use Rattle.table.specs.Evaluated.{Said, selected_in, pairs_used, paired_in, pair_says, pair_leaves}
use Rattle.table.specs.Rows.{meets_stored, passes_stored, rows_used, answer_stored, record_stored}
use Rattle.table.specs.Tests.{next_at, passes}
use Rattle.table.specs.declared.changes.Changed.{Changed}

-- what the computations open
computing : Unit {0}
unfolding is_name_byte is_word_byte decimal is_name word negative token_from first_token scan tokens a_condition a_sentence read past_limit unknown_name taken miscounted twice statement_of other_lengths no_place struct_of compiled_of condition_nodes meets_stored passes_stored answer_stored body encode stored laid oldest_after count_after area_fits change_fits changed_of change_of cells_after next_at passes removal_of
computing = tt

abbrev t : Table
t = record { name = name_struct (bytes "t"); columns = map name_struct (bytes "a" ∷ bytes "b" ∷ []); count = 2; capacity = 3; rows = 2; oldest = 0; ring = false }

-- a free row, whose cells are 5 and 6
abbrev cells : List ℤ
cells = pos 7 ∷ pos 120 ∷ pos 8 ∷ null ∷ pos 5 ∷ pos 6 ∷ []

abbrev compiled : String → Compiled
compiled text = compiled_of (bytes text) (t ∷ []) 1 0 0 6

-- the rows that a question lists
abbrev listed : String → List Row
listed text = answer_stored (compiled text).query [] (rows_used t 0 cells)

-- the cells after an update
abbrev changed : String → List ℤ
changed text = cells_after (compiled text).update t 0 cells []

-- what `select` says where the buffer has so many bytes
abbrev said : String → ℕ → Said
said text n = selected_in (replicate n 0) (rows_used t 0 cells) (record_stored (compiled text).query [] (rows_used t 0 cells))

-- A.5: -2147483648 "is the null of ISO/IEC 9075": not below another number, and equal to no number, not to itself either
pub not-below : listed "SELECT a FROM t WHERE b < -2147483647" ≡ []
unfolding computing
not-below = refl

pub not_equal : listed "SELECT a FROM t WHERE b = -2147483648" ≡ []
unfolding computing
not_equal = refl

-- "WHERE takes only rows whose condition is true": NOT makes of an unknown comparison no true one
pub not_known : listed "SELECT a FROM t WHERE NOT b < 50" ≡ (pos 7 ∷ []) ∷ []
unfolding computing
not_known = refl

-- null tests, and a null on both sides of a comparison of columns
pub without-reading : listed "SELECT a FROM t WHERE b IS NULL" ≡ (pos 8 ∷ []) ∷ []
unfolding computing
without-reading = refl

pub with-reading : listed "SELECT a FROM t WHERE b IS NOT NULL" ≡ (pos 7 ∷ []) ∷ []
unfolding computing
with-reading = refl

pub both-null : listed "SELECT a FROM t WHERE b = b" ≡ (pos 7 ∷ []) ∷ []
unfolding computing
both-null = refl

-- "UPDATE tests each row as it was, then sets."
pub tested-before : changed "UPDATE t SET a = 9 WHERE a = 7" ≡ pos 9 ∷ pos 120 ∷ pos 8 ∷ null ∷ pos 5 ∷ pos 6 ∷ []
unfolding computing
tested-before = refl

-- "cells that a DELETE vacates become 0, other unused cells stay"
pub vacated : changed "DELETE FROM t WHERE a = 7" ≡ pos 8 ∷ null ∷ pos 0 ∷ pos 0 ∷ pos 5 ∷ pos 6 ∷ []
unfolding computing
vacated = refl

pub inserted : changed "INSERT INTO t VALUES (1, 2)" ≡ pos 7 ∷ pos 120 ∷ pos 8 ∷ null ∷ pos 1 ∷ pos 2 ∷ []
unfolding computing
inserted = refl

-- ---- A.8: how many rows an update would insert, match or delete

-- in t, with so many rows in use
abbrev would : ℕ → String → ℕ
would rows text = (change_of (compiled text).update (record { name = t.name; columns = t.columns; count = 2; capacity = 3; rows = rows; oldest = 0; ring = false }) 0 cells []).count

-- an INSERT is one row; a row that does not meet the condition is none, nor is one that is not in use
pub would-change : map (would 2) ("INSERT INTO t VALUES (1, 2)" ∷ "UPDATE t SET a = 9 WHERE a = 7" ∷ "DELETE FROM t WHERE a < 9" ∷ "DELETE FROM t WHERE a = 5" ∷ []) ≡ 1 ∷ 1 ∷ 2 ∷ 0 ∷ []
unfolding computing
would-change = refl

-- an INSERT into a table that is full does not fit
pub would-not : would 3 "INSERT INTO t VALUES (1, 2)" ≡ 0
unfolding computing
would-not = refl

-- ---- the test of a row on numbers alone (request A.3)

-- as WHERE a = 7 AND b > 100 is prepared: comparison 0 leads on to 1 where its sides are equal, comparison 1 is met where the left side is greater; where a side is null
-- neither is
abbrev both : Row → Bool
both r = passes (9 ∷ 1 ∷ 9 ∷ 9 ∷ 9 ∷ 9 ∷ 8 ∷ 9 ∷ []) (0 ∷ 65535 ∷ 1 ∷ 65535 ∷ []) (pos 0 ∷ pos 7 ∷ pos 0 ∷ pos 100 ∷ []) 0 r

-- as WHERE a = 7 OR b > 100 is
abbrev either : Row → Bool
either r = passes (1 ∷ 8 ∷ 1 ∷ 1 ∷ 9 ∷ 9 ∷ 8 ∷ 9 ∷ []) (0 ∷ 65535 ∷ 1 ∷ 65535 ∷ []) (pos 0 ∷ pos 7 ∷ pos 0 ∷ pos 100 ∷ []) 0 r

pub both-tested : map both ((pos 7 ∷ pos 120 ∷ []) ∷ (pos 7 ∷ pos 100 ∷ []) ∷ (pos 8 ∷ pos 120 ∷ []) ∷ (pos 8 ∷ null ∷ []) ∷ []) ≡ true ∷ false ∷ false ∷ false ∷ []
unfolding computing
both-tested = refl

pub either-tested : map either ((pos 7 ∷ pos 120 ∷ []) ∷ (pos 7 ∷ pos 100 ∷ []) ∷ (pos 8 ∷ pos 120 ∷ []) ∷ (pos 8 ∷ null ∷ []) ∷ []) ≡ true ∷ true ∷ true ∷ false ∷ []
unfolding computing
either-tested = refl

-- as WHERE b IS NULL OR a = 7 is: the sides of comparison 0 are one column, so that their order is equal, or unknown where it is null
abbrev iced : Row → Bool
iced r = passes (9 ∷ 1 ∷ 9 ∷ 8 ∷ 9 ∷ 8 ∷ 9 ∷ 9 ∷ []) (1 ∷ 1 ∷ 0 ∷ 65535 ∷ []) (pos 0 ∷ pos 0 ∷ pos 0 ∷ pos 7 ∷ []) 0 r

pub iced-tested : map iced ((pos 7 ∷ pos 120 ∷ []) ∷ (pos 8 ∷ pos 120 ∷ []) ∷ (pos 8 ∷ null ∷ []) ∷ (null ∷ pos 120 ∷ []) ∷ []) ≡ true ∷ false ∷ true ∷ false ∷ []
unfolding computing
iced-tested = refl

-- no comparison: it begins where it is met
pub absent-tested : passes [] [] [] 8 (pos 8 ∷ null ∷ []) ≡ true
unfolding computing
absent-tested = refl

-- column b is the second place
pub positions : (compiled "SELECT b FROM t WHERE b = 7").query.selected ≡ 1 ∷ 0 ∷ 0 ∷ 0 ∷ 0 ∷ 0 ∷ 0 ∷ 0 ∷ []
unfolding computing
positions = refl

-- 12 bytes of one row, of two rows read; 11 bytes are too few
pub just-fits : said "SELECT b FROM t WHERE a = 7" 12 ≡ record { refusal = 0; scanned = 2; size = 12 }
unfolding computing
just-fits = refl

pub too_short : said "SELECT b FROM t WHERE a = 7" 11 ≡ record { refusal = 13; scanned = 0; size = 0 }
unfolding computing
too_short = refl

-- ---- A.1: questions over t and a second table u of the columns a and c with the rows (7, 31), (8, 20) and (7, 32) behind it

abbrev u : Table
u = record { name = name_struct (bytes "u"); columns = map name_struct (bytes "a" ∷ bytes "c" ∷ []); count = 2; capacity = 3; rows = 3; oldest = 0; ring = false }

-- the same tables without rows
abbrev none_of : Table → Table
none_of s = record { name = s.name; columns = s.columns; count = s.count; capacity = s.capacity; rows = 0; oldest = 0; ring = false }

abbrev both_cells : List ℤ
both_cells = pos 7 ∷ pos 120 ∷ pos 8 ∷ null ∷ pos 5 ∷ pos 6 ∷ pos 7 ∷ pos 31 ∷ pos 8 ∷ pos 20 ∷ pos 7 ∷ pos 32 ∷ []

abbrev paired : String → Query
paired text = (compiled_of (bytes text) (t ∷ u ∷ []) 2 0 0 12).query

-- the rows that a question over t and u lists
abbrev pair_listed : Table → Table → String → List Row
pair_listed s v text = answer_stored (paired text) [] (pairs_used (paired text) [] s 0 v 6 both_cells)

-- what `select_pair` says where the buffer has so many bytes, and what it leaves
abbrev pair_said : Table → Table → String → ℕ → Said
pair_said s v text n = pair_says (paired text) s 0 v 6 both_cells [] (replicate n 9)

-- "Rows come in the first table's order, and for each in the second's."
pub in_order : pair_listed t u "SELECT t.b, u.c FROM t, u"
    ≡ (pos 120 ∷ pos 31 ∷ []) ∷ (pos 120 ∷ pos 20 ∷ []) ∷ (pos 120 ∷ pos 32 ∷ []) ∷ (null ∷ pos 31 ∷ []) ∷ (null ∷ pos 20 ∷ []) ∷ (null ∷ pos 32 ∷ []) ∷ []
unfolding computing
in_order = refl

-- a column of each table in one comparison
pub joined : pair_listed t u "SELECT u.c, t.a FROM t, u WHERE t.a = u.a" ≡ (pos 31 ∷ pos 7 ∷ []) ∷ (pos 32 ∷ pos 7 ∷ []) ∷ (pos 20 ∷ pos 8 ∷ []) ∷ []
unfolding computing
joined = refl

-- a table without rows has no pair, first or second
pub no_pairs : (pair_listed (none_of t) u "SELECT t.b FROM t, u" ≡ []) × (pair_listed t (none_of u) "SELECT t.b FROM t, u" ≡ [])
unfolding computing
no_pairs = (refl, refl)

-- rows read: 2 + 2 × 3; with no second row 2, with no first row 0. 20 bytes hold the three rows, 19 do not
pub pair_fits : pair_said t u "SELECT u.c FROM t, u WHERE t.a = u.a" 20 ≡ record { refusal = 0; scanned = 8; size = 20 }
unfolding computing
pair_fits = refl

pub pair-short : pair_said t u "SELECT u.c FROM t, u WHERE t.a = u.a" 19 ≡ record { refusal = 13; scanned = 0; size = 0 }
unfolding computing
pair-short = refl

pub pair-empty : (pair_said t (none_of u) "SELECT u.c FROM t, u" 8 ≡ record { refusal = 0; scanned = 2; size = 8 })
    × (pair_said (none_of t) u "SELECT u.c FROM t, u" 8 ≡ record { refusal = 0; scanned = 0; size = 8 })
unfolding computing
pair-empty = (refl, refl)

-- ---- A.6: rows read are 2 + m × 3, where m rows of t pass; the marks are given here, a binary digit a comparison

abbrev marked_as : ℕ → Query → Query
marked_as n q = record {
  table = q.table;
  selected = q.selected;
  count = q.count;
  parameters = q.parameters;
  second = q.second;
  start = q.start;
  outer = n;
  condition = q.condition;
}

abbrev pair_read : ℕ → String → ℕ
pair_read n text = (pair_says (marked_as n (paired text)) t 0 u 6 both_cells [] (replicate 44 9)).scanned

-- a comparison of the first table's columns, where it is marked; one that names a column of the second is no test of the first table's rows, whatever its marks
pub first-tested : (pair_read 3 "SELECT u.c FROM t, u WHERE t.a = 7 AND t.a = u.a" ≡ 5) × (pair_read 1 "SELECT u.c FROM t, u WHERE t.a = 7 AND t.a = u.a" ≡ 8)
    × (pair_read 1 "SELECT u.c FROM t, u WHERE u.a = 7" ≡ 8)
unfolding computing
first-tested = (refl, refl, refl)

-- "is true": a comparison with a null is not; one that names no column counts; of two both are to be true
pub first-true : (pair_read 1 "SELECT u.c FROM t, u WHERE t.b < 200" ≡ 5) × (pair_read 1 "SELECT u.c FROM t, u WHERE 1 = 2" ≡ 2)
    × (pair_read 3 "SELECT u.c FROM t, u WHERE t.a = 7 AND t.b IS NULL" ≡ 2)
unfolding computing
first-true = (refl, refl, refl)

-- the record, and a byte behind it that stays
pub pair-written : pair_leaves (paired "SELECT u.c FROM t, u WHERE t.a = u.a AND t.b IS NULL") t 0 u 6 both_cells [] (replicate 13 9)
    ≡ 0 ∷ 0 ∷ 0 ∷ 8 ∷ 1 ∷ 1 ∷ 0 ∷ 1 ∷ 0 ∷ 0 ∷ 0 ∷ 20 ∷ 9 ∷ []
unfolding computing
pair-written = refl

-- a table of more than 8 columns, which no text makes, has no row in a pair
pub too_wide : pairs_used (paired "SELECT t.b FROM t, u") [] (record { name = t.name; columns = t.columns; count = 9; capacity = 1; rows = 1; oldest = 0; ring = false }) 0 u 6 both_cells ≡ []
too_wide = refl

-- "an answer of more than 65,535 rows gives 16", whatever the buffer; 65,535 rows in a short buffer give 13
pub most-rows-said : (paired_in [] 7 0 (replicate 65536 []) ≡ record { refusal = 16; scanned = 0; size = 0 })
    × (paired_in [] 7 0 (replicate 65535 []) ≡ record { refusal = 13; scanned = 0; size = 0 })
unfolding computing
most-rows-said = (refl, refl)

-- ---- A.4: a ring `recent` of the columns minute and level with 3 rows, (1, 10), (2, 20) and (3, 30) at first

-- with so many rows in use, of which the one at that place is the oldest
abbrev recent : ℕ → ℕ → Table
recent rows oldest = record {
  name = name_struct (bytes "recent");
  columns = map name_struct (bytes "minute" ∷ bytes "level" ∷ []);
  count = 2;
  capacity = 3;
  rows = rows;
  oldest = oldest;
  ring = true;
}

abbrev filled : List ℤ
filled = pos 1 ∷ pos 10 ∷ pos 2 ∷ pos 20 ∷ pos 3 ∷ pos 30 ∷ []

-- after the row (4, 40): the oldest is the one at place 1
abbrev wrapped : List ℤ
wrapped = pos 4 ∷ pos 40 ∷ pos 2 ∷ pos 20 ∷ pos 3 ∷ pos 30 ∷ []

abbrev of_ring : String → Compiled
of_ring text = compiled_of (bytes text) (recent 3 0 ∷ []) 1 0 0 6

-- the cells after an update of a full ring whose oldest row lies there, what it counts, and where the oldest lies then
abbrev ring_changed : ℕ → List ℤ → String → List ℤ × Changed
ring_changed k cells text = (cells_after (of_ring text).update (recent 3 k) 0 cells [], change_of (of_ring text).update (recent 3 k) 0 cells [])

abbrev now_at : ℕ → ℕ → ℕ → Changed
now_at count rows oldest = record { count = count; rows = rows; oldest = oldest }

-- "The new row takes the cells of the one removed"
pub pushed-out : ring_changed 0 filled "INSERT INTO recent VALUES (4, 40)" ≡ (wrapped, now_at 1 3 1)
unfolding computing
pushed-out = refl

-- behind the last place comes the first
pub place-wraps : ring_changed 2 wrapped "INSERT INTO recent VALUES (5, 50)" ≡ (pos 4 ∷ pos 40 ∷ pos 2 ∷ pos 20 ∷ pos 5 ∷ pos 50 ∷ [], now_at 1 3 0)
unfolding computing
place-wraps = refl

-- "after any DELETE the oldest row lies first in the area again": of no row, and of one
pub turned-again : ring_changed 1 wrapped "DELETE FROM recent WHERE minute = 9" ≡ (pos 2 ∷ pos 20 ∷ pos 3 ∷ pos 30 ∷ pos 4 ∷ pos 40 ∷ [], now_at 0 3 0)
unfolding computing
turned-again = refl

pub deleted-round : ring_changed 1 wrapped "DELETE FROM recent WHERE minute = 3" ≡ (pos 2 ∷ pos 20 ∷ pos 4 ∷ pos 40 ∷ pos 0 ∷ pos 0 ∷ [], now_at 1 2 0)
unfolding computing
deleted-round = refl

-- A.8: rows are counted wherever they lie; here (2, 20) and (3, 30) of the three, and not (4, 40), which lies first
pub would-round : (ring_changed 1 wrapped "DELETE FROM recent WHERE minute < 4").1.count ≡ 2
unfolding computing
would-round = refl

-- an UPDATE moves no row
pub set-in-place : ring_changed 1 wrapped "UPDATE recent SET level = 21 WHERE minute = 2" ≡ (pos 4 ∷ pos 40 ∷ pos 2 ∷ pos 21 ∷ pos 3 ∷ pos 30 ∷ [], now_at 1 3 1)
unfolding computing
set-in-place = refl

-- a ring that is not full takes the row behind the others
pub not-yet-full : (cells_after (of_ring "INSERT INTO recent VALUES (3, 30)").update (recent 2 0) 0 (pos 1 ∷ pos 10 ∷ pos 2 ∷ pos 20 ∷ pos 0 ∷ pos 0 ∷ []) [] ≡ filled)
    × (change_of (of_ring "INSERT INTO recent VALUES (3, 30)").update (recent 2 0) 0 (pos 1 ∷ pos 10 ∷ pos 2 ∷ pos 20 ∷ pos 0 ∷ pos 0 ∷ []) [] ≡ now_at 1 3 0)
unfolding computing
not-yet-full = (refl, refl)

-- "Rows still read oldest first, wherever the first row lies in the area": the record of all rows, and a byte behind it that stays
pub read-round : put (replicate 33 9) 0 (record_stored (of_ring "SELECT minute, level FROM recent").query [] (rows_used (recent 3 1) 0 wrapped))
    ≡ 0 ∷ 0 ∷ 0 ∷ 28 ∷ 1 ∷ 2 ∷ 0 ∷ 3
    ∷ 0 ∷ 0 ∷ 0 ∷ 2 ∷ 0 ∷ 0 ∷ 0 ∷ 20
    ∷ 0 ∷ 0 ∷ 0 ∷ 3 ∷ 0 ∷ 0 ∷ 0 ∷ 30
    ∷ 0 ∷ 0 ∷ 0 ∷ 4 ∷ 0 ∷ 0 ∷ 0 ∷ 40
    ∷ 9 ∷ []
unfolding computing
read-round = refl

pub said-round : selected_in (replicate 32 0) (rows_used (recent 3 1) 0 wrapped) (record_stored (of_ring "SELECT minute, level FROM recent").query [] (rows_used (recent 3 1) 0 wrapped))
    ≡ record { refusal = 0; scanned = 3; size = 32 }
unfolding computing
said-round = refl

-- in both places of a pair
pub paired-round : pairs_used (of_ring "SELECT minute FROM recent").query [] (recent 3 1) 0 (recent 3 2) 0 wrapped
    ≡ (pos 2 ∷ pos 20 ∷ pos 3 ∷ pos 30 ∷ []) ∷ (pos 2 ∷ pos 20 ∷ pos 4 ∷ pos 40 ∷ []) ∷ (pos 2 ∷ pos 20 ∷ pos 2 ∷ pos 20 ∷ [])
    ∷ (pos 3 ∷ pos 30 ∷ pos 3 ∷ pos 30 ∷ []) ∷ (pos 3 ∷ pos 30 ∷ pos 4 ∷ pos 40 ∷ []) ∷ (pos 3 ∷ pos 30 ∷ pos 2 ∷ pos 20 ∷ [])
    ∷ (pos 4 ∷ pos 40 ∷ pos 3 ∷ pos 30 ∷ []) ∷ (pos 4 ∷ pos 40 ∷ pos 4 ∷ pos 40 ∷ []) ∷ (pos 4 ∷ pos 40 ∷ pos 2 ∷ pos 20 ∷ [])
    ∷ []
unfolding computing
paired-round = refl

-- the row that the next INSERT pushes out, and its removal: an INSERT of 2 and 20 into table 5; of a table without rows an INSERT of no values
pub goes-next : (oldest_row (recent 3 1) 0 wrapped ≡ pos 2 ∷ pos 20 ∷ [])
    × (removal_of 5 (recent 3 1) 0 wrapped ≡ update_struct (record { table = 5; change = insert (constant (pos 2) ∷ constant (pos 20) ∷ []); parameters = 0 }))
    × ((removal_of 5 (recent 0 0) 0 wrapped).count ≡ 0)
unfolding computing
goes-next = (refl, refl, refl)
