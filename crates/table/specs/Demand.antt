-- The demands and requests A.1, A.3, A.4 and A.6 as claims, as far as the table layer can say them; what is asked of the arguments is what their types and a sound state give. Each is
-- proved in proofs/Demand.antt. Assumes nothing: these are definitions.
use Rattle.std.specs.Prelude.{◌≡◌, ◌≢◌, ◌⊎◌, ◌↔◌, true, not, List, [], ◌∷◌, ◌++◌, map, ℕ, ◌+◌, ◌*◌, ◌≤◌, ◌<◌, ℤ, pos, length, take, drop, get_or}
use Rattle.std.proofs.Math.Option.{some}
use Rattle.lists.specs.Lists.{All, keep, count, pairs, written}
use Rattle.meaning.specs.Record.{ReadsBack}
use Rattle.meaning.specs.Call.{Is32}
use Rattle.meaning.specs.Limits.{most_items, most_rows, most_listed}
use Rattle.meaning.specs.Condition.{Optional, Where, mapped_in}
use Rattle.meaning.specs.Grammar as G
use Rattle.meaning.specs.Grammar.{Given, Test, comparison, Listed, Dotted, items}
use Rattle.meaning.specs.Reader.{sentence}
use Rattle.meaning.specs.Meaning.{Row, meets_where, new_row, updated_row, answer}
use Rattle.meaning.specs.Cells.{area_of, rows_in}
use Rattle.meaning.specs.Plain.{passes_first}
use Rattle.meaning.specs.Names.{Schema, columns_of, position, pair_place}
use Rattle.meaning.specs.Statement as M
use Rattle.meaning.specs.Statement.{insert, delete, update, setting_marks, resolved_where}
use Rattle.meaning.specs.Tokens.{Name}
use Rattle.answer.specs.Answer.{put}
use Rattle.statement.specs.declared.Condition.{Condition}
use Rattle.statement.specs.declared.Query.{Query}
use Rattle.statement.specs.Compiled.{Compiled, compiled_of}
use Rattle.statement.specs.declared.Table.{Table}
use Rattle.statement.specs.declared.Update.{Update}
use Rattle.statement.specs.Catalog.{schemas_of}
use Rattle.statement.specs.Sound.{AgreesCondition, AgreesQuery, AgreesUpdate}
use Rattle.table.specs.Evaluated.{Said, selected_in, pairs_used, pair_says, pair_leaves, place_round}
use Rattle.table.specs.Rows.{row_cells, rows_used, answer_stored, record_stored, passes_stored}
use Rattle.table.specs.Tests.{longest, passes, Prepared}
use Rattle.table.specs.Changed.{is_full_ring, change_fits, rows_before, change_of, cells_after}
use Rattle.table.specs.declared.changes.Changed.{Changed}

-- what `select` promises: its result, and the buffer
abbrev pub says : Query → Table → ℕ → List ℤ → List ℤ → List ℕ → Said
says q t start cells vs out = selected_in out (rows_used t start cells) (record_stored q vs (rows_used t start cells))

abbrev pub leaves : Query → Table → ℕ → List ℤ → List ℤ → List ℕ → List ℕ
leaves q t start cells vs out = put out 0 (record_stored q vs (rows_used t start cells))

-- a question of 1 to 8 columns of a table of at most 512 rows, in cells of 32 bits
pub record Askable (q : Query) (t : Table) (cells : List ℤ) : Type 0 where
  pub array : length q.selected ≡ most_items
  pub some_selected : 1 ≤ q.count
  pub few_selected : q.count ≤ most_items
  pub few_rows : t.rows ≤ most_rows
  pub narrow : All Is32 cells

-- ---- Demand 2: "A new answer .. holds exactly the rows, in order, that the SQL meaning set down there gives, and its record reads back as those rows"

-- the whole buffer, whatever stands behind the record, shows the rows that the stored question lists
abbrev pub SelectReadsBack : Type 0
SelectReadsBack = (q : Query) (t : Table) (start : ℕ) (cells vs : List ℤ) (out : List ℕ) → Askable q t cells
    → (says q t start cells vs out).refusal ≡ 0
    → ReadsBack (leaves q t start cells vs out) q.count (answer_stored q vs (rows_used t start cells))

-- and these are the rows that Meaning lists for its sentence
abbrev pub SelectMeans : Type 0
SelectMeans = (q : Query) (q' : M.Query) → AgreesQuery q q' → (t : Table) (start : ℕ) (cells vs : List ℤ) (out : List ℕ) → Askable q t cells
    → (says q t start cells vs out).refusal ≡ 0
    → ReadsBack (leaves q t start cells vs out) (length q'.selected) (answer q' vs (rows_used t start cells))

-- ---- "rows read (0 if kept, else the table's row count)": of a question over one table, whose rows lie inside the cells
abbrev pub RowsRead : Type 0
RowsRead = (q : Query) (t : Table) (start : ℕ) (cells vs : List ℤ) (out : List ℕ) → start + row_cells t ≤ length cells
    → (says q t start cells vs out).refusal ≡ 0 → (says q t start cells vs out).scanned ≡ t.rows

-- ---- Request A.3: "the position of each operand's column is to be found before the first row is tested, once a question"

-- of what a text compiles to beside these tables: the selected columns are the places of their names among the table's columns, and so are all columns of the WHERE
pub record Positions (ts : List Schema) (text : List ℕ) (r : Compiled) : Type 0 where
  pub selected : (cs : Listed Name) (t : Name) (w : Optional (Test Name)) → sentence text ≡ some (G.select cs t w)
      → take r.query.count r.query.selected ≡ map (position (columns_of ts t)) (items cs)
  pub asked : (cs : Listed Name) (t : Name) (w : Optional (Test Name)) → sentence text ≡ some (G.select cs t w)
      → AgreesCondition r.query.condition (resolved_where (position (columns_of ts t)) 0 (mapped_in comparison w))
  -- A.1: of a question over two tables they are places in a pair of rows, counted through the columns of both
  pub pair_selected : (cs : Listed Dotted) (t u : Name) (w : Optional (Test Dotted)) → sentence text ≡ some (G.pair cs t u w)
      → take r.query.count r.query.selected ≡ map (pair_place t (columns_of ts t) u (columns_of ts u)) (items cs)
  pub pair_asked : (cs : Listed Dotted) (t u : Name) (w : Optional (Test Dotted)) → sentence text ≡ some (G.pair cs t u w)
      → AgreesCondition r.query.condition (resolved_where (pair_place t (columns_of ts t) u (columns_of ts u)) 0 (mapped_in comparison w))
  pub updated : (t : Name) (ss : Listed (Name × Given)) (w : Optional (Test Name)) → sentence text ≡ some (G.update t ss w)
      → AgreesCondition r.update.condition (resolved_where (position (columns_of ts t)) (setting_marks (items ss)) (mapped_in comparison w))
  pub deleted : (t : Name) (w : Optional (Test Name)) → sentence text ≡ some (G.delete t w)
      → AgreesCondition r.update.condition (resolved_where (position (columns_of ts t)) 0 (mapped_in comparison w))

abbrev pub PositionsFound : Type 0
PositionsFound = (text : List ℕ) (tables : List Table) (used queries updates cells : ℕ) → (compiled_of text tables used queries updates cells).refusal ≡ 0
    → Positions (schemas_of tables used) text (compiled_of text tables used queries updates cells)

-- "What tests a row .. is then given cells, values and positions and no name or text, and its promise still says that its result is the one of Meaning": numbers that
-- are prepared of a stored condition, as `prepare` promises of every condition and all values, give on every row what Meaning says of the WHERE that it is the form of
abbrev pub RowTestMeans : Type 0
RowTestMeans = (c : Condition) (vs : List ℤ) (targets places : List ℕ) (numbers : List ℤ) (start : ℕ) → Prepared c vs targets places numbers start
    → (w : Where M.Operand) → AgreesCondition c w → (row : Row) → length row ≤ longest → passes targets places numbers start row ≡ meets_where w vs row

-- ---- Request A.1: the same of questions over two tables, by what `select_pair` promises (`pair_says`, `pair_leaves`)

-- a question of 1 to 8 columns of two tables of at most 8 columns each, in cells of 32 bits
pub record PairAskable (q : Query) (t u : Table) (cells : List ℤ) : Type 0 where
  pub array : length q.selected ≡ most_items
  pub some_selected : 1 ≤ q.count
  pub few_selected : q.count ≤ most_items
  pub few_columns : t.count ≤ most_items
  pub few_others : u.count ≤ most_items
  pub narrow : All Is32 cells

-- the whole buffer shows what the stored question lists of the pairs of rows, "in the first table's order, and for each in the second's", but for first-table rows that do
-- not pass (A.6)
abbrev pub SelectPairReadsBack : Type 0
SelectPairReadsBack = (q : Query) (t : Table) (start : ℕ) (u : Table) (beside : ℕ) (cells vs : List ℤ) (out : List ℕ) → PairAskable q t u cells
    → (pair_says q t start u beside cells vs out).refusal ≡ 0
    → ReadsBack (pair_leaves q t start u beside cells vs out) q.count (answer_stored q vs (pairs (keep (passes_stored q vs) (rows_used t start cells)) (rows_used u beside cells)))

-- and these are the rows that Meaning lists of all pairs for its sentence, where the second table's columns start behind the first's
abbrev pub SelectPairMeans : Type 0
SelectPairMeans = (q : Query) (q' : M.Query) (s : M.Second) → AgreesQuery q q' → q'.second ≡ some s
    → (t : Table) (start : ℕ) (u : Table) (beside : ℕ) (cells vs : List ℤ) (out : List ℕ) → PairAskable q t u cells → s.start ≡ t.count
    → (pair_says q t start u beside cells vs out).refusal ≡ 0
    → ReadsBack (pair_leaves q t start u beside cells vs out) (length q'.selected) (answer q' vs (pairs (rows_used t start cells) (rows_used u beside cells)))

-- 16 exactly if more than 65,535 rows are listed, whatever the buffer; then the buffer stays as it was
abbrev pub TooManyExactlyIf : Type 0
TooManyExactlyIf = (q : Query) (t : Table) (start : ℕ) (u : Table) (beside : ℕ) (cells vs : List ℤ) (out : List ℕ)
    → ((pair_says q t start u beside cells vs out).refusal ≡ 16) ↔ (most_listed < length (answer_stored q vs (pairs_used q vs t start u beside cells)))

abbrev pub RefusedLeavesBuffer : Type 0
RefusedLeavesBuffer = (q : Query) (t : Table) (start : ℕ) (u : Table) (beside : ℕ) (cells vs : List ℤ) (out : List ℕ)
    → (pair_says q t start u beside cells vs out).refusal ≢ 0 → pair_leaves q t start u beside cells vs out ≡ out

-- Request A.6: "For a question over two tables that is worked out anew the count becomes exactly r1 + m × r2", of tables whose rows lie inside the cells
abbrev pub PairRowsRead : Type 0
PairRowsRead = (q : Query) (q' : M.Query) (s : M.Second) → AgreesQuery q q' → q'.second ≡ some s → (t : Table) (start : ℕ) (u : Table) (beside : ℕ) (cells vs : List ℤ) (out : List ℕ)
    → t.count ≤ most_items → u.count ≤ most_items → start + row_cells t ≤ length cells → beside + row_cells u ≤ length cells
    → (pair_says q t start u beside cells vs out).refusal ≡ 0
    → (pair_says q t start u beside cells vs out).scanned ≡ t.rows + count (passes_first q' s vs) (rows_used t start cells) * u.rows

-- and so A.1's bound stands: "Rows read are at most r1 + r1 × r2 for r1 and r2 rows"
abbrev pub PairReadsAtMost : Type 0
PairReadsAtMost = (q : Query) (t : Table) (start : ℕ) (u : Table) (beside : ℕ) (cells vs : List ℤ) (out : List ℕ)
    → (pair_says q t start u beside cells vs out).scanned ≤ t.rows + t.rows * u.rows

-- A.3, "or a pair of rows": what tests a row gives, of the one row behind the other, what Meaning says of the pair
abbrev pub PairTestMeans : Type 0
PairTestMeans = (c : Condition) (vs : List ℤ) (targets places : List ℕ) (numbers : List ℤ) (start : ℕ) → Prepared c vs targets places numbers start
    → (w : Where M.Operand) → AgreesCondition c w → (row other : Row) → length row ≤ most_items → length other ≤ most_items
    → passes targets places numbers start (row ++ other) ≡ meets_where w vs (row ++ other)

-- ---- Request A.4: "Rows still read oldest first, wherever the first row lies in the area"

-- row i read is the one that many places behind the oldest, and round; there is no other row
abbrev pub ReadsOldestFirst : Type 0
ReadsOldestFirst = (t : Table) (start : ℕ) (cells : List ℤ) → start + row_cells t ≤ length cells → t.oldest < t.rows
    → (length (rows_used t start cells) ≡ t.rows)
    × ((i : ℕ) → i < t.rows → get_or (rows_used t start cells) i [] ≡ area_of (start + place_round t.rows t.oldest i * t.count) t.count cells)

-- a stored update of the sentence s, which fits the table
pub record Makes (u : Update) (s : M.Update) (t : Table) (start : ℕ) (cells : List ℤ) : Type 0 where
  pub array : length u.settings ≡ most_items
  pub agrees : AgreesUpdate u s
  pub fits_in : change_fits u t start cells ≡ true

-- the table after an update
abbrev pub table_after : Table → Changed → Table
table_after t c = record { name = t.name; columns = t.columns; count = t.count; capacity = t.capacity; rows = c.rows; oldest = c.oldest; ring = t.ring }

-- "an INSERT into a full table first removes the oldest row": it counts one row, and those read then are all but the first, and the new one
abbrev pub FullRingPushes : Type 0
FullRingPushes = (u : Update) (s : M.Update) (t : Table) (start : ℕ) (cells vs : List ℤ) (os : List M.Value) → Makes u s t start cells → s.change ≡ insert os → is_full_ring t ≡ true
    → ((change_of u t start cells vs).count ≡ 1)
    × (rows_used (table_after t (change_of u t start cells vs)) start (cells_after u t start cells vs) ≡ drop 1 (rows_used t start cells) ++ (new_row os vs ∷ []))

-- "The new row takes the cells of the one removed": the row read first lay in these cells, and no other cell changes
abbrev pub NewRowTakesCells : Type 0
NewRowTakesCells = (u : Update) (s : M.Update) (t : Table) (start : ℕ) (cells vs : List ℤ) (os : List M.Value) → Makes u s t start cells → s.change ≡ insert os → is_full_ring t ≡ true
    → (get_or (rows_used t start cells) 0 [] ≡ area_of (start + t.oldest * t.count) t.count cells)
    × (length (new_row os vs) ≡ t.count)
    × (cells_after u t start cells vs ≡ written cells (start + t.oldest * t.count) (new_row os vs))

-- "after any DELETE the oldest row lies first in the area again": also after one that deletes no row; the rows as they lie are then the rows kept, oldest first
abbrev pub DeleteLaysOldestFirst : Type 0
DeleteLaysOldestFirst = (u : Update) (s : M.Update) (t : Table) (start : ℕ) (cells vs : List ℤ) (w : Where M.Operand) → Makes u s t start cells → s.change ≡ delete w
    → ((change_of u t start cells vs).oldest ≡ 0)
    × (rows_in t.count (change_of u t start cells vs).rows (drop start (cells_after u t start cells vs)) ≡ keep (λ (r : Row). not (meets_where w vs r)) (rows_used t start cells))

-- an UPDATE moves no row
abbrev pub UpdateStaysInPlace : Type 0
UpdateStaysInPlace = (u : Update) (s : M.Update) (t : Table) (start : ℕ) (cells vs : List ℤ) (ss : List (ℕ × M.Value)) (w : Where M.Operand) → Makes u s t start cells
    → s.change ≡ update ss w
    → ((change_of u t start cells vs).oldest ≡ t.oldest)
    × (rows_in t.count (change_of u t start cells vs).rows (drop start (cells_after u t start cells vs)) ≡ map (updated_row ss w vs) (rows_before t start cells))

-- ---- "cells that a DELETE vacates become 0, other unused cells stay": cell by cell

-- the cells of the rows that there were, behind those that are left
abbrev pub DeleteClears : Type 0
DeleteClears = (u : Update) (s : M.Update) (t : Table) (start : ℕ) (cells vs : List ℤ) (w : Where M.Operand) → Makes u s t start cells → s.change ≡ delete w
    → (i : ℕ) (x : ℤ) → start + t.count * (change_of u t start cells vs).rows ≤ i → i < start + row_cells t → get_or (cells_after u t start cells vs) i x ≡ pos 0

-- of any update, fitting or not: there are as many cells, and one that lies before the table's area, or behind the rows that there were and behind those that there are, is as it was
abbrev pub OtherCellsStay : Type 0
OtherCellsStay = (u : Update) (t : Table) (start : ℕ) (cells vs : List ℤ) → length u.settings ≡ most_items
    → (length (cells_after u t start cells vs) ≡ length cells)
    × ((i : ℕ) (x : ℤ) → (i < start) ⊎ ((start + row_cells t ≤ i) × (start + t.count * (change_of u t start cells vs).rows ≤ i))
    → get_or (cells_after u t start cells vs) i x ≡ get_or cells i x)

-- ---- all of these

pub record Demands : Type 0 where
  pub select_reads_back : SelectReadsBack
  pub select_means : SelectMeans
  pub rows-read : RowsRead
  pub positions_found : PositionsFound
  pub row_test_means : RowTestMeans
  pub select_pair_reads_back : SelectPairReadsBack
  pub select_pair_means : SelectPairMeans
  pub too_many_exactly_if : TooManyExactlyIf
  pub refused_leaves_buffer : RefusedLeavesBuffer
  pub pair_rows_read : PairRowsRead
  pub pair_reads_at_most : PairReadsAtMost
  pub pair_test_means : PairTestMeans
  pub reads_oldest_first : ReadsOldestFirst
  pub full_ring_pushes : FullRingPushes
  pub new_row_takes_cells : NewRowTakesCells
  pub delete_lays_oldest_first : DeleteLaysOldestFirst
  pub update_stays_in_place : UpdateStaysInPlace
  pub delete_clears : DeleteClears
  pub other_cells_stay : OtherCellsStay
