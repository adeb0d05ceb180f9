-- The plain store: document 01, "The plain store" and "Numbers for a call not taken"; requests A.1, A.4, A.6, A.7 and A.8. It keeps no answer, and is fed only which call is made, its text
-- or numbers, and the lengths lent. Assumes nothing: these are definitions.
use Rattle.std.specs.Prelude.{Bool, true, false, not, ◌&&◌, ◌||◌, cond, List, [], ◌∷◌, ◌++◌, map, ℕ, zero, suc, ◌+◌, ◌*◌, ◌-◌, leb, ltb, eqb, ℤ, length, take, drop, get_or, set}
use Rattle.std.proofs.Math.Option.{Option, none, some}
use Rattle.lists.specs.Lists.{all, keep, count, pairs}
use Rattle.meaning.specs.Condition.{Comparison, always, outer_in, holds}
use Rattle.meaning.specs.Key.{Key}
use Rattle.meaning.specs.Call.{Call, add, ask, change, flush, propose, commit, withdraw}
use Rattle.meaning.specs.Refusals.{Conditions, Catalog, is_none, is_short, is_many, statement_conditions, new_conditions, update_conditions, add_conditions, flush_conditions, note_conditions, lowest_of}
use Rattle.meaning.specs.Grammar.{Sentence}
use Rattle.meaning.specs.Reader.{sentence}
use Rattle.meaning.specs.Limits.{most_cells, most_memory, most_slots, least_slot_bytes, most_slot_bytes}
use Rattle.meaning.specs.Names.{Schema, no_schema}
use Rattle.meaning.specs.Statement.{is_below, Operand, Second, Query, Change, insert, delete, update, Update, Statement, creates, asks, changes, statement_of}
use Rattle.meaning.specs.Meaning.{Row, operand_value, answer, changed, rows_changed}
use Rattle.meaning.specs.Cells.{areas_size}
use Rattle.meaning.specs.Record.{encode}
use Rattle.meaning.specs.Exact.{drops}

-- ---- what it holds

-- a table: "what its TABLE text says and a list of rows"
pub record Table : Type 0 where
  pub schema : Schema
  pub rows : List Row

-- the lengths of the lent cells and of the lent kept memory
pub record Lengths : Type 0 where
  pub cells : ℕ
  pub memory : ℕ

-- A.8, "the pending note": the update that is proposed, and its values
pub record Note : Type 0 where
  pub update : ℕ
  pub values : List ℤ

-- "It holds" the lengths that the opening was lent, a list of tables, of questions and of updates, at first none; and since A.8 the pending note
pub record Plain : Type 0 where
  pub lengths : Lengths
  pub tables : List Table
  pub queries : List Query
  pub updates : List Update
  pub pending : Option Note

abbrev pub schemas : Plain → List Schema
schemas p = map (λ (t : Table). t.schema) p.tables

abbrev pub no_table : Table
no_table = record { schema = no_schema; rows = [] }

abbrev pub no_query : Query
no_query = record { table = 0; second = none; selected = []; condition = always; parameters = 0 }

abbrev pub no_update : Update
no_update = record { table = 0; change = delete always; parameters = 0 }

abbrev pub table_at : Plain → ℕ → Table
table_at p i = get_or p.tables i no_table

abbrev pub query_at : Plain → ℕ → Query
query_at p i = get_or p.queries i no_query

abbrev pub update_at : Plain → ℕ → Update
update_at p i = get_or p.updates i no_update

-- "Its cells left are the opening's less columns × ROWS of each table."
abbrev pub cells_left : Plain → ℕ
cells_left p = p.lengths.cells - areas_size (schemas p)

-- the rows of table i
abbrev pub rows_at : List Table → ℕ → List Row
rows_at ts i = (get_or ts i no_table).rows

-- the rows that a question is over: those of its table, or the pairs of two (A.1: "Rows come in the first table's order, and for each in the second's.")
abbrev pub rows_over : List Table → Query → Option Second → List Row
rows_over ts q none = rows_at ts q.table
rows_over ts q (some s) = pairs (rows_at ts q.table) (rows_at ts s.table)

abbrev pub rows_for : Plain → Query → List Row
rows_for p q = rows_over p.tables q q.second

-- the record of the rows that Meaning lists
unfoldable pub record_of : Plain → Key → List ℕ
record_of p k =
    let q : Query = query_at p k.query in
    encode (length q.selected) (answer q k.values (rows_for p q))

-- ---- the rows that a question reads where it is worked out anew

-- A.6: a comparison "that names no column of the second table", whose columns start there
abbrev pub of_first : ℕ → Comparison Operand → Bool
of_first start c = is_below start c.left && is_below start c.right

-- a first-table row "for which every comparison that stands outside all OR, NOT and parentheses, alone or joined by AND, and that names no column of the second table, is
-- true"; with none such, every row
abbrev pub passes_first : Query → Second → List ℤ → Row → Bool
passes_first q s vs r = all (holds (operand_value r vs)) (keep (of_first s.start) (outer_in q.condition))

-- "the table's row count"; over two tables A.6: "exactly r1 + m × r2", where m is the number of such first-table rows
abbrev pub rows_read_over : List Table → Query → List ℤ → Option Second → ℕ
rows_read_over ts q vs none = length (rows_at ts q.table)
rows_read_over ts q vs (some s) = length (rows_at ts q.table) + count (passes_first q s vs) (rows_at ts q.table) * length (rows_at ts s.table)

abbrev pub rows_read : Plain → Key → ℕ
rows_read p k =
    let q : Query = query_at p k.query in
    rows_read_over p.tables q k.values q.second

abbrev pub is_insert : Change → Bool
is_insert (insert os) = true
is_insert (delete g) = false
is_insert (update ss g) = false

-- A.4: "an INSERT into a full table first removes the oldest row": the row that goes, or none; rows stand oldest first
abbrev pub is_pushing : Schema → ℕ → Change → Bool
is_pushing t rows c = t.ring && (is_insert c && leb t.capacity rows)

abbrev pub pushed : Table → Change → List Row
pushed t c = cond (is_pushing t.schema (length t.rows) c) (take 1 t.rows) []

-- the rows that the change finds
abbrev pub remaining : Table → Change → List Row
remaining t c = drop (length (pushed t c)) t.rows

abbrev pub pushed_by : Plain → ℕ → List Row
pushed_by p n = pushed (table_at p (update_at p n).table) (update_at p n).change

-- "An update not refused matches a key when a pattern of the two, filled with the update's values, agrees with the key, kept or not." A.4: those of a row
-- pushed out "count among the patterns of the two". A.7: a question over the updated table alone, neither comparing a column with a column, "is then worked out anew for such an
-- update only where this rule drops it, or would if it were kept"
unfoldable pub drops_key : Plain → ℕ → List ℤ → Key → Bool
drops_key p n us k =
    let u : Update = update_at p n in
    drops (length (table_at p u.table).schema.columns) (query_at p k.query) u (pushed_by p n) us k.values

-- ---- opening

pub record Opening : Type 0 where
  pub lent : Lengths
  pub slots : ℕ
  pub slot_bytes : ℕ

-- refusal 1: "opening outside the limits, or slots × bytes over the kept memory"
unfoldable pub opening_refused : Opening → Bool
opening_refused o =
    ltb most_cells o.lent.cells
    || (ltb most_memory o.lent.memory
    || (ltb most_slots o.slots
    || (ltb o.slot_bytes least_slot_bytes
    || (ltb most_slot_bytes o.slot_bytes
    || ltb o.lent.memory (o.slots * o.slot_bytes)))))

-- "the opening's lengths (0 if that was refused)"
abbrev pub lengths_of : Bool → Lengths → Lengths
lengths_of true l = record { cells = 0; memory = 0 }
lengths_of false l = l

abbrev pub opened : Opening → Plain
opened o = record { lengths = lengths_of (opening_refused o) o.lent; tables = []; queries = []; updates = []; pending = none }

-- ---- "Numbers for a call not taken": the facts that `Refusals` asks for, read on this store

-- 2: "lent lengths not the opening's"
unfoldable pub other_lengths : Lengths → Plain → Bool
other_lengths lent p = not (eqb lent.cells p.lengths.cells && eqb lent.memory p.lengths.memory)

-- what a text is read beside
abbrev pub catalog_of : Plain → Catalog
catalog_of p = record { tables = schemas p; queries = length p.queries; updates = length p.updates; cells_left = cells_left p }

-- 12: "INSERT, table full"; of a ring, A.4: "12 isn't given for it"
unfoldable pub full : Plain → ℕ → Bool
full p n =
    let u : Update = update_at p n in
    let t : Table = table_at p u.table in
    is_insert u.change && (not t.schema.ring && leb t.schema.capacity (length t.rows))

-- 16
unfoldable pub too_many : Plain → Key → Bool
too_many p k =
    let q : Query = query_at p k.query in
    is_many (length (answer q k.values (rows_for p q)))

abbrev pub ask_conditions : Lengths → Plain → Key → Conditions
ask_conditions lent p k = statement_conditions (other_lengths lent p) (length p.queries) k.query (query_at p k.query).parameters (length k.values)

abbrev pub change_conditions : Lengths → Plain → ℕ → List ℤ → Conditions
change_conditions lent p n us = update_conditions (other_lengths lent p) (length p.updates) n (update_at p n).parameters (length us) (full p n)

abbrev pub conditions : Lengths → Plain → Call ℕ → Conditions
conditions lent p (add text) = add_conditions (other_lengths lent p) (catalog_of p) text (sentence text)
conditions lent p (ask k buffer) = ask_conditions lent p k ++ new_conditions (too_many p k) (is_short buffer (length (record_of p k)))
conditions lent p (change n us) = change_conditions lent p n us
conditions lent p flush = flush_conditions (other_lengths lent p)
conditions lent p (propose n us) = change_conditions lent p n us
conditions lent p commit = note_conditions (other_lengths lent p) (is_none p.pending)
conditions lent p withdraw = note_conditions (other_lengths lent p) (is_none p.pending)

unfoldable pub refusal : Lengths → Plain → Call ℕ → ℕ
refusal lent p c = lowest_of (conditions lent p c)

-- ---- what a call gives and leaves

-- "adding gives the kind and that number"
pub data Kind : Type 0 where
  table_kind query_kind update_kind : Kind

pub data Out : Type 0 where
  refused : ℕ → Out
  added : Kind → ℕ → Out
  answered : List ℕ → Out
  rows : ℕ → Out
  flushed : Out
  withdrawn : Out

-- A.8, "changes nothing but the pending note": with this one, or with none
abbrev pub with_note : Plain → Option Note → Plain
with_note p o = record p { pending = o }

-- "adding appends the table, without rows, or the statement"; A.8: "an accepted text of any kind" removes the note
abbrev pub adding : Plain → Statement → Plain
adding p (creates t) = record p { tables = p.tables ++ (record { schema = t; rows = [] } ∷ []); pending = none }
adding p (asks q) = record p { queries = p.queries ++ (q ∷ []); pending = none }
adding p (changes u) = record p { updates = p.updates ++ (u ∷ []); pending = none }

-- "Tables, questions and updates are each numbered from 0"
abbrev pub kind_and_number : Plain → Statement → Out
kind_and_number p (creates t) = added table_kind (length p.tables)
kind_and_number p (asks q) = added query_kind (length p.queries)
kind_and_number p (changes u) = added update_kind (length p.updates)

-- a text that is not refused has a sentence
unfoldable pub text_added : Plain → Option Sentence → Plain × Out
text_added p none = (p, refused 4)
text_added p (some s) = (adding p (statement_of (schemas p) s), kind_and_number p (statement_of (schemas p) s))

-- "an update changes its table's list as Meaning says", and an INSERT into a full ring first removes the oldest row; A.8: it removes the note
unfoldable pub changed_by : Plain → ℕ → List ℤ → Plain
changed_by p n us =
    let u : Update = update_at p n in
    let t : Table = table_at p u.table in
    record p { tables = set p.tables u.table (record { schema = t.schema; rows = changed u.change us (remaining t u.change) }); pending = none }

-- "and gives the rows inserted, matched or deleted"
unfoldable pub rows_by : Plain → ℕ → List ℤ → ℕ
rows_by p n us = rows_changed (update_at p n).change us (table_at p (update_at p n).table).rows

-- what an update does and gives
abbrev pub made : Plain → ℕ → List ℤ → Plain × Out
made p n us = (changed_by p n us, rows (rows_by p n us))

-- A.8, "A commit then does it": one that is not refused has a note
abbrev pub committed : Plain → Option Note → Plain × Out
committed p none = (p, refused 17)
committed p (some x) = made p x.update x.values

-- a call that is not refused; a proposal "gives the rows it would insert, match or delete", and "a withdrawal, a flush" remove the note
abbrev pub does : Plain → Call ℕ → Plain × Out
does p (add text) = text_added p (sentence text)
does p (ask k buffer) = (p, answered (record_of p k))
does p (change n us) = made p n us
does p flush = (with_note p none, flushed)
does p (propose n us) = (with_note p (some (record { update = n; values = us })), rows (rows_by p n us))
does p commit = committed p p.pending
does p withdraw = (with_note p none, withdrawn)

-- "A call that the numbers below refuse, read on this store, gets the lowest that applies and changes nothing."
abbrev pub guard : {S O : Type 0} → ℕ → S → (ℕ → O) → S × O → S × O
guard zero s f done = done
guard (suc n) s f done = (s, f (suc n))

abbrev pub step : Lengths → Plain → Call ℕ → Plain × Out
step lent p c = guard (refusal lent p c) p refused (does p c)

-- ---- a list of calls, each on the store that the last one left; what each gets

abbrev pub after : Lengths → Plain → List (Call ℕ) → Plain
after lent p [] = p
after lent p (c ∷ cs) = after lent (step lent p c).0 cs

abbrev pub outs : Lengths → Plain → List (Call ℕ) → List Out
outs lent p [] = []
outs lent p (c ∷ cs) = (step lent p c).1 ∷ outs lent (step lent p c).0 cs

-- the rows that Meaning lists for a key
abbrev pub rows_listed : Plain → Key → List Row
rows_listed p k = answer (query_at p k.query) k.values (rows_for p (query_at p k.query))
