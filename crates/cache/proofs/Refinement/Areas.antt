-- Tables in the cells, one area behind the other, as the plain store has them: what each is, one more, and one that an update changed. Assumes nothing.
use mathlib.Core.Path.{◌≡◌, refl, sym, ap, ap₂, ◌∙◌, subst}
use mathlib.Core.Bool.{cond}
use mathlib.Core.List.{List, [], ◌∷◌, ◌++◌, map}
use Prim.Native.Nat.{ℕ, zero, suc, ◌+◌, ◌*◌, ◌≤◌, ◌<◌}
use native.Mathlib.Nat.{le_of_suc-le-suc, not-suc-le-zero, mul-le-mul_left, mul_comm}
use native.Mathlib.Omega.{arith}
use borrow.Author.Tests.{le-leb}
use lib.Dec.{leb}
use lib.IntN.{ℤ}
use lib.ListN.{length, get_or, take, drop, set, length-map}
use lib.Seq.{length-take-le, split_at, set_split, set_at}
use Rattle.lists.specs.Lists.{All, turned}
use Rattle.lists.proofs.Lists.{All-head, All-tail, All-right, All-take}
use Rattle.meaning.specs.Meaning.{Row}
use Rattle.meaning.specs.Cells.{rows_in}
use Rattle.meaning.specs.Plain as P
use Rattle.statement.specs.declared.Table.{Table}
use Rattle.statement.specs.Catalog.{schema_of}
use Rattle.statement.specs.Compiled.{no_table}
use Rattle.table.specs.Rows.{row_cells, rows_used}
use Rattle.cache.specs.Sound.{areas_of}
use Rattle.cache.specs.Means.{tables_from}
use Rattle.cache.specs.Gives.{with_rows}

-- ---- tables, one area behind the other

pub schemas-from : (start : ℕ) (ts : List Table) (cells : List ℤ) → map (λ (t : P.Table). t.schema) (tables_from start ts cells) ≡ map schema_of ts
schemas-from start [] cells = refl
schemas-from start (t ∷ ts) cells = ap (λ l. schema_of t ∷ l) (schemas-from (start + t.count * t.capacity) ts cells)

-- table i as the plain store has it
abbrev pub table_in : Table → ℕ → List ℤ → P.Table
table_in t start cells = record { schema = schema_of t; rows = rows_used t start cells }

pub table-from : (start : ℕ) (ts : List Table) (cells : List ℤ) (i : ℕ) → i < length ts
    → get_or (tables_from start ts cells) i P.no_table ≡ table_in (get_or ts i no_table) (start + areas_of (take i ts)) cells
table-from start [] cells i h = absurd (not-suc-le-zero h)
table-from start (t ∷ ts) cells zero h =
    let e : start ≡ start + 0 = omega arith in
    ap (λ k. table_in t k cells) e
table-from start (t ∷ ts) cells (suc i) h =
    let e : start + t.count * t.capacity + areas_of (take i ts) ≡ start + (t.count * t.capacity + areas_of (take i ts)) = omega arith in
    table-from (start + t.count * t.capacity) ts cells i (le_of_suc-le-suc h) ∙ ap (λ k. table_in (get_or ts i no_table) k cells) e

pub tables-append : (start : ℕ) (ts us : List Table) (cells : List ℤ)
    → tables_from start (ts ++ us) cells ≡ tables_from start ts cells ++ tables_from (start + areas_of ts) us cells
tables-append start [] us cells =
    let e : start ≡ start + 0 = omega arith in
    ap (λ k. tables_from k us cells) e
tables-append start (t ∷ ts) us cells =
    let e : start + t.count * t.capacity + areas_of ts ≡ start + (t.count * t.capacity + areas_of ts) = omega arith in
    ap (λ l. table_in t start cells ∷ l)
    (tables-append (start + t.count * t.capacity) ts us cells
    ∙ ap (λ k. tables_from (start + t.count * t.capacity) ts cells ++ tables_from k us cells) e)

-- the area of a table lies within all of them
pub area-within : (ts : List Table) (i : ℕ) → i < length ts
    → areas_of (take i ts) + (get_or ts i no_table).count * (get_or ts i no_table).capacity ≤ areas_of ts
area-within [] i h = absurd (not-suc-le-zero h)
area-within (t ∷ ts) zero h = omega arith
area-within (t ∷ ts) (suc i) h = let k = area-within ts i (le_of_suc-le-suc h) in omega arith

-- ---- a table whose area lies inside the cells, and its rows inside the area

-- its rows lie inside the cells
rows-within : (t : Table) (start n : ℕ) → t.rows ≤ t.capacity → start + t.count * t.capacity ≤ n → start + row_cells t ≤ n
rows-within t start n r h =
    let m : t.count * t.rows ≤ t.count * t.capacity = mul-le-mul_left t.count r in
    omega arith

pub rows-used : (t : Table) (start : ℕ) (cells : List ℤ) → t.rows ≤ t.capacity → start + t.count * t.capacity ≤ length cells
    → rows_used t start cells ≡ turned t.oldest (rows_in t.count t.rows (drop start cells))
rows-used t start cells r h = rw (le-leb (start + row_cells t) (length cells) (rows-within t start (length cells) r h))

-- ---- other cells

-- the rows of the tables are the same where their cells are
pub tables-same : (start : ℕ) (ts : List Table) (cells cells' : List ℤ) → length cells' ≡ length cells → All (λ (t : Table). t.rows ≤ t.capacity) ts
    → ((a c n : ℕ) → start ≤ a → a + n * c ≤ start + areas_of ts → rows_in c n (drop a cells') ≡ rows_in c n (drop a cells))
    → tables_from start ts cells' ≡ tables_from start ts cells
tables-same start [] cells cells' l F f = refl
tables-same start (t ∷ ts) cells cells' l F f =
    let r : t.rows ≤ t.capacity = All-head F in
    let k : t.count * t.rows ≤ t.count * t.capacity = mul-le-mul_left t.count r in
    let c : t.rows * t.count ≡ t.count * t.rows = mul_comm t.rows t.count in
    let own : rows_in t.count t.rows (drop start cells') ≡ rows_in t.count t.rows (drop start cells) =
    f start t.count t.rows (omega arith) (omega arith) in
    ap₂ (λ (x : List Row) (y : List P.Table). record { schema = schema_of t; rows = x } ∷ y)
    (ap₂ (λ (n : ℕ) (x : List Row). cond (leb (start + row_cells t) n) (turned t.oldest x) []) l own)
    (tables-same (start + t.count * t.capacity) ts cells cells' l (All-tail F)
    (λ a c n h k. f a c n (omega arith) (omega arith)))

from-length : (start : ℕ) (ts : List Table) (cells : List ℤ) → length (tables_from start ts cells) ≡ length ts
from-length start ts cells =
    sym (length-map (tables_from start ts cells) (λ (t : P.Table). t.schema)) ∙ ap length (schemas-from start ts cells) ∙ length-map ts schema_of

-- one table has other rows, and all cells but its area are as they were
module _ (ts : List Table) (F : All (λ (t : Table). t.rows ≤ t.capacity) ts) (i : ℕ) (h : i < length ts) (n k : ℕ) (cells cells' : List ℤ) (l : length cells' ≡ length cells) where
  abbrev t : Table
  t = get_or ts i no_table

  abbrev start : ℕ
  start = areas_of (take i ts)

  module _ (before : (a c n : ℕ) → a + n * c ≤ start → rows_in c n (drop a cells') ≡ rows_in c n (drop a cells))
      (behind : (a c n : ℕ) → start + t.count * t.capacity ≤ a → rows_in c n (drop a cells') ≡ rows_in c n (drop a cells)) where
    pub tables-set : tables_from 0 (set ts i (with_rows t n k)) cells' ≡ set (tables_from 0 ts cells) i (table_in (with_rows t n k) start cells')
    tables-set =
        let zero-first : 0 + start ≡ start = omega arith in
        let rest : List Table = drop (suc i) ts in
        let split : ts ≡ take i ts ++ t ∷ rest = split_at ts i no_table h in
        let first : tables_from 0 (take i ts) cells' ≡ tables_from 0 (take i ts) cells =
        tables-same 0 (take i ts) cells cells' l (All-take i F) (λ a c n x y. before a c n (omega arith)) in
        let later : tables_from (start + t.count * t.capacity) rest cells' ≡ tables_from (start + t.count * t.capacity) rest cells =
        tables-same (start + t.count * t.capacity) rest cells cells' l (All-tail (All-right (take i ts) (subst (All (λ (t : Table). t.rows ≤ t.capacity)) split F)))
        (λ a c n x y. behind a c n x) in
        let old : tables_from 0 ts cells ≡ tables_from 0 (take i ts) cells ++ table_in t start cells ∷ tables_from (start + t.count * t.capacity) rest cells =
        ap (λ us. tables_from 0 us cells) split ∙ tables-append 0 (take i ts) (t ∷ rest) cells
        ∙ ap (λ j. tables_from 0 (take i ts) cells ++ tables_from j (t ∷ rest) cells) zero-first in
        ap (λ us. tables_from 0 us cells') (set_split ts i (with_rows t n k) h)
        ∙ tables-append 0 (take i ts) (with_rows t n k ∷ rest) cells'
        ∙ ap (λ j. tables_from 0 (take i ts) cells' ++ tables_from j (with_rows t n k ∷ rest) cells') zero-first
        ∙ ap₂ (λ (x y : List P.Table). x ++ table_in (with_rows t n k) start cells' ∷ y) first later
        ∙ sym (set_at (tables_from 0 (take i ts) cells) (table_in t start cells) _ (table_in (with_rows t n k) start cells') i
        (from-length 0 (take i ts) cells ∙ length-take-le i ts (omega arith)))
        ∙ ap (λ us. set us i (table_in (with_rows t n k) start cells')) (sym old)
