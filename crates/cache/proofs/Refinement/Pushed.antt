-- The row that an INSERT into a full ring pushes out: the first of the table's rows is the oldest row of the cells. Assumes nothing.
use mathlib.Core.Path.{◌≡◌, sym, ap, ◌∙◌, subst}
use mathlib.Core.Bool.{true}
use mathlib.Core.List.{List, [], ◌∷◌}
use Prim.Native.Nat.{ℕ, ◌+◌, ◌*◌, ◌≤◌, ◌<◌}
use native.Mathlib.Omega.{arith}
use borrow.Author.Tests.{leb-true}
use lib.Dec.{eqb}
use lib.IntN.{ℤ}
use lib.ListN.{length, take, drop}
use lib.Seq.{get_or-take, length-take-le, take-take}
use Rattle.lists.proofs.Bools.{and_right}
use Rattle.lists.proofs.Turned.{length-turned}
use Rattle.meaning.specs.Limits.{most_items}
use Rattle.meaning.specs.Cells.{rows_in}
use Rattle.meaning.proofs.Cells.{rows-length}
use Rattle.statement.specs.declared.Table.{Table}
use Rattle.statement.specs.declared.Update.{Update}
use Rattle.statement.specs.Compiled.{no_table}
use Rattle.table.specs.Changed.{oldest_row}
use Rattle.table.proofs.ChangedMeans.{oldest-first}
use Rattle.cache.specs.declared.State.{State}
use Rattle.cache.specs.Sound.{used_tables, areas_of, table_at}
use Rattle.cache.specs.Calls.{area_start, rows_at}
use Rattle.cache.specs.Gives.{is_pushing}
use Rattle.cache.proofs.Invariant.Sound.{Sound, All-first}
use Rattle.cache.proofs.Invariant.Starts.{rows-some}
use Rattle.cache.proofs.Refinement.Areas.{area-within, rows-used}
use Rattle.cache.proofs.Invariant.Added.{columns-few}

module _ (s : State) (S : Sound s) (few : s.table_count ≤ length s.tables) (i : ℕ) (h : i < s.table_count) where
  abbrev t : Table
  t = table_at s i

  -- the table's area
  pub area-inside : area_start s i + t.count * t.capacity ≤ s.cells
  area-inside =
      let below : i < length (used_tables s) = subst (λ (n : ℕ). i < n) (sym (length-take-le s.table_count s.tables few)) h in
      let a : areas_of (take i (used_tables s)) + t.count * t.capacity ≤ areas_of (used_tables s) =
      subst (λ (t : Table). areas_of (take i (used_tables s)) + t.count * t.capacity ≤ areas_of (used_tables s)) (get_or-take s.table_count s.tables i no_table h)
      (area-within (used_tables s) i below) in
      let b : areas_of (take i (used_tables s)) ≡ area_start s i = ap areas_of (take-take i s.table_count s.tables (omega arith)) in
      omega (arith, S.areas)

  pub some_rows : 1 ≤ t.capacity
  some_rows = All-first {P = λ (t : Table). 1 ≤ t.capacity} s.table_count s.tables i no_table few h (rows-some [] (used_tables s) S.tables)

  few_columns : t.count ≤ most_items
  few_columns = All-first {P = λ (t : Table). t.count ≤ most_items} s.table_count s.tables i no_table few h (columns-few [] (used_tables s) S.tables)

  few_rows : t.rows ≤ t.capacity
  few_rows = All-first {P = λ (t : Table). t.rows ≤ t.capacity} s.table_count s.tables i no_table few h S.rows

  module _ (cells : List ℤ) (long : length cells ≡ s.cells) where
    -- as many rows as the table says
    pub rows-many : length (rows_at s cells i) ≡ t.rows
    rows-many =
        ap length (rows-used t (area_start s i) cells few_rows (subst (λ (n : ℕ). area_start s i + t.count * t.capacity ≤ n) (sym long) area-inside))
        ∙ length-turned t.oldest (rows_in t.count t.rows (drop (area_start s i) cells))
        ∙ rows-length t.count t.rows (drop (area_start s i) cells)

    pub first-row : (u : Update) → is_pushing t u ≡ true → take 1 (rows_at s cells i) ≡ oldest_row t (area_start s i) cells ∷ []
    first-row u e =
        let c : t.capacity ≤ t.rows = leb-true t.capacity t.rows (and_right (eqb u.form 0) _ (and_right t.ring _ e)) in
        oldest-first t (area_start s i) cells few_columns (omega (arith, rows-many, some_rows, c))
