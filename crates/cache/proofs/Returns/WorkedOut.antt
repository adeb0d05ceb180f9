-- A question worked out, by what the table layer promises of one table and of two: 16, 13, or its record at the buffer's start. Assumes nothing.
use mathlib.Core.Path.{◌≡◌, refl, sym, ap, ap₂, ◌∙◌, subst}
use mathlib.Core.Bool.{Bool, true, false, cond}
use mathlib.Core.Option.{none, some}
use mathlib.Core.List.{List, [], ◌∷◌, ◌++◌}
use Prim.Native.Nat.{ℕ, zero, suc, ◌+◌, ◌≤◌, ◌<◌}
use native.Mathlib.Omega.{arith}
use borrow.Author.Tests.{le-ltb, le-leb, ltb-true, ltb-false}
use lib.Dec.{leb, ltb}
use lib.IntN.{ℤ}
use lib.ListN.{length, take, drop, get_or, length-map}
use Rattle.lists.specs.Lists.{All, nil, cons, keep, pairs, turned, written}
use Rattle.lists.proofs.Turned.{length-turned}
use Rattle.lists.proofs.Bools.{and_left, and_right}
use Rattle.lists.proofs.Places.{get_or-inside, length-keep}
use Rattle.meaning.specs.Limits.{most_items, most_rows, most_listed}
use Rattle.meaning.specs.Names.{Schema}
use Rattle.meaning.specs.Meaning.{Row}
use Rattle.meaning.specs.Refusals.{is_short, is_many, or_else}
use Rattle.meaning.proofs.Cells.{rows-length}
use Rattle.answer.specs.Answer.{put}
use Rattle.answer.proofs.Buffers.{put-fits, put-not}
use Rattle.statement.specs.declared.Query.{Query}
use Rattle.statement.specs.declared.Table.{Table}
use Rattle.statement.specs.Catalog.{schema_of}
use Rattle.statement.specs.Compiled.{no_table, no_query}
use Rattle.statement.specs.Sound.{second_by, second_read}
use Rattle.statement.specs.SoundTest.{sound_table, sound_schemas}
use Rattle.statement.proofs.SoundTable.{table-parts}
use Rattle.table.specs.Evaluated.{Said, selected_in, rows_paired, pairs_used, pairs_read, said_by, pair_says, pair_leaves}
use Rattle.table.specs.Rows.{row_cells, area_rows, rows_used, meets_stored, selected_stored, answer_stored, record_stored, passes_stored}
use Rattle.cache.specs.declared.State.{State}
use Rattle.cache.specs.Sound.{used_tables, areas_of, query_at, table_at}
use Rattle.cache.specs.Calls.{area_start, rows_at, rows_over, rows_for, record_at, too_many}
use Rattle.cache.specs.Gives.{read_over, read_for, new_refusal}
use Rattle.cache.specs.Private.Outcomes.{WorksOut}
use Rattle.cache.proofs.Invariant.Sound.{Sound, All-first}

-- ---- rows of sound tables: few, and of few columns

rows_few : (t : Table) (start : ℕ) (cells : List ℤ) → length (rows_used t start cells) ≤ t.rows
rows_few t start cells = go (leb (start + row_cells t) (length cells))
  where
    go : (b : Bool) → length (cond b (turned t.oldest (area_rows t.count t.rows (drop start cells))) []) ≤ t.rows
    go true = omega (arith, length-turned t.oldest (area_rows t.count t.rows (drop start cells)), rows-length t.count t.rows (drop start cells))
    go false = omega arith

listed-few : (q : Query) (vs : List ℤ) (rows : List Row) → length (answer_stored q vs rows) ≤ length rows
unfolding answer_stored
listed-few q vs rows = omega (arith, length-map (keep (meets_stored q.condition vs) rows) (selected_stored q), length-keep (meets_stored q.condition vs) rows)

-- each of sound tables has few columns and few rows
tables-few : (before : List Schema) (ts : List Table) → sound_schemas before ts ≡ true → All (λ (t : Table). (t.count ≤ most_items) × (t.capacity ≤ most_rows)) ts
tables-few before [] h = nil
tables-few before (t ∷ ts) h =
    let P = table-parts before t (and_left (sound_table before t) _ h) in
    cons (P.few_columns, P.few_rows) (tables-few (before ++ (schema_of t ∷ [])) ts (and_right (sound_table before t) _ h))

module _ (s : State) (S : Sound s) (long : s.table_count ≤ length s.tables) (i : ℕ) (h : i < s.table_count) where
  few : ((table_at s i).count ≤ most_items) × ((table_at s i).capacity ≤ most_rows)
  few =
      All-first {P = λ (t : Table). (t.count ≤ most_items) × (t.capacity ≤ most_rows)} s.table_count s.tables i no_table long h
      (tables-few [] (used_tables s) S.tables)

  pub rows-512 : (cells : List ℤ) → length (rows_at s cells i) ≤ most_rows
  rows-512 cells =
      let r : (table_at s i).rows ≤ (table_at s i).capacity =
      All-first {P = λ (t : Table). t.rows ≤ t.capacity} s.table_count s.tables i no_table long h S.rows in
      omega (arith, rows_few (table_at s i) (area_start s i) cells, r, few.1)

  pub paired_same : (cells : List ℤ) → rows_paired (table_at s i) (area_start s i) cells ≡ rows_at s cells i
  paired_same cells = ap (λ (b : Bool). cond b (rows_at s cells i) []) (le-leb (table_at s i).count most_items few.0)

-- ---- the query and its tables, as they are read

module _ (s : State) (cells : List ℤ) (query : ℕ) (values : List ℤ) (answer : List ℕ) (d : Query) (e : Table) (inside : query < length s.queries) where
  abbrev asked : Query
  asked = get_or s.queries query d

  pub query-is : asked ≡ query_at s query
  query-is = get_or-inside s.queries query d no_query inside

  abbrev rec : List ℕ
  rec = record_at s cells query values

  -- 13, and what `put` leaves by it
  abbrev short_number : ℕ
  short_number = or_else (is_short (length answer) (length rec)) 13 0

  put-kept : (short_number ≡ 0 → ⊥) → put answer 0 rec ≡ answer
  put-kept k = go (ltb (length answer) (length rec)) refl k
    where
      go : (b : Bool) → ltb (length answer) (length rec) ≡ b → (or_else b 13 0 ≡ 0 → ⊥) → put answer 0 rec ≡ answer
      go true h k = let l = ltb-true (length answer) (length rec) h in put-not answer 0 rec (omega (arith, l))
      go false h k = absurd (k refl)

  put-written : short_number ≡ 0 → put answer 0 rec ≡ written answer 0 rec
  put-written k = go (ltb (length answer) (length rec)) refl k
    where
      go : (b : Bool) → ltb (length answer) (length rec) ≡ b → or_else b 13 0 ≡ 0 → put answer 0 rec ≡ written answer 0 rec
      go true h k = absurd (omega arith)
      go false h k = let l = ltb-false (length answer) (length rec) h in put-fits answer 0 rec (omega (arith, l))

  -- by the number that is given, what is said and what the buffer holds
  works : (n rows : ℕ) (new : List ℕ) → n ≡ new_refusal s cells (length answer) query values → rows ≡ read_for s cells (query_at s query) values → ((n ≡ 0 → ⊥) → new ≡ answer)
      → (n ≡ 0 → new ≡ written answer 0 rec) → WorksOut s cells query values answer (said_by n rows (length rec)) new
  works zero rows new e r stays bytes = record { number = e; stays = stays; read = λ k. r; size = λ k. refl; bytes = bytes }
  works (suc n) rows new e r stays bytes = record { number = e; stays = stays; read = λ k. absurd (omega arith); size = λ k. absurd (omega arith); bytes = bytes }

  -- the rows of table i
  rows-read : (i : ℕ) → i < length s.tables → (start : ℕ) → start ≡ areas_of (take i s.tables) → rows_used (get_or s.tables i e) start cells ≡ rows_at s cells i
  rows-read i h start z = ap₂ (λ (t : Table) (n : ℕ). rows_used t n cells) (get_or-inside s.tables i e no_table h) z

  paired-read : (i : ℕ) → i < length s.tables → (start : ℕ) → start ≡ areas_of (take i s.tables)
      → rows_paired (get_or s.tables i e) start cells ≡ rows_paired (table_at s i) (area_start s i) cells
  paired-read i h start z = ap₂ (λ (t : Table) (n : ℕ). rows_paired t n cells) (get_or-inside s.tables i e no_table h) z

  -- ---- over one table

  module _ (one : asked.second ≡ 0) where
    alone : second_read (query_at s query) ≡ none
    alone = ap second_read (sym query-is) ∙ ap (λ (n : ℕ). second_by n asked.start) one

    for-one : rows_for s cells (query_at s query) values ≡ rows_at s cells (query_at s query).table
    for-one = ap (rows_over s cells (query_at s query) values) alone

    read_one : read_for s cells (query_at s query) values ≡ length (rows_at s cells (query_at s query).table)
    read_one = ap (read_over s cells (query_at s query) values) alone

    module _ (there : (query_at s query).table < length s.tables) (few_rows : length (rows_at s cells (query_at s query).table) ≤ most_rows)
        (start : ℕ) (starts : start ≡ areas_of (take asked.table s.tables)) where
      abbrev rows : List Row
      rows = rows_used (get_or s.tables asked.table e) start cells

      rows_are : rows ≡ rows_at s cells (query_at s query).table
      rows_are =
          ap (λ (q : Query). rows_used (get_or s.tables q.table e) start cells) query-is
          ∙ rows-read (query_at s query).table there start (starts ∙ ap (λ (q : Query). areas_of (take q.table s.tables)) query-is)

      rec-is : record_stored asked values rows ≡ rec
      unfolding record_at
      rec-is = ap₂ (λ (q : Query) (l : List Row). record_stored q values l) query-is (rows_are ∙ sym for-one)

      not-many : too_many s cells query values ≡ false
      unfolding too_many
      not-many =
          let rows : List Row = rows_for s cells (query_at s query) values in
          let n : length rows ≤ most_rows = subst (λ (l : List Row). length l ≤ most_rows) (sym for-one) few_rows in
          le-ltb most_listed (length (answer_stored (query_at s query) values rows)) (omega (arith, listed-few (query_at s query) values rows, n))

      number-one : new_refusal s cells (length answer) query values ≡ short_number
      unfolding new_refusal
      number-one = ap (λ (b : Bool). or_else b 16 short_number) not-many

      pub one-works : (w : Said) (new : List ℕ) → w ≡ selected_in answer rows (record_stored asked values rows) → new ≡ put answer 0 (record_stored asked values rows)
          → WorksOut s cells query values answer w new
      one-works w new g h =
          subst (λ (x : Said). WorksOut s cells query values answer x new) (sym (g ∙ ap₂ (selected_in answer) rows_are rec-is))
          (subst (WorksOut s cells query values answer _) (sym (h ∙ ap (put answer 0) rec-is))
          (works short_number (length (rows_at s cells (query_at s query).table)) (put answer 0 rec) (sym number-one) (sym read_one) put-kept put-written))

  -- ---- over two

  module _ (k : ℕ) (two : asked.second ≡ suc k) where
    both : second_read (query_at s query) ≡ some (record { table = k; start = asked.start })
    both = ap second_read (sym query-is) ∙ ap (λ (n : ℕ). second_by n asked.start) two

    for-two : rows_for s cells (query_at s query) values ≡ pairs (keep (passes_stored (query_at s query) values) (rows_at s cells (query_at s query).table)) (rows_at s cells k)
    for-two = ap (rows_over s cells (query_at s query) values) both

    read-two : read_for s cells (query_at s query) values ≡ pairs_read (passes_stored (query_at s query) values) (rows_at s cells (query_at s query).table) (rows_at s cells k)
    read-two = ap (read_over s cells (query_at s query) values) both

    module _ (there : (query_at s query).table < length s.tables) (other : k < length s.tables)
        (first-same : rows_paired (table_at s (query_at s query).table) (area_start s (query_at s query).table) cells ≡ rows_at s cells (query_at s query).table)
        (second-same : rows_paired (table_at s k) (area_start s k) cells ≡ rows_at s cells k)
        (start beside : ℕ) (starts : start ≡ areas_of (take asked.table s.tables)) (begins : beside ≡ areas_of (take k s.tables)) where
      abbrev t : Table
      t = get_or s.tables asked.table e

      abbrev u : Table
      u = get_or s.tables k e

      firsts : rows_paired t start cells ≡ rows_at s cells (query_at s query).table
      firsts =
          ap (λ (q : Query). rows_paired (get_or s.tables q.table e) start cells) query-is
          ∙ paired-read (query_at s query).table there start (starts ∙ ap (λ (q : Query). areas_of (take q.table s.tables)) query-is)
          ∙ first-same

      seconds : rows_paired u beside cells ≡ rows_at s cells k
      seconds = paired-read k other beside begins ∙ second-same

      abbrev listed : List Row
      listed = answer_stored (query_at s query) values (rows_for s cells (query_at s query) values)

      pairs-are : pairs_used asked values t start u beside cells ≡ rows_for s cells (query_at s query) values
      pairs-are = (λ i. pairs (keep (passes_stored (query-is i) values) (firsts i)) (seconds i)) ∙ sym for-two

      listed-is : answer_stored asked values (pairs_used asked values t start u beside cells) ≡ listed
      listed-is = ap₂ (λ (q : Query) (l : List Row). answer_stored q values l) query-is pairs-are

      record-two : record_stored asked values (pairs_used asked values t start u beside cells) ≡ rec
      unfolding record_at
      record-two = ap₂ (λ (q : Query) (l : List Row). record_stored q values l) query-is pairs-are

      abbrev scanned : ℕ
      scanned = read_for s cells (query_at s query) values

      read_is : pairs_read (passes_stored asked values) (rows_paired t start cells) (rows_paired u beside cells) ≡ scanned
      read_is = (λ i. pairs_read (passes_stored (query-is i) values) (firsts i) (seconds i)) ∙ sym read-two

      abbrev many : Bool
      many = too_many s cells query values

      -- by whether there are too many rows
      two-kept : (b : Bool) → (or_else b 16 short_number ≡ 0 → ⊥) → cond b answer (put answer 0 rec) ≡ answer
      two-kept true k = refl
      two-kept false k = put-kept k

      two-written : (b : Bool) → or_else b 16 short_number ≡ 0 → cond b answer (put answer 0 rec) ≡ written answer 0 rec
      two-written true k = absurd (omega arith)
      two-written false k = put-written k

      pub two-works : (w : Said) (new : List ℕ) → w ≡ pair_says asked t start u beside cells values answer → new ≡ pair_leaves asked t start u beside cells values answer
          → WorksOut s cells query values answer w new
      unfolding record_at too_many new_refusal
      two-works w new g h =
          subst (λ (x : Said). WorksOut s cells query values answer x new) (sym (g ∙ said))
          (subst (WorksOut s cells query values answer _) (sym (h ∙ left))
          (works (or_else many 16 short_number) scanned (cond many answer (put answer 0 rec)) refl refl (two-kept many) (two-written many)))
        where
          said : pair_says asked t start u beside cells values answer ≡ said_by (or_else many 16 short_number) scanned (length rec)
          said = λ i. said_by (or_else (is_many (length (listed-is i))) 16 (or_else (is_short (length answer) (length (record-two i))) 13 0)) (read_is i) (length (record-two i))

          left : pair_leaves asked t start u beside cells values answer ≡ cond many answer (put answer 0 rec)
          left = λ i. cond (is_many (length (listed-is i))) answer (put answer 0 (record-two i))
