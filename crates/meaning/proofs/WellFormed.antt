-- What holds of every plain store that calls reach from an opening. Assumes nothing.
use mathlib.Core.Path.{◌≡◌, refl, sym, ap, ap₂, ◌∙◌, subst}
use mathlib.Core.Logic.{◌≢◌}
use mathlib.Core.Bool.{Bool, true, false, not, ◌&&◌, ◌||◌, cond}
use mathlib.Core.Option.{Option, none, some}
use mathlib.Core.List.{List, [], ◌∷◌, ◌++◌, map}
use Prim.Native.Nat.{ℕ, zero, suc, ◌+◌, ◌*◌, ◌-◌, ◌≤◌, ◌<◌}
use native.Mathlib.Omega.{arith}
use borrow.Author.Tests.{ltb-false, leb-false, leb-true, eqb-true}
use lib.Dec.{leb, ltb, eqb}
use lib.IntN.{ℤ, pos, negsuc, nat_abs}
use lib.ListN.{length, get_or, set, length-append, length-map, length-set, get_or-map, get_or-append}
use lib.Seq.{map-set_same}
use lib.Signed.{le_z}
use Rattle.lists.specs.Lists.{All, nil, cons, any}
use Rattle.lists.proofs.Bools.{or_left, or_right, not-false, and_left, and_right, clash}
use Rattle.lists.proofs.Lists.{All-map, All-both, All-append, All-left, All-right, All-keep, All-image, map-append}
use Rattle.lists.proofs.Places.{All-at, All-set, length-keep}
use Rattle.meaning.specs.Condition.{Where, always, operands_in, mapped_in}
use Rattle.meaning.specs.Tokens.{Name}
use Rattle.meaning.specs.Grammar as G
use Rattle.meaning.specs.Grammar.{Given, Term, comparison, items, Dotted, Sentence}
use Rattle.meaning.specs.Reader.{sentence}
use Rattle.meaning.specs.Limits.{most_items, most_rows, most_marks, most_tables, most_queries, most_updates, list_columns, list_givens, givens, mark_count, columns_named, term_columns, many_items, rows_outside, many_marks, many_comparisons, deep, long_name, big_constant, past_limit}
use Rattle.meaning.specs.Names.{Schema, no_schema, same_name, table_names, columns_of, has, position, pair_place, missing, unknown_name, miscounted, twice}
use Rattle.meaning.specs.Statement.{Value, Operand, Second, Query, Change, insert, delete, update, Update, creates, asks, changes, numbered_all, settings, resolved_where, setting_marks, statement_of}
use Rattle.meaning.specs.Meaning.{Row, new_row, value_of, meets_where, assigned, updated_row, changed}
use Rattle.meaning.specs.Cells.{area_size, areas_size}
use Rattle.meaning.specs.Plain.{Lengths, Table, Plain, schemas, no_table, no_update, table_at, update_at, cells_left, Opening, opened, is_insert, remaining, full, refusal, refused, adding, text_added, changed_by, does, guard, step, after, Note, with_note, committed}
use Rattle.meaning.specs.Refusals.{no_place}
use Rattle.meaning.specs.Call.{Call, add, ask, change, flush, propose, commit, withdraw}
use Rattle.meaning.proofs.Names.{has-position, position-is, all_known}
use Rattle.meaning.proofs.Dotted.{all-of-pair}
use Rattle.meaning.proofs.Resolve.{same-name}
use Rattle.meaning.specs.Demand.{Acceptable}
use Rattle.meaning.proofs.Pushed.{remaining-has, remaining-short, remaining-room}
use Rattle.meaning.proofs.Accepted.{text-taken, update-taken, Ready, ready-taken, commit-noted, propose-refusal}
use Rattle.meaning.proofs.Resolved.{items-some, numbered-length, Within, tested-inside, set-inside, selected-inside}

-- what a change needs of its table: a value a column, set columns inside
abbrev pub FitsTable : Schema → Change → Type 0
FitsTable t (insert os) = length os ≡ length t.columns
FitsTable t (delete g) = Unit {0}
FitsTable t (update ss g) = All (λ (s : ℕ × Value). s.0 < length t.columns) ss

-- the WHERE of a change
abbrev pub tests : Change → Where Operand
tests (insert os) = always
tests (delete g) = g
tests (update ss g) = g

-- a table within the limits
pub record SchemaFits (t : Schema) : Type 0 where
  pub some_columns : 1 ≤ length t.columns
  pub few_columns : length t.columns ≤ most_items
  pub some_rows : 1 ≤ t.capacity
  pub few_rows : t.capacity ≤ most_rows

-- how many columns a query can name: those of its table, or of both
abbrev pub width_over : List Table → Query → Option Second → ℕ
width_over ts q none = length (get_or ts q.table no_table).schema.columns
width_over ts q (some s) = length (get_or ts q.table no_table).schema.columns + length (get_or ts s.table no_table).schema.columns

abbrev pub width_of : List Table → Query → ℕ
width_of ts q = width_over ts q q.second

-- a query of one of n tables, within the limits, of so many columns
pub record QueryFits (n : ℕ) (width : ℕ) (q : Query) : Type 0 where
  pub there : q.table < n
  pub some_selected : 1 ≤ length q.selected
  pub few_selected : length q.selected ≤ most_items
  pub few_marks : q.parameters ≤ most_marks
  pub selected_in : All (λ i. i < width) q.selected
  pub tested_in : All (Within width) (operands_in q.condition)

-- the second table of a query is there, and its columns start behind those of the first
abbrev pub SecondFits : List Table → Query → Option Second → Type 0
SecondFits ts q none = Unit {0}
SecondFits ts q (some s) = (s.table < length ts) × (s.start ≡ length (get_or ts q.table no_table).schema.columns) × (s.table ≢ q.table)

abbrev pub PairFits : List Table → Query → Type 0
PairFits ts q = SecondFits ts q q.second

-- an update within the limits; t is its table
pub record UpdateFits (t : Schema) (u : Update) : Type 0 where
  pub few_marks : u.parameters ≤ most_marks
  pub tested_in : All (Within (length t.columns)) (operands_in (tests u.change))

-- 10 to 12 would not refuse the update of the note, if there is one
abbrev pub NoteFits : Plain → Option Note → Type 0
NoteFits p none = Unit {0}
NoteFits p (some x) = Ready p x.update x.values

pub record WellFormed (p : Plain) : Type 0 where
  -- a row has its table's columns, and a table no more rows than its ROWS or RING
  pub rows_wide : All (λ (t : Table). All (λ (r : Row). length r ≡ length t.schema.columns) t.rows) p.tables
  pub rows_few : All (λ (t : Table). length t.rows ≤ t.schema.capacity) p.tables
  -- an update's table is there and its change fits it
  pub updates_fit : All (λ (u : Update). (u.table < length p.tables) × FitsTable (table_at p u.table).schema u.change) p.updates
  pub updates_in : All (λ (u : Update). UpdateFits (table_at p u.table).schema u) p.updates
  pub queries_fit : All (λ (q : Query). QueryFits (length p.tables) (width_of p.tables q) q) p.queries
  pub pairs_fit : All (PairFits p.tables) p.queries
  pub tables_fit : All (λ (t : Table). SchemaFits t.schema) p.tables
  -- the areas are within the lent cells
  pub areas_fit : areas_size (schemas p) ≤ p.lengths.cells
  pub few_tables : length p.tables ≤ most_tables
  pub few_queries : length p.queries ≤ most_queries
  pub few_updates : length p.updates ≤ most_updates
  pub note_fits : NoteFits p p.pending

-- an opened store is well-formed
pub opened-well : (o : Opening) → WellFormed (opened o)
opened-well o = record {
  rows_wide = nil;
  rows_few = nil;
  updates_fit = nil;
  updates_in = nil;
  queries_fit = nil;
  pairs_fit = nil;
  tables_fit = nil;
  areas_fit = omega arith;
  few_tables = omega arith;
  few_queries = omega arith;
  few_updates = omega arith;
  note_fits = tt;
}

-- ---- what stays when tables come, or change their rows

pub schema-at : (p : Plain) (i : ℕ) → get_or (schemas p) i no_schema ≡ (table_at p i).schema
schema-at p i = get_or-map (λ (t : Table). t.schema) p.tables i no_table

-- every table of p is one of p', with its columns
abbrev Grows : Plain → Plain → Type 0
Grows p p' = (i : ℕ) → i < length p.tables → (i < length p'.tables) × ((table_at p' i).schema ≡ (table_at p i).schema)

-- an update, and a query, fit the store that they are in
abbrev pub Fits : Plain → Update → Type 0
Fits p u = (u.table < length p.tables) × FitsTable (table_at p u.table).schema u.change

abbrev pub Limited : Plain → Update → Type 0
Limited p u = UpdateFits (table_at p u.table).schema u

abbrev pub Reads : Plain → Query → Type 0
Reads p q = QueryFits (length p.tables) (width_of p.tables q) q

module _ (p p' : Plain) (g : Grows p p') where
  fits-grows : {us : List Update} → All (Fits p) us → All (Fits p') us
  fits-grows h = All-map (λ u f. ((g u.table f.0).0, subst (λ (t : Schema). FitsTable t u.change) (sym (g u.table f.0).1) f.1)) h

  limits-grow : {us : List Update} → All (Fits p) us → All (Limited p) us → All (Limited p') us
  limits-grow h k = All-map (λ u f. subst (λ (t : Schema). UpdateFits t u) (sym (g u.table f.0.0).1) f.1) (All-both h k)

  columns-grow : (i : ℕ) → i < length p.tables → length (table_at p i).schema.columns ≡ length (table_at p' i).schema.columns
  columns-grow i h = ap (λ (t : Schema). length t.columns) (sym (g i h).1)

  width-grows : (q : Query) (s : Option Second) → q.table < length p.tables → SecondFits p.tables q s → width_over p.tables q s ≡ width_over p'.tables q s
  width-grows q none h f = columns-grow q.table h
  width-grows q (some s) h f = ap₂ ◌+◌ (columns-grow q.table h) (columns-grow s.table f.0)

  query-grows : (q : Query) → Reads p q → PairFits p.tables q → Reads p' q
  query-grows q f two =
      let e : width_of p.tables q ≡ width_of p'.tables q = width-grows q q.second f.there two in
      record {
        there = (g q.table f.there).0;
        some_selected = f.some_selected;
        few_selected = f.few_selected;
        few_marks = f.few_marks;
        selected_in = subst (λ (n : ℕ). All (λ i. i < n) q.selected) e f.selected_in;
        tested_in = subst (λ (n : ℕ). All (Within n) (operands_in q.condition)) e f.tested_in;
      }

  queries-grow : {qs : List Query} → All (Reads p) qs → All (PairFits p.tables) qs → All (Reads p') qs
  queries-grow h k = All-map (λ q f. query-grows q f.0 f.1) (All-both h k)

  second-grows : (q : Query) (s : Option Second) → Reads p q → SecondFits p.tables q s → SecondFits p'.tables q s
  second-grows q none f h = tt
  second-grows q (some s) f h = ((g s.table h.0).0, h.1 ∙ ap (λ (t : Schema). length t.columns) (sym (g q.table f.there).1), h.2)

  pairs-grow : {qs : List Query} → All (Reads p) qs → All (PairFits p.tables) qs → All (PairFits p'.tables) qs
  pairs-grow h k = All-map (λ q f. second-grows q q.second f.0 f.1) (All-both h k)

-- ---- a sentence within the limits

module _ (s : Sentence) (h : past_limit s ≡ false) where
  abbrev past₃ : Bool
  past₃ = many_comparisons s || (deep s || (long_name s || big_constant s))

  items_few : many_items s ≡ false
  unfolding past_limit
  items_few = or_left (many_items s) (rows_outside s || (many_marks s || past₃)) h

  few-listed : length (list_columns s) ≤ most_items
  few-listed = ltb-false most_items (length (list_columns s)) (or_left (ltb most_items (length (list_columns s))) (ltb most_items (length (list_givens s))) items_few)

  rows_inside : rows_outside s ≡ false
  unfolding past_limit
  rows_inside = or_left (rows_outside s) (many_marks s || past₃) (or_right (many_items s) (rows_outside s || (many_marks s || past₃)) h)

  marks_few : mark_count (givens s) ≤ most_marks
  unfolding past_limit
  marks_few =
      ltb-false most_marks (mark_count (givens s))
      (or_left (many_marks s) past₃ (or_right (rows_outside s) (many_marks s || past₃) (or_right (many_items s) (rows_outside s || (many_marks s || past₃)) h)))

rows-between : (z : ℤ) → le_z (pos 1) z ≡ true → le_z z (pos most_rows) ≡ true → (1 ≤ nat_abs z) × (nat_abs z ≤ most_rows)
rows-between (pos n) h k = (leb-true 1 n h, leb-true n most_rows k)
rows-between (negsuc n) h k = clash h refl

capacity-fits : (z : ℤ) → any (λ (z : ℤ). not (le_z (pos 1) z && le_z z (pos most_rows))) (z ∷ []) ≡ false → (1 ≤ nat_abs z) × (nat_abs z ≤ most_rows)
capacity-fits z h =
    let e : (le_z (pos 1) z && le_z z (pos most_rows)) ≡ true =
    not-false (le_z (pos 1) z && le_z z (pos most_rows)) (or_left (not (le_z (pos 1) z && le_z z (pos most_rows))) false h) in
    rows-between z (and_left (le_z (pos 1) z) (le_z z (pos most_rows)) e) (and_right (le_z (pos 1) z) (le_z z (pos most_rows)) e)

-- ---- a table and columns that are known

module _ (p : Plain) (t : Name) (cs : List Name) (h : missing (schemas p) t cs ≡ false) where
  abbrev number : ℕ
  number = position (table_names (schemas p)) t

  known-table : number < length p.tables
  known-table =
      let e : length (table_names (schemas p)) ≡ length p.tables = length-map (schemas p) (λ (t : Schema). t.name) ∙ length-map p.tables (λ (t : Table). t.schema) in
      subst (λ (n : ℕ). number < n) e
      (has-position (table_names (schemas p)) t
      (not-false (has (table_names (schemas p)) t)
      (or_left (not (has (table_names (schemas p)) t)) (any (λ (c : Name). not (has (columns_of (schemas p) t) c)) cs) h)))

  known-columns : All (λ c. position (columns_of (schemas p) t) c < length (columns_of (schemas p) t)) cs
  known-columns =
      all_known (columns_of (schemas p) t) cs
      (or_right (not (has (table_names (schemas p)) t)) (any (λ (c : Name). not (has (columns_of (schemas p) t) c)) cs) h)

-- ---- adding

areas-append : (ts : List Schema) (t : Schema) → areas_size (ts ++ (t ∷ [])) ≡ areas_size ts + area_size t
areas-append [] t = omega arith
areas-append (s ∷ ts) t = ap (λ (k : ℕ). area_size s + k) (areas-append ts t) ∙ (omega arith)

one_more : {A : Type 0} (l : List A) (x : A) (n : ℕ) → length l < n → length (l ++ (x ∷ [])) ≤ n
one_more l x n h = omega (arith, length-append l (x ∷ []))

module _ (p : Plain) (W : WellFormed p) where
  module _ (t : Schema) where
    abbrev new : Table
    new = record { schema = t; rows = [] }

    grows-table : Grows p (adding p (creates t))
    grows-table i h = (omega (arith, length-append p.tables (new ∷ [])), ap (λ (t : Table). t.schema) (get_or-append p.tables (new ∷ []) no_table i h))

    table-well : SchemaFits t → length p.tables < most_tables → areas_size (schemas p) + area_size t ≤ p.lengths.cells → WellFormed (adding p (creates t))
    table-well f room area = record {
      rows_wide = All-append W.rows_wide (cons nil nil);
      rows_few = All-append W.rows_few (cons (omega arith) nil);
      updates_fit = fits-grows p (adding p (creates t)) grows-table W.updates_fit;
      updates_in = limits-grow p (adding p (creates t)) grows-table W.updates_fit W.updates_in;
      queries_fit = queries-grow p (adding p (creates t)) grows-table W.queries_fit W.pairs_fit;
      pairs_fit = pairs-grow p (adding p (creates t)) grows-table W.queries_fit W.pairs_fit;
      tables_fit = All-append W.tables_fit (cons f nil);
      areas_fit =
          subst (λ (k : ℕ). k ≤ p.lengths.cells)
          (sym (ap areas_size (map-append (λ (t : Table). t.schema) p.tables (new ∷ [])) ∙ areas-append (schemas p) t)) area;
      few_tables = one_more p.tables new most_tables room;
      few_queries = W.few_queries;
      few_updates = W.few_updates;
      note_fits = tt;
    }

  query-well : (q : Query) → Reads p q → PairFits p.tables q → length p.queries < most_queries → WellFormed (adding p (asks q))
  query-well q f two room = record {
    rows_wide = W.rows_wide;
    rows_few = W.rows_few;
    updates_fit = W.updates_fit;
    updates_in = W.updates_in;
    queries_fit = All-append W.queries_fit (cons f nil);
    pairs_fit = All-append W.pairs_fit (cons two nil);
    tables_fit = W.tables_fit;
    areas_fit = W.areas_fit;
    few_tables = W.few_tables;
    few_queries = one_more p.queries q most_queries room;
    few_updates = W.few_updates;
    note_fits = tt;
  }

  update-well : (u : Update) → Fits p u → Limited p u → length p.updates < most_updates → WellFormed (adding p (changes u))
  update-well u f e room = record {
    rows_wide = W.rows_wide;
    rows_few = W.rows_few;
    updates_fit = All-append W.updates_fit (cons f nil);
    updates_in = All-append W.updates_in (cons e nil);
    queries_fit = W.queries_fit;
    pairs_fit = W.pairs_fit;
    tables_fit = W.tables_fit;
    areas_fit = W.areas_fit;
    few_tables = W.few_tables;
    few_queries = W.few_queries;
    few_updates = one_more p.updates u most_updates room;
    note_fits = tt;
  }

  -- the statement of a text that is not refused
  statement-well : (lent : Lengths) (text : List ℕ) (s : Sentence) → Acceptable lent p text s → WellFormed (adding p (statement_of (schemas p) s))
  unfolding statement_of unknown_name miscounted twice no_place
  statement-well lent text (G.table t cs ring z) T =
      let size : (1 ≤ nat_abs z) × (nat_abs z ≤ most_rows) = capacity-fits z (rows_inside (G.table t cs ring z) T.within) in
      let full : leb most_tables (length (schemas p)) ≡ false = or_left (leb most_tables (length (schemas p))) (ltb (cells_left p) (length (items cs) * nat_abs z)) T.place in
      let few : ltb (cells_left p) (length (items cs) * nat_abs z) ≡ false = or_right (leb most_tables (length (schemas p))) (ltb (cells_left p) (length (items cs) * nat_abs z)) T.place in
      let left : length (items cs) * nat_abs z ≤ p.lengths.cells - areas_size (schemas p) = ltb-false (cells_left p) (length (items cs) * nat_abs z) few in
      let fit : areas_size (schemas p) ≤ p.lengths.cells = W.areas_fit in
      table-well (record { name = t; columns = items cs; capacity = nat_abs z; ring = ring })
      (record { some_columns = items-some cs; few_columns = few-listed (G.table t cs ring z) T.within; some_rows = size.0; few_rows = size.1 })
      (subst (λ (n : ℕ). n < most_tables) (length-map p.tables (λ (t : Table). t.schema)) (leb-false most_tables (length (schemas p)) full))
      (omega arith)
  statement-well lent text (G.select cs t w) T =
      let s : Sentence = G.select cs t w in
      let x : Where (Term Name) = mapped_in comparison w in
      let n : ℕ = position (table_names (schemas p)) t in
      let C : List Name = columns_of (schemas p) t in
      let known : All (λ c. position C c < length C) (items cs ++ term_columns (operands_in x)) = known-columns p t (columns_named s) T.known in
      let e : get_or (schemas p) n no_schema ≡ (table_at p n).schema = schema-at p n in
      let l : length (map (position C) (items cs)) ≡ length (items cs) = length-map (items cs) (position C) in
      query-well (record { table = n; second = none; selected = map (position C) (items cs); condition = resolved_where (position C) 0 x; parameters = mark_count (givens s) })
      (record {
        there = known-table p t (columns_named s) T.known;
        some_selected = omega (arith, items-some cs);
        few_selected = omega (arith, few-listed s T.within);
        few_marks = marks_few s T.within;
        selected_in = subst (λ (t : Schema). All (λ i. i < length t.columns) (map (position C) (items cs))) e
            (selected-inside C (items cs) (All-left (items cs) (term_columns (operands_in x)) known));
        tested_in = subst (λ (t : Schema). All (Within (length t.columns)) (operands_in (resolved_where (position C) 0 x))) e
            (tested-inside (position C) (length C) 0 x (All-right (items cs) known));
      })
      tt
      (leb-false most_queries (length p.queries) T.place)
  statement-well lent text (G.pair cs t u w) T =
      let s : Sentence = G.pair cs t u w in
      let x : Where (Term Dotted) = mapped_in comparison w in
      let n : ℕ = position (table_names (schemas p)) t in
      let m : ℕ = position (table_names (schemas p)) u in
      let C : List Name = columns_of (schemas p) t in
      let D : List Name = columns_of (schemas p) u in
      let place : Dotted → ℕ = pair_place t C u D in
      let k₁ : not (has (table_names (schemas p)) t) ≡ false = or_left (not (has (table_names (schemas p)) t)) _ T.known in
      let r₁ = or_right (not (has (table_names (schemas p)) t)) _ T.known in
      let k₂ : not (has (table_names (schemas p)) u) ≡ false = or_left (not (has (table_names (schemas p)) u)) _ r₁ in
      let there₁ : n < length p.tables = known-table p t [] (ap (λ b. b || false) k₁) in
      let there₂ : m < length p.tables = known-table p u [] (ap (λ b. b || false) k₂) in
      let known : All (λ c. place c < length C + length D) (items cs ++ term_columns (operands_in x)) =
      all-of-pair t C u D (items cs ++ term_columns (operands_in x)) (or_right (not (has (table_names (schemas p)) u)) _ r₁) in
      let e : length C + length D ≡ length (table_at p n).schema.columns + length (table_at p m).schema.columns =
      ap₂ (λ (x y : Schema). length x.columns + length y.columns) (schema-at p n) (schema-at p m) in
      let l : length (map place (items cs)) ≡ length (items cs) = length-map (items cs) place in
      let differ : t ≡ u → ⊥ = λ e. clash (subst (λ (v : Name). same_name t v ≡ true) e (same-name t)) T.different in
      let few : length (map (λ (c : Dotted). c.1) (items cs)) ≤ most_items = few-listed s T.within in
      query-well (record {
        table = n;
        second = some (record { table = m; start = length C });
        selected = map place (items cs);
        condition = resolved_where place 0 x;
        parameters = mark_count (givens s);
      })
      (record {
        there = there₁;
        some_selected = omega (arith, items-some cs);
        few_selected = omega (arith, few, length-map (items cs) (λ (c : Dotted). c.1));
        few_marks = marks_few s T.within;
        selected_in = subst (λ (n : ℕ). All (λ i. i < n) (map place (items cs))) e (All-image place (All-left (items cs) (term_columns (operands_in x)) known));
        tested_in = subst (λ (n : ℕ). All (Within n) (operands_in (resolved_where place 0 x))) e (tested-inside place (length C + length D) 0 x (All-right (items cs) known));
      }) (
        there₂,
        ap (λ (t : Schema). length t.columns) (schema-at p n),
        λ q. differ (
            sym (position-is (table_names (schemas p)) t [] (not-false (has (table_names (schemas p)) t) k₁))
            ∙ ap (λ (i : ℕ). get_or (table_names (schemas p)) i []) (sym q)
            ∙ position-is (table_names (schemas p)) u [] (not-false (has (table_names (schemas p)) u) k₂)),
      )
      (leb-false most_queries (length p.queries) T.place)
  statement-well lent text (G.insert t vs) T =
      let s : Sentence = G.insert t vs in
      let n : ℕ = position (table_names (schemas p)) t in
      let C : List Name = columns_of (schemas p) t in
      let e : C ≡ (table_at p n).schema.columns = ap (λ (t : Schema). t.columns) (schema-at p n) in
      let l : length (items vs) ≡ length C = eqb-true (length (items vs)) (length C) (not-false (eqb (length (items vs)) (length C)) T.counted) in
      update-well (record { table = n; change = insert (numbered_all 0 (items vs)); parameters = mark_count (givens s) })
      (known-table p t (columns_named s) T.known, numbered-length 0 (items vs) ∙ l ∙ ap length e)
      (record { few_marks = marks_few s T.within; tested_in = nil })
      (leb-false most_updates (length p.updates) T.place)
  statement-well lent text (G.update t ss w) T =
      let s : Sentence = G.update t ss w in
      let x : Where (Term Name) = mapped_in comparison w in
      let n : ℕ = position (table_names (schemas p)) t in
      let C : List Name = columns_of (schemas p) t in
      let m : ℕ = setting_marks (items ss) in
      let set-names : List Name = map (λ (s : Name × Given). s.0) (items ss) in
      let known : All (λ c. position C c < length C) (set-names ++ term_columns (operands_in x)) = known-columns p t (columns_named s) T.known in
      let e : get_or (schemas p) n no_schema ≡ (table_at p n).schema = schema-at p n in
      update-well (record { table = n; change = update (settings C 0 (items ss)) (resolved_where (position C) m x); parameters = mark_count (givens s) }) (
        known-table p t (columns_named s) T.known,
        subst (λ (t : Schema). All (λ (s : ℕ × Value). s.0 < length t.columns) (settings C 0 (items ss))) e
            (set-inside C 0 (items ss) (All-left set-names (term_columns (operands_in x)) known)),
      )
      (record {
        few_marks = marks_few s T.within;
        tested_in = subst (λ (t : Schema). All (Within (length t.columns)) (operands_in (resolved_where (position C) m x))) e
            (tested-inside (position C) (length C) m x (All-right set-names known));
      })
      (leb-false most_updates (length p.updates) T.place)
  statement-well lent text (G.delete t w) T =
      let s : Sentence = G.delete t w in
      let x : Where (Term Name) = mapped_in comparison w in
      let n : ℕ = position (table_names (schemas p)) t in
      let C : List Name = columns_of (schemas p) t in
      let known : All (λ c. position C c < length C) (term_columns (operands_in x)) = known-columns p t (columns_named s) T.known in
      let e : get_or (schemas p) n no_schema ≡ (table_at p n).schema = schema-at p n in
      update-well (record { table = n; change = delete (resolved_where (position C) 0 x); parameters = mark_count (givens s) })
      (known-table p t (columns_named s) T.known, tt)
      (record {
        few_marks = marks_few s T.within;
        tested_in = subst (λ (t : Schema). All (Within (length t.columns)) (operands_in (resolved_where (position C) 0 x))) e (tested-inside (position C) (length C) 0 x known);
      })
      (leb-false most_updates (length p.updates) T.place)

-- ---- an update

assigned-length : (ss : List (ℕ × Value)) (vs : List ℤ) (r : Row) → length (assigned ss vs r) ≡ length r
assigned-length [] vs r = refl
assigned-length (s ∷ ss) vs r = assigned-length ss vs (set r s.0 (value_of vs s.1)) ∙ length-set r s.0 (value_of vs s.1)

updated-length : (ss : List (ℕ × Value)) (g : Where Operand) (vs : List ℤ) (r : Row) → length (updated_row ss g vs r) ≡ length r
updated-length ss g vs r = go (meets_where g vs r)
  where
    go : (b : Bool) → length (cond b (assigned ss vs r) r) ≡ length r
    go true = assigned-length ss vs r
    go false = refl

-- rows keep their width
pub changed-wide : (t : Schema) (c : Change) (vs : List ℤ) (rows : List Row) → FitsTable t c → All (λ r. length r ≡ length t.columns) rows
    → All (λ r. length r ≡ length t.columns) (changed c vs rows)
unfolding changed
changed-wide t (insert os) vs rows f h = All-append h (cons (length-map os (value_of vs) ∙ f) nil)
changed-wide t (delete g) vs rows f h = All-keep (λ (r : Row). not (meets_where g vs r)) (λ r e k. e) h
changed-wide t (update ss g) vs rows f h = All-image (updated_row ss g vs) (All-map (λ r e. updated-length ss g vs r ∙ e) h)

-- and an INSERT into a table that is not full, or a ring, leaves it within its ROWS or RING
changed-few : (t : Table) (c : Change) (vs : List ℤ) → 1 ≤ t.schema.capacity → length t.rows ≤ t.schema.capacity
    → (is_insert c && (not t.schema.ring && leb t.schema.capacity (length t.rows))) ≡ false → length (changed c vs (remaining t c)) ≤ t.schema.capacity
unfolding changed
changed-few t (insert os) vs one h f = one_more (remaining t (insert os)) (new_row os vs) t.schema.capacity (remaining-room t os one h f)
changed-few t (delete g) vs one h f =
    omega (arith, h, remaining-short t (delete g), length-keep (λ (r : Row). not (meets_where g vs r)) (remaining t (delete g)))
changed-few t (update ss g) vs one h f = omega (arith, h, remaining-short t (update ss g), length-map (remaining t (update ss g)) (updated_row ss g vs))

module _ (p : Plain) (n : ℕ) (us : List ℤ) where
  -- the columns of tables stay
  pub schemas-stay : schemas (changed_by p n us) ≡ schemas p
  unfolding changed_by
  schemas-stay =
      let u : Update = update_at p n in
      let t : Table = table_at p u.table in
      map-set_same (λ (t : Table). t.schema) p.tables u.table (record { schema = t.schema; rows = changed u.change us (remaining t u.change) }) no_table refl

  pub schema-stays : (i : ℕ) → (table_at (changed_by p n us) i).schema ≡ (table_at p i).schema
  schema-stays i = sym (schema-at (changed_by p n us) i) ∙ ap (λ (ts : List Schema). get_or ts i no_schema) schemas-stay ∙ schema-at p i

  pub tables-stay : length (changed_by p n us).tables ≡ length p.tables
  unfolding changed_by
  tables-stay =
      let u : Update = update_at p n in
      let t : Table = table_at p u.table in
      length-set p.tables u.table (record { schema = t.schema; rows = changed u.change us (remaining t u.change) })

  grows-rows : Grows p (changed_by p n us)
  grows-rows i h = (omega (arith, tables-stay), schema-stays i)

  pub changed-well : WellFormed p → n < length p.updates → full p n ≡ false → WellFormed (changed_by p n us)
  unfolding changed_by full
  changed-well W h f =
      let u : Update = update_at p n in
      let t : Table = table_at p u.table in
      let fits : Fits p u = All-at n no_update h W.updates_fit in
      record {
        rows_wide = All-set u.table (record { schema = t.schema; rows = changed u.change us (remaining t u.change) })
            (changed-wide t.schema u.change us (remaining t u.change) fits.1 (remaining-has t u.change (All-at u.table no_table fits.0 W.rows_wide))) W.rows_wide;
        rows_few = All-set u.table (record { schema = t.schema; rows = changed u.change us (remaining t u.change) })
            (changed-few t u.change us (All-at u.table no_table fits.0 W.tables_fit).some_rows (All-at u.table no_table fits.0 W.rows_few) f) W.rows_few;
        updates_fit = fits-grows p (changed_by p n us) grows-rows W.updates_fit;
        updates_in = limits-grow p (changed_by p n us) grows-rows W.updates_fit W.updates_in;
        queries_fit = queries-grow p (changed_by p n us) grows-rows W.queries_fit W.pairs_fit;
        pairs_fit = pairs-grow p (changed_by p n us) grows-rows W.queries_fit W.pairs_fit;
        tables_fit = All-set u.table (record { schema = t.schema; rows = changed u.change us (remaining t u.change) })
            (All-at u.table no_table fits.0 W.tables_fit) W.tables_fit;
        areas_fit = subst (λ (ts : List Schema). areas_size ts ≤ p.lengths.cells) (sym schemas-stay) W.areas_fit;
        few_tables = omega (arith, tables-stay, W.few_tables);
        few_queries = W.few_queries;
        few_updates = W.few_updates;
        note_fits = tt;
      }

-- ---- the note

fits-still : (p : Plain) (o x : Option Note) → NoteFits p x → NoteFits (with_note p o) x
unfolding full
fits-still p o none f = tt
fits-still p o (some x) f = record { there = f.there; values = f.values; room = f.room }

-- another note, or none
pub noted-well : (p : Plain) → WellFormed p → (o : Option Note) → NoteFits p o → WellFormed (with_note p o)
noted-well p W o f = record {
  rows_wide = W.rows_wide;
  rows_few = W.rows_few;
  updates_fit = W.updates_fit;
  updates_in = W.updates_in;
  queries_fit = W.queries_fit;
  pairs_fit = W.pairs_fit;
  tables_fit = W.tables_fit;
  areas_fit = W.areas_fit;
  few_tables = W.few_tables;
  few_queries = W.few_queries;
  few_updates = W.few_updates;
  note_fits = fits-still p o o f;
}

-- a commit has a note, and its update would be taken
pub commit-taken : (lent : Lengths) (p : Plain) → WellFormed p → refusal lent p commit ≡ 0
    → (x : Note) × (p.pending ≡ some x) × (refusal lent p (change x.update x.values) ≡ 0)
commit-taken lent p W h =
    let (x, e, l) = commit-noted lent p h in
    (x, e, ready-taken lent p x.update x.values l (subst (NoteFits p) e W.note_fits))

-- ---- a call

-- a call that is not refused
does-well : (lent : Lengths) (p : Plain) → WellFormed p → (c : Call ℕ) → refusal lent p c ≡ 0 → WellFormed (does p c).0
unfolding text_added
does-well lent p W (add text) h =
    let T : (s : Sentence) × (sentence text ≡ some s) × Acceptable lent p text s = text-taken lent p text h in
    subst (λ (o : Option Sentence). WellFormed (text_added p o).0) (sym T.1) (statement-well p W lent text T.0 T.2)
does-well lent p W (ask k buffer) h = W
does-well lent p W (change n us) h =
    let R : Ready p n us = (update-taken lent p n us h).1 in
    changed-well p n us W R.there R.room
does-well lent p W flush h = noted-well p W none tt
does-well lent p W (propose n us) h = noted-well p W (some (record { update = n; values = us })) (update-taken lent p n us (sym (propose-refusal lent p n us) ∙ h)).1
does-well lent p W commit h =
    let (x, e, t) = commit-taken lent p W h in
    let R : Ready p x.update x.values = (update-taken lent p x.update x.values t).1 in
    subst (λ (o : Option Note). WellFormed (committed p o).0) (sym e) (changed-well p x.update x.values W R.there R.room)
does-well lent p W withdraw h = noted-well p W none tt

-- every call keeps it
pub step-well : (lent : Lengths) (p : Plain) → WellFormed p → (c : Call ℕ) → WellFormed (step lent p c).0
step-well lent p W c = go (refusal lent p c) refl
  where
    go : (k : ℕ) → refusal lent p c ≡ k → WellFormed (guard k p refused (does p c)).0
    go zero e = does-well lent p W c e
    go (suc k) e = W

-- and so does every list of calls
pub after-well : (lent : Lengths) (p : Plain) → WellFormed p → (cs : List (Call ℕ)) → WellFormed (after lent p cs)
after-well lent p W [] = W
after-well lent p W (c ∷ cs) = after-well lent (step lent p c).0 (step-well lent p W c) cs
