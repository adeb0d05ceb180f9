-- A text gets from a sound state what it gets from the plain store: it is judged by the tables' TABLE texts, the numbers of statements and the cells alone, and what is
-- added is the compiled form of its sentence's statement. Assumes nothing.
use mathlib.Core.Path.{◌≡◌, refl, sym, ap, ap₂, ◌∙◌, subst, subst₂}
use mathlib.Core.Bool.{Bool, true, false, cond}
use mathlib.Core.Option.{Option, some}
use mathlib.Core.List.{List, [], ◌∷◌, ◌++◌}
use Prim.Native.Nat.{ℕ, ◌+◌, ◌-◌, ◌<◌}
use native.Mathlib.Omega.{arith}
use borrow.Author.Tests.{leb-false}
use lib.Dec.{leb}
use lib.IntN.{ℤ}
use lib.ListN.{length, length-map}
use Rattle.lists.proofs.Bools.{or_left}
use Rattle.meaning.specs.Cells.{areas_size}
use Rattle.meaning.specs.Grammar as G
use Rattle.meaning.specs.Grammar.{items, Sentence}
use Rattle.meaning.specs.Reader.{sentence}
use Rattle.meaning.specs.Limits.{most_tables, most_queries, most_updates}
use Rattle.meaning.specs.Meaning.{Row}
use Rattle.meaning.specs.Names.{Schema}
use Rattle.meaning.specs.Statement as M
use Rattle.meaning.specs.Statement.{Statement, creates, asks, changes, statement_of}
use Rattle.meaning.specs.Plain as P
use Rattle.meaning.specs.Plain.{Plain, schemas, catalog_of, refusal, adding, added, table_kind, query_kind, update_kind, kind_and_number, text_added}
use Rattle.meaning.specs.Refusals.{Catalog, no_place, add_conditions, text_conditions, or_else, lowest_of}
use Rattle.meaning.specs.Call.{add}
use Rattle.meaning.specs.Demand.{Acceptable}
use Rattle.meaning.proofs.Accepted.{text-taken}
use Rattle.statement.specs.Compiled.{Compiled as Struct, table_struct, query_struct, update_struct, struct_of, struct_of_text, compiled_by, compiled_of}
use Rattle.statement.specs.Catalog.{schema_of}
use Rattle.statement.specs.Sound.{AgreesQuery, AgreesUpdate}
use Rattle.statement.proofs.SoundCompiled.{table-agrees, query-agrees, update_agrees}
use Rattle.table.specs.Rows.{row_cells}
use Rattle.cache.specs.declared.State.{State}
use Rattle.cache.specs.Sound.{used_tables, areas_of}
use Rattle.cache.specs.SoundTest.{sound_state}
use Rattle.cache.specs.Means.{tables_from, Pairwise, Means, Typed}
use Rattle.cache.specs.Calls.{catalog_in}
use Rattle.cache.specs.Gives.{add_of, compiled_beside, add_refused, added_table, added_query, added_update, added_by, add_refusal}
use Rattle.cache.specs.Run.{Store, got_of, lent_by, step_add, step}
use Rattle.cache.proofs.Refinement.Areas.{table_in, tables-append}
use Rattle.cache.proofs.Invariant.Sound.{Sound, sound-is}
use Rattle.cache.proofs.Refinement.Standing.{compiled-more}
use Rattle.cache.proofs.Refinement.StoodFor.{schemas-mean, table-count, query-count, update-count}
use Rattle.cache.proofs.Refinement.Refused.{Same, settled_same, unfit-is}
use Rattle.cache.proofs.Lists.{take_more}

-- ---- a new table has no rows, and starts where the others end

no_rows : (b : Bool) → ◌≡◌ {A = List Row} (cond b [] []) []
no_rows true = refl
no_rows false = refl

schema-back : (t : Schema) → schema_of (table_struct t) ≡ t
schema-back t = λ i. record { name = (table-agrees t).name_is i; columns = (table-agrees t).columns_are i; capacity = t.capacity; ring = t.ring }

new-table : (t : Schema) (start : ℕ) (cells : List ℤ) → table_in (table_struct t) start cells ≡ record { schema = t; rows = [] }
new-table t start cells =
    ap₂ (λ (x : Schema) (r : List Row). record { schema = x; rows = r }) (schema-back t)
    (no_rows (leb (start + row_cells (table_struct t)) (length cells)))

-- ---- the statement added, beside what the state stands for

module _ (s : State) (T : Typed s) (S : Sound s) (cells : List ℤ) (p : Plain) (m : Means s cells p) where
  table-stands : (t : Schema) → length p.tables < most_tables → Means (added_table s (table_struct t)).state cells (adding p (creates t))
  table-stands t h =
      let few : s.table_count < length s.tables = omega (arith, T.eight_tables, table-count s T S cells p m) in
      record {
        cells_are = m.cells_are;
        memory_is = m.memory_is;
        tables_are =
            sym
            (ap (λ ts. tables_from 0 ts cells) (take_more s.tables s.table_count (table_struct t) few)
            ∙ tables-append 0 (used_tables s) (table_struct t ∷ []) cells
            ∙ ap₂ (λ (x : List P.Table) (y : P.Table). x ++ y ∷ []) (sym m.tables_are) (new-table t (0 + areas_of (used_tables s)) cells));
        queries_are = m.queries_are;
        updates_are = m.updates_are;
        note_is = refl;
      }

  query-stands : (q : M.Query) → AgreesQuery (query_struct q) q → length p.queries < most_queries
      → Means (added_query s (query_struct q)).state cells (adding p (asks q))
  query-stands q a h =
      let few : s.query_count < length s.queries = omega (arith, T.sixteen_queries, query-count s T S cells p m) in
      record {
        cells_are = m.cells_are;
        memory_is = m.memory_is;
        tables_are = m.tables_are;
        queries_are =
            subst (λ l. Pairwise AgreesQuery l (p.queries ++ q ∷ [])) (sym (take_more s.queries s.query_count (query_struct q) few))
            (compiled-more m.queries_are a);
        updates_are = m.updates_are;
        note_is = refl;
      }

  update-stands : (u : M.Update) → AgreesUpdate (update_struct u) u → length p.updates < most_updates
      → Means (added_update s (update_struct u)).state cells (adding p (changes u))
  update-stands u a h =
      let few : s.update_count < length s.updates = omega (arith, T.sixteen_updates, update-count s T S cells p m) in
      record {
        cells_are = m.cells_are;
        memory_is = m.memory_is;
        tables_are = m.tables_are;
        queries_are = m.queries_are;
        updates_are =
            subst (λ l. Pairwise AgreesUpdate l (p.updates ++ u ∷ [])) (sym (take_more s.updates s.update_count (update_struct u) few))
            (compiled-more m.updates_are a);
        note_is = refl;
      }

-- a place is free for the statement
abbrev Free : Plain → Statement → Type 0
Free p (creates t) = length p.tables < most_tables
Free p (asks q) = length p.queries < most_queries
Free p (changes u) = length p.updates < most_updates

place-free : (p : Plain) (ts : List Schema) (s : Sentence) → no_place (catalog_of p) s ≡ false → Free p (statement_of ts s)
unfolding no_place statement_of
place-free p ts (G.table t cs ring z) h =
    let l = leb-false most_tables (length (schemas p)) (or_left (leb most_tables (length (schemas p))) _ h) in
    omega (arith, l, length-map p.tables (λ (t : P.Table). t.schema))
place-free p ts (G.select cs t w) h = leb-false most_queries (length p.queries) h
place-free p ts (G.pair cs t u w) h = leb-false most_queries (length p.queries) h
place-free p ts (G.insert t vs) h = leb-false most_updates (length p.updates) h
place-free p ts (G.update t ss w) h = leb-false most_updates (length p.updates) h
place-free p ts (G.delete t w) h = leb-false most_updates (length p.updates) h

-- ---- the whole call

module _ (s : Store) (p : Plain) (T : Typed s.state) (h : sound_state s.state ≡ true) (m : Means s.state s.cells p) (text : List ℕ) where
  S : Sound s.state
  S = sound-is s.state h

  -- what a text is judged by
  catalog-same : catalog_in s.state ≡ catalog_of p
  catalog-same =
      sym
      (λ i. record {
        tables = schemas-mean s.state T S s.cells p m i;
        queries = query-count s.state T S s.cells p m i;
        updates = update-count s.state T S s.cells p m i;
        cells_left = m.cells_are i - areas_size (schemas-mean s.state T S s.cells p m i);
      })

  -- the number that it gets
  pub add-number : add_refusal s.state (lent_by s) text ≡ refusal (lent_by s) p (add text)
  unfolding add_refusal refusal
  add-number = ap₂ (λ (b : Bool) (c : Catalog). lowest_of (add_conditions b c text (sentence text))) (unfit-is s.state s.cells p h m (lent_by s)) catalog-same

  -- a text that is not refused, on the plain store
  module _ (e : refusal (lent_by s) p (add text) ≡ 0) where
    abbrev its : (x : Sentence) × (sentence text ≡ some x) × Acceptable (lent_by s) p text x
    its = text-taken (lent_by s) p text e

    abbrev statement : Statement
    statement = statement_of (schemas p) its.0

    unrefused : lowest_of (text_conditions (catalog_of p) text (sentence text)) ≡ 0
    unfolding refusal
    unrefused = ap (λ b. or_else b 2 (lowest_of (text_conditions (catalog_of p) text (sentence text)))) (sym its.2.lengths) ∙ e

    -- what is compiled is its statement
    compiled-is : compiled_beside s.state text ≡ struct_of statement
    unfolding compiled_of
    compiled-is =
        ap₂ compiled_by (ap (λ (c : Catalog). lowest_of (text_conditions c text (sentence text))) catalog-same ∙ unrefused)
        (ap₂ struct_of_text (ap (λ (c : Catalog). c.tables) catalog-same) its.1)

    added-same : (x : Statement) → statement ≡ x → Free p x → Same [] (step_add s (added_by s.state (struct_of x))) (adding p x, kind_and_number p x)
    unfolding added_by struct_of
    added-same (creates t) q f = (
      ap (λ n. got_of [] (added table_kind n)) (sym (table-count s.state T S s.cells p m)),
      table-stands s.state T S s.cells p m t f,
    )
    added-same (asks r) q f = (
      ap (λ n. got_of [] (added query_kind n)) (sym (query-count s.state T S s.cells p m)),
      query-stands s.state T S s.cells p m r (query-agrees (schemas p) its.0 r q) f,
    )
    added-same (changes u) q f = (
      ap (λ n. got_of [] (added update_kind n)) (sym (update-count s.state T S s.cells p m)),
      update-stands s.state T S s.cells p m u (update_agrees (schemas p) its.0 u q) f,
    )

    done-same : Same [] (step_add s (added_by s.state (compiled_beside s.state text))) (text_added p (sentence text))
    unfolding text_added
    done-same =
        subst₂ (λ (x : Struct) (o : Option Sentence). Same [] (step_add s (added_by s.state x)) (text_added p o)) (sym compiled-is) (sym its.1)
        (added-same statement refl (place-free p (schemas p) its.0 its.2.place))

  pub add_same : Same [] (step s (add text)) (P.step (lent_by s) p (add text))
  unfolding step add_of
  add_same =
      settled_same (step_add s) (added_by s.state (compiled_beside s.state text)) (add_refused s.state) [] s p (text_added p (sentence text)) m (λ k. refl) _ _
      add-number done-same
