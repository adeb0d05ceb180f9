-- A text that is taken leaves a sound state sound: there is a place for its statement, which is sound beside the tables, and the others stay so. Assumes nothing.
use mathlib.Core.Path.{◌≡◌, refl, sym, ap, ap₂, ◌∙◌, subst}
use mathlib.Core.Bool.{true, false}
use mathlib.Core.Option.{Option, none, some}
use mathlib.Core.List.{List, [], ◌∷◌, ◌++◌, map, append_assoc, append-nil}
use Prim.Native.Nat.{ℕ, zero, suc, ◌+◌, ◌*◌, ◌-◌, ◌≤◌, ◌<◌}
use native.Mathlib.Omega.{arith}
use borrow.Author.Tests.{ltb-false, leb-false}
use lib.Dec.{leb}
use lib.IntN.{nat_abs}
use lib.ListN.{length, take, set, length-map}
use lib.Seq.{get_or-set_other, length-take-le}
use Rattle.lists.specs.Lists.{All, nil, cons}
use Rattle.lists.proofs.Bools.{and_left, and_right, and_both, or_left, or_right, clash}
use Rattle.lists.proofs.Lists.{All-head, All-tail, All-map, All-append, All-take, map-append}
use Rattle.meaning.specs.Grammar as G
use Rattle.meaning.specs.Grammar.{items, Sentence}
use Rattle.meaning.specs.Reader.{sentence}
use Rattle.meaning.specs.Limits.{most_items, most_tables, most_queries, most_updates}
use Rattle.meaning.specs.Names.{Schema}
use Rattle.meaning.specs.Cells.{areas_size}
use Rattle.meaning.specs.Statement.{statement_of}
use Rattle.meaning.specs.Refusals.{Catalog, no_place, text_conditions, lowest_of}
use Rattle.meaning.proofs.Accepted.{clear}
use Rattle.statement.specs.declared.Table.{Table}
use Rattle.statement.specs.declared.Query.{Query}
use Rattle.statement.specs.declared.Update.{Update}
use Rattle.statement.specs.Compiled.{Compiled, no_query, struct_of, struct_of_text, compiled_by, compiled_of}
use Rattle.statement.specs.Catalog.{name_of_struct, schema_of, catalog}
use Rattle.statement.specs.Sound.{used_columns, TableStructFits}
use Rattle.statement.specs.SoundTest.{sound_table, sound_schemas, sound_query, sound_update}
use Rattle.statement.proofs.SoundCompiled.{SoundStatement, compiled-sound}
use Rattle.statement.proofs.SoundTable.{table-parts}
use Rattle.soundness.proofs.Laws.{query-before, update-before}
use Rattle.slots.specs.declared.Key.{Key}
use Rattle.slots.specs.Keys.{slot_key}
use Rattle.cache.specs.declared.State.{State}
use Rattle.cache.specs.Sound.{used_tables, areas_of, query_at, used_queries, used_updates, schemas_in, KeyFits}
use Rattle.cache.specs.Calls.{catalog_in}
use Rattle.cache.specs.Gives.{added_table, added_query, added_update, compiled_beside}
use Rattle.cache.specs.Means.{Typed}
use Rattle.meaning.specs.Call.{add}
use Rattle.cache.specs.Run.{Store, step}
use Rattle.cache.proofs.Invariant.Sound.{Sound}
use Rattle.cache.proofs.Invariant.Starts.{start_first}
use Rattle.cache.proofs.Invariant.Cases.{by-add}
use Rattle.cache.proofs.Settled.{nothing}
use Rattle.cache.proofs.Lists.{take_more}

-- ---- refusal 9: a text that is not refused has a place

pub record Placed (tables queries updates left : ℕ) (r : Compiled) : Type 0 where
  pub table_place : r.kind ≡ 1 → tables < most_tables
  pub table_room : r.kind ≡ 1 → r.table.count * r.table.capacity ≤ left
  pub table_empty : r.kind ≡ 1 → r.table.rows ≡ 0
  pub table_first : r.kind ≡ 1 → r.table.oldest ≡ 0
  pub query_place : r.kind ≡ 2 → queries < most_queries
  pub update_place : r.kind ≡ 3 → updates < most_updates

module _ (c : Catalog) where
  abbrev PlacedIn : Compiled → Type 0
  PlacedIn r = Placed (length c.tables) c.queries c.updates c.cells_left r

  query-placed : (r : Compiled) → r.kind ≡ 2 → leb most_queries c.queries ≡ false → PlacedIn r
  query-placed r k h = record {
    table_place = λ e. absurd (omega arith);
    table_room = λ e. absurd (omega arith);
    table_empty = λ e. absurd (omega arith);
    table_first = λ e. absurd (omega arith);
    query_place = λ e. leb-false most_queries c.queries h;
    update_place = λ e. absurd (omega arith);
  }

  update-placed : (r : Compiled) → r.kind ≡ 3 → leb most_updates c.updates ≡ false → PlacedIn r
  update-placed r k h = record {
    table_place = λ e. absurd (omega arith);
    table_room = λ e. absurd (omega arith);
    table_empty = λ e. absurd (omega arith);
    table_first = λ e. absurd (omega arith);
    query_place = λ e. absurd (omega arith);
    update_place = λ e. leb-false most_updates c.updates h;
  }

  sentence-placed : (s : Sentence) → no_place c s ≡ false → PlacedIn (struct_of (statement_of c.tables s))
  unfolding no_place struct_of statement_of
  sentence-placed (G.table t cs ring z) h = record {
    table_place = λ e. leb-false most_tables (length c.tables) (or_left (leb most_tables (length c.tables)) _ h);
    table_room = λ e. ltb-false c.cells_left (length (items cs) * nat_abs z) (or_right (leb most_tables (length c.tables)) _ h);
    table_empty = λ e. refl;
    table_first = λ e. refl;
    query_place = λ e. absurd (omega arith);
    update_place = λ e. absurd (omega arith);
  }
  sentence-placed (G.select cs t w) h = query-placed _ refl h
  sentence-placed (G.pair cs t u w) h = query-placed _ refl h
  sentence-placed (G.insert t vs) h = update-placed _ refl h
  sentence-placed (G.update t ss w) h = update-placed _ refl h
  sentence-placed (G.delete t w) h = update-placed _ refl h

  text-placed : (text : List ℕ) (o : Option Sentence) → All (λ x. x.1 ≡ false) (text_conditions c text o) → PlacedIn (struct_of_text c.tables o)
  text-placed text none a = clash refl (All-head (All-tail a))
  text-placed text (some s) a = sentence-placed s (All-head (All-tail (All-tail (All-tail (All-tail (All-tail (All-tail (All-tail a))))))))

  catalog-placed : (text : List ℕ) (o : Option Sentence) (n : ℕ) → lowest_of (text_conditions c text o) ≡ n → (compiled_by n (struct_of_text c.tables o)).refusal ≡ 0
      → PlacedIn (compiled_by n (struct_of_text c.tables o))
  catalog-placed text o zero e h = text-placed text o ((clear 2 (text_conditions c text o) refl).0 e)
  catalog-placed text o (suc n) e h = absurd (omega arith)

module _ (text : List ℕ) (tables : List Table) (used queries updates cells : ℕ) where
  abbrev beside : Catalog
  beside = catalog tables used queries updates cells

  pub compiled-placed : used ≤ length tables → (compiled_of text tables used queries updates cells).refusal ≡ 0
      → Placed used queries updates beside.cells_left (compiled_of text tables used queries updates cells)
  unfolding compiled_of
  compiled-placed l h =
      let P = catalog-placed beside text (sentence text) (lowest_of (text_conditions beside text (sentence text))) refl h in
      let t : length beside.tables ≡ used = length-map (take used tables) schema_of ∙ length-take-le used tables l in
      record {
        table_place = λ e. subst (λ (n : ℕ). n < most_tables) t (P.table_place e);
        table_room = P.table_room;
        table_empty = P.table_empty;
        table_first = P.table_first;
        query_place = P.query_place;
        update_place = P.update_place;
      }

-- ---- one more at the end of those in use

module _ {A : Type 0} where
  All-more : {P : A → Type 0} (l : List A) (n : ℕ) (x : A) → n < length l → P x → All P (take n l) → All P (take (n + 1) (set l n x))
  All-more {P} l n x h p a = subst (All P) (sym (take_more l n x h)) (All-append a (cons p nil))

module _ (s : State) (T : Typed s) (S : Sound s) where
  -- ---- a question

  module _ (q : Query) (ok : sound_query (schemas_in s) q ≡ true) (place : s.query_count < most_queries) where
    abbrev asking : State
    asking = (added_query s q).state

    key-stays : (k : Key) → KeyFits s k → KeyFits asking k
    key-stays k K =
        let other : query_at asking k.query ≡ query_at s k.query =
        get_or-set_other s.queries s.query_count k.query q no_query (λ e. omega (arith, K.there)) in
        record { there = omega (arith, K.there); values = K.values ∙ ap (λ (x : Query). x.parameters) (sym other) }

    pub query-added : Sound asking
    query-added = record {
      sizes = S.sizes;
      few_tables = S.few_tables;
      few_queries = omega arith;
      few_updates = S.few_updates;
      areas = S.areas;
      rows = S.rows;
      starts = S.starts;
      tables = S.tables;
      queries = All-more s.queries s.query_count q (omega (arith, T.sixteen_queries)) ok S.queries;
      updates = S.updates;
      lengths = All-map (λ x L. record { least = L.least; most = L.most }) S.lengths;
      keys = All-map (λ x K. key-stays (slot_key s.keys x) K) S.keys;
      once = S.once;
      slots = S.slots;
      note = λ n e. absurd (nothing n e);
    }

  -- ---- an update

  pub update-added : (u : Update) → sound_update (schemas_in s) u ≡ true → s.update_count < most_updates → Sound (added_update s u).state
  update-added u ok place = record {
    sizes = S.sizes;
    few_tables = S.few_tables;
    few_queries = S.few_queries;
    few_updates = omega arith;
    areas = S.areas;
    rows = S.rows;
    starts = S.starts;
    tables = S.tables;
    queries = S.queries;
    updates = All-more s.updates s.update_count u (omega (arith, T.sixteen_updates)) ok S.updates;
    lengths = All-map (λ x L. record { least = L.least; most = L.most }) S.lengths;
    keys = All-map (λ x K. record { there = K.there; values = K.values }) S.keys;
    once = S.once;
    slots = S.slots;
    note = λ n e. absurd (nothing n e);
  }

-- ---- a table

-- each of sound tables has few columns
pub columns-few : (before : List Schema) (ts : List Table) → sound_schemas before ts ≡ true → All (λ (t : Table). t.count ≤ most_items) ts
columns-few before [] h = nil
columns-few before (t ∷ ts) h =
    cons (table-parts before t (and_left (sound_table before t) _ h)).few_columns (columns-few (before ++ (schema_of t ∷ [])) ts (and_right (sound_table before t) _ h))

-- the areas of the tables are those that their TABLE texts say
pub areas-are : (ts : List Table) → All TableStructFits ts → All (λ (t : Table). t.count ≤ most_items) ts → areas_size (map schema_of ts) ≡ areas_of ts
areas-are [] F h = refl
areas-are (t ∷ ts) F h =
    let few : t.count ≤ most_items = All-head h in
    let long : length (map name_of_struct (used_columns t)) ≡ t.count =
    length-map (used_columns t) name_of_struct ∙ length-take-le t.count t.columns (omega (arith, (All-head F).eight)) in
    ap₂ (λ (n m : ℕ). n * t.capacity + m) long (areas-are ts (All-tail F) (All-tail h))

areas-more : (ts : List Table) (t : Table) → areas_of (ts ++ (t ∷ [])) ≡ areas_of ts + t.count * t.capacity
areas-more [] t = omega arith
areas-more (a ∷ ts) t = ap (λ (n : ℕ). a.count * a.capacity + n) (areas-more ts t) ∙ omega arith

tables_more : (before : List Schema) (ts : List Table) (t : Table) → sound_schemas before ts ≡ true → sound_table (before ++ map schema_of ts) t ≡ true
    → sound_schemas before (ts ++ (t ∷ [])) ≡ true
tables_more before [] t h k =
    and_both (sound_table before t) true (subst (λ (us : List Schema). sound_table us t ≡ true) (append-nil before) k) refl
tables_more before (a ∷ ts) t h k =
    and_both (sound_table before a) _ (and_left (sound_table before a) _ h)
    (tables_more (before ++ (schema_of a ∷ [])) ts t (and_right (sound_table before a) _ h)
    (subst (λ (us : List Schema). sound_table us t ≡ true) (sym (append_assoc before (schema_of a ∷ []) (map schema_of ts))) k))

module _ (s : State) (T : Typed s) (S : Sound s) (t : Table) (ok : sound_table (schemas_in s) t ≡ true) (place : s.table_count < most_tables)
    (room : t.count * t.capacity ≤ s.cells - areas_size (schemas_in s)) (empty : t.rows ≡ 0) (first : t.oldest ≡ 0) where
  abbrev created : State
  created = (added_table s t).state

  used-more : used_tables created ≡ used_tables s ++ (t ∷ [])
  used-more = take_more s.tables s.table_count t (omega (arith, T.eight_tables))

  schemas-more : schemas_in created ≡ schemas_in s ++ (schema_of t ∷ [])
  schemas-more = ap (map schema_of) used-more ∙ map-append schema_of (used_tables s) (t ∷ [])

  pub table-added : Sound created
  table-added = record {
    sizes = S.sizes;
    few_tables = omega arith;
    few_queries = S.few_queries;
    few_updates = S.few_updates;
    areas =
        let a : areas_size (schemas_in s) ≡ areas_of (used_tables s) =
        areas-are (used_tables s) (All-take s.table_count T.tables_fit) (columns-few [] (used_tables s) S.tables) in
        let m : areas_of (used_tables created) ≡ areas_of (used_tables s) + t.count * t.capacity = ap areas_of used-more ∙ areas-more (used_tables s) t in
        omega (arith, S.areas);
    rows = All-more s.tables s.table_count t (omega (arith, T.eight_tables)) (omega arith) S.rows;
    starts = All-more s.tables s.table_count t (omega (arith, T.eight_tables)) (start_first t first) S.starts;
    tables = ap (sound_schemas []) used-more ∙ tables_more [] (used_tables s) t S.tables ok;
    queries =
        subst (λ (ts : List Schema). All (λ (q : Query). sound_query ts q ≡ true) (used_queries s)) (sym schemas-more)
        (All-map (query-before (schemas_in s) (schema_of t ∷ [])) S.queries);
    updates =
        subst (λ (ts : List Schema). All (λ (u : Update). sound_update ts u ≡ true) (used_updates s)) (sym schemas-more)
        (All-map (update-before (schemas_in s) (schema_of t ∷ [])) S.updates);
    lengths = All-map (λ x L. record { least = L.least; most = L.most }) S.lengths;
    keys = All-map (λ x K. record { there = K.there; values = K.values }) S.keys;
    once = S.once;
    slots = S.slots;
    note = λ n e. absurd (nothing n e);
  }

-- ---- a text

module _ (s : Store) (text : List ℕ) (T : Typed s.state) (S : Sound s.state) where
  abbrev st : State
  st = s.state

  abbrev compiled : Compiled
  compiled = compiled_beside st text

  sound : compiled.refusal ≡ 0 → SoundStatement (schemas_in st) compiled
  sound h = compiled-sound text st.tables st.table_count st.query_count st.update_count st.cells h

  placed : compiled.refusal ≡ 0 → Placed st.table_count st.query_count st.update_count (catalog_in st).cells_left compiled
  placed h =
      compiled-placed text st.tables st.table_count st.query_count st.update_count st.cells (omega (arith, T.eight_tables, S.few_tables)) h

  pub add-stays : Sound (step s (add text)).0.state
  add-stays =
      by-add Sound s S text
      (λ h.
      let P = placed h.1 in
      table-added st T S compiled.table ((sound h.1).table_sound h.2) (P.table_place h.2) (P.table_room h.2) (P.table_empty h.2) (P.table_first h.2))
      (λ h. query-added st T S compiled.query ((sound h.1).query_sound h.2) ((placed h.1).query_place h.2))
      (λ h. update-added st T S compiled.update ((sound h.1).update_sound h.2) ((placed h.1).update_place h.2))
