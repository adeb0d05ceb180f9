-- Every sound state stands for a plain store: its tables are read off the state and the cells, and each question and update is the compiled form of a sentence's
-- statement. Assumes nothing.
use mathlib.Core.Path.{◌≡◌, refl, sym, ap, ◌∙◌, subst}
use mathlib.Core.Bool.{true}
use mathlib.Core.Option.{Option, none, some}
use mathlib.Core.List.{List, [], ◌∷◌, ◌++◌, map, map-append}
use Prim.Native.Nat.{ℕ, zero, suc, ◌+◌, ◌*◌, ◌≤◌, ◌<◌}
use native.Mathlib.Nat.{le_of_suc-le-suc, not-suc-le-zero}
use native.Mathlib.Omega.{arith}
use borrow.Author.Tests.{ltb-true}
use lib.Dec.{ltb}
use lib.IntN.{ℤ}
use lib.ListN.{length, get_or, length-map, get_or-map}
use lib.Seq.{length-take-le, get_or-take}
use Rattle.lists.specs.Lists.{All, nil, cons}
use Rattle.lists.proofs.Bools.{and_left}
use Rattle.lists.proofs.Lists.{All-map}
use Rattle.lists.proofs.Places.{All-at}
use Rattle.meaning.specs.Limits.{most_items}
use Rattle.meaning.specs.Names.{Schema}
use Rattle.meaning.specs.Grammar.{Sentence}
use Rattle.meaning.specs.Statement as M
use Rattle.meaning.specs.Statement.{creates, asks, changes, statement_of}
use Rattle.meaning.specs.Plain.{Plain, schemas}
use Rattle.statement.specs.declared.Table.{Table}
use Rattle.statement.specs.Catalog.{schema_of, name_of_struct}
use Rattle.statement.specs.Compiled.{no_table}
use Rattle.statement.specs.Sound.{used_columns, second_read, Passes, AgreesQuery, AgreesUpdate, AgreesTable, FromTable, TableStructFits}
use Rattle.statement.specs.SoundTest.{columns_at, sound_second}
use Rattle.statement.proofs.SoundQuery.{query-parts, second_parts}
use Rattle.statement.proofs.SoundUpdate.{update-parts}
use Rattle.cache.specs.declared.State.{State}
use Rattle.cache.specs.Sound.{used_tables, query_at, used_queries, used_updates, schemas_in, IsSound, table_at, update_at, pending_in}
use Rattle.cache.specs.Means as L
use Rattle.cache.specs.Means.{tables_in, Pairwise, Means, Typed}
use Rattle.cache.specs.Calls.{area_start}
use Rattle.cache.specs.Demand.{FromSentences, StandsForPlain}
use Rattle.cache.proofs.Invariant.Sound.{Sound, schemas-long, query-at, update-at, All-first}
use Rattle.cache.proofs.Invariant.Sentence.{sentence-holds}
use Rattle.cache.proofs.Refinement.Areas.{schemas-from}
use Rattle.cache.proofs.Refinement.Pushed.{area-inside as area_in}
use Rattle.cache.proofs.Invariant.Added.{columns-few}

-- ---- lists of which each member is the compiled form of the other's

module _ {A B : Type 0} {R : A → B → Type 0} where
  pub compiled-length : {xs : List A} {ys : List B} → Pairwise R xs ys → length ys ≡ length xs
  compiled-length L.nil = refl
  compiled-length (L.cons r c) = ap suc (compiled-length c)

  pub compiled-at : {xs : List A} {ys : List B} (a : A) (b : B) → Pairwise R xs ys → (i : ℕ) → i < length xs → R (get_or xs i a) (get_or ys i b)
  compiled-at a b L.nil i h = absurd (not-suc-le-zero h)
  compiled-at a b (L.cons r c) zero h = r
  compiled-at a b (L.cons r c) (suc i) h = compiled-at a b c i (le_of_suc-le-suc h)

  pub compiled-more : {xs : List A} {ys : List B} {x : A} {y : B} → Pairwise R xs ys → R x y → Pairwise R (xs ++ x ∷ []) (ys ++ y ∷ [])
  compiled-more L.nil r = L.cons r L.nil
  compiled-more (L.cons q c) r = L.cons q (compiled-more c r)

  -- where each has a form with a property, there is a list of them
  pub compiled-of : {Q : B → Type 0} {xs : List A} → All (λ x. (y : B) × R x y × Q y) xs → (ys : List B) × Pairwise R xs ys × All Q ys
  compiled-of nil = ([], L.nil, nil)
  compiled-of (cons r h) = let c = compiled-of h in (r.0 ∷ c.0, L.cons r.1 c.1, cons r.2 c.2)

-- a list of images that is split is that of a split list
map-split : {A B : Type 0} (f : A → B) (l : List A) (before : List B) (y : B) (behind : List B) → map f l ≡ before ++ y ∷ behind
    → (a : List A) × (x : A) × (b : List A) × (l ≡ a ++ x ∷ b) × (map f a ≡ before) × (f x ≡ y) × (map f b ≡ behind)
map-split f [] [] y behind e = absurd (omega (arith, ap length e))
map-split f [] (z ∷ before) y behind e = absurd (omega (arith, ap length e))
map-split f (x ∷ l) [] y behind e = ([], x, l, refl, refl, cc, cc)
map-split f (x ∷ l) (z ∷ before) y behind e =
    let r = map-split f l before y behind cc in
    let h : f x ≡ z = cc in
    (x ∷ r.0, r.1, r.2, ap (λ t. x ∷ t) r.3, (λ j. h j ∷ r.4 j), r.5, r.6)

-- ---- the columns of a table in use

columns-length : (t : Table) → TableStructFits t → t.count ≤ most_items → length (schema_of t).columns ≡ t.count
columns-length t F h = length-map (used_columns t) name_of_struct ∙ length-take-le t.count t.columns (omega (arith, F.eight))

-- ---- places in use

-- A.1: a second table is one in use
abbrev pub SecondThere : State → Option M.Second → Type 0
SecondThere s none = Unit {0}
SecondThere s (some t) = t.table < s.table_count

-- whose columns start behind those of table i
abbrev pub StartsBehind : State → ℕ → Option M.Second → Type 0
StartsBehind s i none = Unit {0}
StartsBehind s i (some t) = t.start ≡ (table_at s i).count

module _ (s : State) (T : Typed s) (S : Sound s) where
  pub few_tables : s.table_count ≤ length s.tables
  few_tables = omega (arith, T.eight_tables, S.few_tables)

  pub few_queries : s.query_count ≤ length s.queries
  few_queries = omega (arith, T.sixteen_queries, S.few_queries)

  pub few_updates : s.update_count ≤ length s.updates
  few_updates = omega (arith, T.sixteen_updates, S.few_updates)

  module _ (i : ℕ) (h : i < s.table_count) where
    the-table : get_or (used_tables s) i no_table ≡ table_at s i
    the-table = get_or-take s.table_count s.tables i no_table h

    pub few_columns : (table_at s i).count ≤ most_items
    few_columns =
        All-first {P = λ (t : Table). t.count ≤ most_items} s.table_count s.tables i no_table few_tables h (columns-few [] (used_tables s) S.tables)

    -- its columns beside the others
    pub columns-at : columns_at (schemas_in s) i ≡ (table_at s i).count
    columns-at =
        ap (λ (t : Schema). length t.columns) (get_or-map schema_of (used_tables s) i no_table)
        ∙ ap (λ (t : Table). length (schema_of t).columns) the-table
        ∙ columns-length (table_at s i) (All-at i no_table (omega (arith, few_tables)) T.tables_fit) few_columns

    -- its area
    pub area-inside : area_start s i + (table_at s i).count * (table_at s i).capacity ≤ s.cells
    area-inside = area_in s S few_tables i h

  -- the table of a question, and of an update, is there
  pub query-table : (i : ℕ) → i < s.query_count → (query_at s i).table < s.table_count
  query-table i h =
      subst (λ (n : ℕ). (query_at s i).table < n) (schemas-long s T S) (query-parts (schemas_in s) (query_at s i) (query-at s T S i h)).there

  -- and so is a question's second table
  pub sound-second : (i : ℕ) → i < s.query_count → SecondThere s (second_read (query_at s i))
  sound-second i h = go (second_read (query_at s i)) (query-parts (schemas_in s) (query_at s i) (query-at s T S i h)).second_sound
    where
      go : (o : Option M.Second) → sound_second (schemas_in s) (query_at s i).table (columns_at (schemas_in s) (query_at s i).table) o ≡ true → SecondThere s o
      go none e = tt
      go (some t) e =
          subst (λ (n : ℕ). t.table < n) (schemas-long s T S) (ltb-true t.table (length (schemas_in s)) (and_left (ltb t.table (length (schemas_in s))) _ e))

  pub second-starts : (i : ℕ) → i < s.query_count → StartsBehind s (query_at s i).table (second_read (query_at s i))
  second-starts i h = go (second_read (query_at s i)) (query-parts (schemas_in s) (query_at s i) (query-at s T S i h)).second_sound
    where
      go : (o : Option M.Second) → sound_second (schemas_in s) (query_at s i).table (columns_at (schemas_in s) (query_at s i).table) o ≡ true → StartsBehind s (query_at s i).table o
      go none e = tt
      go (some t) e =
          (second_parts (schemas_in s) (query_at s i).table (columns_at (schemas_in s) (query_at s i).table) t e).start_is ∙ columns-at (query_at s i).table (query-table i h)

  pub update-table : (i : ℕ) → i < s.update_count → (update_at s i).table < s.table_count
  update-table i h =
      subst (λ (n : ℕ). (update_at s i).table < n) (schemas-long s T S) (update-parts (schemas_in s) (update_at s i) (update-at s T S i h)).there

-- ---- the plain store

-- a stored table that is the compiled form of a schema has it
agrees-schema : (t : Table) (r : Schema) → AgreesTable t r → r ≡ schema_of t
agrees-schema t r A = λ j. record { name = sym A.name_is j; columns = sym A.columns_are j; capacity = sym A.capacity_is j; ring = sym A.ring_is j }

module _ (s : State) (cells : List ℤ) (I : IsSound s) where
  -- a statement of a sentence that passes
  abbrev Asks : M.Query → Type 0
  Asks q = (x : Sentence) × Passes (schemas_in s) x × (statement_of (schemas_in s) x ≡ asks q)

  abbrev Changes : M.Update → Type 0
  Changes u = (x : Sentence) × Passes (schemas_in s) x × (statement_of (schemas_in s) x ≡ changes u)

  queries-from : (ys : List M.Query) × Pairwise AgreesQuery (used_queries s) ys × All Asks ys
  queries-from = compiled-of (All-map (λ q f. (f.statement, f.agrees, (f.sentence, f.passes, f.says))) I.queries)

  updates-from : (ys : List M.Update) × Pairwise AgreesUpdate (used_updates s) ys × All Changes ys
  updates-from = compiled-of (All-map (λ u f. (f.statement, f.agrees, (f.sentence, f.passes, f.says))) I.updates)

  abbrev plain : Plain
  plain = record {
    lengths = record { cells = s.cells; memory = s.memory };
    tables = tables_in s cells;
    queries = queries-from.0;
    updates = updates-from.0;
    pending = pending_in s;
  }

  schemas-same : schemas plain ≡ schemas_in s
  schemas-same = schemas-from 0 (used_tables s) cells

  table-from : (before : List Schema) (t : Schema) (behind : List Schema) → schemas plain ≡ before ++ t ∷ behind
      → (x : Sentence) × Passes (before ++ behind) x × (statement_of (before ++ behind) x ≡ creates t)
  table-from before t behind e =
      let r = map-split schema_of (used_tables s) before t behind (sym schemas-same ∙ e) in
      let f : FromTable (map schema_of (r.0 ++ r.2)) r.1 = I.tables r.0 r.1 r.2 r.3 in
      let others : map schema_of (r.0 ++ r.2) ≡ before ++ behind = map-append schema_of r.0 r.2 ∙ (λ j. r.4 j ++ r.6 j) in
      let here : f.schema ≡ t = agrees-schema r.1 f.schema f.agrees ∙ r.5 in (
        f.sentence,
        subst (λ ts. Passes ts f.sentence) others f.passes,
        ap (λ ts. statement_of ts f.sentence) (sym others) ∙ f.says ∙ ap creates here,
      )

  stands-for : (p : Plain) × Means s cells p × FromSentences p
  stands-for = (
    plain,
    record { cells_are = refl; memory_is = refl; tables_are = refl; queries_are = queries-from.1; updates_are = updates-from.1; note_is = refl },
    record {
      tables = table-from;
      queries = subst (λ ts. All (λ q. (x : Sentence) × Passes ts x × (statement_of ts x ≡ asks q)) queries-from.0) (sym schemas-same) queries-from.2;
      updates = subst (λ ts. All (λ u. (x : Sentence) × Passes ts x × (statement_of ts x ≡ changes u)) updates-from.0) (sym schemas-same) updates-from.2;
    },
  )

-- a sound state stands for a plain store
pub stands_for_plain : StandsForPlain
stands_for_plain s T h = stands-for s.state s.cells (sentence-holds s.state T h)
