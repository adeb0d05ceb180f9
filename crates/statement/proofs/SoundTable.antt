-- A stored table passes the test exactly if it is the compiled form of a TABLE sentence that refusals 4 to 8 let pass. Assumes nothing.
use mathlib.Core.Path.{◌≡◌, refl, sym, ap, ap₂, ◌∙◌, subst}
use mathlib.Core.Logic.{◌↔◌}
use mathlib.Core.Bool.{Bool, true, false, not, ◌&&◌}
use mathlib.Core.List.{List, [], ◌∷◌, ◌++◌, map, append-nil}
use Prim.Native.Nat.{ℕ, ◌≤◌}
use native.Mathlib.Omega.{arith}
use borrow.Author.Tests.{ltb-false, le-ltb, leb-true, le-leb}
use lib.Dec.{leb, ltb}
use lib.IntN.{ℤ, pos, negsuc, nat_abs}
use lib.ListN.{length, length-map}
use lib.Seq.{length-take-le}
use lib.Signed.{le_z}
use Rattle.lists.specs.Lists.{All, nil, cons, any, all, repeats}
use Rattle.lists.proofs.Bools.{and_left, and_right, and_both, or_left, or_right, not-false, not-true, clash}
use Rattle.lists.proofs.Lists.{All-map, All-both, All-take, All-image, all_true, any_none}
use Rattle.meaning.specs.Tokens as T
use Rattle.meaning.specs.Tokens.{is_name}
use Rattle.meaning.specs.Grammar as G
use Rattle.meaning.specs.Grammar.{Listed, items, Sentence}
use Rattle.meaning.specs.Limits.{most_items, most_rows, most_name}
use Rattle.meaning.specs.Names.{Schema, same_name, has, table_names, unknown_name, taken, miscounted, twice}
use Rattle.meaning.specs.Statement.{Statement, creates, asks, changes, statement_of}
use Rattle.meaning.proofs.Resolved.{items-some}
use Rattle.meaning.proofs.Spelling.{has_text}
use Rattle.statement.specs.Catalog.{name_of_struct, schema_of}
use Rattle.statement.specs.Sound.{used_columns, Passes, AgreesTable, FromTable, NameFits, TableStructFits}
use Rattle.statement.specs.SoundTest.{sound_name, sound_table, TableFits}
use Rattle.statement.specs.declared.Name.{Name}
use Rattle.statement.specs.declared.Table.{Table}
use Rattle.statement.proofs.Stored.{all_both, all-of, all_map}
use Rattle.statement.proofs.SoundNames.{or-none, listed, Limits, limits-kept, limits_of}

-- ---- the test and its parts

pub record Parts (others : List Schema) (t : Table) : Type 0 where
  pub some_columns : 1 ≤ t.count
  pub few_columns : t.count ≤ most_items
  pub name_sound : sound_name t.name ≡ true
  pub columns_sound : all sound_name (used_columns t) ≡ true
  pub different : repeats same_name (map name_of_struct (used_columns t)) ≡ false
  pub fresh : has (table_names others) (name_of_struct t.name) ≡ false
  pub some_rows : 1 ≤ t.capacity
  pub few_rows : t.capacity ≤ most_rows

module _ (others : List Schema) (t : Table) where
  abbrev repeated : Bool
  repeated = repeats same_name (map name_of_struct (used_columns t))

  abbrev used : Bool
  used = has (table_names others) (name_of_struct t.name)

  pub table-parts : sound_table others t ≡ true → Parts others t
  unfolding sound_table
  table-parts h₀ =
      let h₁ = and_right (leb 1 t.count) _ h₀ in
      let h₂ = and_right (leb t.count most_items) _ h₁ in
      let h₃ = and_right (sound_name t.name) _ h₂ in
      let h₄ = and_right (all sound_name (used_columns t)) _ h₃ in
      let h₅ = and_right (not repeated) _ h₄ in
      let h₆ = and_right (not used) _ h₅ in
      record {
        some_columns = leb-true 1 t.count (and_left (leb 1 t.count) _ h₀);
        few_columns = leb-true t.count most_items (and_left (leb t.count most_items) _ h₁);
        name_sound = and_left (sound_name t.name) _ h₂;
        columns_sound = and_left (all sound_name (used_columns t)) _ h₃;
        different = not-true repeated (and_left (not repeated) _ h₄);
        fresh = not-true used (and_left (not used) _ h₅);
        some_rows = leb-true 1 t.capacity (and_left (leb 1 t.capacity) _ h₆);
        few_rows = leb-true t.capacity most_rows (and_right (leb 1 t.capacity) _ h₆);
      }

  pub parts-table : Parts others t → sound_table others t ≡ true
  unfolding sound_table
  parts-table P =
      and_both (leb 1 t.count) _ (le-leb 1 t.count P.some_columns)
      (and_both (leb t.count most_items) _ (le-leb t.count most_items P.few_columns)
      (and_both (sound_name t.name) _ P.name_sound
      (and_both (all sound_name (used_columns t)) _ P.columns_sound
      (and_both (not repeated) _ (ap not P.different)
      (and_both (not used) _ (ap not P.fresh)
      (and_both (leb 1 t.capacity) _ (le-leb 1 t.capacity P.some_rows) (le-leb t.capacity most_rows P.few_rows)))))))

-- ---- names

module _ (n : Name) (f : NameFits n) (h : sound_name n ≡ true) where
  pub name-few : n.len ≤ most_name
  name-few = leb-true n.len most_name (and_left (leb n.len most_name) _ h)

  pub name_length : length (name_of_struct n) ≡ n.len
  name_length = length-take-le n.len n.bytes (omega (arith, f, name-few))

  pub name_is : is_name (name_of_struct n) ≡ true
  name_is = and_right (leb n.len most_name) _ h

abbrev Good : Name → Type 0
Good n = NameFits n × (sound_name n ≡ true)

names_short : {ns : List Name} → All Good ns → All (λ m. length m ≤ most_name) (map name_of_struct ns)
names_short a = All-image name_of_struct (All-map (λ n g. subst (λ k. k ≤ most_name) (sym (name_length n g.0 g.1)) (name-few n g.0 g.1)) a)

names-are : {ns : List Name} → All Good ns → All (λ m. is_name m ≡ true) (map name_of_struct ns)
names-are a = All-image name_of_struct (All-map (λ n g. name_is n g.0 g.1) a)

lengths_are : {ns : List Name} → All Good ns → map (λ (n : Name). n.len) ns ≡ map length (map name_of_struct ns)
lengths_are nil = refl
lengths_are (cons {x = n} g a) = ap₂ (λ k r. k ∷ r) (sym (name_length n g.0 g.1)) (lengths_are a)

-- ---- a table that passes comes of a sentence

module _ (others : List Schema) (t : Table) (F : TableStructFits t) (P : Parts others t) where
  good-columns : All Good (used_columns t)
  good-columns = All-both (All-take t.count F.columns_fit) (all_true sound_name (used_columns t) P.columns_sound)

  good-names : All Good (t.name ∷ used_columns t)
  good-names = cons (F.name_fits, P.name_sound) good-columns

  columns-many : length (map name_of_struct (used_columns t)) ≡ t.count
  columns-many = length-map (used_columns t) name_of_struct ∙ length-take-le t.count t.columns (omega (arith, F.eight, P.few_columns))

  columns : (L : Listed T.Name) × (items L ≡ map name_of_struct (used_columns t))
  columns = listed (map name_of_struct (used_columns t)) (omega (arith, columns-many, P.some_columns))

  abbrev sentence : Sentence
  sentence = G.table (name_of_struct t.name) columns.0 t.ring (pos t.capacity)

  named : items columns.0 ++ [] ≡ map name_of_struct (used_columns t)
  named = append-nil (items columns.0) ∙ columns.1

  -- within the limits, as a table that there is
  pub sound-fits : TableFits (schema_of t)
  sound-fits = record {
    some_columns = omega (arith, columns-many, P.some_columns);
    few_columns = omega (arith, columns-many, P.few_columns);
    different = P.different;
    names = names-are good-names;
    short = names_short good-names;
  }

  limits : Limits sentence
  limits = record {
    items_few =
        or-none (ltb most_items (length (items columns.0))) _
        (le-ltb most_items (length (items columns.0)) (omega (arith, ap length columns.1, columns-many, P.few_columns))) refl;
    rows_inside =
        or-none (not (le_z (pos 1) (pos t.capacity) && le_z (pos t.capacity) (pos most_rows))) _
        (ap not (and_both (leb 1 t.capacity) _ (le-leb 1 t.capacity P.some_rows) (le-leb t.capacity most_rows P.few_rows))) refl;
    marks_few = refl;
    comparisons_few = refl;
    shallow = refl;
    names_short = ap (λ ns. any (λ (n : T.Name). ltb most_name (length n)) (name_of_struct t.name ∷ ns)) named
        ∙ any_none (λ (n : T.Name). ltb most_name (length n)) (All-map (λ n e. le-ltb most_name (length n) e) sound-fits.short);
    constants_small = refl;
  }

  sentence-passes : Passes others sentence
  unfolding unknown_name taken miscounted twice
  sentence-passes = record {
    spelled = (has_text sentence).0 (ap (λ ns. all is_name (name_of_struct t.name ∷ ns)) named ∙ all-of is_name sound-fits.names);
    within = limits-kept sentence limits;
    known = refl;
    fresh = or-none (has (table_names others) (name_of_struct t.name)) _ P.fresh (ap (repeats same_name) columns.1 ∙ P.different);
    counted = refl;
    different = refl;
  }

  pub table-source : FromTable others t
  unfolding statement_of
  table-source = record {
    sentence = sentence;
    passes = sentence-passes;
    schema = record { name = name_of_struct t.name; columns = items columns.0; capacity = t.capacity; ring = t.ring };
    says = refl;
    agrees = record {
      name_length = sym (name_length t.name F.name_fits P.name_sound);
      name_is = refl;
      count_is = sym columns-many ∙ ap length (sym columns.1);
      column_lengths = lengths_are good-columns ∙ ap (map length) (sym columns.1);
      columns_are = sym columns.1;
      capacity_is = refl;
      ring_is = refl;
    };
  }

-- ---- and one that comes of such a sentence passes

abbrev created : Statement → Schema
created (creates t) = t
created (asks q) = record { name = []; columns = []; capacity = 0; ring = false }
created (changes u) = record { name = []; columns = []; capacity = 0; ring = false }

abbrev is_create : Statement → Bool
is_create (creates t) = true
is_create (asks q) = false
is_create (changes u) = false

rows-between : (z : ℤ) → le_z (pos 1) z ≡ true → le_z z (pos most_rows) ≡ true → (1 ≤ nat_abs z) × (nat_abs z ≤ most_rows)
rows-between (pos n) h k = (leb-true 1 n h, leb-true n most_rows k)
rows-between (negsuc n) h k = clash h refl

few_bytes : (ns : List T.Name) → any (λ (n : T.Name). ltb most_name (length n)) ns ≡ false → all (λ (k : ℕ). leb k most_name) (map length ns) ≡ true
few_bytes [] h = refl
few_bytes (n ∷ ns) h =
    and_both (leb (length n) most_name) _ (le-leb (length n) most_name (ltb-false most_name (length n) (or_left (ltb most_name (length n)) _ h)))
    (few_bytes ns (or_right (ltb most_name (length n)) _ h))

module _ (others : List Schema) (t : Table) where
  create-table : (n : T.Name) (cs : Listed T.Name) (ring : Bool) (z : ℤ) → Passes others (G.table n cs ring z) → AgreesTable t (created (statement_of others (G.table n cs ring z)))
      → sound_table others t ≡ true
  unfolding statement_of taken
  create-table n cs ring z P A =
      let s : Sentence = G.table n cs ring z in
      let L : Limits s = limits_of s P.within in
      let ns : List T.Name = items cs in
      let long : any (λ (m : T.Name). ltb most_name (length m)) (n ∷ ns) ≡ false =
      ap (λ l. any (λ (m : T.Name). ltb most_name (length m)) (n ∷ l)) (sym (append-nil ns)) ∙ L.names_short in
      let named : all is_name (n ∷ ns) ≡ true = ap (λ l. all is_name (n ∷ l)) (sym (append-nil ns)) ∙ (has_text s).1 P.spelled in
      let few : length ns ≤ most_items = ltb-false most_items (length ns) (or_left (ltb most_items (length ns)) _ L.items_few) in
      let inside : (le_z (pos 1) z && le_z z (pos most_rows)) ≡ true = not-false (le_z (pos 1) z && le_z z (pos most_rows)) (or_left (not (le_z (pos 1) z && le_z z (pos most_rows))) _ L.rows_inside) in
      let rows : (1 ≤ nat_abs z) × (nat_abs z ≤ most_rows) = rows-between z (and_left (le_z (pos 1) z) _ inside) (and_right (le_z (pos 1) z) _ inside) in
      let short : length n ≤ most_name = ltb-false most_name (length n) (or_left (ltb most_name (length n)) _ long) in
      parts-table others t (record {
        some_columns = omega (arith, A.count_is, items-some cs);
        few_columns = omega (arith, A.count_is);
        name_sound = and_both (leb t.name.len most_name) _ (le-leb t.name.len most_name (omega (arith, A.name_length)))
            (ap is_name A.name_is ∙ and_left (is_name n) _ named);
        columns_sound =
            all_both (λ (m : Name). leb m.len most_name) (λ (m : Name). is_name (name_of_struct m)) (used_columns t)
            (sym (all_map (λ (m : Name). m.len) (λ (k : ℕ). leb k most_name) (used_columns t)) ∙ ap (all (λ (k : ℕ). leb k most_name)) A.column_lengths
            ∙ few_bytes ns (or_right (ltb most_name (length n)) _ long))
            (sym (all_map name_of_struct is_name (used_columns t)) ∙ ap (all is_name) A.columns_are ∙ and_right (is_name n) _ named);
        different = ap (repeats same_name) A.columns_are ∙ or_right (has (table_names others) n) _ P.fresh;
        fresh = ap (has (table_names others)) A.name_is ∙ or_left (has (table_names others) n) _ P.fresh;
        some_rows = subst (λ k. 1 ≤ k) (sym A.capacity_is) rows.0;
        few_rows = subst (λ k. k ≤ most_rows) (sym A.capacity_is) rows.1;
      })

  sentence-table : (s : Sentence) → Passes others s → is_create (statement_of others s) ≡ true → AgreesTable t (created (statement_of others s)) → sound_table others t ≡ true
  unfolding statement_of
  sentence-table (G.table n cs ring z) P a A = create-table n cs ring z P A
  sentence-table (G.select cs n w) P a A = clash a refl
  sentence-table (G.pair cs n m w) P a A = clash a refl
  sentence-table (G.insert n vs) P a A = clash a refl
  sentence-table (G.update n ss w) P a A = clash a refl
  sentence-table (G.delete n w) P a A = clash a refl

  pub source-table : FromTable others t → sound_table others t ≡ true
  source-table S =
      sentence-table S.sentence S.passes (ap is_create S.says) (subst (λ r. AgreesTable t (created r)) (sym S.says) S.agrees)

-- a table passes the test exactly if it is the compiled form of a sentence that passes
pub table_sound : (others : List Schema) (t : Table) → TableStructFits t → (sound_table others t ≡ true) ↔ FromTable others t
table_sound others t F = ((λ h. table-source others t F (table-parts others t h)), source-table others t)
