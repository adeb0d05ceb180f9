-- Statements put together of their parts: what the functions of the six forms make, from what those that they call make. Assumes nothing.
use mathlib.Core.Path.{◌≡◌, refl, sym, ap, ap₂, subst, ◌∙◌}
use mathlib.Core.Bool.{Bool, true, false, not, ◌&&◌, ◌||◌, cond}
use mathlib.Core.List.{List, [], ◌∷◌, map}
use Prim.Native.Nat.{ℕ, zero, suc, ◌+◌, ◌-◌, ◌*◌, ◌≤◌, ◌<◌}
use native.Mathlib.Nat.{le_of_suc-le-suc, not-suc-le-zero}
use native.Mathlib.Numerals.{add-one}
use native.Mathlib.Omega.{arith}
use borrow.Author.Tests.{ltb-true}
use lib.Dec.{eqb, ltb, leb}
use lib.ListN.{length, get_or, take, replicate, length-map}
use lib.Seq.{take_at}
use Rattle.lists.specs.Lists.{repeats, from}
use Rattle.meaning.specs.Grammar.{Given}
use Rattle.meaning.specs.Limits.{mark_count}
use Rattle.meaning.specs.Names.{Schema, no_schema, same_name, has, position, table_names, columns_of, pair_place}
use Rattle.meaning.specs.Cells.{areas_size}
use Rattle.statement.specs.declared.Name.{Name}
use Rattle.statement.specs.declared.Table.{Table}
use Rattle.statement.specs.declared.Condition.{Condition}
use Rattle.statement.specs.declared.Setting.{Setting}
use Rattle.statement.specs.Compiled.{Compiled, padded, name_struct, no_name, no_setting, condition_struct, compiled_table, compiled_query, compiled_update, compiled_refusal, compiled_by}
use Rattle.statement.specs.declared.sentences.Form.{Form}
use Rattle.statement.specs.declared.sentences.Form.TheVariants.{Pair}
use Rattle.statement.specs.declared.sentences.Entry.{Entry}
use Rattle.statement.specs.declared.sentences.Item.{Item}
use Rattle.statement.specs.declared.names.Found.{Found}
use Rattle.statement.specs.declared.conditions.Node.{Node}
use Rattle.statement.specs.declared.assembling.Settings.{Settings}
use Rattle.statement.specs.Private.Places.{name_on, given_on, Column, column_on, bare_marks_on}
use Rattle.statement.specs.Private.Sentences.{givens_on}
use Rattle.statement.specs.Catalog.{name_of_struct, names_of, schema_of}
use Rattle.statement.specs.Private.Built.{column_names, lowest_by, places_of, table_number, Finds, short_name, short_column, columns_on, rows_on, settings_on, outer_in, condition_below, places_below, Fits, condition_on, unknown_on, table_on, select_on, insert_on, sets_on, update_on, delete_on, form_as, form_on, number_on, pair_with, pair_on, beside_as, beside_on}
use Rattle.statement.proofs.Values.{name_back}
use Rattle.statement.proofs.Parts.{mark-one}
use Rattle.statement.proofs.Sets.{marks-count}
use Rattle.std.proofs.Common.{Option as Maybe, Some, None}
use Rattle.meaning.proofs.Names.{same-is}

-- ---- arrays read back

pub take-padded : {A : Type 0} (n : ℕ) (d : A) (xs : List A) (k : ℕ) → length xs ≡ k → take k (padded n d xs) ≡ xs
take-padded n d xs k e = take_at xs (replicate (n - length xs) d) k e

names-back : (xs : List (List ℕ)) → map name_of_struct (map name_struct xs) ≡ xs
names-back [] = refl
names-back (x ∷ xs) = ap₂ ◌∷◌ (name_back x) (names-back xs)

names-of : (xs : List (List ℕ)) (n : ℕ) → length xs ≡ n → names_of (padded 8 no_name (map name_struct xs)) n ≡ xs
names-of xs n e = ap (map name_of_struct) (take-padded 8 no_name (map name_struct xs) n (length-map xs name_struct ∙ e)) ∙ names-back xs

-- no more marks than values
pub marks_few : (vs : List Given) → mark_count vs ≤ length vs
marks_few [] = omega arith
marks_few (v ∷ vs) = omega (arith, mark-one v, marks_few vs)

-- ---- the list of a sentence

module _ (d : Bool) (s : List ℕ) (ls : List Item) where
  pub listed-count : length (columns_on d s ls) ≡ length ls
  listed-count = length-map (map (λ (i : Item). column_on d s i.name) ls) (short_column d) ∙ length-map ls (λ (i : Item). column_on d s i.name)

  -- the places of its columns, in an array
  pub places-first : (place : Column d → ℕ) (at : List ℕ) → at ≡ padded 8 0 (map place (columns_on d s ls)) → take (length ls) at ≡ map place (columns_on d s ls)
  places-first place at h = ap (take (length ls)) h ∙ take-padded 8 0 (map place (columns_on d s ls)) (length ls) (length-map (columns_on d s ls) place ∙ listed-count)

module _ (s : List ℕ) (ls : List Item) where
  pub sets-few : length ls ≤ 8 → (cs : List ℕ) → (settings_on cs (givens_on s ls)).marks ≤ 8
  sets-few h cs = omega (arith, marks_few (givens_on s ls), length-map ls (λ (i : Item). given_on s i.value))

  module _ (columns : List (List ℕ)) (names : List Name) (en : names ≡ padded 8 no_name (map name_struct (columns_on false s ls))) where
    pub names-are : map name_of_struct (take (length ls) names) ≡ columns_on false s ls
    names-are = ap (λ (x : List Name). map name_of_struct (take (length ls) x)) en ∙ names-of (columns_on false s ls) (length ls) (listed-count false s ls)

    pub places-are : (at : List ℕ) → at ≡ padded 8 0 (places_of columns (map name_of_struct (take (length ls) names))) → at ≡ padded 8 0 (places_of columns (columns_on false s ls))
    places-are at ea = ea ∙ ap (λ (x : List (List ℕ)). padded 8 0 (places_of columns x)) names-are

-- and how many marks its comparisons have
pub marks-few-noted : (s : List ℕ) (ls : List Item) (ps : List Node) (e : Entry) → Fits s ls ps e → length (bare_marks_on ps) ≤ 8
marks-few-noted s ls ps e f = omega (arith, marks-count false s ps, f.comparisons false)

-- ---- the forms

module _ (d : Bool) (place : Column d → ℕ) (width : ℕ) (s : List ℕ) (ls : List Item) (ps : List Node) (e : Entry) (i second start : ℕ) (twice : Bool) where
  pub select-made : (queries : ℕ) (at : List ℕ) (c : Condition) (w : ℕ) (t : Bool) (k o number : ℕ) (r : Compiled)
      → at ≡ padded 8 0 (map place (columns_on d s ls)) → c ≡ condition_on d place s ps 0 → w ≡ width → t ≡ twice → k ≡ start → o ≡ outer_in d ps
      → number ≡ lowest_by (not (places_below w (take (length ls) at) && condition_below w c)) false false t (leb 16 queries)
      → r ≡ compiled_by number (compiled_query (record { table = i; selected = at; count = length ls; parameters = e.c.marks; second = second; start = k; outer = o; condition = c }))
      → r ≡ select_on d place width s ls ps e i second start twice queries
  unfolding select_on
  select-made queries at c w t k o number r ea ec ew et ek eo em er =
      let p : take (length ls) at ≡ map place (columns_on d s ls) = places-first d s ls place at ea in
      er
      ∙ (λ j. compiled_by
      ((em ∙ (λ x. lowest_by (not (places_below (ew x) (p x) && condition_below (ew x) (ec x))) false false (et x) (leb 16 queries))) j)
      (compiled_query (record { table = i; selected = ea j; count = length ls; parameters = e.c.marks; second = second; start = ek j; outer = eo j; condition = ec j })))

module _ (s : List ℕ) (ls : List Item) (ps : List Node) (e : Entry) (columns : List (List ℕ)) (i : ℕ) where
  pub update-made : (updates : ℕ) (names : List Name) (at : List ℕ) (sets : Settings) (settings : List Setting) (c : Condition) (w : ℕ) (twice : Bool) (number : ℕ) (r : Compiled)
      → names ≡ padded 8 no_name (map name_struct (columns_on false s ls)) → at ≡ padded 8 0 (places_of columns (map name_of_struct (take (length ls) names)))
      → sets ≡ settings_on (take (length ls) at) (givens_on s ls) → settings ≡ sets.all
      → c ≡ condition_on false (position columns) s ps sets.marks → w ≡ length columns → twice ≡ repeats same_name (map name_of_struct (take (length ls) names))
      → number ≡ lowest_by (not (places_below w (take (length ls) at) && condition_below w c)) twice false false (leb 16 updates)
      → r ≡ compiled_by number (compiled_update (record { form = 1; table = i; settings = settings; count = length ls; parameters = e.c.marks; condition = c }))
      → r ≡ update_on s ls ps e columns i updates
  unfolding update_on
  update-made updates names at sets settings c w twice number r en ea es el ec ew et em er =
      let p : take (length ls) at ≡ places_of columns (columns_on false s ls) = places-first false s ls (position columns) at (places-are s ls columns names en at ea) in
      let x : sets ≡ sets_on s ls columns = es ∙ ap (λ (y : List ℕ). settings_on y (givens_on s ls)) p in
      let q : settings ≡ (sets_on s ls columns).all = el ∙ ap (λ (y : Settings). y.all) x in
      let d : c ≡ condition_on false (position columns) s ps (sets_on s ls columns).marks = ec ∙ ap (λ (y : Settings). condition_on false (position columns) s ps y.marks) x in
      let t : twice ≡ repeats same_name (columns_on false s ls) = et ∙ ap (repeats same_name) (names-are s ls columns names en) in
      er
      ∙ (λ j. compiled_by
      ((em ∙ (λ y. lowest_by (not (places_below (ew y) (p y) && condition_below (ew y) (d y))) (t y) false false (leb 16 updates))) j)
      (compiled_update (record { form = 1; table = i; settings = q j; count = length ls; parameters = e.c.marks; condition = d j })))

module _ (s : List ℕ) (ls : List Item) (e : Entry) (columns : List (List ℕ)) (i : ℕ) where
  pub insert-made : (updates : ℕ) (sets : Settings) (settings : List Setting) (c : Condition) (w number : ℕ) (r : Compiled)
      → sets ≡ settings_on (take (length ls) (from 0 8)) (givens_on s ls) → settings ≡ sets.all → c ≡ condition_struct [] → w ≡ length columns
      → number ≡ lowest_by false false (not (eqb (length ls) w)) false (leb 16 updates)
      → r ≡ compiled_by number (compiled_update (record { form = 0; table = i; settings = settings; count = length ls; parameters = e.c.marks; condition = c }))
      → r ≡ insert_on s ls e columns i updates
  unfolding insert_on
  insert-made updates sets settings c w number r es ea ec ew em er =
      let q : settings ≡ (settings_on (take (length ls) (from 0 8)) (givens_on s ls)).all = ea ∙ ap (λ (x : Settings). x.all) es in
      let m : number ≡ lowest_by false false (not (eqb (length ls) (length columns))) false (leb 16 updates) =
      em ∙ ap (λ (k : ℕ). lowest_by false false (not (eqb (length ls) k)) false (leb 16 updates)) ew in
      er ∙ λ j. compiled_by (m j) (compiled_update (record { form = 0; table = i; settings = q j; count = length ls; parameters = e.c.marks; condition = ec j }))

module _ (s : List ℕ) (ps : List Node) (e : Entry) (columns : List (List ℕ)) (i : ℕ) where
  pub delete-made : (updates : ℕ) (c : Condition) (settings : List Setting) (w number : ℕ) (r : Compiled)
      → c ≡ condition_on false (position columns) s ps 0 → settings ≡ replicate 8 no_setting → w ≡ length columns
      → number ≡ lowest_by (not (places_below w [] && condition_below w c)) false false false (leb 16 updates)
      → r ≡ compiled_by number (compiled_update (record { form = 2; table = i; settings = settings; count = 0; parameters = e.c.marks; condition = c }))
      → r ≡ delete_on s ps e columns i updates
  unfolding delete_on
  delete-made updates c settings w number r ec es ew em er =
      let m : number ≡ lowest_by (unknown_on (length columns) [] (condition_on false (position columns) s ps 0)) false false false (leb 16 updates) =
      em ∙ ap₂ (λ (k : ℕ) (x : Condition). lowest_by (not (places_below k [] && condition_below k x)) false false false (leb 16 updates)) ew ec in
      er ∙ λ j. compiled_by (m j) (compiled_update (record { form = 2; table = i; settings = es j; count = 0; parameters = e.c.marks; condition = ec j }))

module _ (s : List ℕ) (ls : List Item) (place rows : ℕ) (ring : Bool) (ts : List Schema) (cells : ℕ) where
  pub table-made : (name : Name) (columns : List Name) (capacity : ℕ) (taken full : Bool) (size number : ℕ) (r : Compiled)
      → name ≡ name_struct (short_name (name_on s place)) → columns ≡ padded 8 no_name (map name_struct (columns_on false s ls)) → capacity ≡ rows_on s rows
      → taken ≡ (has (table_names ts) (name_of_struct name) || repeats same_name (map name_of_struct (take (length ls) columns)))
      → size ≡ length ls * capacity → full ≡ (leb 8 (length ts) || ltb (cells - areas_size ts) size)
      → number ≡ lowest_by false taken false false full
      → r ≡ compiled_by number (compiled_table (record { name = name; columns = columns; count = length ls; capacity = capacity; rows = 0; oldest = 0; ring = ring }))
      → r ≡ table_on s ls place rows ring ts cells
  unfolding table_on
  table-made name columns capacity taken full size number r ea ec ek et ez ef em er =
      let n : name_of_struct name ≡ short_name (name_on s place) = ap name_of_struct ea ∙ name_back (short_name (name_on s place)) in
      let t : taken ≡ (has (table_names ts) (short_name (name_on s place)) || repeats same_name (columns_on false s ls)) =
      et ∙ ap₂ (λ (x : List ℕ) (xs : List (List ℕ)). has (table_names ts) x || repeats same_name xs) n (names-are s ls [] columns ec) in
      let f : full ≡ (leb 8 (length ts) || ltb (cells - areas_size ts) (length ls * rows_on s rows)) =
      ef ∙ ap (λ (k : ℕ). leb 8 (length ts) || ltb (cells - areas_size ts) k) (ez ∙ ap (λ (k : ℕ). length ls * k) ek) in
      let c : length ls ≡ length (columns_on false s ls) = sym (listed-count false s ls) in
      er ∙ λ j. compiled_by ((em ∙ ap₂ (λ (x y : Bool). lowest_by false x false false y) t f) j)
      (compiled_table (record { name = ea j; columns = ec j; count = c j; capacity = ek j; rows = 0; oldest = 0; ring = ring }))

-- ---- the table of a sentence

get_or-inside : {A B : Type 0} (f : A → B) (l : List A) (i : ℕ) (d : A) (x : B) → i < length l → get_or (map f l) i x ≡ f (get_or l i d)
get_or-inside f [] i d x h = absurd (not-suc-le-zero h)
get_or-inside f (a ∷ l) zero d x h = refl
get_or-inside f (a ∷ l) (suc i) d x h = get_or-inside f l i d x (le_of_suc-le-suc h)

-- a name stands at its place
at-position : (ns : List (List ℕ)) (n : List ℕ) → position ns n < length ns → get_or ns (position ns n) [] ≡ n
at-position [] n h = absurd (not-suc-le-zero h)
at-position (m ∷ ns) n h = go (same_name n m) refl (at-position ns n) h
  where
    go : (b : Bool) → same_name n m ≡ b → (position ns n < length ns → get_or ns (position ns n) [] ≡ n) → cond b 0 (suc (position ns n)) < suc (length ns)
        → get_or (m ∷ ns) (cond b 0 (suc (position ns n))) [] ≡ n
    go true e f k = sym (same-is n m e)
    go false e f k = f (le_of_suc-le-suc k)

-- what a lookup says: the number that was found, or none
number-some : (b : Bool) (j i : ℕ) → cond b (Some j) None ≡ Some i → (b ≡ true) × (i ≡ j)
number-some true j i e = (refl, cc)
number-some false j i e = cc

number-none : (b : Bool) (j : ℕ) → cond b (Some j) None ≡ None → b ≡ false
number-none true j e = cc
number-none false j e = refl

-- what is read past the end of the tables
abbrev blank : Table
blank = record { name = record { bytes = []; len = 0 }; columns = []; count = 0; capacity = 0; rows = 0; oldest = 0; ring = false }

-- the tables, and the one that the text names at p
module _ (s : List ℕ) (p : ℕ) (tables : List Table) (name : Name) (en : name ≡ name_struct (short_name (name_on s p))) where
  abbrev S : List Schema
  S = map schema_of tables

  abbrev j : ℕ
  j = number_on s p S

  name_is : name_of_struct name ≡ short_name (name_on s p)
  name_is = ap name_of_struct en ∙ name_back (short_name (name_on s p))

  number_is : table_number S (name_of_struct name) ≡ cond (ltb j (length S)) (Some j) None
  number_is = ap (table_number S) name_is

  pub none-there : (o : Maybe Found) → Finds tables (name_of_struct name) o → o ≡ None → ltb j (length S) ≡ false
  none-there None f e = number-none (ltb j (length S)) j (sym number_is ∙ f)
  none-there (Some x) f e = absurd (cc)

  module _ (o : Maybe Found) (fo : Finds tables (name_of_struct name) o) (x : Found) (ex : o ≡ Some x) where
    found : Finds tables (name_of_struct name) (Some x)
    found = subst (Finds tables (name_of_struct name)) ex fo

    abbrev i : ℕ
    i = x.number

    pub one-there : ltb j (length S) ≡ true
    one-there = (number-some (ltb j (length S)) j i (sym number_is ∙ found.0)).0

    pub one-number : i ≡ j
    one-number = (number-some (ltb j (length S)) j i (sym number_is ∙ found.0)).1

    inside : j < length S
    inside = ltb-true j (length S) one-there

    pub one-inside : i < length tables
    one-inside = omega (arith, inside, one-number, length-map tables schema_of)

    pub one-columns : column_names x.table.now ≡ columns_of S (short_name (name_on s p))
    one-columns =
        ap column_names (found.1 blank)
        ∙ ap (λ (t : Schema). t.columns) (sym (get_or-inside schema_of tables i blank no_schema one-inside) ∙ ap (λ (n : ℕ). get_or S n no_schema) one-number)

    named : (d : Table) → name_of_struct (get_or tables i d).name ≡ short_name (name_on s p)
    named d =
        let l : length (table_names S) ≡ length S = length-map S (λ (t : Schema). t.name) in
        let q : get_or (table_names S) i [] ≡ name_of_struct (get_or tables i d).name =
        get_or-inside (λ (t : Schema). t.name) S i no_schema [] (omega (arith, inside, one-number)) ∙ ap (λ (t : Schema). t.name) (get_or-inside schema_of tables i d no_schema one-inside) in
        sym q ∙ ap (λ (k : ℕ). get_or (table_names S) k []) one-number ∙ at-position (table_names S) (short_name (name_on s p)) (omega (arith, inside, l))

    pub one-name : name_of_struct x.table.now.name ≡ short_name (name_on s p)
    one-name = ap (λ (t : Table). name_of_struct t.name) (found.1 blank) ∙ named blank

module _ (s : List ℕ) (ls : List Item) (ps : List Node) (e : Entry) (ts : List Schema) (queries updates : ℕ) where
  abbrev name : List ℕ
  name = short_name (name_on s e.table)

  abbrev first : ℕ
  first = number_on s e.table ts

  pub beside-none : (r : Compiled) → ltb first (length ts) ≡ false → r ≡ compiled_refusal 6 → r ≡ beside_on s ls ps e ts queries updates
  beside-none r h q = rw h q

  module _ (t : Table) (i : ℕ) (h : ltb first (length ts) ≡ true) (k : i ≡ first) (c : column_names t ≡ columns_of ts name) where
    there : beside_as e.form name s ls ps e ts queries updates ≡ beside_on s ls ps e ts queries updates
    there = sym (ap (λ (b : Bool). cond b (beside_as e.form name s ls ps e ts queries updates) (compiled_refusal 6)) h)

    pub beside-some : (r : Compiled) → r ≡ form_on s ls ps e (column_names t) i queries updates → ((p : ℕ) → e.form ≡ Pair p → ⊥) → r ≡ beside_on s ls ps e ts queries updates
    beside-some r q x = q ∙ ap₂ (λ (y : List (List ℕ)) (m : ℕ). form_on s ls ps e y m queries updates) c k ∙ go e.form x ∙ there
      where
        go : (f : Form) → ((p : ℕ) → f ≡ Pair p → ⊥) → form_as f s ls ps e (columns_of ts name) first queries updates ≡ beside_as f name s ls ps e ts queries updates
        go (Pair p) x = absurd (x p refl)
        go _ x = refl

    pub beside-pair : (r : Compiled) (second : ℕ) → r ≡ pair_on (name_of_struct t.name) (column_names t) second s ls ps e ts i queries → e.form ≡ Pair second → name_of_struct t.name ≡ name
        → r ≡ beside_on s ls ps e ts queries updates
    beside-pair r second q x n =
        q ∙ (λ y. pair_on (n y) (c y) second s ls ps e ts (k y) queries) ∙ sym (ap (λ (f : Form). beside_as f name s ls ps e ts queries updates) x) ∙ there

-- the second table
module _ (s : List ℕ) (ls : List Item) (ps : List Node) (e : Entry) (ts : List Schema) (queries : ℕ) (t : Table) (p i : ℕ) where
  abbrev second : ℕ
  second = number_on s p ts

  abbrev goal : Compiled
  goal = pair_on (name_of_struct t.name) (column_names t) p s ls ps e ts i queries

  pub pair-none : (r : Compiled) → ltb second (length ts) ≡ false → r ≡ compiled_refusal 6 → r ≡ goal
  pair-none r h q = rw h q

  pub pair-some : (r : Compiled) (u : Table) (j k : ℕ)
      → r ≡ select_on true (pair_place (name_of_struct t.name) (column_names t) (name_of_struct u.name) (column_names u)) (length (column_names t) + length (column_names u)) s ls ps e i k (length (column_names t)) (same_name (name_of_struct t.name) (name_of_struct u.name)) queries
      → k ≡ j + 1 → ltb second (length ts) ≡ true → j ≡ second → column_names u ≡ columns_of ts (short_name (name_on s p)) → name_of_struct u.name ≡ short_name (name_on s p)
      → r ≡ goal
  pair-some r u j k q g h m c n =
      let z : k ≡ suc j = g ∙ add-one j in
      rw h
      (q
      ∙ ap (λ (y : ℕ). select_on true (pair_place (name_of_struct t.name) (column_names t) (name_of_struct u.name) (column_names u)) (length (column_names t) + length (column_names u)) s ls ps e i y (length (column_names t)) (same_name (name_of_struct t.name) (name_of_struct u.name)) queries) z
      ∙ (λ y. pair_with (name_of_struct t.name) (column_names t) (n y) (c y) s ls ps e i (m y) queries))
