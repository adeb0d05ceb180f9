-- What is made of a sentence as it was read is what its text compiles to. Assumes nothing.
use mathlib.Core.Path.{◌≡◌, refl, sym, ap, ap₂, subst, ◌∙◌}
use mathlib.Core.Bool.{Bool, true, false, not, ◌||◌, cond}
use mathlib.Core.Option.{Option, none, some}
use mathlib.Core.List.{List, [], ◌∷◌, ◌++◌, map}
use Prim.Native.Nat.{ℕ, suc, ◌+◌, ◌*◌, ◌/◌, ◌≤◌, ◌<◌}
use native.Mathlib.Omega.{arith}
use borrow.Author.Tests.{lt-ltb, le-ltb, ltb-false}
use lib.Dec.{eqb, ltb, leb}
use lib.IntN.{ℤ, nat_abs}
use lib.ListN.{length, take, length-map, length-take}
use Rattle.lists.specs.Lists.{any, repeats, from}
use Rattle.lists.proofs.Bools.{or_left, or_right, clash}
use Rattle.meaning.specs.Condition.{Optional, Where, always, under, mapped_in, comparisons_in, operands_in}
use Rattle.std.specs.Prelude.{Some, None}
use Rattle.meaning.specs.Postfix as M
use Rattle.meaning.specs.Postfix.{nodes_in, leaves, outer_marks_in}
use Rattle.meaning.specs.Tokens as T
use Rattle.meaning.specs.Tokens.{Name}
use Rattle.meaning.specs.Grammar.{Given, Term, Test, comparison, Dotted, Listed, items, Sentence, table, select, pair, insert, update, delete}
use Rattle.meaning.specs.Reader.{sentence}
use Rattle.meaning.specs.Limits.{too_long, table_named, where_of, term_columns, term_givens, outside32, mark_count, past_limit}
use Rattle.meaning.specs.Names.{Schema, same_name, has, position, table_names, columns_of, missing, is_of, pair_place, pair_missing, unknown_name, taken, miscounted, twice}
use Rattle.meaning.specs.Statement.{settings, setting_marks, numbered_all, resolved_where, statement_of}
use Rattle.meaning.specs.Refusals.{Catalog, no_place, text_conditions, or_else, lowest_of}
use Rattle.meaning.specs.Private.Walk.{resolve_nodes}
use Rattle.meaning.proofs.Postfix.{sides-in, leaves_in, nodes-count, few_nodes}
use Rattle.meaning.proofs.Outer.{marks-resolved}
use Rattle.meaning.proofs.Resolve.{resolve-where}
use Rattle.token.specs.Tokens.{kind_of}
use Rattle.meaning.specs.Pattern.{placed_from}
use Rattle.statement.specs.declared.Table.{Table}
use Rattle.statement.specs.Compiled.{Compiled, padded, table_struct, no_setting, step_of, condition_struct, marks_number, setting_struct, compiled_table, compiled_query, compiled_update, compiled_refusal, struct_of, struct_of_text, compiled_by, compiled_of}
use Rattle.statement.specs.declared.sentences.Form.TheVariants.{Table as TABLE, Select, Insert, Update, Delete, Pair}
use Rattle.statement.specs.declared.sentences.Entry.{Entry}
use Rattle.statement.specs.declared.sentences.Form.{Form}
use Rattle.statement.specs.declared.sentences.Item.{Item}
use Rattle.statement.specs.declared.conditions.Node.{Node}
use Rattle.statement.specs.Private.Places.{token_on, name_on, given_on, Column, column_on, node_on, nodes_on, bare_marks_on}
use Rattle.statement.specs.Private.Sentences.{givens_on, over_on, bare_marks_in, FormIs, NodesAt, Entered, Noted}
use Rattle.statement.specs.Catalog.{schemas_of, catalog}
use Rattle.statement.specs.Private.Built.{lowest_by, places_of, short_name, short_column, short_nodes, kept_on, short_given, rows_as, rows_on, settings_from, last_of, outer_by, outer_on, columns_on, Fits, condition_on, unknown_on, table_on, select_on, insert_on, sets_on, update_on, delete_on, pair_with, pair_on, beside_as, beside_on}
use Rattle.statement.proofs.Found.{has-ltb}
use Rattle.statement.proofs.Sets.{steps-noted, leaves-any}
use Rattle.statement.proofs.Outer.{outer-in}
use Rattle.statement.proofs.Limited.{is_long, is_long_dotted, inside-rows, short-table, short-listed, short-tested, within-listed, within-tested, short-second, dotted-listed, dotted-tested, dotted-within, whole-name, whole-dotted, whole-columns, whole-givens, whole-nodes, whole-rows}
use Rattle.statement.proofs.Known.{name_below, dotted-below, unknown-is, settings_are, settings-count, placed-are, placed-count}

-- ---- the catalog

module _ (tables : List Table) (used queries updates cells : ℕ) where
  abbrev store : Catalog
  store = catalog tables used queries updates cells

-- ---- a sentence that was read, within the limits

-- the comparisons of a condition, from its nodes
compared : {O : Type 0} (w : Where O) → (length (nodes_in w) + 1) / 2 ≡ length (comparisons_in w)
compared always = refl
compared (under t) = omega (arith, nodes-count true t)

module _ (s : List ℕ) (ps : List Node) (few : length ps ≤ 15) where
  none-noted : length ps ≡ 0 → (b : Bool) → length (leaves (nodes_on b s ps)) ≤ 8
  none-noted h b = go ps h
    where
      go : (ns : List Node) → length ns ≡ 0 → length (leaves (nodes_on b s ns)) ≤ 8
      go [] e = omega arith
      go (n ∷ ns) e = absurd (omega arith)

  few-noted : (d : Bool) (w : Where (Term (Column d))) → nodes_on d s ps ≡ nodes_in w → (b : Bool) → length (leaves (nodes_on b s ps)) ≤ 8
  few-noted d w q b =
      let k : length (nodes_in w) ≤ 15 = omega (arith, ap length q, length-map ps (node_on d s)) in
      omega (arith, leaves-any b d s ps, ap (λ (ns : List (M.Node (Term (Column d)))). length (leaves ns)) q, leaves_in w, (few_nodes w).0 k)

module _ (s : List ℕ) (items : List Item) (nodes : List Node) (e : Entry) (x : Sentence) (E : Entered s items nodes e x) (h : over_on e ≡ false) where
  abbrev noted : List Node
  noted = take e.c.nodes nodes

  listed-few : e.listed ≤ 8
  listed-few = ltb-false 8 e.listed (or_left (ltb 8 e.listed) _ (or_right e.c.over _ h))

  marked : (ltb 8 e.c.marks || ltb 8 ((e.c.nodes + 1) / 2)) ≡ false
  marked = or_right (ltb 8 e.listed) _ (or_right e.c.over _ h)

  nodes-few : e.c.nodes ≤ 15
  nodes-few =
      let k : (e.c.nodes + 1) / 2 ≤ 8 = ltb-false 8 ((e.c.nodes + 1) / 2) (or_right (ltb 8 e.c.marks) _ marked) in
      let l : length (comparisons_in (where_of x)) ≤ 8 = omega (arith, E.nodes_are, compared (where_of x)) in
      omega (arith, E.nodes_are, (few_nodes (where_of x)).1 l)

  noted-few : (b : Bool) → length (leaves (nodes_on b s noted)) ≤ 8
  noted-few = go x E.nodes_are (E.noted nodes-few)
    where
      l : length noted ≤ 15
      l = omega (arith, length-take e.c.nodes nodes, nodes-few)

      none : e.c.nodes ≡ 0 → (b : Bool) → length (leaves (nodes_on b s noted)) ≤ 8
      none z = none-noted s noted l (omega (arith, length-take e.c.nodes nodes, z))

      go : (x : Sentence) → e.c.nodes ≡ length (nodes_in (where_of x)) → NodesAt s noted x → (b : Bool) → length (leaves (nodes_on b s noted)) ≤ 8
      go (table t cs ring z) n q = none n
      go (select cs t w) n q = few-noted s noted l false (mapped_in comparison w) q
      go (pair cs t u w) n q = few-noted s noted l true (mapped_in comparison w) q
      go (insert t vs) n q = none n
      go (update t ss w) n q = few-noted s noted l false (mapped_in comparison w) q
      go (delete t w) n q = few-noted s noted l false (mapped_in comparison w) q

  pub fits_read : Fits s (take e.listed items) noted e
  fits_read = record {
    listed = omega (arith, length-take e.listed items, listed-few);
    marks = ltb-false 8 e.c.marks (or_left (ltb 8 e.c.marks) _ marked);
    nodes = omega (arith, length-take e.c.nodes nodes, nodes-few);
    comparisons = noted-few;
  }

-- ---- what was noted, kept whole

module _ (s : List ℕ) (x : Sentence) (w : past_limit x ≡ false) where
  table_kept : (p : ℕ) → name_on s p ≡ table_named x → short_name (name_on s p) ≡ table_named x
  table_kept p q = ap short_name q ∙ whole-name (table_named x) (short-table x w)

  nodes-kept : (ps : List Node) → nodes_on false s ps ≡ nodes_in (where_of x) → kept_on false s ps ≡ nodes_in (where_of x)
  nodes-kept ps q =
      ap (short_nodes (short_column false)) q
      ∙ whole-nodes (short_column false) is_long whole-name (nodes_in (where_of x))
      (ap (λ (os : List (Term Name)). any is_long (term_columns os)) (sides-in (where_of x)) ∙ short-tested x w)
      (ap (λ (os : List (Term Name)). any outside32 (term_givens os)) (sides-in (where_of x)) ∙ within-tested x w)

dotted-kept : (s : List ℕ) (ps : List Node) (cs : Listed Dotted) (t u : Name) (v : Optional (Test Dotted)) → past_limit (pair cs t u v) ≡ false
    → nodes_on true s ps ≡ nodes_in (mapped_in comparison v) → kept_on true s ps ≡ nodes_in (mapped_in comparison v)
dotted-kept s ps cs t u v w h =
    let q : Where (Term Dotted) = mapped_in comparison v in
    ap (short_nodes (short_column true)) h
    ∙ whole-nodes (short_column true) is_long_dotted whole-dotted (nodes_in q)
    (ap (λ (os : List (Term Dotted)). any is_long_dotted (term_columns os)) (sides-in q) ∙ dotted-tested cs t u v w)
    (ap (λ (os : List (Term Dotted)). any outside32 (term_givens os)) (sides-in q) ∙ dotted-within cs t u v w)

-- the marks of its outer comparisons
outer-kept : (s : List ℕ) (ps : List Node) (q : Where (Term Dotted)) → nodes_on true s ps ≡ nodes_in q → bare_marks_on ps ≡ bare_marks_in q
    → (place : Dotted → ℕ) → outer_on ps ≡ marks_number 0 (outer_marks_in (resolved_where place 0 q))
unfolding outer_on
outer-kept s ps q k b place =
    ap₂ (λ (ss : List ℕ) (bs : List Bool). outer_by (last_of 0 ss) (marks_number 0 bs)) (sym (steps-noted true s ps) ∙ ap (map step_of) k) b
    ∙ outer-in q
    ∙ ap (marks_number 0) (sym (marks-resolved place 0 q))

-- its condition, and whether its columns are known
module _ (d : Bool) (s : List ℕ) (ps : List Node) (q : Where (Term (Column d))) (k : kept_on d s ps ≡ nodes_in q) (place : Column d → ℕ) where
  condition-kept : (m : ℕ) → condition_on d place s ps m ≡ condition_struct (nodes_in (resolved_where place m q))
  condition-kept m = ap (λ (ns : List (M.Node (Term (Column d)))). condition_struct (resolve_nodes place m ns)) k ∙ ap condition_struct (sym (resolve-where place m q))

  unknown-kept : (width : ℕ) (lacks : Column d → Bool) → ((c : Column d) → ltb (place c) width ≡ not (lacks c)) → (cs : List (Column d)) (m : ℕ)
      → unknown_on width (map place cs) (condition_on d place s ps m) ≡ any lacks (cs ++ term_columns (operands_in q))
  unknown-kept width lacks inside cs m =
      ap (λ (ns : List (M.Node (Term (Column d)))). unknown_on width (map place cs) (condition_struct (resolve_nodes place m ns))) k
      ∙ unknown-is place width lacks inside cs m (nodes_in q)
      ∙ ap (λ (os : List (Term (Column d))). any lacks (cs ++ term_columns os)) (sides-in q)

-- ---- the forms

-- what a sentence gives beside tables: a refusal from 6 on, or its statement
abbrev decided : Catalog → Sentence → Compiled
decided c x = compiled_by (lowest_by (unknown_name c.tables x) (taken c.tables x) (miscounted c.tables x) (twice x) (no_place c x)) (struct_of (statement_of c.tables x))

abbrev is_table : Sentence → Bool
is_table (table t cs ring z) = true
is_table (select cs t w) = false
is_table (pair cs t u w) = false
is_table (insert t vs) = false
is_table (update t ss w) = false
is_table (delete t w) = false

-- the form that is noted is the sentence's
module _ (s : List ℕ) where
  is-select : (cs : Listed Name) (t : Name) (q : Optional (Test Name)) (f : Form) → FormIs s f (select cs t q) → f ≡ Select
  is-select cs t q Select h = refl
  is-select cs t q _ h = absurd h

  is-pair : (cs : Listed Dotted) (t u : Name) (q : Optional (Test Dotted)) (f : Form) → FormIs s f (pair cs t u q) → (p : ℕ) × (f ≡ Pair p) × (name_on s p ≡ u)
  is-pair cs t u q (Pair p) h = (p, refl, h)
  is-pair cs t u q _ h = absurd h

  is-insert : (t : Name) (vs : Listed Given) (f : Form) → FormIs s f (insert t vs) → f ≡ Insert
  is-insert t vs Insert h = refl
  is-insert t vs _ h = absurd h

  is-update : (t : Name) (ss : Listed (Name × Given)) (q : Optional (Test Name)) (f : Form) → FormIs s f (update t ss q) → f ≡ Update
  is-update t ss q Update h = refl
  is-update t ss q _ h = absurd h

  is-delete : (t : Name) (q : Optional (Test Name)) (f : Form) → FormIs s f (delete t q) → f ≡ Delete
  is-delete t q Delete h = refl
  is-delete t q _ h = absurd h

-- the members of a list that are there are as many as what is made of them
as-many : {A B : Type 0} (f : A → B) (ls : List A) {xs : List B} → map f ls ≡ xs → length ls ≡ length xs
as-many f ls q = sym (length-map ls f) ∙ ap length q

module _ (s : List ℕ) (noted_items : List Item) (noted_nodes : List Node) (e : Entry) (tables : List Table) (used queries updates cells : ℕ) (few : e.listed ≤ 8) where
  abbrev ls : List Item
  ls = take e.listed noted_items

  abbrev ps : List Node
  ps = take e.c.nodes noted_nodes

  abbrev P : Catalog
  P = store tables used queries updates cells

  abbrev S : List Schema
  S = P.tables

  table-compiles : (t : Name) (cs : Listed Name) (b : Bool) (z : ℤ) (rows : ℕ) (ring : Bool) → Entered s noted_items noted_nodes e (table t cs b z) → past_limit (table t cs b z) ≡ false
      → token_on s rows ≡ T.constant z → ring ≡ b → table_on s ls e.table rows ring S cells ≡ decided P (table t cs b z)
  unfolding table_on unknown_name taken miscounted twice no_place statement_of struct_of
  table-compiles t cs b z rows ring E w er eb =
      let x = table t cs b z in
      let n : short_name (name_on s e.table) ≡ t = table_kept s x w e.table E.table in
      let l : columns_on false s ls ≡ items cs = ap (map short_name) (E.names few) ∙ whole-columns short_name is_long whole-name (items cs) (short-listed x w) in
      let c : length ls ≡ length (items cs) = as-many (λ (i : Item). name_on s i.name) ls (E.names few) in
      let r : rows_on s rows ≡ nat_abs z = ap (λ (k : T.Token). rows_as (kind_of k)) er ∙ whole-rows z (inside-rows x w) in
      λ j. compiled_by
      (lowest_by false (has (table_names S) (n j) || repeats same_name (l j)) false false (leb 8 (length S) || ltb P.cells_left (c j * r j)))
      (compiled_table (table_struct (record { name = n j; columns = l j; capacity = r j; ring = eb j })))

  -- ---- of a table that is there

  module _ (t : Name) (known : has (table_names S) t ≡ true) (nodes : e.c.nodes ≤ 15) where
    abbrev C : List Name
    C = columns_of S t

    abbrev i : ℕ
    i = position (table_names S) t

    abbrev lacks : Name → Bool
    lacks c = not (has C c)

    missing-is : (cs : List Name) → any lacks cs ≡ missing S t cs
    missing-is cs = ap (λ (b : Bool). not b || any lacks cs) (sym known)

    select-compiles : (cs : Listed Name) (v : Optional (Test Name)) → Entered s noted_items noted_nodes e (select cs t v) → past_limit (select cs t v) ≡ false
        → select_on false (position C) (length C) s ls ps e i 0 0 false queries ≡ decided P (select cs t v)
    unfolding select_on unknown_name taken miscounted twice no_place statement_of struct_of
    select-compiles cs v E w =
        let x = select cs t v in
        let q : Where (Term Name) = mapped_in comparison v in
        let l : columns_on false s ls ≡ items cs = ap (map short_name) (E.names few) ∙ whole-columns short_name is_long whole-name (items cs) (short-listed x w) in
        let k : kept_on false s ps ≡ nodes_in q = nodes-kept s x w ps (E.noted nodes) in
        let u : unknown_on (length C) (places_of C (columns_on false s ls)) (condition_on false (position C) s ps 0) ≡ missing S t (items cs ++ term_columns (operands_in q)) =
        unknown-kept false s ps q k (position C) (length C) lacks (name_below C) (columns_on false s ls) 0
        ∙ ap (λ (ns : List Name). any lacks (ns ++ term_columns (operands_in q))) l
        ∙ missing-is (items cs ++ term_columns (operands_in q)) in
        let c : length ls ≡ length (map (position C) (items cs)) = as-many (λ (i : Item). name_on s i.name) ls (E.names few) ∙ sym (length-map (items cs) (position C)) in
        let d : condition_on false (position C) s ps 0 ≡ condition_struct (nodes_in (resolved_where (position C) 0 q)) = condition-kept false s ps q k (position C) 0 in
        λ j. compiled_by (lowest_by (u j) false false false (leb 16 queries))
        (compiled_query (record { table = i; selected = padded 8 0 (places_of C (l j)); count = c j; parameters = E.marks_are j; second = 0; start = 0; outer = 0; condition = d j }))

    insert-compiles : (vs : Listed Given) → Entered s noted_items noted_nodes e (insert t vs) → past_limit (insert t vs) ≡ false → insert_on s ls e C i updates ≡ decided P (insert t vs)
    unfolding insert_on unknown_name taken miscounted twice no_place statement_of struct_of
    insert-compiles vs E w =
        let x = insert t vs in
        let g : map short_given (givens_on s ls) ≡ items vs = ap (map short_given) (E.givens few) ∙ whole-givens (items vs) (within-listed x w) in
        let h : length ls ≡ length (items vs) = as-many (λ (i : Item). given_on s i.value) ls (E.givens few) in
        let n : length (items vs) ≤ 8 = omega (arith, h, length-take e.listed noted_items, few) in
        let a : settings_from 0 (take (length ls) (from 0 8)) (map short_given (givens_on s ls)) ≡ map setting_struct (placed_from 0 (numbered_all 0 (items vs))) =
        ap₂ (λ (k : ℕ) (v : List Given). settings_from 0 (take k (from 0 8)) v) h g ∙ placed-are 0 0 8 (items vs) n in
        let u : false ≡ missing S t [] = missing-is [] in
        let c : length ls ≡ length (placed_from 0 (numbered_all 0 (items vs))) = h ∙ sym (placed-count 0 0 (items vs)) in
        λ j. compiled_by (lowest_by (u j) false (not (eqb (h j) (length C))) false (leb 16 updates))
        (compiled_update (record { form = 0; table = i; settings = padded 8 no_setting (a j); count = c j; parameters = E.marks_are j; condition = condition_struct [] }))

    update-compiles : (ss : Listed (Name × Given)) (v : Optional (Test Name)) → Entered s noted_items noted_nodes e (update t ss v) → past_limit (update t ss v) ≡ false
        → update_on s ls ps e C i updates ≡ decided P (update t ss v)
    unfolding update_on unknown_name taken miscounted twice no_place statement_of struct_of
    update-compiles ss v E w =
        let x = update t ss v in
        let q : Where (Term Name) = mapped_in comparison v in
        let names = map (λ (p : Name × Given). p.0) (items ss) in
        let values = map (λ (p : Name × Given). p.1) (items ss) in
        let l : columns_on false s ls ≡ names = ap (map short_name) (E.names few) ∙ whole-columns short_name is_long whole-name names (short-listed x w) in
        let k : kept_on false s ps ≡ nodes_in q = nodes-kept s x w ps (E.noted nodes) in
        let g : map short_given (givens_on s ls) ≡ values = ap (map short_given) (E.givens few) ∙ whole-givens values (within-listed x w) in
        let m : (sets_on s ls C).marks ≡ setting_marks (items ss) = ap mark_count (E.givens few) in
        let a : settings_from 0 (places_of C (columns_on false s ls)) (map short_given (givens_on s ls)) ≡ map setting_struct (settings C 0 (items ss)) =
        ap₂ (λ (ns : List Name) (v : List Given). settings_from 0 (places_of C ns) v) l g ∙ settings_are C 0 (items ss) in
        let u : unknown_on (length C) (places_of C (columns_on false s ls)) (condition_on false (position C) s ps (sets_on s ls C).marks) ≡ missing S t (names ++ term_columns (operands_in q)) =
        unknown-kept false s ps q k (position C) (length C) lacks (name_below C) (columns_on false s ls) (sets_on s ls C).marks
        ∙ ap (λ (ns : List Name). any lacks (ns ++ term_columns (operands_in q))) l
        ∙ missing-is (names ++ term_columns (operands_in q)) in
        let c : length ls ≡ length (settings C 0 (items ss)) = as-many (λ (i : Item). name_on s i.name) ls (E.names few) ∙ length-map (items ss) (λ (p : Name × Given). p.0) ∙ sym (settings-count C 0 (items ss)) in
        let d : condition_on false (position C) s ps (sets_on s ls C).marks ≡ condition_struct (nodes_in (resolved_where (position C) (setting_marks (items ss)) q)) =
        condition-kept false s ps q k (position C) (sets_on s ls C).marks ∙ ap (λ (n : ℕ). condition_struct (nodes_in (resolved_where (position C) n q))) m in
        λ j. compiled_by (lowest_by (u j) (repeats same_name (l j)) false false (leb 16 updates))
        (compiled_update (record { form = 1; table = i; settings = padded 8 no_setting (a j); count = c j; parameters = E.marks_are j; condition = d j }))

    delete-compiles : (v : Optional (Test Name)) → Entered s noted_items noted_nodes e (delete t v) → past_limit (delete t v) ≡ false → delete_on s ps e C i updates ≡ decided P (delete t v)
    unfolding delete_on unknown_name taken miscounted twice no_place statement_of struct_of
    delete-compiles v E w =
        let x = delete t v in
        let q : Where (Term Name) = mapped_in comparison v in
        let k : kept_on false s ps ≡ nodes_in q = nodes-kept s x w ps (E.noted nodes) in
        let u : unknown_on (length C) [] (condition_on false (position C) s ps 0) ≡ missing S t (term_columns (operands_in q)) =
        unknown-kept false s ps q k (position C) (length C) lacks (name_below C) [] 0 ∙ missing-is (term_columns (operands_in q)) in
        let d : condition_on false (position C) s ps 0 ≡ condition_struct (nodes_in (resolved_where (position C) 0 q)) = condition-kept false s ps q k (position C) 0 in
        λ j. compiled_by (lowest_by (u j) false false false (leb 16 updates))
        (compiled_update (record { form = 2; table = i; settings = padded 8 no_setting []; count = 0; parameters = E.marks_are j; condition = d j }))

    -- ---- of two tables

    module _ (u : Name) (cs : Listed Dotted) (v : Optional (Test Dotted)) (E : Entered s noted_items noted_nodes e (pair cs t u v)) (w : past_limit (pair cs t u v) ≡ false) where
      abbrev D : List Name
      D = columns_of S u

      abbrev place : Dotted → ℕ
      place = pair_place t C u D

      abbrev lacks_both : Dotted → Bool
      lacks_both c = not (is_of t C c || is_of u D c)

      both-missing-is : has (table_names S) u ≡ true → (xs : List Dotted) → any lacks_both xs ≡ pair_missing S t u xs
      both-missing-is h xs = ap₂ (λ (a b : Bool). not a || (not b || any lacks_both xs)) (sym known) (sym h)

      both-there : has (table_names S) u ≡ true → pair_with t C u D s ls ps e i (position (table_names S) u) queries ≡ decided P (pair cs t u v)
      unfolding select_on unknown_name taken miscounted twice no_place statement_of struct_of
      both-there h =
          let q : Where (Term Dotted) = mapped_in comparison v in
          let l : columns_on true s ls ≡ items cs = ap (map (short_column true)) (E.names few) ∙ whole-columns (short_column true) is_long_dotted whole-dotted (items cs) (dotted-listed cs t u v w) in
          let k : kept_on true s ps ≡ nodes_in q = dotted-kept s ps cs t u v w (E.noted nodes) in
          let n : unknown_on (length C + length D) (map place (columns_on true s ls)) (condition_on true place s ps 0) ≡ pair_missing S t u (items cs ++ term_columns (operands_in q)) =
          unknown-kept true s ps q k place (length C + length D) lacks_both (dotted-below t C u D) (columns_on true s ls) 0
          ∙ ap (λ (xs : List Dotted). any lacks_both (xs ++ term_columns (operands_in q))) l
          ∙ both-missing-is h (items cs ++ term_columns (operands_in q)) in
          let c : length ls ≡ length (map place (items cs)) = as-many (λ (i : Item). column_on true s i.name) ls (E.names few) ∙ sym (length-map (items cs) place) in
          let d : condition_on true place s ps 0 ≡ condition_struct (nodes_in (resolved_where place 0 q)) = condition-kept true s ps q k place 0 in
          let o : outer_on ps ≡ marks_number 0 (outer_marks_in (resolved_where place 0 q)) = outer-kept s ps q (E.noted nodes) (E.bare nodes) place in
          λ j. compiled_by (lowest_by (n j) false false (same_name t u) (leb 16 queries))
          (compiled_query (record {
            table = i;
            selected = padded 8 0 (map place (l j));
            count = c j;
            parameters = E.marks_are j;
            second = suc (position (table_names S) u);
            start = length C;
            outer = o j;
            condition = d j;
          }))

      second-unknown : has (table_names S) u ≡ false → compiled_refusal 6 ≡ decided P (pair cs t u v)
      unfolding unknown_name
      second-unknown h = rw (known, h)

      abbrev chosen : Name → Bool → Compiled
      chosen n b = cond b (pair_with t C n (columns_of S n) s ls ps e i (position (table_names S) n) queries) (compiled_refusal 6)

      pair-compiles : (second : ℕ) → name_on s second ≡ u → pair_on t C second s ls ps e S i queries ≡ decided P (pair cs t u v)
      pair-compiles second es =
          ap (λ (n : Name). chosen n (ltb (position (table_names S) n) (length S))) (ap short_name es ∙ whole-name u (short-second cs t u v w))
          ∙ ap (chosen u) (ap (ltb (position (table_names S) u)) (sym (length-map S (λ (t : Schema). t.name))) ∙ has-ltb (table_names S) u)
          ∙ go (has (table_names S) u) refl
        where
          go : (b : Bool) → has (table_names S) u ≡ b → chosen u b ≡ decided P (pair cs t u v)
          go true h = both-there h
          go false h = second-unknown h

  -- by its form
  abbrev besides : Form → Name → Compiled
  besides f t = beside_as f t s ls ps e S queries updates

  form-compiles : (x : Sentence) → is_table x ≡ false → Entered s noted_items noted_nodes e x → past_limit x ≡ false → e.c.nodes ≤ 15 → has (table_names S) (table_named x) ≡ true
      → besides e.form (table_named x) ≡ decided P x
  form-compiles (table t cs ring z) b E w h k = clash refl b
  form-compiles (select cs t q) b E w h k = ap (λ (f : Form). besides f t) (is-select s cs t q e.form E.form) ∙ select-compiles t k h cs q E w
  form-compiles (pair cs t u q) b E w h k =
      let f = is-pair s cs t u q e.form E.form in
      ap (λ (f : Form). besides f t) f.1 ∙ pair-compiles t k h u cs q E w f.0 f.2
  form-compiles (insert t vs) b E w h k = ap (λ (f : Form). besides f t) (is-insert s t vs e.form E.form) ∙ insert-compiles t k h vs E w
  form-compiles (update t ss q) b E w h k = ap (λ (f : Form). besides f t) (is-update s t ss q e.form E.form) ∙ update-compiles t k h ss q E w
  form-compiles (delete t q) b E w h k = ap (λ (f : Form). besides f t) (is-delete s t q e.form E.form) ∙ delete-compiles t k h q E w

  -- a table that is not there
  unknown-table : (x : Sentence) → is_table x ≡ false → has (table_names S) (table_named x) ≡ false → compiled_refusal 6 ≡ decided P x
  unfolding unknown_name
  unknown-table (table t cs ring z) b k = clash refl b
  unknown-table (select cs t q) b k = rw k
  unknown-table (pair cs t u q) b k = rw k
  unknown-table (insert t vs) b k = rw k
  unknown-table (update t ss q) b k = rw k
  unknown-table (delete t q) b k = rw k

  beside-compiles : (x : Sentence) → is_table x ≡ false → Entered s noted_items noted_nodes e x → past_limit x ≡ false → e.c.nodes ≤ 15 → beside_on s ls ps e S queries updates ≡ decided P x
  beside-compiles x b E w h =
      ap (λ (n : Name). cond (ltb (position (table_names S) n) (length S)) (besides e.form n) (compiled_refusal 6)) (table_kept s x w e.table E.table)
      ∙ ap (λ (c : Bool). cond c (besides e.form (table_named x)) (compiled_refusal 6)) found
      ∙ go (has (table_names S) (table_named x)) refl
    where
      found : ltb (position (table_names S) (table_named x)) (length S) ≡ has (table_names S) (table_named x)
      found = ap (ltb (position (table_names S) (table_named x))) (sym (length-map S (λ (t : Schema). t.name))) ∙ has-ltb (table_names S) (table_named x)

      go : (c : Bool) → has (table_names S) (table_named x) ≡ c → cond c (besides e.form (table_named x)) (compiled_refusal 6) ≡ decided P x
      go true k = form-compiles x b E w h k
      go false k = unknown-table x b k

  -- a TABLE
  of-table : (rows : ℕ) (ring : Bool) → e.form ≡ TABLE rows ring → (x : Sentence) → Entered s noted_items noted_nodes e x → past_limit x ≡ false → table_on s ls e.table rows ring S cells ≡ decided P x
  of-table rows ring h x E w = go x (subst (λ (f : Form). FormIs s f x) h E.form) E w
    where
      go : (x : Sentence) → FormIs s (TABLE rows ring) x → Entered s noted_items noted_nodes e x → past_limit x ≡ false → table_on s ls e.table rows ring S cells ≡ decided P x
      go (table t cs b z) f E w = table-compiles t cs b z rows ring E w f.0 f.1
      go (select cs t q) f E w = absurd f
      go (pair cs t u q) f E w = absurd f
      go (insert t vs) f E w = absurd f
      go (update t ss q) f E w = absurd f
      go (delete t q) f E w = absurd f

no_table_lem : (s : List ℕ) (f : Form) (x : Sentence) → FormIs s f x → ((rows : ℕ) (ring : Bool) → f ≡ TABLE rows ring → ⊥) → is_table x ≡ false
no_table_lem s (TABLE rows ring) (table t cs b z) E h = absurd (h rows ring refl)
no_table_lem s _ (table t cs b z) E h = absurd E
no_table_lem s f (select cs t q) E h = refl
no_table_lem s f (pair cs t u q) E h = refl
no_table_lem s f (insert t vs) E h = refl
no_table_lem s f (update t ss q) E h = refl
no_table_lem s f (delete t q) E h = refl

-- ---- the text

-- a condition that holds, and one that does not
first-is : (n : ℕ) (b : Bool) (k : ℕ) (done : Compiled) → b ≡ true → compiled_refusal (suc n) ≡ compiled_by (or_else b (suc n) k) done
first-is n b k done h = ap (λ (c : Bool). compiled_by (or_else c (suc n) k) done) (sym h)

passed : (n : ℕ) (b : Bool) (k : ℕ) (done : Compiled) → b ≡ false → compiled_by k done ≡ compiled_by (or_else b n k) done
passed n b k done h = ap (λ (c : Bool). compiled_by (or_else c n k) done) (sym h)

module _ (s : List ℕ) (tables : List Table) (used queries updates cells : ℕ) where
  abbrev goal : Compiled
  goal = compiled_of s tables used queries updates cells

  -- the same for any reading of it
  abbrev as_read : Option Sentence → Compiled
  as_read o =
      let c : Catalog = store tables used queries updates cells in
      compiled_by (lowest_of (text_conditions c s o)) (struct_of_text c.tables o)

  by-reading : as_read (sentence s) ≡ goal
  unfolding compiled_of
  by-reading = refl

  -- refusal 3
  pub compiled-long : (r : Compiled) → 256 < length s → r ≡ compiled_refusal 3 → r ≡ goal
  compiled-long r h q = q ∙ first-is 2 (too_long s) _ _ (lt-ltb 256 (length s) h) ∙ by-reading

module _ (s : List ℕ) (ls : List Item) (ps : List Node) (tables : List Table) (used queries updates cells : ℕ) (short : length s ≤ 256) where
  abbrev goal_is : Compiled → Type 0
  goal_is r = r ≡ goal s tables used queries updates cells

  fits-text : too_long s ≡ false
  fits-text = le-ltb 256 (length s) short

  -- refusal 4
  pub compiled-none : Noted s ls ps None (sentence s) → (r : Compiled) → r ≡ compiled_refusal 4 → goal_is r
  compiled-none N r q = q ∙ go (sentence s) N ∙ by-reading s tables used queries updates cells
    where
      go : (o : Option Sentence) → Noted s ls ps None o → compiled_refusal 4 ≡ as_read s tables used queries updates cells o
      go none M = passed 3 (too_long s) _ _ fits-text
      go (some x) M = absurd M

  module _ (e : Entry) (N : Noted s ls ps (Some e) (sentence s)) where
    -- what was read, whatever the sentence is
    by-sentence : (done : Compiled) → ((x : Sentence) → Entered s ls ps e x → done ≡ as_read s tables used queries updates cells (some x)) → (r : Compiled) → r ≡ done → goal_is r
    by-sentence done f r q = q ∙ go (sentence s) N ∙ by-reading s tables used queries updates cells
      where
        go : (o : Option Sentence) → Noted s ls ps (Some e) o → done ≡ as_read s tables used queries updates cells o
        go none M = absurd M
        go (some x) M = f x M

    -- refusal 5
    pub compiled-over : (r : Compiled) → over_on e ≡ true → r ≡ compiled_refusal 5 → goal_is r
    compiled-over r h = by-sentence (compiled_refusal 5) (λ x M. first-is 4 (past_limit x) _ _ (M.past ∙ h) ∙ passed 3 (too_long s) _ _ fits-text) r

    module _ (within : over_on e ≡ false) where
      compiled-fits : Fits s (take e.listed ls) (take e.c.nodes ps) e
      compiled-fits = go (sentence s) N
        where
          go : (o : Option Sentence) → Noted s ls ps (Some e) o → Fits s (take e.listed ls) (take e.c.nodes ps) e
          go none M = absurd M
          go (some x) M = fits_read s ls ps e x M within

      -- and so does the part in use of the arrays
      pub compiled-reads : (xs : List Item) (ys : List Node) → xs ≡ take e.listed ls → ys ≡ take e.c.nodes ps → Fits s xs ys e
      compiled-reads xs ys p q = subst (λ (zs : List Item). Fits s zs ys e) (sym p) (subst (λ (zs : List Node). Fits s (take e.listed ls) zs e) (sym q) compiled-fits)

      -- a sentence within the limits
      decided-is : (x : Sentence) → Entered s ls ps e x
          → decided (store tables used queries updates cells) x ≡ as_read s tables used queries updates cells (some x)
      decided-is x M =
          passed 5 (past_limit x) _ _ (M.past ∙ within)
          ∙ passed 3 (too_long s) _ _ fits-text

      pub compiled-table : (r : Compiled) (rows : ℕ) (ring : Bool) → e.form ≡ TABLE rows ring → r ≡ table_on s (take e.listed ls) e.table rows ring (schemas_of tables used) cells → goal_is r
      compiled-table r rows ring h = by-sentence _ (λ x M. of-table s ls ps e tables used queries updates cells (listed-few s ls ps e x M within) rows ring h x M (M.past ∙ within) ∙ decided-is x M) r

      pub compiled-beside : (r : Compiled) → ((rows : ℕ) (ring : Bool) → e.form ≡ TABLE rows ring → ⊥) → r ≡ beside_on s (take e.listed ls) (take e.c.nodes ps) e (schemas_of tables used) queries updates → goal_is r
      compiled-beside r h =
          by-sentence _
          (λ x M.
          beside-compiles s ls ps e tables used queries updates cells (listed-few s ls ps e x M within) x (no_table_lem s e.form x M.form h) M (M.past ∙ within) (nodes-few s ls ps e x M within)
          ∙ decided-is x M)
          r
