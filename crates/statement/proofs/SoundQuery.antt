-- A stored question passes the test exactly if it is the compiled form of a sentence that refusals 4 to 8 let pass. Assumes nothing.
use mathlib.Core.Path.{◌≡◌, refl, sym, ap, ap₂, ◌∙◌, subst}
use mathlib.Core.Logic.{◌↔◌, ◌≢◌}
use mathlib.Core.Bool.{Bool, true, false, not, ◌||◌}
use mathlib.Core.Option.{Option, none, some}
use mathlib.Core.List.{List, [], ◌++◌, map, reverse, reverse-reverse}
use Prim.Native.Nat.{ℕ, ◌+◌, ◌≤◌, ◌<◌}
use native.Mathlib.Omega.{arith}
use borrow.Author.Tests.{ltb-true, lt-ltb, ltb-false, le-ltb, leb-true, le-leb, eqb-true, eqb-false, eq-eqb, ne_eqb}
use lib.Dec.{eqb, leb, ltb}
use lib.ListN.{length, get_or, take, length-map, length-reverse}
use lib.Seq.{length-take-le}
use Rattle.lists.specs.Lists.{All, any, all}
use Rattle.lists.proofs.Bools.{and_left, and_right, and_both, or_left, or_right, not-false, not-true, contra, clash}
use Rattle.lists.proofs.Lists.{All-map, any_append, any_none}
use Rattle.meaning.specs.Condition.{Optional, Where, always, mapped_in, comparisons_in, operands_in, depth_in}
use Rattle.meaning.specs.Postfix.{nodes_in, outer_marks_in, within, chained}
use Rattle.meaning.specs.Tokens.{Name, is_name}
use Rattle.meaning.specs.Grammar as G
use Rattle.meaning.specs.Grammar.{Test, comparison, Listed, Dotted, items, Sentence}
use Rattle.meaning.specs.Limits.{most_items, most_marks, most_comparisons, most_depth, most_name, term_givens, term_columns, columns_named, dotted_named, all_names, givens, mark_count, outside32}
use Rattle.meaning.specs.Names.{Schema, no_schema, same_name, has, position, table_names, columns_of, is_of, pair_place, unknown_name, taken, miscounted, twice}
use Rattle.meaning.specs.Statement as M
use Rattle.meaning.specs.Statement.{Statement, creates, asks, changes, resolved_where, statement_of}
use Rattle.meaning.proofs.Names.{same-is, has-position, position-is}
use Rattle.meaning.proofs.Dotted.{bare-givens}
use Rattle.meaning.proofs.Outer.{marks-mapped, marks-resolved, outer-chained}
use Rattle.meaning.proofs.Resolve.{Columns, same-name, one_table, name-inside, two-tables, dotted_at, dotted-inside}
use Rattle.meaning.proofs.Resolved.{items-some}
use Rattle.meaning.proofs.Spelling.{has_text}
use Rattle.statement.specs.Sound.{used_comparisons, condition_nodes, outer_back, outer_read, second_read, Passes, AgreesCondition, AgreesQuery, FromQuery, QueryFits}
use Rattle.statement.specs.SoundTest.{sound_condition, condition_marks, columns_at, columns_with, sound_second, sound_query_on, sound_outer, sound_query, TableFits, TablesFit}
use Rattle.statement.specs.declared.Query.{Query}
use Rattle.statement.proofs.Stored.{all-of}
use Rattle.statement.proofs.Outer.{length_digits}
use Rattle.statement.proofs.SoundCondition.{on-parts, parts-on, Sourced, condition-source, unmarked, unmarked-source, source-marks, source-condition}
use Rattle.statement.proofs.SoundNames.{or-none, listed, Limits, limits-kept, limits_of, places-below, at-known, at_back, names_at, names-known, names-back, positions-below, there-fits, there_has, there-place, there-columns, there-known, there-named, there-short, known-append}
use Rattle.statement.proofs.SoundPairs.{pair_names, bare-count, bare-depth}

-- ---- the test and its parts

-- the columns that it may name
abbrev pub columns_for : List Schema → Query → ℕ
columns_for ts q = columns_with ts (columns_at ts q.table) (second_read q)

pub record Parts (ts : List Schema) (q : Query) : Type 0 where
  pub there : q.table < length ts
  pub second_sound : sound_second ts q.table (columns_at ts q.table) (second_read q) ≡ true
  pub some_selected : 1 ≤ q.count
  pub few_selected : q.count ≤ most_items
  pub selected_below : all (λ (i : ℕ). ltb i (columns_for ts q)) (take q.count q.selected) ≡ true
  pub condition_sound : sound_condition (columns_for ts q) 0 q.condition ≡ true
  pub parameters_are : q.parameters ≡ condition_marks q.condition
  pub few_parameters : q.parameters ≤ most_marks
  pub outer_sound : sound_outer (second_read q) q ≡ true

module _ (ts : List Schema) (q : Query) where
  pub query-parts : sound_query ts q ≡ true → Parts ts q
  unfolding sound_query
  query-parts h =
      let h₀ = and_right (ltb q.table (length ts)) _ h in
      let h₉ = and_right (sound_second ts q.table (columns_at ts q.table) (second_read q)) _ h₀ in
      let h₁ = and_left (sound_query_on (columns_for ts q) q) _ h₉ in
      let h₂ = and_right (leb 1 q.count) _ h₁ in
      let h₃ = and_right (leb q.count most_items) _ h₂ in
      let h₄ = and_right (all (λ (i : ℕ). ltb i (columns_for ts q)) (take q.count q.selected)) _ h₃ in
      let C = on-parts (columns_for ts q) 0 q.parameters q.condition h₄ in
      record {
        there = ltb-true q.table (length ts) (and_left (ltb q.table (length ts)) _ h);
        second_sound = and_left (sound_second ts q.table (columns_at ts q.table) (second_read q)) _ h₀;
        some_selected = leb-true 1 q.count (and_left (leb 1 q.count) _ h₁);
        few_selected = leb-true q.count most_items (and_left (leb q.count most_items) _ h₂);
        selected_below = and_left (all (λ (i : ℕ). ltb i (columns_for ts q)) (take q.count q.selected)) _ h₃;
        condition_sound = C.sound;
        parameters_are = omega (arith, C.parameters);
        few_parameters = C.few;
        outer_sound = and_right (sound_query_on (columns_for ts q) q) _ h₉;
      }

  pub parts-query : Parts ts q → sound_query ts q ≡ true
  unfolding sound_query
  parts-query P =
      and_both (ltb q.table (length ts)) _ (lt-ltb q.table (length ts) P.there)
      (and_both _ _ P.second_sound
      (and_both (sound_query_on (columns_for ts q) q) _
      (and_both (leb 1 q.count) _ (le-leb 1 q.count P.some_selected)
      (and_both (leb q.count most_items) _ (le-leb q.count most_items P.few_selected)
      (and_both _ _ P.selected_below
      (parts-on (columns_for ts q) 0 q.parameters q.condition
      (record { sound = P.condition_sound; parameters = omega (arith, P.parameters_are); few = P.few_parameters })))))
      P.outer_sound))

-- A.1: its second table
pub record SecondParts (ts : List Schema) (table columns : ℕ) (s : M.Second) : Type 0 where
  pub there : s.table < length ts
  pub another : s.table ≢ table
  pub start_is : s.start ≡ columns

module _ (ts : List Schema) (table columns : ℕ) (s : M.Second) where
  pub second_parts : sound_second ts table columns (some s) ≡ true → SecondParts ts table columns s
  second_parts h =
      let k = and_right (ltb s.table (length ts)) _ h in
      record {
        there = ltb-true s.table (length ts) (and_left (ltb s.table (length ts)) _ h);
        another = eqb-false s.table table (not-true (eqb s.table table) (and_left (not (eqb s.table table)) _ k));
        start_is = eqb-true s.start columns (and_right (not (eqb s.table table)) _ k);
      }

  pub parts-second : SecondParts ts table columns s → sound_second ts table columns (some s) ≡ true
  parts-second D =
      and_both (ltb s.table (length ts)) _ (lt-ltb s.table (length ts) D.there)
      (and_both (not (eqb s.table table)) _ (ap not (ne_eqb s.table table D.another)) (eq-eqb s.start columns D.start_is))

-- ---- a question that passes comes of a sentence

module _ (ts : List Schema) (T : TablesFit ts) (q : Query) (F : QueryFits q) (P : Parts ts q) where
  abbrev table : Schema
  table = get_or ts q.table no_schema

  abbrev columns : List Name
  columns = columns_of ts table.name

  abbrev chosen : List ℕ
  chosen = take q.count q.selected

  fits : TableFits table
  fits = there-fits ts T q.table P.there

  columns_are : columns ≡ table.columns
  columns_are = there-columns ts T q.table P.there

  chosen-length : length chosen ≡ q.count
  chosen-length = length-take-le q.count q.selected (omega (arith, F.eight, P.few_selected))

  -- ---- over one table

  module _ (e : second_read q ≡ none) where
    width_is : columns_for ts q ≡ length table.columns
    width_is = ap (columns_with ts (columns_at ts q.table)) e

    below : all (λ (i : ℕ). ltb i (length table.columns)) chosen ≡ true
    below = ap (λ (n : ℕ). all (λ (i : ℕ). ltb i n) chosen) (sym width_is) ∙ P.selected_below

    source : Sourced (position table.columns) (λ (n : Name). not (has table.columns n)) 0 q.condition (unmarked q.condition)
    source =
        unmarked-source (position table.columns) (length table.columns) (λ (n : Name). not (has table.columns n)) (λ i. get_or table.columns i [])
        (one_table table.columns fits.different) 0 q.condition F.condition_fits
        (ap (λ (n : ℕ). sound_condition n 0 q.condition) (sym width_is) ∙ P.condition_sound)

    -- its comparisons have two sides
    abbrev wanted : Where (G.Term Name)
    wanted = mapped_in comparison source.source

    names-length : length (names_at table.columns chosen) ≡ q.count
    names-length = length-map chosen (λ (i : ℕ). get_or table.columns i []) ∙ chosen-length

    names : (L : Listed Name) × (items L ≡ names_at table.columns chosen)
    names = listed (names_at table.columns chosen) (omega (arith, names-length, P.some_selected))

    abbrev sentence : Sentence
    sentence = G.select names.0 table.name source.source

    named-known : any (λ (n : Name). not (has table.columns n)) (columns_named sentence) ≡ false
    named-known =
        known-append table.columns (items names.0) (term_columns (operands_in wanted))
        (ap (any (λ (n : Name). not (has table.columns n))) names.1 ∙ names-known table.columns fits.different chosen below)
        source.known

    limits : Limits sentence
    limits =
        let few : length (items names.0) ≡ q.count = ap length names.1 ∙ names-length in
        let marks : mark_count (term_givens (operands_in wanted)) ≤ most_marks = omega (arith, source.marks, P.parameters_are, P.few_parameters) in
        record {
          items_few = or-none (ltb most_items (length (items names.0))) _ (le-ltb most_items (length (items names.0)) (omega (arith, P.few_selected))) refl;
          rows_inside = refl;
          marks_few = le-ltb most_marks (mark_count (givens sentence)) marks;
          comparisons_few = le-ltb most_comparisons (length (comparisons_in wanted)) source.few;
          shallow = le-ltb most_depth (depth_in wanted) source.shallow;
          names_short = there-short ts T q.table P.there (columns_named sentence) named-known;
          constants_small = source.small;
        }

    sentence-passes : Passes ts sentence
    unfolding unknown_name taken miscounted twice
    sentence-passes = record {
      spelled = (has_text sentence).0 (there-named ts T q.table P.there (columns_named sentence) named-known);
      within = limits-kept sentence limits;
      known = there-known ts T q.table P.there (columns_named sentence) named-known;
      fresh = refl;
      counted = refl;
      different = refl;
    }

    abbrev statement : M.Query
    statement = record {
      table = position (table_names ts) table.name;
      second = none;
      selected = map (position columns) (items names.0);
      condition = resolved_where (position columns) 0 wanted;
      parameters = mark_count (givens sentence);
    }

    agrees : AgreesQuery q statement
    agrees =
        let back : map (position columns) (items names.0) ≡ chosen =
        ap₂ (λ C l. map (position C) l) columns_are names.1 ∙ names-back table.columns fits.different chosen below in
        record {
          table_is = sym (there-place ts T q.table P.there);
          second_is = e;
          count_is = sym (ap length back ∙ chosen-length);
          selected_are = sym back;
          parameters_are = P.parameters_are ∙ sym source.marks;
          condition_is = subst (λ C. AgreesCondition q.condition (resolved_where (position C) 0 wanted)) (sym columns_are) source.agrees;
          outer_are = tt;
        }

    single-source : FromQuery ts q
    unfolding statement_of
    single-source = record { sentence = sentence; passes = sentence-passes; statement = statement; says = refl; agrees = agrees }

  -- ---- over two tables

  module _ (s : M.Second) (e : second_read q ≡ some s) (D : SecondParts ts q.table (columns_at ts q.table) s) where
    abbrev other : Schema
    other = get_or ts s.table no_schema

    abbrev others : List Name
    others = columns_of ts other.name

    other_fits : TableFits other
    other_fits = there-fits ts T s.table D.there

    others-are : others ≡ other.columns
    others-are = there-columns ts T s.table D.there

    abbrev place : Dotted → ℕ
    place = pair_place table.name table.columns other.name other.columns

    abbrev width : ℕ
    width = length table.columns + length other.columns

    abbrev strange : Dotted → Bool
    strange c = not (is_of table.name table.columns c || is_of other.name other.columns c)

    abbrev dotted : ℕ → Dotted
    dotted = dotted_at table.name table.columns other.name other.columns

    -- tables at different places have different names
    two-names : same_name table.name other.name ≡ false
    two-names =
        contra (same_name table.name other.name) (eqb s.table q.table)
        (λ h.
        eq-eqb s.table q.table
        (sym (there-place ts T s.table D.there) ∙ ap (position (table_names ts)) (sym (same-is table.name other.name h))
        ∙ there-place ts T q.table P.there))
        (ne_eqb s.table q.table D.another)

    both : Columns place width strange dotted
    both = two-tables table.name table.columns other.name other.columns fits.different other_fits.different two-names

    both-width : columns_for ts q ≡ width
    both-width = ap (columns_with ts (columns_at ts q.table)) e

    both_below : all (λ (i : ℕ). ltb i width) chosen ≡ true
    both_below = ap (λ (n : ℕ). all (λ (i : ℕ). ltb i n) chosen) (sym both-width) ∙ P.selected_below

    -- its marks are such as the condition allows
    marks-many : length (outer_read q) ≡ length (used_comparisons q.condition)
    marks-many = length-reverse (outer_back q) ∙ length_digits (length (used_comparisons q.condition)) q.outer

    marks-allowed : within (reverse (outer_read q)) (chained true 0 (reverse (condition_nodes q.condition))) ≡ true
    marks-allowed =
        ap (λ bs. within bs (chained true 0 (reverse (condition_nodes q.condition)))) (reverse-reverse (outer_back q))
        ∙ ap (λ o. sound_outer o q) (sym e) ∙ P.outer_sound

    pair-where : Sourced place strange 0 q.condition (outer_read q)
    pair-where =
        condition-source place width strange dotted both 0 q.condition (outer_read q) F.condition_fits
        (ap (λ (n : ℕ). sound_condition n 0 q.condition) (sym both-width) ∙ P.condition_sound) marks-many marks-allowed

    abbrev pair_wanted : Where (G.Term Dotted)
    pair_wanted = mapped_in comparison pair-where.source

    listed-length : length (map dotted chosen) ≡ q.count
    listed-length = length-map chosen dotted ∙ chosen-length

    list : (L : Listed Dotted) × (items L ≡ map dotted chosen)
    list = listed (map dotted chosen) (omega (arith, listed-length, P.some_selected))

    abbrev pair_sentence : Sentence
    pair_sentence = G.pair list.0 table.name other.name pair-where.source

    none-strange : any strange (dotted_named pair_sentence) ≡ false
    none-strange =
        any_append strange (items list.0) (term_columns (operands_in pair_wanted))
        ∙ or-none _ _ (ap (any strange) list.1 ∙ at-known place width strange dotted both chosen both_below) pair-where.known

    pair-givens : givens pair_sentence ≡ term_givens (operands_in pair_wanted)
    pair-givens = bare-givens pair_wanted

    pair-marks : mark_count (givens pair_sentence) ≡ condition_marks q.condition
    pair-marks = ap mark_count pair-givens ∙ pair-where.marks

    pair_limits : Limits pair_sentence
    pair_limits =
        let many : length (map (λ (c : Dotted). c.1) (items list.0)) ≡ q.count =
        length-map (items list.0) (λ (c : Dotted). c.1) ∙ ap length list.1 ∙ listed-length in
        let short : All (λ n. length n ≤ most_name) (all_names pair_sentence) =
        pair_names table.name table.columns other.name other.columns fits.short other_fits.short list.0 pair-where.source none-strange in
        record {
          items_few = or-none (ltb most_items (length (map (λ (c : Dotted). c.1) (items list.0)))) _
              (le-ltb most_items (length (map (λ (c : Dotted). c.1) (items list.0))) (omega (arith, P.few_selected))) refl;
          rows_inside = refl;
          marks_few = le-ltb most_marks (mark_count (givens pair_sentence)) (omega (arith, pair-marks, P.parameters_are, P.few_parameters));
          comparisons_few = ap (ltb most_comparisons) (bare-count pair_wanted)
              ∙ le-ltb most_comparisons (length (comparisons_in pair_wanted)) pair-where.few;
          shallow = ap (ltb most_depth) (bare-depth pair_wanted) ∙ le-ltb most_depth (depth_in pair_wanted) pair-where.shallow;
          names_short = any_none (λ (n : Name). ltb most_name (length n)) (All-map (λ n h. le-ltb most_name (length n) h) short);
          constants_small = ap (any outside32) pair-givens ∙ pair-where.small;
        }

    pair-passes : Passes ts pair_sentence
    unfolding unknown_name taken miscounted twice
    pair-passes = record {
      spelled = (has_text pair_sentence).0
          (all-of is_name
          (pair_names table.name table.columns other.name other.columns fits.names other_fits.names list.0 pair-where.source none-strange));
      within = limits-kept pair_sentence pair_limits;
      known = or-none (not (has (table_names ts) table.name)) _ (ap not (there_has ts T q.table P.there))
          (or-none (not (has (table_names ts) other.name)) _ (ap not (there_has ts T s.table D.there))
          (ap₂ (λ C E. any (λ (c : Dotted). not (is_of table.name C c || is_of other.name E c)) (dotted_named pair_sentence)) columns_are others-are
          ∙ none-strange));
      fresh = refl;
      counted = refl;
      different = two-names;
    }

    abbrev pair_statement : M.Query
    pair_statement = record {
      table = position (table_names ts) table.name;
      second = some (record { table = position (table_names ts) other.name; start = length columns });
      selected = map (pair_place table.name columns other.name others) (items list.0);
      condition = resolved_where (pair_place table.name columns other.name others) 0 pair_wanted;
      parameters = mark_count (givens pair_sentence);
    }

    pair-agrees : AgreesQuery q pair_statement
    pair-agrees =
        let places : place ≡ pair_place table.name columns other.name others =
        ap₂ (λ C E. pair_place table.name C other.name E) (sym columns_are) (sym others-are) in
        let back : map (pair_place table.name columns other.name others) (items list.0) ≡ chosen =
        ap₂ (λ f l. map f l) (sym places) list.1 ∙ at_back place width strange dotted both chosen both_below in
        let number : s.table ≡ position (table_names ts) other.name = sym (there-place ts T s.table D.there) in
        let start : s.start ≡ length columns = D.start_is ∙ ap length (sym columns_are) in
        record {
          table_is = sym (there-place ts T q.table P.there);
          second_is = e ∙ (λ i. some (record { table = number i; start = start i }));
          count_is = sym (ap length back ∙ chosen-length);
          selected_are = sym back;
          parameters_are = P.parameters_are ∙ sym pair-marks;
          condition_is = subst (λ f. AgreesCondition q.condition (resolved_where f 0 pair_wanted)) places pair-where.agrees;
          outer_are = sym (marks-resolved (pair_place table.name columns other.name others) 0 pair_wanted ∙ marks-mapped comparison pair-where.source ∙ pair-where.outer);
        }

    pair-source : FromQuery ts q
    unfolding statement_of
    pair-source = record { sentence = pair_sentence; passes = pair-passes; statement = pair_statement; says = refl; agrees = pair-agrees }

  pub query-source : FromQuery ts q
  query-source = go (second_read q) refl
    where
      go : (o : Option M.Second) → second_read q ≡ o → FromQuery ts q
      go none e = single-source e
      go (some s) e =
          pair-source s e
          (second_parts ts q.table (columns_at ts q.table) s (ap (sound_second ts q.table (columns_at ts q.table)) (sym e) ∙ P.second_sound))

-- ---- and one that comes of such a sentence passes

-- the marks of a WHERE are such as its nodes allow
outer-allowed : (q : Query) (w : Where M.Operand) → outer_read q ≡ outer_marks_in w → condition_nodes q.condition ≡ nodes_in w
    → within (outer_back q) (chained true 0 (reverse (condition_nodes q.condition))) ≡ true
outer-allowed q w o n =
    ap₂ (λ bs ns. within bs (chained true 0 (reverse ns))) (sym (reverse-reverse (outer_back q)) ∙ ap reverse o) n ∙ outer-chained w

abbrev no_query : M.Query
no_query = record { table = 0; second = none; selected = []; condition = always; parameters = 0 }

abbrev asked : Statement → M.Query
asked (creates t) = no_query
asked (asks q) = q
asked (changes u) = no_query

abbrev is_ask : Statement → Bool
is_ask (creates t) = false
is_ask (asks q) = true
is_ask (changes u) = false

module _ (ts : List Schema) (q : Query) where
  -- the table of a name that is there
  place-below : (t : Name) → not (has (table_names ts) t) ≡ false → position (table_names ts) t < length ts
  place-below t h =
      subst (λ n. position (table_names ts) t < n) (length-map ts (λ (u : Schema). u.name))
      (has-position (table_names ts) t (not-false (has (table_names ts) t) h))

  select-query : (cs : Listed Name) (t : Name) (v : Optional (Test Name)) → Passes ts (G.select cs t v)
      → AgreesQuery q (asked (statement_of ts (G.select cs t v))) → sound_query ts q ≡ true
  unfolding statement_of unknown_name
  select-query cs t v P A =
      let s : Sentence = G.select cs t v in
      let w : Where (G.Term Name) = mapped_in comparison v in
      let L : Limits s = limits_of s P.within in
      let columns : List Name = columns_of ts t in
      let strange : Name → Bool = λ (n : Name). not (has columns n) in
      let known : any (λ (n : Name). not (has columns n)) (items cs ++ term_columns (operands_in w)) ≡ false = or_right (not (has (table_names ts) t)) _ P.known in
      let both : (any strange (items cs) || any strange (term_columns (operands_in w))) ≡ false =
      sym (any_append strange (items cs) (term_columns (operands_in w))) ∙ known in
      let e : columns_at ts q.table ≡ length columns = ap (columns_at ts) A.table_is in
      let n : columns_for ts q ≡ length columns = ap (columns_with ts (columns_at ts q.table)) A.second_is ∙ e in
      let many : length (map (position columns) (items cs)) ≡ length (items cs) = length-map (items cs) (position columns) in
      let few : length (items cs) ≤ most_items = ltb-false most_items (length (items cs)) (or_left (ltb most_items (length (items cs))) _ L.items_few) in
      let marks : condition_marks q.condition ≡ mark_count (term_givens (operands_in w)) = source-marks (position columns) 0 v q.condition A.condition_is in
      parts-query ts q (record {
        there = subst (λ n. n < length ts) (sym A.table_is) (place-below t (or_left (not (has (table_names ts) t)) _ P.known));
        second_sound = ap (sound_second ts q.table (columns_at ts q.table)) A.second_is;
        some_selected = omega (arith, items-some cs, A.count_is);
        few_selected = omega (arith, A.count_is);
        selected_below = ap₂ (λ n l. all (λ (i : ℕ). ltb i n) l) n A.selected_are ∙ positions-below columns (items cs) (or_left (any strange (items cs)) _ both);
        condition_sound = ap (λ n. sound_condition n 0 q.condition) n
            ∙ source-condition (position columns) 0 v q.condition A.condition_is (length columns) strange (name-inside columns)
            (or_right (any strange (items cs)) _ both)
            (ltb-false most_comparisons (length (comparisons_in w)) L.comparisons_few);
        parameters_are = A.parameters_are ∙ sym marks;
        few_parameters = subst (λ n. n ≤ most_marks) (sym A.parameters_are) (ltb-false most_marks (mark_count (givens s)) L.marks_few);
        outer_sound = ap (λ o. sound_outer o q) A.second_is;
      })

  -- different names are those of different tables
  places-apart : (t u : Name) → not (has (table_names ts) t) ≡ false → not (has (table_names ts) u) ≡ false → same_name t u ≡ false
      → position (table_names ts) u ≢ position (table_names ts) t
  places-apart t u h k d e =
      clash
      (ap (same_name t)
      (sym (position-is (table_names ts) u [] (not-false (has (table_names ts) u) k)) ∙ ap (λ i. get_or (table_names ts) i []) e
      ∙ position-is (table_names ts) t [] (not-false (has (table_names ts) t) h))
      ∙ same-name t)
      d

  pair-query : (cs : Listed Dotted) (t u : Name) (v : Optional (Test Dotted)) → Passes ts (G.pair cs t u v)
      → AgreesQuery q (asked (statement_of ts (G.pair cs t u v))) → sound_query ts q ≡ true
  unfolding statement_of unknown_name twice
  pair-query cs t u v P A =
      let s : Sentence = G.pair cs t u v in
      let w : Where (G.Term Dotted) = mapped_in comparison v in
      let L : Limits s = limits_of s P.within in
      let columns : List Name = columns_of ts t in
      let others : List Name = columns_of ts u in
      let place : Dotted → ℕ = pair_place t columns u others in
      let width : ℕ = length columns + length others in
      let strange : Dotted → Bool = λ (c : Dotted). not (is_of t columns c || is_of u others c) in
      let second : M.Second = record { table = position (table_names ts) u; start = length columns } in
      let first-there : not (has (table_names ts) t) ≡ false = or_left (not (has (table_names ts) t)) _ P.known in
      let rest = or_right (not (has (table_names ts) t)) _ P.known in
      let second-there : not (has (table_names ts) u) ≡ false = or_left (not (has (table_names ts) u)) _ rest in
      let known : any strange (items cs ++ term_columns (operands_in w)) ≡ false = or_right (not (has (table_names ts) u)) _ rest in
      let both : (any strange (items cs) || any strange (term_columns (operands_in w))) ≡ false =
      sym (any_append strange (items cs) (term_columns (operands_in w))) ∙ known in
      let e : columns_at ts q.table ≡ length columns = ap (columns_at ts) A.table_is in
      let n : columns_for ts q ≡ width = ap₂ (columns_with ts) e A.second_is in
      let many : length (map place (items cs)) ≡ length (items cs) = length-map (items cs) place in
      let listed : length (map (λ (c : Dotted). c.1) (items cs)) ≡ length (items cs) = length-map (items cs) (λ (c : Dotted). c.1) in
      let few : length (map (λ (c : Dotted). c.1) (items cs)) ≤ most_items =
      ltb-false most_items (length (map (λ (c : Dotted). c.1) (items cs))) (or_left (ltb most_items (length (map (λ (c : Dotted). c.1) (items cs)))) _ L.items_few) in
      let marks : condition_marks q.condition ≡ mark_count (term_givens (operands_in w)) = source-marks place 0 v q.condition A.condition_is in
      parts-query ts q (record {
        there = subst (λ n. n < length ts) (sym A.table_is) (place-below t first-there);
        second_sound = ap (sound_second ts q.table (columns_at ts q.table)) A.second_is
            ∙ parts-second ts q.table (columns_at ts q.table) second (record {
              there = place-below u second-there;
              another = subst (λ i. position (table_names ts) u ≢ i) (sym A.table_is) (places-apart t u first-there second-there P.different);
              start_is = sym e;
            });
        some_selected = omega (arith, items-some cs, A.count_is);
        few_selected = omega (arith, A.count_is);
        selected_below = ap₂ (λ n l. all (λ (i : ℕ). ltb i n) l) n A.selected_are
            ∙ places-below place width strange (dotted-inside t columns u others) (items cs) (or_left (any strange (items cs)) _ both);
        condition_sound = ap (λ n. sound_condition n 0 q.condition) n
            ∙ source-condition place 0 v q.condition A.condition_is width strange (dotted-inside t columns u others)
            (or_right (any strange (items cs)) _ both)
            (ltb-false most_comparisons (length (comparisons_in w)) (ap (ltb most_comparisons) (sym (bare-count w)) ∙ L.comparisons_few));
        parameters_are = A.parameters_are ∙ ap mark_count (bare-givens w) ∙ sym marks;
        few_parameters = subst (λ n. n ≤ most_marks) (sym A.parameters_are) (ltb-false most_marks (mark_count (givens s)) L.marks_few);
        outer_sound = ap (λ o. sound_outer o q) A.second_is ∙ outer-allowed q (resolved_where place 0 w) A.outer_are A.condition_is.nodes_are;
      })

  sentence-query : (s : Sentence) → Passes ts s → is_ask (statement_of ts s) ≡ true → AgreesQuery q (asked (statement_of ts s)) → sound_query ts q ≡ true
  unfolding statement_of
  sentence-query (G.table t cs ring z) P a A = clash a refl
  sentence-query (G.select cs t w) P a A = select-query cs t w P A
  sentence-query (G.pair cs t u w) P a A = pair-query cs t u w P A
  sentence-query (G.insert t vs) P a A = clash a refl
  sentence-query (G.update t ss w) P a A = clash a refl
  sentence-query (G.delete t w) P a A = clash a refl

  pub source-query : FromQuery ts q → sound_query ts q ≡ true
  source-query S =
      sentence-query S.sentence S.passes (ap is_ask S.says) (subst (λ r. AgreesQuery q (asked r)) (sym S.says) S.agrees)

-- a question passes the test exactly if it is the compiled form of a sentence that passes
pub query_sound : (ts : List Schema) → TablesFit ts → (q : Query) → QueryFits q → (sound_query ts q ≡ true) ↔ FromQuery ts q
query_sound ts T q F = ((λ h. query-source ts T q F (query-parts ts q h)), source-query ts q)
