-- A stored update passes the test exactly if it is the compiled form of a sentence that refusals 4 to 8 let pass. Assumes nothing.
use mathlib.Core.Path.{◌≡◌, refl, sym, ap, ap₂, ◌∙◌, subst, subst₂}
use mathlib.Core.Logic.{◌↔◌}
use mathlib.Core.Bool.{Bool, true, false, not, ◌&&◌, ◌||◌}
use mathlib.Core.List.{List, [], ◌++◌, map, append-nil}
use Prim.Native.Nat.{ℕ, zero, suc, ◌+◌, ◌≤◌, ◌<◌}
use native.Mathlib.Omega.{arith}
use borrow.Author.Tests.{ltb-true, lt-ltb, ltb-false, le-ltb, leb-true, le-leb, eqb-true, eq-eqb}
use lib.Dec.{eqb, eqb_refl, eqb→eq, leb, ltb}
use lib.ListN.{length, get_or, take, length-map}
use lib.Seq.{length-take-le}
use Rattle.lists.specs.Lists.{any, all, repeats, from}
use Rattle.lists.specs.Tests.{eq_list, eq_list→eq, eq_list-refl}
use Rattle.lists.proofs.Bools.{T→true, true→T, and_left, and_right, and_both, or_left, or_right, not-false, not-true, clash}
use Rattle.lists.proofs.Lists.{All-take, any_append}
use Rattle.meaning.specs.Condition.{Optional, Where, always, mapped_in, comparisons_in, operands_in, depth_in, sides}
use Rattle.meaning.specs.Postfix.{leaves}
use Rattle.meaning.specs.Resolve.{parameter_count, numbered_on}
use Rattle.meaning.specs.Tokens.{Name}
use Rattle.meaning.specs.Grammar as G
use Rattle.meaning.specs.Grammar.{Given, Test, comparison, Listed, items, Sentence}
use Rattle.meaning.specs.Limits.{most_items, most_marks, most_comparisons, most_depth, term_givens, term_columns, columns_named, givens, mark_count, outside32}
use Rattle.meaning.specs.Names.{Schema, no_schema, same_name, has, position, table_names, columns_of, missing, unknown_name, taken, miscounted, twice}
use Rattle.meaning.specs.Statement as M
use Rattle.meaning.specs.Statement.{Statement, creates, asks, changes, insert, delete, update, value, numbered_all, settings, setting_marks, resolved_where, statement_of}
use Rattle.meaning.proofs.Names.{has-position}
use Rattle.meaning.proofs.Resolve.{one_table, name-inside}
use Rattle.meaning.proofs.Resolved.{items-some, numbered-length}
use Rattle.meaning.proofs.Spelling.{has_text}
use Rattle.meaning.specs.Pattern.{placed_from}
use Rattle.statement.specs.Sound.{condition_nodes, used_settings, setting_read, settings_read, Passes, AgreesCondition, AgreesUpdate, FromUpdate, UpdateFits}
use Rattle.statement.specs.SoundTest.{setting_columns, setting_values, setting_operands, sound_condition, condition_marks, columns_at, sound_form, sound_update, TableFits, TablesFit}
use Rattle.statement.specs.declared.Condition.{Condition}
use Rattle.statement.specs.declared.Update.{Update}
use Rattle.statement.proofs.Stored.{map-twice}
use Rattle.statement.proofs.SoundCondition.{on-parts, parts-on, Sourced, unmarked, unmarked-source, source-marks, source-condition}
use Rattle.statement.proofs.SoundNames.{or-none, listed, Limits, limits-kept, limits_of, names_at, names-known, names-back, positions-below, there-fits, there-place, there-columns, there-known, there-named, there-short, known-append}
use Rattle.statement.proofs.SoundSettings.{marks-append, given_at, values-back, values-marks, values_numbered, numbered-marks, values-small, same-pairs, placed-columns, placed-values, placed-length, settings-columns, settings-values, settings-length, set_at, names-different, places-different}

-- ---- the test and its parts

pub record Parts (ts : List Schema) (u : Update) : Type 0 where
  pub there : u.table < length ts
  pub form_sound : sound_form u.form (columns_at ts u.table) u ≡ true
  pub values_numbered : numbered_on 0 (setting_operands u) ≡ true
  pub condition_sound : sound_condition (columns_at ts u.table) (parameter_count (setting_operands u)) u.condition ≡ true
  pub parameters_are : u.parameters ≡ parameter_count (setting_operands u) + condition_marks u.condition
  pub few_parameters : u.parameters ≤ most_marks

module _ (ts : List Schema) (u : Update) where
  pub update-parts : sound_update ts u ≡ true → Parts ts u
  unfolding sound_update
  update-parts h₀ =
      let h₁ = and_right (ltb u.table (length ts)) _ h₀ in
      let h₂ = and_right (sound_form u.form (columns_at ts u.table) u) _ h₁ in
      let h₃ = and_right (numbered_on 0 (setting_operands u)) _ h₂ in
      let C = on-parts (columns_at ts u.table) (parameter_count (setting_operands u)) u.parameters u.condition h₃ in
      record {
        there = ltb-true u.table (length ts) (and_left (ltb u.table (length ts)) _ h₀);
        form_sound = and_left (sound_form u.form (columns_at ts u.table) u) _ h₁;
        values_numbered = and_left (numbered_on 0 (setting_operands u)) _ h₂;
        condition_sound = C.sound;
        parameters_are = C.parameters;
        few_parameters = C.few;
      }

  pub parts-update : Parts ts u → sound_update ts u ≡ true
  unfolding sound_update
  parts-update P =
      and_both (ltb u.table (length ts)) _ (lt-ltb u.table (length ts) P.there)
      (and_both _ _ P.form_sound
      (and_both _ _ P.values_numbered
      (parts-on (columns_at ts u.table) (parameter_count (setting_operands u)) u.parameters u.condition
      (record { sound = P.condition_sound; parameters = P.parameters_are; few = P.few_parameters }))))

-- a condition with no comparison is an absent WHERE
none-agrees : (c : Condition) → c.count ≡ 0 → AgreesCondition c always
unfolding condition_nodes
none-agrees c e = record {
  count_is = e;
  steps_are = rw e;
  operators_are = rw e;
  nodes_are = rw e;
}

-- ---- an update that passes comes of a sentence

module _ (ts : List Schema) (T : TablesFit ts) (u : Update) (F : UpdateFits u) (P : Parts ts u) where
  abbrev table : Schema
  table = get_or ts u.table no_schema

  abbrev columns : List Name
  columns = columns_of ts table.name

  fits : TableFits table
  fits = there-fits ts T u.table P.there

  columns_are : columns ≡ table.columns
  columns_are = there-columns ts T u.table P.there

  settings-many : u.count ≤ most_items → length (settings_read u) ≡ u.count
  settings-many h =
      length-map (used_settings u) setting_read ∙ length-take-le u.count u.settings (omega (arith, F.eight))

  small : any outside32 (map given_at (setting_values u)) ≡ false
  small = values-small (All-take u.count F.constants)

  -- a sentence with these columns and this WHERE
  source : Sourced (position table.columns) (λ (n : Name). not (has table.columns n)) (parameter_count (setting_operands u)) u.condition (unmarked u.condition)
  source =
      unmarked-source (position table.columns) (length table.columns) (λ (n : Name). not (has table.columns n)) (λ i. get_or table.columns i [])
      (one_table table.columns fits.different) (parameter_count (setting_operands u)) u.condition F.condition_fits P.condition_sound

  -- its comparisons have two sides
  abbrev wanted : Where (G.Term Name)
  wanted = mapped_in comparison source.source

  -- ---- INSERT

  module _ (e : u.form ≡ 0) (h : sound_form 0 (columns_at ts u.table) u ≡ true) where
    insert-count : u.count ≡ length table.columns
    insert-count = eqb-true u.count (columns_at ts u.table) (and_left (eqb u.count (columns_at ts u.table)) _ h)

    insert_places : setting_columns u ≡ from 0 u.count
    insert_places =
        eq_list→eq eqb eqb→eq (setting_columns u) (from 0 u.count)
        (true→T (eq_list eqb (setting_columns u) (from 0 u.count))
        (and_left (eq_list eqb (setting_columns u) (from 0 u.count)) _ (and_right (eqb u.count (columns_at ts u.table)) _ h)))

    insert-none : u.condition.count ≡ 0
    insert-none =
        eqb-true u.condition.count 0
        (and_right (eq_list eqb (setting_columns u) (from 0 u.count)) _ (and_right (eqb u.count (columns_at ts u.table)) _ h))

    insert-length : length (map given_at (setting_values u)) ≡ u.count
    insert-length =
        length-map (setting_values u) given_at ∙ length-map (settings_read u) (λ (s : ℕ × M.Value). s.1)
        ∙ settings-many (omega (arith, insert-count, fits.few_columns))

    inserted : (L : Listed Given) × (items L ≡ map given_at (setting_values u))
    inserted = listed (map given_at (setting_values u)) (omega (arith, insert-length, insert-count, fits.some_columns))

    abbrev insert_sentence : Sentence
    insert_sentence = G.insert table.name inserted.0

    none-marked : condition_marks u.condition ≡ 0
    none-marked = ap (λ ns. parameter_count (sides (leaves ns))) (none-agrees u.condition insert-none).nodes_are

    insert-marks : mark_count (givens insert_sentence) ≡ u.parameters
    insert-marks =
        ap mark_count (append-nil (items inserted.0) ∙ inserted.1) ∙ values-marks (setting_values u)
        ∙ omega (arith, P.parameters_are, none-marked)

    insert-limits : Limits insert_sentence
    insert-limits = record {
      items_few = le-ltb most_items (length (items inserted.0)) (omega (arith, ap length inserted.1, insert-length, insert-count, fits.few_columns));
      rows_inside = refl;
      marks_few = le-ltb most_marks (mark_count (givens insert_sentence)) (omega (arith, insert-marks, P.few_parameters));
      comparisons_few = refl;
      shallow = refl;
      names_short = there-short ts T u.table P.there [] refl;
      constants_small = ap (any outside32) (append-nil (items inserted.0) ∙ inserted.1) ∙ small;
    }

    insert-passes : Passes ts insert_sentence
    unfolding unknown_name taken miscounted twice
    insert-passes = record {
      spelled = (has_text insert_sentence).0 (there-named ts T u.table P.there [] refl);
      within = limits-kept insert_sentence insert-limits;
      known = there-known ts T u.table P.there [] refl;
      fresh = refl;
      counted = ap not (eq-eqb (length (items inserted.0)) (length columns) (ap length inserted.1 ∙ insert-length ∙ insert-count ∙ sym (ap length columns_are)));
      different = refl;
    }

    insert-back : numbered_all 0 (items inserted.0) ≡ setting_values u
    insert-back = ap (numbered_all 0) inserted.1 ∙ values-back 0 (setting_values u) P.values_numbered

    insert-settings : settings_read u ≡ placed_from 0 (numbered_all 0 (items inserted.0))
    insert-settings =
        let many : length (setting_values u) ≡ u.count = sym (length-map (setting_values u) given_at) ∙ insert-length in
        same-pairs (settings_read u) (placed_from 0 (setting_values u))
        (insert_places ∙ ap (from 0) (sym many) ∙ sym (placed-columns 0 (setting_values u)))
        (sym (placed-values 0 (setting_values u)))
        ∙ ap (placed_from 0) (sym insert-back)

    insert-agrees : AgreesUpdate u (record { table = position (table_names ts) table.name; change = insert (numbered_all 0 (items inserted.0)); parameters = mark_count (givens insert_sentence) })
    insert-agrees = record {
      form_is = e;
      table_is = sym (there-place ts T u.table P.there);
      count_is = sym (settings-many (omega (arith, insert-count, fits.few_columns))) ∙ ap length insert-settings;
      settings_are = insert-settings;
      parameters_are = sym insert-marks;
      condition_is = none-agrees u.condition insert-none;
    }

    insert-source : FromUpdate ts u
    unfolding statement_of
    insert-source = record {
      sentence = insert_sentence;
      passes = insert-passes;
      statement = record { table = position (table_names ts) table.name; change = insert (numbered_all 0 (items inserted.0)); parameters = mark_count (givens insert_sentence) };
      says = refl;
      agrees = insert-agrees;
    }

  -- ---- UPDATE

  module _ (e : u.form ≡ 1) (h : sound_form 1 (columns_at ts u.table) u ≡ true) where
    update-some : 1 ≤ u.count
    update-some = leb-true 1 u.count (and_left (leb 1 u.count) _ h)

    update_few : u.count ≤ most_items
    update_few = leb-true u.count most_items (and_left (leb u.count most_items) _ (and_right (leb 1 u.count) _ h))

    update-last : (all (λ (i : ℕ). ltb i (columns_at ts u.table)) (setting_columns u) && not (repeats eqb (setting_columns u))) ≡ true
    update-last = and_right (leb u.count most_items) _ (and_right (leb 1 u.count) _ h)

    update-below : all (λ (i : ℕ). ltb i (length table.columns)) (setting_columns u) ≡ true
    update-below = and_left (all (λ (i : ℕ). ltb i (columns_at ts u.table)) (setting_columns u)) _ update-last

    update-once : repeats eqb (setting_columns u) ≡ false
    update-once = not-true (repeats eqb (setting_columns u)) (and_right (all (λ (i : ℕ). ltb i (columns_at ts u.table)) (setting_columns u)) _ update-last)

    update-length : length (map (set_at table.columns) (settings_read u)) ≡ u.count
    update-length = length-map (settings_read u) (set_at table.columns) ∙ settings-many update_few

    updated : (L : Listed (Name × Given)) × (items L ≡ map (set_at table.columns) (settings_read u))
    updated = listed (map (set_at table.columns) (settings_read u)) (omega (arith, update-length, update-some))

    abbrev update_sentence : Sentence
    update_sentence = G.update table.name updated.0 source.source

    set-names : map (λ (s : Name × Given). s.0) (items updated.0) ≡ names_at table.columns (setting_columns u)
    set-names = ap (map (λ (s : Name × Given). s.0)) updated.1 ∙ map-twice (set_at table.columns) (λ (s : Name × Given). s.0) (settings_read u)
        ∙ sym (map-twice (λ (s : ℕ × M.Value). s.0) (λ (i : ℕ). get_or table.columns i []) (settings_read u))

    set-givens : map (λ (s : Name × Given). s.1) (items updated.0) ≡ map given_at (setting_values u)
    set-givens = ap (map (λ (s : Name × Given). s.1)) updated.1 ∙ map-twice (set_at table.columns) (λ (s : Name × Given). s.1) (settings_read u)
        ∙ sym (map-twice (λ (s : ℕ × M.Value). s.1) given_at (settings_read u))

    update-known : any (λ (n : Name). not (has table.columns n)) (columns_named update_sentence) ≡ false
    update-known =
        known-append table.columns (map (λ (s : Name × Given). s.0) (items updated.0)) (term_columns (operands_in wanted))
        (ap (any (λ (n : Name). not (has table.columns n))) set-names ∙ names-known table.columns fits.different (setting_columns u) update-below)
        source.known

    set-marks : setting_marks (items updated.0) ≡ parameter_count (setting_operands u)
    set-marks = ap mark_count set-givens ∙ values-marks (setting_values u)

    update-marks : mark_count (givens update_sentence) ≡ u.parameters
    update-marks =
        marks-append (map (λ (s : Name × Given). s.1) (items updated.0)) (term_givens (operands_in wanted))
        ∙ ap₂ ◌+◌ set-marks source.marks ∙ sym P.parameters_are

    update-limits : Limits update_sentence
    update-limits =
        let many : length (items updated.0) ≡ u.count = ap length updated.1 ∙ update-length in
        let names : length (map (λ (s : Name × Given). s.0) (items updated.0)) ≡ length (items updated.0) = length-map (items updated.0) (λ (s : Name × Given). s.0) in
        let values : length (map (λ (s : Name × Given). s.1) (items updated.0)) ≡ length (items updated.0) = length-map (items updated.0) (λ (s : Name × Given). s.1) in
        record {
          items_few =
              or-none (ltb most_items (length (map (λ (s : Name × Given). s.0) (items updated.0)))) _
              (le-ltb most_items (length (map (λ (s : Name × Given). s.0) (items updated.0))) (omega (arith, update_few)))
              (le-ltb most_items (length (map (λ (s : Name × Given). s.1) (items updated.0))) (omega (arith, update_few)));
          rows_inside = refl;
          marks_few = le-ltb most_marks (mark_count (givens update_sentence)) (omega (arith, update-marks, P.few_parameters));
          comparisons_few = le-ltb most_comparisons (length (comparisons_in wanted)) source.few;
          shallow = le-ltb most_depth (depth_in wanted) source.shallow;
          names_short = there-short ts T u.table P.there (columns_named update_sentence) update-known;
          constants_small = any_append outside32 (map (λ (s : Name × Given). s.1) (items updated.0)) (term_givens (operands_in wanted))
              ∙ or-none _ _ (ap (any outside32) set-givens ∙ small) source.small;
        }

    update-passes : Passes ts update_sentence
    unfolding unknown_name taken miscounted twice
    update-passes = record {
      spelled = (has_text update_sentence).0 (there-named ts T u.table P.there (columns_named update_sentence) update-known);
      within = limits-kept update_sentence update-limits;
      known = there-known ts T u.table P.there (columns_named update_sentence) update-known;
      fresh = ap (repeats same_name) set-names ∙ names-different table.columns fits.different (setting_columns u) update-below update-once;
      counted = refl;
      different = refl;
    }

    update-settings : settings_read u ≡ settings columns 0 (items updated.0)
    update-settings =
        same-pairs (settings_read u) (settings columns 0 (items updated.0))
        (sym
        (settings-columns columns 0 (items updated.0) ∙ ap₂ (λ C l. map (position C) l) columns_are set-names
        ∙ names-back table.columns fits.different (setting_columns u) update-below))
        (sym
        (settings-values columns 0 (items updated.0) ∙ ap (numbered_all 0) set-givens
        ∙ values-back 0 (setting_values u) P.values_numbered))

    abbrev update_statement : M.Update
    update_statement = record {
      table = position (table_names ts) table.name;
      change = update (settings columns 0 (items updated.0)) (resolved_where (position columns) (setting_marks (items updated.0)) wanted);
      parameters = mark_count (givens update_sentence);
    }

    update_agrees : AgreesUpdate u update_statement
    update_agrees = record {
      form_is = e;
      table_is = sym (there-place ts T u.table P.there);
      count_is = sym (settings-many update_few) ∙ ap length update-settings;
      settings_are = update-settings;
      parameters_are = sym update-marks;
      condition_is = subst₂ (λ C m. AgreesCondition u.condition (resolved_where (position C) m wanted)) (sym columns_are) (sym set-marks) source.agrees;
    }

    update-source : FromUpdate ts u
    unfolding statement_of
    update-source = record { sentence = update_sentence; passes = update-passes; statement = update_statement; says = refl; agrees = update_agrees }

  -- ---- DELETE

  module _ (e : u.form ≡ 2) (h : sound_form 2 (columns_at ts u.table) u ≡ true) where
    delete-none : u.count ≡ 0
    delete-none = eqb-true u.count 0 h

    no-settings : settings_read u ≡ []
    no-settings = ap (λ n. map setting_read (take n u.settings)) delete-none

    no-marks : parameter_count (setting_operands u) ≡ 0
    no-marks = ap (λ ss. parameter_count (map value (map (λ (s : ℕ × M.Value). s.1) ss))) no-settings

    abbrev delete_sentence : Sentence
    delete_sentence = G.delete table.name source.source

    delete-marks : mark_count (givens delete_sentence) ≡ u.parameters
    delete-marks =
        let k : mark_count (term_givens (operands_in wanted)) ≡ condition_marks u.condition = source.marks in
        k ∙ omega (arith, P.parameters_are, no-marks)

    delete-limits : Limits delete_sentence
    delete-limits = record {
      items_few = refl;
      rows_inside = refl;
      marks_few = le-ltb most_marks (mark_count (givens delete_sentence)) (omega (arith, delete-marks, P.few_parameters));
      comparisons_few = le-ltb most_comparisons (length (comparisons_in wanted)) source.few;
      shallow = le-ltb most_depth (depth_in wanted) source.shallow;
      names_short = there-short ts T u.table P.there (columns_named delete_sentence) source.known;
      constants_small = source.small;
    }

    delete-passes : Passes ts delete_sentence
    unfolding unknown_name taken miscounted twice
    delete-passes = record {
      spelled = (has_text delete_sentence).0 (there-named ts T u.table P.there (columns_named delete_sentence) source.known);
      within = limits-kept delete_sentence delete-limits;
      known = there-known ts T u.table P.there (columns_named delete_sentence) source.known;
      fresh = refl;
      counted = refl;
      different = refl;
    }

    abbrev delete_statement : M.Update
    delete_statement = record {
      table = position (table_names ts) table.name;
      change = delete (resolved_where (position columns) 0 wanted);
      parameters = mark_count (givens delete_sentence);
    }

    delete-agrees : AgreesUpdate u delete_statement
    delete-agrees = record {
      form_is = e;
      table_is = sym (there-place ts T u.table P.there);
      count_is = delete-none;
      settings_are = no-settings;
      parameters_are = sym delete-marks;
      condition_is = subst₂ (λ C m. AgreesCondition u.condition (resolved_where (position C) m wanted)) (sym columns_are) no-marks source.agrees;
    }

    delete-source : FromUpdate ts u
    unfolding statement_of
    delete-source = record { sentence = delete_sentence; passes = delete-passes; statement = delete_statement; says = refl; agrees = delete-agrees }

  form-source : (k : ℕ) → u.form ≡ k → sound_form k (columns_at ts u.table) u ≡ true → FromUpdate ts u
  form-source zero e h = insert-source e h
  form-source (suc zero) e h = update-source e h
  form-source (suc (suc zero)) e h = delete-source e h
  form-source (suc (suc (suc k))) e h = clash h refl

  pub update-from : FromUpdate ts u
  update-from = form-source u.form refl P.form_sound

-- ---- and one that comes of such a sentence passes

abbrev no_change : M.Update
no_change = record { table = 0; change = insert []; parameters = 0 }

abbrev changed : Statement → M.Update
changed (creates t) = no_change
changed (asks q) = no_change
changed (changes u) = u

abbrev is_change : Statement → Bool
is_change (creates t) = false
is_change (asks q) = false
is_change (changes u) = true

module _ (ts : List Schema) (u : Update) where
  -- the table and the columns that a sentence names are there
  module _ (t : Name) (cs ds : List Name) (known : missing ts t (cs ++ ds) ≡ false) where
    place-below : position (table_names ts) t < length ts
    place-below =
        subst (λ n. position (table_names ts) t < n) (length-map ts (λ (s : Schema). s.name))
        (has-position (table_names ts) t (not-false (has (table_names ts) t) (or_left (not (has (table_names ts) t)) _ known)))

    both-known : (any (λ (n : Name). not (has (columns_of ts t) n)) cs || any (λ (n : Name). not (has (columns_of ts t) n)) ds) ≡ false
    both-known = sym (any_append (λ (n : Name). not (has (columns_of ts t) n)) cs ds) ∙ or_right (not (has (table_names ts) t)) _ known

    first-known : any (λ (n : Name). not (has (columns_of ts t) n)) cs ≡ false
    first-known = or_left (any (λ (n : Name). not (has (columns_of ts t) n)) cs) _ both-known

    second-known : any (λ (n : Name). not (has (columns_of ts t) n)) ds ≡ false
    second-known = or_right (any (λ (n : Name). not (has (columns_of ts t) n)) cs) _ both-known

  insert-update : (t : Name) (vs : Listed Given) → Passes ts (G.insert t vs) → AgreesUpdate u (changed (statement_of ts (G.insert t vs))) → sound_update ts u ≡ true
  unfolding statement_of unknown_name miscounted
  insert-update t vs P A =
      let s : Sentence = G.insert t vs in
      let L : Limits s = limits_of s P.within in
      let columns : List Name = columns_of ts t in
      let values : List M.Value = numbered_all 0 (items vs) in
      let n : columns_at ts u.table ≡ length columns = ap (columns_at ts) A.table_is in
      let one : length (items vs) ≡ length columns = eqb-true (length (items vs)) (length columns) (not-false (eqb (length (items vs)) (length columns)) P.counted) in
      let count : u.count ≡ length values = A.count_is ∙ placed-length 0 values in
      let given : setting_values u ≡ values = ap (map (λ (s : ℕ × M.Value). s.1)) A.settings_are ∙ placed-values 0 values in
      let places : setting_columns u ≡ from 0 u.count = ap (map (λ (s : ℕ × M.Value). s.0)) A.settings_are ∙ placed-columns 0 values ∙ ap (from 0) (sym count) in
      let marks : parameter_count (setting_operands u) ≡ mark_count (items vs) = ap (λ os. parameter_count (map value os)) given ∙ numbered-marks 0 (items vs) in
      let tested : condition_marks u.condition ≡ 0 = source-marks (position columns) 0 always u.condition A.condition_is in
      parts-update ts u (record {
        there = subst (λ i. i < length ts) (sym A.table_is) (place-below t [] [] P.known);
        form_sound =
            ap (λ k. sound_form k (columns_at ts u.table) u) A.form_is
            ∙ and_both (eqb u.count (columns_at ts u.table)) _
            (eq-eqb u.count (columns_at ts u.table) (count ∙ numbered-length 0 (items vs) ∙ one ∙ sym n))
            (and_both (eq_list eqb (setting_columns u) (from 0 u.count)) _
            (ap (λ l. eq_list eqb l (from 0 u.count)) places ∙ T→true _ (eq_list-refl eqb eqb_refl (from 0 u.count)))
            (eq-eqb u.condition.count 0 A.condition_is.count_is));
        values_numbered = ap (λ os. numbered_on 0 (map value os)) given ∙ values_numbered 0 (items vs);
        condition_sound = ap (λ k. sound_condition k (parameter_count (setting_operands u)) u.condition) n
            ∙ source-condition (position columns) (parameter_count (setting_operands u)) always u.condition A.condition_is
            (length columns) (λ (n : Name). not (has columns n)) (name-inside columns) refl (omega arith);
        parameters_are = A.parameters_are ∙ ap mark_count (append-nil (items vs)) ∙ omega arith;
        few_parameters = subst (λ k. k ≤ most_marks) (sym A.parameters_are) (ltb-false most_marks (mark_count (givens s)) L.marks_few);
      })

  delete-update : (t : Name) (v : Optional (Test Name)) → Passes ts (G.delete t v) → AgreesUpdate u (changed (statement_of ts (G.delete t v))) → sound_update ts u ≡ true
  unfolding statement_of unknown_name
  delete-update t v P A =
      let s : Sentence = G.delete t v in
      let w : Where (G.Term Name) = mapped_in comparison v in
      let L : Limits s = limits_of s P.within in
      let columns : List Name = columns_of ts t in
      let n : columns_at ts u.table ≡ length columns = ap (columns_at ts) A.table_is in
      let given : setting_operands u ≡ [] = ap (λ ss. map value (map (λ (s : ℕ × M.Value). s.1) ss)) A.settings_are in
      let marks : parameter_count (setting_operands u) ≡ 0 = ap parameter_count given in
      let tested : condition_marks u.condition ≡ mark_count (term_givens (operands_in w)) = source-marks (position columns) 0 v u.condition A.condition_is in
      parts-update ts u (record {
        there = subst (λ i. i < length ts) (sym A.table_is) (place-below t [] (term_columns (operands_in w)) P.known);
        form_sound = ap (λ k. sound_form k (columns_at ts u.table) u) A.form_is ∙ eq-eqb u.count 0 A.count_is;
        values_numbered = ap (numbered_on 0) given;
        condition_sound = ap₂ (λ k m. sound_condition k m u.condition) n marks
            ∙ source-condition (position columns) 0 v u.condition A.condition_is
            (length columns) (λ (n : Name). not (has columns n)) (name-inside columns) (second-known t [] (term_columns (operands_in w)) P.known)
            (ltb-false most_comparisons (length (comparisons_in w)) L.comparisons_few);
        parameters_are = A.parameters_are ∙ sym tested ∙ omega arith;
        few_parameters = subst (λ k. k ≤ most_marks) (sym A.parameters_are) (ltb-false most_marks (mark_count (givens s)) L.marks_few);
      })

  update-update : (t : Name) (ss : Listed (Name × Given)) (v : Optional (Test Name)) → Passes ts (G.update t ss v)
      → AgreesUpdate u (changed (statement_of ts (G.update t ss v))) → sound_update ts u ≡ true
  unfolding statement_of unknown_name taken
  update-update t ss v P A =
      let s : Sentence = G.update t ss v in
      let w : Where (G.Term Name) = mapped_in comparison v in
      let L : Limits s = limits_of s P.within in
      let columns : List Name = columns_of ts t in
      let names : List Name = map (λ (s : Name × Given). s.0) (items ss) in
      let gs : List Given = map (λ (s : Name × Given). s.1) (items ss) in
      let n : columns_at ts u.table ≡ length columns = ap (columns_at ts) A.table_is in
      let known : any (λ (n : Name). not (has columns n)) names ≡ false = first-known t names (term_columns (operands_in w)) P.known in
      let count : u.count ≡ length (items ss) = A.count_is ∙ settings-length columns 0 (items ss) in
      let few : length names ≤ most_items = ltb-false most_items (length names) (or_left (ltb most_items (length names)) _ L.items_few) in
      let many : length names ≡ length (items ss) = length-map (items ss) (λ (s : Name × Given). s.0) in
      let places : setting_columns u ≡ map (position columns) names = ap (map (λ (s : ℕ × M.Value). s.0)) A.settings_are ∙ settings-columns columns 0 (items ss) in
      let given : setting_values u ≡ numbered_all 0 gs = ap (map (λ (s : ℕ × M.Value). s.1)) A.settings_are ∙ settings-values columns 0 (items ss) in
      let marks : parameter_count (setting_operands u) ≡ mark_count gs = ap (λ os. parameter_count (map value os)) given ∙ numbered-marks 0 gs in
      let tested : condition_marks u.condition ≡ mark_count (term_givens (operands_in w)) = source-marks (position columns) (mark_count gs) v u.condition A.condition_is in
      parts-update ts u (record {
        there = subst (λ i. i < length ts) (sym A.table_is) (place-below t names (term_columns (operands_in w)) P.known);
        form_sound =
            ap (λ k. sound_form k (columns_at ts u.table) u) A.form_is
            ∙ and_both (leb 1 u.count) _ (le-leb 1 u.count (omega (arith, items-some ss)))
            (and_both (leb u.count most_items) _ (le-leb u.count most_items (omega arith))
            (and_both (all (λ (i : ℕ). ltb i (columns_at ts u.table)) (setting_columns u)) _
            (ap₂ (λ k l. all (λ (i : ℕ). ltb i k) l) n places ∙ positions-below columns names known)
            (ap not (ap (repeats eqb) places ∙ places-different columns names known P.fresh))));
        values_numbered = ap (λ os. numbered_on 0 (map value os)) given ∙ values_numbered 0 gs;
        condition_sound = ap₂ (λ k m. sound_condition k m u.condition) n marks
            ∙ source-condition (position columns) (mark_count gs) v u.condition A.condition_is
            (length columns) (λ (n : Name). not (has columns n)) (name-inside columns) (second-known t names (term_columns (operands_in w)) P.known)
            (ltb-false most_comparisons (length (comparisons_in w)) L.comparisons_few);
        parameters_are = A.parameters_are ∙ marks-append gs (term_givens (operands_in w)) ∙ ap₂ ◌+◌ (sym marks) (sym tested);
        few_parameters = subst (λ k. k ≤ most_marks) (sym A.parameters_are) (ltb-false most_marks (mark_count (givens s)) L.marks_few);
      })

  sentence-update : (s : Sentence) → Passes ts s → is_change (statement_of ts s) ≡ true → AgreesUpdate u (changed (statement_of ts s)) → sound_update ts u ≡ true
  unfolding statement_of
  sentence-update (G.table t cs ring z) P a A = clash a refl
  sentence-update (G.select cs t w) P a A = clash a refl
  sentence-update (G.pair cs t v w) P a A = clash a refl
  sentence-update (G.insert t vs) P a A = insert-update t vs P A
  sentence-update (G.update t ss w) P a A = update-update t ss w P A
  sentence-update (G.delete t w) P a A = delete-update t w P A

  pub source-update : FromUpdate ts u → sound_update ts u ≡ true
  source-update S =
      sentence-update S.sentence S.passes (ap is_change S.says) (subst (λ r. AgreesUpdate u (changed r)) (sym S.says) S.agrees)

-- an update passes the test exactly if it is the compiled form of a sentence that passes
pub update_sound : (ts : List Schema) → TablesFit ts → (u : Update) → UpdateFits u → (sound_update ts u ≡ true) ↔ FromUpdate ts u
update_sound ts T u F = ((λ h. update-from ts T u F (update-parts ts u h)), source-update ts u)
