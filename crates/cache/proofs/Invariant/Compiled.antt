-- What a text compiles to has the lengths and the 32 bits that the types of the code say, whatever the text. Assumes nothing.
use mathlib.Core.Path.{◌≡◌, refl, sym, ap, ◌∙◌, subst}
use mathlib.Core.Bool.{false}
use mathlib.Core.Option.{Option, none, some}
use mathlib.Core.List.{List, [], ◌∷◌, ◌++◌, map}
use Prim.Native.Nat.{ℕ, zero, suc, ◌+◌, ◌*◌, ◌-◌, ◌≤◌}
use native.Mathlib.Omega.{arith}
use borrow.Author.Tests.{ltb-false}
use lib.Dec.{ltb}
use lib.ListN.{length, replicate, length-append, length-map, length-replicate}
use Rattle.lists.specs.Lists.{All, nil, cons}
use Rattle.lists.proofs.Bools.{or_left, or_right, not-false}
use Rattle.lists.proofs.Lists.{All-head, All-tail, All-map, All-append, All-left, All-right, All-image, any_false}
use Rattle.meaning.specs.Condition.{Where, mapped_in, comparisons_in, operands_in, sides}
use Rattle.meaning.specs.Postfix.{Node, leaf, all_of, any_of, nodes_in, leaves}
use Rattle.meaning.specs.Private.Walk.{resolve_nodes, marks_past}
use Rattle.meaning.specs.Tokens.{Name}
use Rattle.meaning.specs.Grammar as G
use Rattle.meaning.specs.Grammar.{Given, mark, Term, given, comparison, items, Dotted, Sentence}
use Rattle.meaning.specs.Reader.{sentence}
use Rattle.meaning.specs.Limits.{most_items, most_name, most_comparisons, list_columns, list_givens, all_names, where_of, term_givens, givens, mark_in, outside32, is_within32, past_limit}
use Rattle.meaning.specs.Names.{Schema, position, columns_of, pair_place}
use Rattle.meaning.specs.Statement as M
use Rattle.meaning.specs.Statement.{constant, numbered, numbered_all, settings, setting_marks, operand_of, mark_in_term, resolved_where, statement_of}
use Rattle.meaning.specs.Refusals.{Catalog, text_conditions, lowest_of}
use Rattle.meaning.proofs.Accepted.{clear}
use Rattle.meaning.proofs.Dotted.{bare-givens}
use Rattle.meaning.proofs.Postfix.{sides-in, leaves_in}
use Rattle.meaning.proofs.Resolve.{resolve-where, resolve-length, resolve-leaves}
use Rattle.meaning.proofs.Resolved.{numbered-length}
use Rattle.meaning.specs.Pattern.{placed_from}
use Rattle.statement.specs.declared.Table.{Table}
use Rattle.statement.specs.declared.Setting.{Setting}
use Rattle.statement.specs.Compiled.{Compiled, padded, name_struct, no_name, no_table, value_struct, operand_struct, comparison_struct, no_comparison, step_of, condition_struct, no_query, new_value, setting_struct, no_setting, no_update, compiled_refusal, struct_of, struct_of_text, compiled_by, compiled_of}
use Rattle.statement.specs.Catalog.{catalog}
use Rattle.statement.specs.Sound.{ValueFits, OperandFits, ComparisonFits, ConditionFits, QueryFits, UpdateFits, NameFits, TableStructFits}
use Rattle.statement.proofs.SoundNames.{Limits, limits_of}
use Rattle.statement.proofs.SoundPairs.{bare-count}
use Rattle.statement.proofs.SoundSettings.{placed-length, settings-length}
use Rattle.statement.proofs.Stored.{where-count}

-- ---- arrays

module _ {A : Type 0} where
  pub padded-length : (n : ℕ) (d : A) (xs : List A) → length xs ≤ n → length (padded n d xs) ≡ n
  padded-length n d xs h = omega (arith, length-append xs (replicate (n - length xs) d), length-replicate (n - length xs) d)

  pub All-replicate : {P : A → Type 0} (n : ℕ) (d : A) → P d → All P (replicate n d)
  All-replicate zero d p = nil
  All-replicate (suc n) d p = cons p (All-replicate n d p)

  All-padded : {P : A → Type 0} (n : ℕ) (d : A) {xs : List A} → P d → All P xs → All P (padded n d xs)
  All-padded n d {xs} p h = All-append h (All-replicate (n - length xs) d p)

-- ---- what a refused text compiles to

pub record Fitting (r : Compiled) : Type 0 where
  pub table_fits : TableStructFits r.table
  pub query_fits : QueryFits r.query
  pub update_fits : UpdateFits r.update

pub no_table_lem : TableStructFits no_table
no_table_lem = record { eight = refl; name_fits = refl; columns_fit = All-replicate 8 no_name refl }

no-condition : ConditionFits (condition_struct [])
no-condition = record { eight = refl; fifteen = refl; constants = All-replicate 8 no_comparison (refl, refl) }

pub no-query : QueryFits no_query
no-query = record { eight = refl; condition_fits = no-condition }

pub no-update : UpdateFits no_update
no-update = record { eight = refl; constants = All-replicate 8 no_setting refl; condition_fits = no-condition }

-- ---- constants

abbrev Small : Given → Type 0
Small v = outside32 v ≡ false

value-fits : (m : ℕ) (v : Given) → Small v → ValueFits (value_struct (numbered m v))
value-fits m (G.constant z) h = not-false (is_within32 z) h
value-fits m mark h = refl

module _ {C : Type 0} (place : C → ℕ) where
  -- an operand, and the constants of those behind it
  operand-fits : (m : ℕ) (t : Term C) (ts : List (Term C)) → All Small (term_givens (t ∷ ts)) → OperandFits (operand_struct (operand_of place m t)) × All Small (term_givens ts)
  operand-fits m (G.column n) ts h = (refl, h)
  operand-fits m (given (G.constant z)) ts h = (not-false (is_within32 z) (All-head h), All-tail h)
  operand-fits m (given mark) ts h = (refl, All-tail h)

  comparisons-fit : (m : ℕ) (ns : List (Node (Term C))) → All Small (term_givens (sides (leaves ns))) → All ComparisonFits (map comparison_struct (leaves (resolve_nodes place m ns)))
  comparisons-fit m [] h = nil
  comparisons-fit m (leaf c ∷ ns) h =
      let l = operand-fits m c.left (c.right ∷ sides (leaves ns)) h in
      let r = operand-fits (m + mark_in_term c.left) c.right (sides (leaves ns)) l.1 in
      cons (l.0, r.0) (comparisons-fit (marks_past m c) ns r.1)
  comparisons-fit m (all_of ∷ ns) h = comparisons-fit m ns h
  comparisons-fit m (any_of ∷ ns) h = comparisons-fit m ns h

  -- a WHERE, names resolved
  where-fits : (m : ℕ) (w : Where (Term C)) → length (comparisons_in w) ≤ most_comparisons → All Small (term_givens (operands_in w))
      → ConditionFits (condition_struct (nodes_in (resolved_where place m w)))
  where-fits m w few small =
      let ns : List (Node M.Operand) = nodes_in (resolved_where place m w) in
      let is : ns ≡ resolve_nodes place m (nodes_in w) = resolve-where place m w in
      let ls : length (leaves ns) ≡ length (leaves (nodes_in w)) = ap (λ (xs : List (Node M.Operand)). length (leaves xs)) is ∙ resolve-leaves place m (nodes_in w) in
      let many : length (leaves (nodes_in w)) ≡ length (comparisons_in w) = leaves_in w in
      let size : length ns ≡ length (nodes_in w) = ap length is ∙ resolve-length place m (nodes_in w) in
      let nodes : length (nodes_in w) ≡ 2 * length (comparisons_in w) - 1 = where-count w in
      record {
        eight = padded-length 8 no_comparison (map comparison_struct (leaves ns)) (omega (arith, length-map (leaves ns) comparison_struct));
        fifteen = padded-length 15 0 (map step_of ns) (omega (arith, length-map ns step_of));
        constants =
            All-padded 8 no_comparison (refl, refl)
            (subst (λ (xs : List (Node M.Operand)). All ComparisonFits (map comparison_struct (leaves xs))) (sym is)
            (comparisons-fit m (nodes_in w) (subst (λ (ts : List (Term C)). All Small (term_givens ts)) (sym (sides-in w)) small)));
      }

module _ (columns : List Name) where
  settings-fit : (m : ℕ) (ss : List (Name × Given)) → All Small (map (λ (s : Name × Given). s.1) ss)
      → All (λ (s : Setting). ValueFits (new_value s)) (map setting_struct (settings columns m ss))
  settings-fit m [] h = nil
  settings-fit m (s ∷ ss) h = cons (value-fits m s.1 (All-head h)) (settings-fit (m + mark_in s.1) ss (All-tail h))

values-fit : (i m : ℕ) (vs : List Given) → All Small vs → All (λ (s : Setting). ValueFits (new_value s)) (map setting_struct (placed_from i (numbered_all m vs)))
values-fit i m [] h = nil
values-fit i m (v ∷ vs) h = cons (value-fits m v (All-head h)) (values-fit (suc i) (m + mark_in v) vs (All-tail h))

-- ---- the limits of a sentence

module _ (s : Sentence) (h : past_limit s ≡ false) where
  abbrev within : Limits s
  within = limits_of s h

  few_columns : length (list_columns s) ≤ most_items
  few_columns = ltb-false most_items (length (list_columns s)) (or_left (ltb most_items (length (list_columns s))) _ within.items_few)

  few-givens : length (list_givens s) ≤ most_items
  few-givens = ltb-false most_items (length (list_givens s)) (or_right (ltb most_items (length (list_columns s))) _ within.items_few)

  short-names : All (λ (n : Name). length n ≤ most_name) (all_names s)
  short-names = All-map (λ n e. ltb-false most_name (length n) e) (any_false (λ (n : Name). ltb most_name (length n)) (all_names s) within.names_short)

  small-constants : All Small (list_givens s ++ term_givens (operands_in (where_of s)))
  small-constants = any_false outside32 (givens s) within.constants_small

  small-tested : All Small (term_givens (operands_in (where_of s)))
  small-tested = All-right (list_givens s) small-constants

  few-tested : length (comparisons_in (where_of s)) ≤ most_comparisons
  few-tested = ltb-false most_comparisons (length (comparisons_in (where_of s))) within.comparisons_few

name_fits : (n : Name) → length n ≤ most_name → NameFits (name_struct n)
name_fits n h = padded-length 12 0 n h

-- ---- the five forms

-- the settings of an update
settings-fitting : (ss : List (ℕ × M.Value)) → length ss ≤ most_items → All (λ (s : Setting). ValueFits (new_value s)) (map setting_struct ss)
    → (length (padded 8 no_setting (map setting_struct ss)) ≡ 8) × All (λ (s : Setting). ValueFits (new_value s)) (padded 8 no_setting (map setting_struct ss))
settings-fitting ss h a = (padded-length 8 no_setting (map setting_struct ss) (omega (arith, length-map ss setting_struct)), All-padded 8 no_setting refl a)

sentence-fits : (ts : List Schema) (s : Sentence) → past_limit s ≡ false → Fitting (struct_of (statement_of ts s))
unfolding struct_of statement_of
sentence-fits ts (G.table t cs ring z) h =
    let names = short-names (G.table t cs ring z) h in
    record {
      table_fits = record {
        eight = padded-length 8 no_name (map name_struct (items cs)) (omega (arith, length-map (items cs) name_struct, few_columns (G.table t cs ring z) h));
        name_fits = name_fits t (All-head names);
        columns_fit = All-padded 8 no_name refl (All-image name_struct (All-map name_fits (All-left (items cs) _ (All-tail names))));
      };
      query_fits = no-query;
      update_fits = no-update;
    }
sentence-fits ts (G.select cs t w) h =
    let at : List ℕ = map (position (columns_of ts t)) (items cs) in
    record {
      table_fits = no_table_lem;
      query_fits = record {
        eight = padded-length 8 0 at (omega (arith, length-map (items cs) (position (columns_of ts t)), few_columns (G.select cs t w) h));
        condition_fits = where-fits (position (columns_of ts t)) 0 (mapped_in comparison w) (few-tested (G.select cs t w) h) (small-tested (G.select cs t w) h);
      };
      update_fits = no-update;
    }
sentence-fits ts (G.pair cs t u w) h =
    let s : Sentence = G.pair cs t u w in
    let place : Dotted → ℕ = pair_place t (columns_of ts t) u (columns_of ts u) in
    record {
      table_fits = no_table_lem;
      query_fits = record {
        eight = padded-length 8 0 (map place (items cs)) (omega (arith, length-map (items cs) place, length-map (items cs) (λ (c : Dotted). c.1), few_columns s h));
        condition_fits =
            where-fits place 0 (mapped_in comparison w) (subst (λ (n : ℕ). n ≤ most_comparisons) (bare-count (mapped_in comparison w)) (few-tested s h))
            (subst (All Small) (bare-givens (mapped_in comparison w)) (small-tested s h));
      };
      update_fits = no-update;
    }
sentence-fits ts (G.insert t vs) h =
    let ss : List (ℕ × M.Value) = placed_from 0 (numbered_all 0 (items vs)) in
    let F = settings-fitting ss (omega (arith, placed-length 0 (numbered_all 0 (items vs)), numbered-length 0 (items vs), few-givens (G.insert t vs) h))
    (values-fit 0 0 (items vs) (All-left (items vs) _ (small-constants (G.insert t vs) h))) in
    record {
      table_fits = no_table_lem;
      query_fits = no-query;
      update_fits = record { eight = F.0; constants = F.1; condition_fits = no-condition };
    }
sentence-fits ts (G.update t ss w) h =
    let s : Sentence = G.update t ss w in
    let F = settings-fitting (settings (columns_of ts t) 0 (items ss))
    (omega (arith, settings-length (columns_of ts t) 0 (items ss), length-map (items ss) (λ (s : Name × Given). s.0), few_columns s h))
    (settings-fit (columns_of ts t) 0 (items ss) (All-left (list_givens s) _ (small-constants s h))) in
    record {
      table_fits = no_table_lem;
      query_fits = no-query;
      update_fits = record {
        eight = F.0;
        constants = F.1;
        condition_fits = where-fits (position (columns_of ts t)) (setting_marks (items ss)) (mapped_in comparison w) (few-tested s h) (small-tested s h);
      };
    }
sentence-fits ts (G.delete t w) h = record {
  table_fits = no_table_lem;
  query_fits = no-query;
  update_fits = record {
    eight = refl;
    constants = All-replicate 8 no_setting refl;
    condition_fits = where-fits (position (columns_of ts t)) 0 (mapped_in comparison w) (few-tested (G.delete t w) h) (small-tested (G.delete t w) h);
  };
}

-- ---- any text

refused-fits : (n : ℕ) → Fitting (compiled_refusal n)
refused-fits n = record { table_fits = no_table_lem; query_fits = no-query; update_fits = no-update }

module _ (text : List ℕ) (tables : List Table) (used queries updates cells : ℕ) where
  abbrev beside : Catalog
  beside = catalog tables used queries updates cells

  text-fits : (o : Option Sentence) → All (λ x. x.1 ≡ false) (text_conditions beside text o) → Fitting (struct_of_text beside.tables o)
  text-fits none a = refused-fits 0
  text-fits (some s) a = sentence-fits beside.tables s (All-head (All-tail (All-tail a)))

  pub compiled-fits : Fitting (compiled_of text tables used queries updates cells)
  unfolding compiled_of
  compiled-fits = go (lowest_of (text_conditions beside text (sentence text))) refl
    where
      go : (n : ℕ) → lowest_of (text_conditions beside text (sentence text)) ≡ n → Fitting (compiled_by n (struct_of_text beside.tables (sentence text)))
      go zero e = text-fits (sentence text) ((clear 2 (text_conditions beside text (sentence text)) refl).0 e)
      go (suc n) e = refused-fits (suc n)
