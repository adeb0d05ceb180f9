-- What a text compiles to is a stored form that the test lets pass. Assumes nothing.
use mathlib.Core.Path.{◌≡◌, refl, sym, ap, ap₂, ◌∙◌, subst}
use mathlib.Core.Logic.{◌⊎◌, inl, inr}
use mathlib.Core.Bool.{true, false}
use mathlib.Core.Option.{Option, none, some}
use mathlib.Core.List.{List, [], ◌∷◌, map, reverse}
use Prim.Native.Nat.{ℕ, zero, suc, ◌+◌, ◌*◌, ◌-◌}
use native.Mathlib.Omega.{arith}
use borrow.Author.Tests.{eqb-true}
use lib.ListN.{length, take, length-map}
use Rattle.lists.specs.Lists.{All}
use Rattle.lists.proofs.Bools.{and_left, and_right, clash}
use Rattle.lists.proofs.Lists.{All-head, All-tail}
use Rattle.meaning.specs.Condition as C
use Rattle.meaning.specs.Condition.{Where, always, sides, mapped_in}
use Rattle.meaning.specs.Postfix.{Node, leaf, all_of, any_of, nodes_in, leaves, outer_marks_in}
use Rattle.meaning.specs.Resolve.{mark_in_operand, is_numbered, numbered_on, numbered_from}
use Rattle.meaning.specs.Tokens as T
use Rattle.meaning.specs.Grammar as G
use Rattle.meaning.specs.Grammar.{Given, mark, Term, comparison, items, Sentence}
use Rattle.meaning.specs.Reader.{sentence}
use Rattle.meaning.specs.Limits.{mark_in}
use Rattle.meaning.specs.Names.{Schema, position, columns_of, pair_place}
use Rattle.meaning.specs.Statement as M
use Rattle.meaning.specs.Statement.{column, value, constant, parameter, creates, asks, changes, numbered, numbered_all, settings, setting_marks, resolved_where, statement_of}
use Rattle.meaning.specs.Refusals.{Catalog, text_conditions, lowest_of}
use Rattle.meaning.proofs.Accepted.{clear, reads_exactly}
use Rattle.meaning.proofs.Postfix.{leaves_in}
use Rattle.meaning.proofs.Outer.{marks-length}
use Rattle.meaning.proofs.Resolve.{resolve-where, resolve-numbered}
use Rattle.meaning.specs.Pattern.{placed_from}
use Rattle.statement.specs.Catalog.{name_of_struct, schemas_of, catalog}
use Rattle.statement.specs.Compiled.{padded, name_struct, no_name, table_struct, value_struct, operand_struct, comparison_struct, no_comparison, step_of, condition_struct, marks_number, query_struct, setting_struct, no_setting, update_struct, struct_of, struct_of_text, compiled_by, compiled_of, Compiled}
use Rattle.statement.specs.Sound.{value_read, operand_read, comparison_read, nodes_read, condition_nodes, used_comparisons, used_steps, digits_back, used_columns, setting_read, Passes, AgreesCondition, AgreesQuery, AgreesUpdate, AgreesTable}
use Rattle.statement.specs.SoundTest.{sound_table, sound_query, sound_update}
use Rattle.statement.specs.declared.Name.{Name}
use Rattle.statement.specs.declared.Table.{Table}
use Rattle.statement.specs.declared.Comparison.{Comparison}
use Rattle.statement.proofs.OperatorLaws.{predicate-back}
use Rattle.statement.proofs.Stored.{map-twice, where-count}
use Rattle.statement.proofs.ByKind.{column-read, parameter-read}
use Rattle.statement.proofs.Assembled.{take-padded}
use Rattle.statement.proofs.Values.{name_back}
use Rattle.statement.proofs.Outer.{marks-back}
use Rattle.statement.proofs.SoundTable.{source-table}
use Rattle.statement.proofs.SoundQuery.{source-query}
use Rattle.statement.proofs.SoundUpdate.{source-update}

-- ---- conditions: what is stored is read back, where the question marks are counted from 1

operand-back : (m : ℕ) (o : M.Operand) → is_numbered m o ≡ true → operand_read (operand_struct o) ≡ o
operand-back m (column i) h = column-read i
operand-back m (value (constant z)) h = refl
operand-back m (value (parameter zero)) h = let e : 0 ≡ suc m = eqb-true 0 (suc m) h in absurd (omega arith)
operand-back m (value (parameter (suc k))) h = parameter-read k

comparison-back : (m n : ℕ) (c : C.Comparison M.Operand) → is_numbered m c.left ≡ true → is_numbered n c.right ≡ true → comparison_read (comparison_struct c) ≡ c
comparison-back m n c h k = λ i. record {
  left = operand-back m c.left h i;
  op = predicate-back c.op i;
  right = operand-back n c.right k i;
}

nodes-back : (m : ℕ) (ns : List (Node M.Operand)) → numbered_from m ns ≡ true → nodes_read (map step_of ns) (map comparison_struct (leaves ns)) ≡ ns
nodes-back m [] h = refl
nodes-back m (leaf c ∷ ns) h =
    let n : ℕ = m + mark_in_operand c.left in
    let k : numbered_on n (c.right ∷ sides (leaves ns)) ≡ true = and_right (is_numbered m c.left) _ h in
    ap₂ (λ d r. leaf d ∷ r) (comparison-back m n c (and_left (is_numbered m c.left) _ h) (and_left (is_numbered n c.right) _ k))
    (nodes-back (n + mark_in_operand c.right) ns (and_right (is_numbered n c.right) _ k))
nodes-back m (all_of ∷ ns) h = ap (λ r. all_of ∷ r) (nodes-back m ns h)
nodes-back m (any_of ∷ ns) h = ap (λ r. any_of ∷ r) (nodes-back m ns h)

module _ (w : Where M.Operand) where
  abbrev kept : List (Node M.Operand)
  kept = nodes_in w

  comparisons-back : used_comparisons (condition_struct kept) ≡ map comparison_struct (leaves kept)
  comparisons-back =
      take-padded 8 no_comparison (map comparison_struct (leaves kept)) (length (leaves kept)) (length-map (leaves kept) comparison_struct)

  -- the marks of its outer comparisons are read back from their number
  outer-back : reverse (digits_back (length (used_comparisons (condition_struct kept))) (marks_number 0 (outer_marks_in w))) ≡ outer_marks_in w
  outer-back =
      marks-back (outer_marks_in w) (length (used_comparisons (condition_struct kept)))
      (ap length comparisons-back ∙ length-map (leaves kept) comparison_struct ∙ leaves_in w ∙ sym (marks-length w))

  steps_back : used_steps (condition_struct kept) ≡ map step_of kept
  steps_back =
      take-padded 15 0 (map step_of kept) (2 * length (leaves kept) - 1)
      (length-map kept step_of ∙ where-count w ∙ ap (λ n. 2 * n - 1) (sym (leaves_in w)))

  -- the stored form of a WHERE whose question marks are numbered is that WHERE
  pub condition-agrees : (m : ℕ) → numbered_from m (nodes_in w) ≡ true → AgreesCondition (condition_struct (nodes_in w)) w
  unfolding condition_nodes
  condition-agrees m h = record {
    count_is = leaves_in w;
    steps_are = steps_back;
    operators_are = ap (map (λ (k : Comparison). k.op)) comparisons-back ∙ map-twice comparison_struct (λ (k : Comparison). k.op) (leaves kept);
    nodes_are = ap₂ nodes_read steps_back comparisons-back ∙ nodes-back m kept h;
  }

-- a resolved WHERE is numbered
pub resolved-agrees : {C : Type 0} (place : C → ℕ) (m : ℕ) (w : Where (Term C))
    → AgreesCondition (condition_struct (nodes_in (resolved_where place m w))) (resolved_where place m w)
resolved-agrees place m w =
    condition-agrees (resolved_where place m w) m (ap (numbered_from m) (resolve-where place m w) ∙ resolve-numbered place m (nodes_in w))

-- ---- settings

value-back : (m : ℕ) (v : Given) → value_read (value_struct (numbered m v)) ≡ numbered m v
value-back m (G.constant z) = refl
value-back m mark = refl

inserted-back : (i m : ℕ) (vs : List Given)
    → map (λ (s : ℕ × M.Value). setting_read (setting_struct s)) (placed_from i (numbered_all m vs)) ≡ placed_from i (numbered_all m vs)
inserted-back i m [] = refl
inserted-back i m (v ∷ vs) = ap₂ (λ a r. (i, a) ∷ r) (value-back m v) (inserted-back (suc i) (m + mark_in v) vs)

set_back : (columns : List T.Name) (m : ℕ) (ss : List (T.Name × Given))
    → map (λ (s : ℕ × M.Value). setting_read (setting_struct s)) (settings columns m ss) ≡ settings columns m ss
set_back columns m [] = refl
set_back columns m (s ∷ ss) = ap₂ (λ a r. (position columns s.0, a) ∷ r) (value-back m s.1) (set_back columns (m + mark_in s.1) ss)

settings-back : (ss : List (ℕ × M.Value)) → map (λ (s : ℕ × M.Value). setting_read (setting_struct s)) ss ≡ ss
    → map setting_read (take (length ss) (padded 8 no_setting (map setting_struct ss))) ≡ ss
settings-back ss h =
    ap (map setting_read) (take-padded 8 no_setting (map setting_struct ss) (length ss) (length-map ss setting_struct))
    ∙ map-twice setting_struct setting_read ss ∙ h

-- ---- the three kinds of statements

abbrev AgreesStatement : M.Statement → Type 0
AgreesStatement (creates t) = AgreesTable (table_struct t) t
AgreesStatement (asks q) = AgreesQuery (query_struct q) q
AgreesStatement (changes u) = AgreesUpdate (update_struct u) u

-- the stored form of a table is that table
pub table-agrees : (t : Schema) → AgreesTable (table_struct t) t
table-agrees t =
    let e : used_columns (table_struct t) ≡ map name_struct t.columns =
    take-padded 8 no_name (map name_struct t.columns) (length t.columns) (length-map t.columns name_struct) in
    record {
      name_length = refl;
      name_is = name_back t.name;
      count_is = refl;
      column_lengths = ap (map (λ (n : Name). n.len)) e ∙ map-twice name_struct (λ (n : Name). n.len) t.columns;
      columns_are = ap (map name_of_struct) e ∙ map-twice name_struct name_of_struct t.columns ∙ names t.columns;
      capacity_is = refl;
      ring_is = refl;
    }
  where
    names : (ns : List T.Name) → map (λ (n : T.Name). name_of_struct (name_struct n)) ns ≡ ns
    names [] = refl
    names (n ∷ ns) = ap₂ ◌∷◌ (name_back n) (names ns)

statement-agrees : (ts : List Schema) (s : Sentence) → AgreesStatement (statement_of ts s)
unfolding statement_of
statement-agrees ts (G.table t cs ring z) = table-agrees _
statement-agrees ts (G.select cs t w) = record {
  table_is = refl;
  second_is = refl;
  count_is = refl;
  selected_are = take-padded 8 0 _ _ refl;
  parameters_are = refl;
  condition_is = resolved-agrees (position (columns_of ts t)) 0 (mapped_in comparison w);
  outer_are = tt;
}
statement-agrees ts (G.pair cs t u w) = record {
  table_is = refl;
  second_is = refl;
  count_is = refl;
  selected_are = take-padded 8 0 _ _ refl;
  parameters_are = refl;
  condition_is = resolved-agrees (pair_place t (columns_of ts t) u (columns_of ts u)) 0 (mapped_in comparison w);
  outer_are = outer-back (resolved_where (pair_place t (columns_of ts t) u (columns_of ts u)) 0 (mapped_in comparison w));
}
statement-agrees ts (G.insert t vs) = record {
  form_is = refl;
  table_is = refl;
  count_is = refl;
  settings_are = settings-back (placed_from 0 (numbered_all 0 (items vs))) (inserted-back 0 0 (items vs));
  parameters_are = refl;
  condition_is = condition-agrees always 0 refl;
}
statement-agrees ts (G.update t ss w) = record {
  form_is = refl;
  table_is = refl;
  count_is = refl;
  settings_are = settings-back (settings (columns_of ts t) 0 (items ss)) (set_back (columns_of ts t) 0 (items ss));
  parameters_are = refl;
  condition_is = resolved-agrees (position (columns_of ts t)) (setting_marks (items ss)) (mapped_in comparison w);
}
statement-agrees ts (G.delete t w) = record {
  form_is = refl;
  table_is = refl;
  count_is = refl;
  settings_are = refl;
  parameters_are = refl;
  condition_is = resolved-agrees (position (columns_of ts t)) 0 (mapped_in comparison w);
}

module _ (ts : List Schema) (s : Sentence) where
  -- the stored form of a sentence's question is that question
  pub query-agrees : (q : M.Query) → statement_of ts s ≡ asks q → AgreesQuery (query_struct q) q
  query-agrees q e = subst AgreesStatement e (statement-agrees ts s)

  -- and of its update that update
  pub update_agrees : (u : M.Update) → statement_of ts s ≡ changes u → AgreesUpdate (update_struct u) u
  update_agrees u e = subst AgreesStatement e (statement-agrees ts s)

-- ---- what a text compiles to

-- a statement passes the test of its kind beside the tables: 1 a table, 2 a question, 3 an update
pub record SoundStatement (ts : List Schema) (r : Compiled) : Type 0 where
  pub kind_is : (r.kind ≡ 1) ⊎ ((r.kind ≡ 2) ⊎ (r.kind ≡ 3))
  pub table_sound : r.kind ≡ 1 → sound_table ts r.table ≡ true
  pub query_sound : r.kind ≡ 2 → sound_query ts r.query ≡ true
  pub update_sound : r.kind ≡ 3 → sound_update ts r.update ≡ true

-- the struct of a sentence that refusals 4 to 8 let pass
pub struct-sound : (ts : List Schema) (s : Sentence) → Passes ts s → SoundStatement ts (struct_of (statement_of ts s))
unfolding struct_of
struct-sound ts s P = go (statement_of ts s) refl
  where
    go : (r : M.Statement) → statement_of ts s ≡ r → SoundStatement ts (struct_of r)
    go (creates t) e = record {
      kind_is = inl refl;
      table_sound = λ k. source-table ts (table_struct t) (record { sentence = s; passes = P; schema = t; says = e; agrees = table-agrees t });
      query_sound = λ k. absurd (omega arith);
      update_sound = λ k. absurd (omega arith);
    }
    go (asks q) e = record {
      kind_is = inr (inl refl);
      table_sound = λ k. absurd (omega arith);
      query_sound = λ k. source-query ts (query_struct q) (record { sentence = s; passes = P; statement = q; says = e; agrees = query-agrees ts s q e });
      update_sound = λ k. absurd (omega arith);
    }
    go (changes u) e = record {
      kind_is = inr (inr refl);
      table_sound = λ k. absurd (omega arith);
      query_sound = λ k. absurd (omega arith);
      update_sound = λ k. source-update ts (update_struct u) (record { sentence = s; passes = P; statement = u; says = e; agrees = update_agrees ts s u e });
    }

-- a text is not refused only where no condition holds
unrefused : (n : ℕ) (done : Compiled) → (compiled_by n done).refusal ≡ 0 → n ≡ 0
unrefused zero done h = refl
unrefused (suc n) done h = h

module _ (text : List ℕ) (tables : List Table) (used queries updates cells : ℕ) where
  abbrev store : Catalog
  store = catalog tables used queries updates cells

  text-sound : (o : Option Sentence) → sentence text ≡ o → All (λ c. c.1 ≡ false) (text_conditions store text o)
      → SoundStatement store.tables (struct_of_text store.tables o)
  text-sound none e a = clash refl (All-head (All-tail a))
  text-sound (some s) e a =
      let a₅ = All-tail (All-tail a) in
      let a₆ = All-tail a₅ in
      let a₇ = All-tail a₆ in
      let a₈ = All-tail a₇ in
      struct-sound store.tables s (record {
        spelled = (text, (reads_exactly text s).0 e);
        within = All-head a₅;
        known = All-head a₆;
        fresh = All-head a₇;
        counted = All-head a₈;
        different = All-head (All-tail a₈);
      })

  -- what a text that is not refused compiles to passes the test
  pub compiled-sound : (compiled_of text tables used queries updates cells).refusal ≡ 0
      → SoundStatement (schemas_of tables used) (compiled_of text tables used queries updates cells)
  unfolding compiled_of
  compiled-sound h =
      let done : Compiled = struct_of_text store.tables (sentence text) in
      let clear-all : lowest_of (text_conditions store text (sentence text)) ≡ 0 = unrefused (lowest_of (text_conditions store text (sentence text))) done h in
      let s : SoundStatement store.tables done = text-sound (sentence text) refl ((clear 2 (text_conditions store text (sentence text)) refl).0 clear-all) in
      subst (λ n. SoundStatement store.tables (compiled_by n done)) (sym clear-all) s

  -- and it is the struct of the text's sentence
  pub compiled-is : (s : Sentence) → sentence text ≡ some s → (compiled_of text tables used queries updates cells).refusal ≡ 0
      → compiled_of text tables used queries updates cells ≡ struct_of (statement_of (schemas_of tables used) s)
  unfolding compiled_of
  compiled-is s e h =
      let done : Compiled = struct_of_text store.tables (sentence text) in
      ap (λ (n : ℕ). compiled_by n done) (unrefused (lowest_of (text_conditions store text (sentence text))) done h)
      ∙ ap (struct_of_text store.tables) e
