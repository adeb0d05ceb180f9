-- A stored condition passes the test exactly if it is that of a WHERE over the table's columns; and what it then means. Assumes nothing.
use mathlib.Core.Path.{◌≡◌, sym, ap, ◌∙◌, subst}
use mathlib.Core.Bool.{Bool, true, false, not}
use mathlib.Core.List.{List, map, reverse}
use Prim.Native.Nat.{ℕ, ◌+◌, ◌*◌, ◌-◌, ◌≤◌, ◌<◌}
use native.Mathlib.Omega.{arith}
use borrow.Author.Tests.{leb-true, le-leb, eqb-true, eq-eqb}
use lib.Dec.{eqb, leb, ltb}
use lib.IntN.{ℤ}
use lib.ListN.{length, replicate, length-map, length-replicate}
use lib.Seq.{length-take-le}
use Rattle.lists.specs.Lists.{All, any, all}
use Rattle.lists.proofs.Bools.{and_left, and_right, and_both}
use Rattle.lists.proofs.Lists.{All-take, All-map, all_true, all-of, any_none}
use Rattle.meaning.specs.Condition as C
use Rattle.meaning.specs.Condition.{Optional, Where, mapped_in, sides, comparisons_in, operands_in, depth_in, eval_where, clauses_of}
use Rattle.meaning.specs.Postfix.{Node, nodes_in, leaves, is_postfix, truth_of, clauses_of_nodes, outer_marks_in, within, chained}
use Rattle.meaning.specs.Resolve.{parameter_count, numbered_from, columns_below, is_test}
use Rattle.meaning.proofs.Resolve.{operand_constants, are_tests, Columns, Source, where-source, where-passes, outside-constants, resolve-where, resolve-marks, resolve-leaves}
use Rattle.meaning.specs.Grammar.{Term, Test, comparison}
use Rattle.meaning.specs.Limits.{most_marks, most_comparisons, term_givens, term_columns, mark_count, is_within32, outside32}
use Rattle.meaning.specs.Statement as M
use Rattle.meaning.specs.Statement.{resolved_where}
use Rattle.meaning.proofs.Postfix.{sides-in, leaves_in, truth-postfix, clauses-postfix}
use Rattle.meaning.proofs.Outer.{unmarked-within}
use Rattle.statement.specs.Operators.{predicate_number}
use Rattle.statement.specs.Sound.{comparison_read, used_comparisons, used_steps, condition_nodes, AgreesCondition, ConditionFits}
use Rattle.statement.specs.SoundTest.{sound_predicate, sound_condition, condition_marks, sound_condition_on}
use Rattle.statement.specs.Compiled.{step_of}
use Rattle.statement.specs.declared.Comparison.{Comparison}
use Rattle.statement.specs.declared.Condition.{Condition}
use Rattle.statement.proofs.Stored.{all_map, all_both, steps-below, operators-below, read_length, read-steps, read-leaves, read-operators, read-tests, read-constants, postfix-leaves}

-- ---- what a condition that agrees with a WHERE means

module _ (c : Condition) (w : Where M.Operand) (A : AgreesCondition c w) where
  -- it is true exactly where the WHERE is
  pub agrees-truth : (v : M.Operand → ℤ) → truth_of v (condition_nodes c) ≡ eval_where v w
  agrees-truth v = ap (truth_of v) A.nodes_are ∙ truth-postfix v w

  -- and has its clauses, in their order
  pub agrees-clauses : clauses_of_nodes (condition_nodes c) ≡ clauses_of w
  agrees-clauses = ap clauses_of_nodes A.nodes_are ∙ clauses-postfix w

-- ---- the test and its parts

pub record Parts (columns m : ℕ) (c : Condition) : Type 0 where
  pub few : c.count ≤ most_comparisons
  pub steps : all (λ (s : ℕ). ltb s 3) (used_steps c) ≡ true
  pub operators : all (λ (k : Comparison). ltb k.op 8) (used_comparisons c) ≡ true
  pub tests : all (λ (k : Comparison). is_test (comparison_read k)) (used_comparisons c) ≡ true
  pub postfix : is_postfix (condition_nodes c) ≡ true
  pub below : columns_below columns (condition_nodes c) ≡ true
  pub numbered : numbered_from m (condition_nodes c) ≡ true

module _ (columns m : ℕ) (c : Condition) where
  pub condition-parts : sound_condition columns m c ≡ true → Parts columns m c
  unfolding sound_condition
  condition-parts h₀ =
      let h₁ = and_right (leb c.count most_comparisons) _ h₀ in
      let h₂ = and_right (all (λ (s : ℕ). ltb s 3) (used_steps c)) _ h₁ in
      let h₃ = and_right (all sound_predicate (used_comparisons c)) _ h₂ in
      let h₄ = and_right (is_postfix (condition_nodes c)) _ h₃ in
      let each : All (λ k. sound_predicate k ≡ true) (used_comparisons c) = all_true sound_predicate (used_comparisons c) (and_left (all sound_predicate (used_comparisons c)) _ h₂) in
      record {
        few = leb-true c.count most_comparisons (and_left (leb c.count most_comparisons) _ h₀);
        steps = and_left (all (λ (s : ℕ). ltb s 3) (used_steps c)) _ h₁;
        operators = all-of (λ (k : Comparison). ltb k.op 8) (All-map (λ k e. and_left (ltb k.op 8) _ e) each);
        tests = all-of (λ (k : Comparison). is_test (comparison_read k)) (All-map (λ k e. and_right (ltb k.op 8) _ e) each);
        postfix = and_left (is_postfix (condition_nodes c)) _ h₃;
        below = and_left (columns_below columns (condition_nodes c)) _ h₄;
        numbered = and_right (columns_below columns (condition_nodes c)) _ h₄;
      }

  pub parts-condition : Parts columns m c → sound_condition columns m c ≡ true
  unfolding sound_condition
  parts-condition P =
      and_both (leb c.count most_comparisons) _ (le-leb c.count most_comparisons P.few)
      (and_both _ _ P.steps
      (and_both _ _ (all_both (λ (k : Comparison). ltb k.op 8) (λ (k : Comparison). is_test (comparison_read k)) (used_comparisons c) P.operators P.tests)
      (and_both _ _ P.postfix (and_both _ _ P.below P.numbered))))

-- with the number of all question marks
pub record PartsOn (columns m p : ℕ) (c : Condition) : Type 0 where
  pub sound : sound_condition columns m c ≡ true
  pub parameters : p ≡ m + condition_marks c
  pub few : p ≤ most_marks

module _ (columns m p : ℕ) (c : Condition) where
  pub on-parts : sound_condition_on columns m p c ≡ true → PartsOn columns m p c
  unfolding sound_condition_on
  on-parts h =
      let k = and_right (sound_condition columns m c) _ h in
      record {
        sound = and_left (sound_condition columns m c) _ h;
        parameters = eqb-true p (m + condition_marks c) (and_left (eqb p (m + condition_marks c)) _ k);
        few = leb-true p most_marks (and_right (eqb p (m + condition_marks c)) _ k);
      }

  pub parts-on : PartsOn columns m p c → sound_condition_on columns m p c ≡ true
  unfolding sound_condition_on
  parts-on P =
      and_both _ _ P.sound (and_both (eqb p (m + condition_marks c)) _ (eq-eqb p (m + condition_marks c) P.parameters) (le-leb p most_marks P.few))

-- ---- a WHERE, as it is written, of which the condition comes, over columns of any kind (one table's, or those of two)

-- the marks bs are those of its outer comparisons (A.6)
pub record Sourced {C : Type 0} (place : C → ℕ) (strange : C → Bool) (m : ℕ) (c : Condition) (bs : List Bool) : Type 0 where
  pub source : Optional (Test C)
  pub agrees : AgreesCondition c (resolved_where place m (mapped_in comparison source))
  pub known : any strange (term_columns (operands_in (mapped_in comparison source))) ≡ false
  pub marks : mark_count (term_givens (operands_in (mapped_in comparison source))) ≡ condition_marks c
  pub few : length (comparisons_in (mapped_in comparison source)) ≤ most_comparisons
  pub shallow : depth_in (mapped_in comparison source) ≤ 8
  pub small : any outside32 (term_givens (operands_in (mapped_in comparison source))) ≡ false
  pub outer : outer_marks_in source ≡ bs

-- a condition that passes has one, for any marks that it allows
pub condition-source : {C : Type 0} (place : C → ℕ) (width : ℕ) (strange : C → Bool) (at : ℕ → C) → Columns place width strange at
    → (m : ℕ) (c : Condition) (bs : List Bool) → ConditionFits c → sound_condition width m c ≡ true
    → length bs ≡ length (used_comparisons c) → within (reverse bs) (chained true 0 (reverse (condition_nodes c))) ≡ true → Sourced place strange m c bs
unfolding condition_nodes
condition-source place width strange at K m c bs F h many-marks may =
    let P : Parts width m c = condition-parts width m c h in
    let few : c.count ≤ most_comparisons = P.few in
    let ns : List (Node M.Operand) = condition_nodes c in
    let steps : length (used_steps c) ≡ 2 * c.count - 1 = length-take-le (2 * c.count - 1) c.steps (omega (arith, F.fifteen)) in
    let used : length (used_comparisons c) ≡ c.count = length-take-le c.count c.comparisons (omega (arith, F.eight)) in
    let all-leaves : length (leaves ns) ≡ c.count = postfix-leaves c.count ns P.postfix (read_length (used_steps c) (used_comparisons c) ∙ steps) in
    let S : Source place strange m ns bs = where-source place width strange at K m ns bs P.postfix P.below P.numbered
    (read-tests (used_steps c) (used_comparisons c) P.tests) (many-marks ∙ used ∙ sym all-leaves) may in
    let w : Where M.Operand = resolved_where place m (mapped_in comparison S.source) in
    let e : nodes_in w ≡ ns = S.resolves in
    let many : c.count ≡ length (comparisons_in w) = sym all-leaves ∙ ap (λ ms. length (leaves ms)) (sym e) ∙ leaves_in w in
    let each : leaves ns ≡ map comparison_read (used_comparisons c) = read-leaves (used_steps c) (used_comparisons c) (all-leaves ∙ sym used) in
    let fit : All (λ z. is_within32 z ≡ true) (operand_constants (sides (leaves ns))) =
    subst (λ cs. All (λ z. is_within32 z ≡ true) (operand_constants (sides cs))) (sym each) (read-constants (All-take c.count F.constants)) in
    record {
      source = S.source;
      agrees = record {
        count_is = many;
        steps_are = read-steps (used_steps c) (used_comparisons c) P.steps ∙ ap (map step_of) (sym e);
        operators_are = read-operators (used_comparisons c) P.operators
            ∙ ap (map (λ (k : C.Comparison M.Operand). predicate_number k.op)) (sym each ∙ ap leaves (sym e));
        nodes_are = sym e;
      };
      known = S.known;
      marks = S.marks;
      few = omega (arith, S.size);
      shallow = S.shallow (omega arith);
      small = outside-constants (operands_in (mapped_in comparison S.source))
          ∙ ap (any (λ (z : ℤ). not (is_within32 z))) S.constants
          ∙ any_none (λ (z : ℤ). not (is_within32 z)) (All-map (λ z k. ap not k) fit);
      outer = S.outer;
    }

-- without marks, which a statement over one table has not
abbrev pub unmarked : Condition → List Bool
unmarked c = replicate (length (used_comparisons c)) false

pub unmarked-source : {C : Type 0} (place : C → ℕ) (width : ℕ) (strange : C → Bool) (at : ℕ → C) → Columns place width strange at
    → (m : ℕ) (c : Condition) → ConditionFits c → sound_condition width m c ≡ true → Sourced place strange m c (unmarked c)
unmarked-source place width strange at K m c F h =
    let n : ℕ = length (used_comparisons c) in
    condition-source place width strange at K m c (unmarked c) F h (length-replicate n false) (unmarked-within n (chained true 0 (reverse (condition_nodes c))))

module _ {C : Type 0} (place : C → ℕ) (m : ℕ) (v : Optional (Test C)) (c : Condition) (A : AgreesCondition c (resolved_where place m (mapped_in comparison v))) where
  abbrev w : Where (Term C)
  w = mapped_in comparison v

  -- its question marks are those of the WHERE
  pub source-marks : condition_marks c ≡ mark_count (term_givens (operands_in w))
  source-marks =
      ap (λ ns. parameter_count (sides (leaves ns))) (A.nodes_are ∙ resolve-where place m w)
      ∙ resolve-marks place m (nodes_in w) ∙ ap (λ os. mark_count (term_givens os)) (sides-in w)

  -- and one that comes of a WHERE of known columns and few comparisons passes
  pub source-condition : (width : ℕ) (strange : C → Bool) → ((n : C) → strange n ≡ false → place n < width)
      → any strange (term_columns (operands_in w)) ≡ false → length (comparisons_in w) ≤ most_comparisons → sound_condition width m c ≡ true
  unfolding condition_nodes
  source-condition width strange inside known few =
      let r : Where M.Operand = resolved_where place m w in
      let passes : (is_postfix (nodes_in r) ≡ true) × (columns_below width (nodes_in r) ≡ true) × (numbered_from m (nodes_in r) ≡ true) × (are_tests (nodes_in r) ≡ true) =
      where-passes place width strange inside m v known in
      let e : nodes_in r ≡ condition_nodes c = sym A.nodes_are in
      let many : length (comparisons_in r) ≡ length (comparisons_in w) =
      sym (leaves_in r) ∙ ap (λ ns. length (leaves ns)) (resolve-where place m w) ∙ resolve-leaves place m (nodes_in w) ∙ leaves_in w in
      let used : length (leaves (condition_nodes c)) ≡ length (used_comparisons c) =
      ap (λ ns. length (leaves ns)) A.nodes_are ∙ sym (length-map (leaves (nodes_in r)) (λ k. predicate_number k.op))
      ∙ ap length (sym A.operators_are) ∙ length-map (used_comparisons c) (λ (k : Comparison). k.op) in
      let each : leaves (condition_nodes c) ≡ map comparison_read (used_comparisons c) = read-leaves (used_steps c) (used_comparisons c) used in
      parts-condition width m c (record {
        few = omega (arith, A.count_is);
        steps = ap (all (λ (s : ℕ). ltb s 3)) A.steps_are ∙ steps-below (nodes_in r);
        operators = sym (all_map (λ (k : Comparison). k.op) (λ (k : ℕ). ltb k 8) (used_comparisons c))
            ∙ ap (all (λ (k : ℕ). ltb k 8)) A.operators_are ∙ operators-below (leaves (nodes_in r));
        tests = sym (all_map comparison_read is_test (used_comparisons c)) ∙ ap (all is_test) (sym each) ∙ ap are_tests (sym e) ∙ passes.3;
        postfix = ap is_postfix (sym e) ∙ passes.0;
        below = ap (columns_below width) (sym e) ∙ passes.1;
        numbered = ap (numbered_from m) (sym e) ∙ passes.2;
      })
