-- Comparisons by the number of the next parameter: with the steps they tell whether a condition is sound. Assumes nothing.
use mathlib.Core.Path.{◌≡◌, refl, sym, ap, ap₂, ◌∙◌}
use mathlib.Core.Bool.{Bool, true, false, ◌&&◌, and-false, and-true, and_comm}
use mathlib.Core.List.{List, [], ◌∷◌, map}
use Prim.Native.Nat.{ℕ, ◌+◌, ◌-◌, ◌*◌, ◌≤◌, ◌<◌}
use native.Mathlib.Omega.{arith}
use borrow.Author.Tests.{le-leb, lt-leb, leb-true}
use lib.Dec.{eqb, leb, ltb}
use lib.ListN.{length}
use lib.Seq.{length-take-le}
use Rattle.std.specs.Prelude.{Option, Some}
use Rattle.std.specs.Option.{option_and_then, option_eq}
use Rattle.lists.specs.Lists.{all}
use Rattle.lists.proofs.Bools.{and_assoc, and_left, and_right}
use Rattle.meaning.specs.Condition.{sides}
use Rattle.meaning.specs.Postfix.{Node, leaves, is_postfix}
use Rattle.meaning.specs.Statement as M
use Rattle.meaning.specs.Resolve.{mark_in_operand, parameter_count, is_numbered, numbered_on, numbered_from, columns_below}
use Rattle.meaning.specs.Statement.{is_below}
use Rattle.meaning.specs.Limits.{most_comparisons, most_marks}
use Rattle.statement.specs.Compiled.{left_side, right_side}
use Rattle.statement.specs.Sound.{operand_read, comparison_read, used_steps, used_comparisons, condition_nodes}
use Rattle.statement.specs.SoundTest.{condition_marks, sound_predicate, sound_condition, sound_condition_on}
use Rattle.statement.specs.declared.Comparison.{Comparison}
use Rattle.statement.specs.declared.Condition.{Condition}
use Rattle.statement.proofs.Stored.{read_length, read-leaves, postfix-leaves}
use Rattle.soundness.specs.Private.Parts.{some_if, steps_on, Ordered, comparison_fits, comparison_marks, after_comparison, after_all}
use Rattle.soundness.proofs.Tests.{interchange}
use Rattle.soundness.proofs.Steps.{steps-postfix}

-- ---- comparisons as they are read

abbrev operators : List Comparison → Bool
operators cs = all sound_predicate cs

abbrev operands : List Comparison → List M.Operand
operands cs = sides (map comparison_read cs)

-- what is asked of them, one after another and each by itself
abbrev asked : ℕ → ℕ → ℕ → List Comparison → Bool
asked columns m p cs =
    operators cs && (all (is_below columns) (operands cs) && (numbered_on m (operands cs) && eqb p (m + parameter_count (operands cs))))

passed : (b : Bool) (p n : ℕ) (f : ℕ → Option ℕ) → option_eq eqb (Some p) (option_and_then f (some_if b n)) ≡ (b && option_eq eqb (Some p) (f n))
passed true p n f = refl
passed false p n f = refl

module _ (columns : ℕ) where
  fits-is : (m : ℕ) (c : Comparison)
      → comparison_fits columns m c
      ≡ (sound_predicate c && ((is_below columns (operand_read (left_side c)) && is_below columns (operand_read (right_side c)))
      && (is_numbered m (operand_read (left_side c)) && is_numbered (m + mark_in_operand (operand_read (left_side c))) (operand_read (right_side c)))))
  fits-is m c =
      let a = operand_read (left_side c) in
      let b = operand_read (right_side c) in
      let m' = m + mark_in_operand a in
      sym (and_assoc (sound_predicate c) (is_below columns a && is_numbered m a) (is_below columns b && is_numbered m' b))
      ∙ ap (λ (x : Bool). sound_predicate c && x) (interchange (is_below columns a) (is_numbered m a) (is_below columns b) (is_numbered m' b))

  grouped : (o w k o' w' k' e : Bool) → ((o && (w && k)) && (o' && (w' && (k' && e)))) ≡ ((o && o') && ((w && w') && ((k && k') && e)))
  grouped o w k o' w' k' e =
      interchange o (w && k) o' (w' && (k' && e))
      ∙ ap (λ (x : Bool). (o && o') && x) (interchange w k w' (k' && e) ∙ ap (λ (x : Bool). (w && w') && x) (and_assoc k k' e))

  -- the number behind them tells
  comparisons-asked : (m p : ℕ) (cs : List Comparison) → option_eq eqb (Some p) (after_all columns m cs) ≡ asked columns m p cs
  unfolding after_comparison
  comparisons-asked m p [] = let e : m ≡ m + 0 = omega arith in ap (eqb p) e
  comparisons-asked m p (c ∷ cs) =
      let a : M.Operand = operand_read (left_side c) in
      let b : M.Operand = operand_read (right_side c) in
      let m' : ℕ = m + mark_in_operand a in
      let m'' : ℕ = m' + mark_in_operand b in
      let os : List M.Operand = operands cs in
      let e : m + comparison_marks c ≡ m'' = omega arith in
      let f : m'' + parameter_count os ≡ m + (mark_in_operand a + (mark_in_operand b + parameter_count os)) = omega arith in
      passed (comparison_fits columns m c) p (m + comparison_marks c) (λ (k : ℕ). after_all columns k cs)
      ∙ ap₂ ◌&&◌ (fits-is m c) (ap (λ (k : ℕ). option_eq eqb (Some p) (after_all columns k cs)) e ∙ comparisons-asked m'' p cs)
      ∙ grouped (sound_predicate c) (is_below columns a && is_below columns b) (is_numbered m a && is_numbered m' b)
      (operators cs) (all (is_below columns) os) (numbered_on m'' os) (eqb p (m'' + parameter_count os))
      ∙ ap (λ (x : Bool). (sound_predicate c && operators cs) && x)
      (ap₂ ◌&&◌ (sym (and_assoc (is_below columns a) (is_below columns b) (all (is_below columns) os)))
      (ap₂ ◌&&◌ (sym (and_assoc (is_numbered m a) (is_numbered m' b) (numbered_on m'' os))) (ap (eqb p) f)))

-- ---- as many comparisons as the steps take

pub leaves-many : (c : Condition) → c.count ≤ 8 → length c.steps ≡ 15 → length c.comparisons ≡ 8 → is_postfix (condition_nodes c) ≡ true
    → length (leaves (condition_nodes c)) ≡ length (used_comparisons c)
unfolding condition_nodes
leaves-many c few fifteen eight h =
    let steps : length (used_steps c) ≡ 2 * c.count - 1 = length-take-le (2 * c.count - 1) c.steps (omega arith) in
    let many : length (used_comparisons c) ≡ c.count = length-take-le c.count c.comparisons (omega arith) in
    postfix-leaves c.count (condition_nodes c) h (read_length (used_steps c) (used_comparisons c) ∙ steps) ∙ sym many

-- ---- a condition

-- the steps tell, and where they are sound what is said of the comparisons is said of the nodes
told : (q k t o w u e w' u' e' : Bool) → (t ≡ true → (w' ≡ w) × (u' ≡ u) × (e' ≡ e))
    → ((q && (k && t)) && (o && (w' && (u' && e')))) ≡ ((k && (o && (t && (w && u)))) && (e && q))
told q false t o w u e w' u' e' f = ap (λ (x : Bool). x && (o && (w' && (u' && e')))) (and-false q)
told q true false o w u e w' u' e' f = ap (λ (x : Bool). x && (o && (w' && (u' && e')))) (and-false q) ∙ sym (ap (λ (x : Bool). x && (e && q)) (and-false o))
told q true true o w u e w' u' e' f =
    ap₂ (λ (x y : Bool). (q && true) && (o && (x && y))) (f refl).0 (ap₂ ◌&&◌ (f refl).1 (f refl).2) ∙ turned o w u
  where
    turned : (o w u : Bool) → ((q && true) && (o && (w && (u && e)))) ≡ ((o && (w && u)) && (e && q))
    turned true true true = ap (λ (x : Bool). x && e) (and-true q) ∙ and_comm q e
    turned true true false = and-false (q && true)
    turned true false u = and-false (q && true)
    turned false w u = and-false (q && true)

module _ (columns m p : ℕ) (c : Condition) where
  abbrev ss : List ℕ
  ss = used_steps c

  abbrev cs : List Comparison
  cs = used_comparisons c

  abbrev nodes : List (Node M.Operand)
  nodes = condition_nodes c

  -- what is asked of it but that its comparisons are few
  abbrev others : Bool
  others = all (λ (s : ℕ). ltb s 3) ss && (operators cs && (is_postfix nodes && (columns_below columns nodes && numbered_from m nodes)))

  pub condition-long : 8 < c.count → false ≡ sound_condition_on columns m p c
  unfolding sound_condition_on sound_condition
  condition-long h =
      sym (ap (λ (b : Bool). (b && others) && (eqb p (m + condition_marks c) && leb p most_marks)) (lt-leb c.count most_comparisons h))

  pub condition-ordered : length c.comparisons ≡ 8 → length c.steps ≡ 15 → sound_condition_on columns m p c ≡ true → Ordered c
  unfolding sound_condition_on sound_condition
  condition-ordered eight fifteen h =
      let all_but = and_left (leb c.count most_comparisons && others) _ h in
      let steps = and_right (leb c.count most_comparisons) _ all_but in
      record {
        few = leb-true c.count most_comparisons (and_left (leb c.count most_comparisons) _ all_but);
        known = and_left (all (λ (s : ℕ). ltb s 3) ss) _ steps;
        postfix = and_left (is_postfix nodes) _ (and_right (operators cs) _ (and_right (all (λ (s : ℕ). ltb s 3) ss) _ steps));
        eight = eight;
        fifteen = fifteen;
      }

  module _ (few : c.count ≤ 8) (fifteen : length c.steps ≡ 15) (eight : length c.comparisons ≡ 8) where
    leaves-are : is_postfix nodes ≡ true → leaves nodes ≡ map comparison_read cs
    unfolding condition_nodes
    leaves-are h = read-leaves ss cs (leaves-many c few fifteen eight h)

    steps-tell : steps_on 0 ss ≡ (all (λ (s : ℕ). ltb s 3) ss && is_postfix nodes)
    unfolding condition_nodes
    steps-tell = steps-postfix ss cs

    pub condition-short : ((leb p most_marks && steps_on 0 ss) && option_eq eqb (Some p) (after_all columns m cs)) ≡ sound_condition_on columns m p c
    unfolding sound_condition_on sound_condition
    condition-short =
        ap₂ (λ (x y : Bool). (leb p most_marks && x) && y) steps-tell (comparisons-asked columns m p cs)
        ∙ told (leb p most_marks) (all (λ (s : ℕ). ltb s 3) ss) (is_postfix nodes) (operators cs)
        (columns_below columns nodes) (numbered_from m nodes) (eqb p (m + condition_marks c))
        (all (is_below columns) (operands cs)) (numbered_on m (operands cs)) (eqb p (m + parameter_count (operands cs)))
        (λ h.
        let e : sides (leaves nodes) ≡ operands cs = ap sides (leaves-are h) in
        (ap (all (is_below columns)) (sym e), ap (numbered_on m) (sym e), ap (λ (os : List M.Operand). eqb p (m + parameter_count os)) (sym e)))
        ∙ ap (λ (b : Bool). (b && others) && (eqb p (m + condition_marks c) && leb p most_marks)) (sym (le-leb c.count most_comparisons few))
