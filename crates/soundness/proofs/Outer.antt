-- A.6: the marks of outer comparisons by the steps from the last one on: the loop over them, and that they tell what is asked of the marks. Assumes nothing.
use mathlib.Core.Path.{◌≡◌, refl, sym, ap, ap₂, ◌∙◌}
use mathlib.Core.Bool.{Bool, true, false, not, ◌&&◌, ◌||◌, cond, or-true, or-false}
use mathlib.Core.List.{List, [], ◌∷◌, map, reverse, reverse_aux}
use Prim.Native.Nat.{ℕ, zero, suc, ◌+◌, ◌-◌, ◌/◌, ◌%◌, ◌≤◌, ◌<◌}
use native.Mathlib.Omega.{arith}
use lib.Dec.{eqb, ltb, eqb-suc-zero}
use lib.ListN.{length, get_or, drop}
use Rattle.std.proofs.lemmas.List.{at_drop_more}
use Rattle.lists.specs.Lists.{all}
use Rattle.meaning.specs.Postfix.{Node, leaf, all_of, any_of, leaves, within, chained}
use Rattle.statement.specs.Compiled.{step_of}
use Rattle.statement.specs.Sound.{nodes_read, used_steps, used_comparisons, condition_nodes, digits_back}
use Rattle.statement.specs.declared.Comparison.{Comparison}
use Rattle.statement.specs.declared.Condition.{Condition}
use Rattle.statement.proofs.Stored.{read-steps}
use Rattle.soundness.specs.Private.Parts.{mark_fits, marks_after, need_after, outer_on, Ordered, outer_fits}
use Rattle.soundness.proofs.Comparisons.{leaves-many}

-- ---- the loop: the steps left tell

pub need-bound : (e : Bool) (k s : ℕ) → need_after e k s ≤ k + 2
need-bound e k s = go (eqb k 0) (eqb s 0 || e) (eqb s 0)
  where
    go : (a b d : Bool) → cond a (cond b 0 2) (cond d (k - 1) (k + 1)) ≤ k + 2
    go true true d = omega arith
    go true false d = omega arith
    go false b true = omega arith
    go false b false = omega arith

-- s is the next of the steps ss
module _ (ending : Bool) (need marks i s : ℕ) (ss : List ℕ) (h : i < length ss) (e : s ≡ get_or ss i s) where
  turn : outer_on ending need marks (drop i ss)
      ≡ (mark_fits need marks s && outer_on (ending && eqb s 1) (need_after (ending && eqb s 1) need s) (marks_after marks s) (drop (i + 1) ss))
  turn = at_drop_more (outer_on ending need marks) ss i s h ∙ ap (λ (x : ℕ). outer_on ending need marks (x ∷ drop (i + 1) ss)) (sym e)

  pub outer-more : mark_fits need marks s ≡ true
      → outer_on (ending && eqb s 1) (need_after (ending && eqb s 1) need s) (marks_after marks s) (drop (i + 1) ss) ≡ outer_on ending need marks (drop i ss)
  outer-more f =
      ap (λ (b : Bool). b && outer_on (ending && eqb s 1) (need_after (ending && eqb s 1) need s) (marks_after marks s) (drop (i + 1) ss)) (sym f) ∙ sym turn

  pub outer-stop : mark_fits need marks s ≡ false → false ≡ outer_on ending need marks (drop i ss)
  outer-stop f =
      ap (λ (b : Bool). b && outer_on (ending && eqb s 1) (need_after (ending && eqb s 1) need s) (marks_after marks s) (drop (i + 1) ss)) (sym f) ∙ sym turn

-- ---- steps and nodes, from the last one on

need-leaf : (e : Bool) (k : ℕ) → need_after e (suc k) 0 ≡ k
need-leaf e k =
    let z : suc k - 1 ≡ k = omega arith in
    ap (λ (b : Bool). cond b 0 (suc k - 1)) (eqb-suc-zero k) ∙ z

need-join : (e : Bool) (k s : ℕ) → eqb s 0 ≡ false → need_after e (suc k) s ≡ suc (suc k)
need-join e k s h =
    let z : suc k + 1 ≡ suc (suc k) = omega arith in
    ap₂ (λ (a b : Bool). cond a (cond (b || e) 0 2) (cond b (suc k - 1) (suc k + 1))) (eqb-suc-zero k) h ∙ z

module _ {O : Type 0} where
  -- what the marks ask of such nodes
  abbrev asks : Bool → ℕ → ℕ → List (Node O) → Bool
  asks ending need marks ns = within (digits_back (length (leaves ns)) marks) (chained ending need ns)

  outer-inside : (need marks : ℕ) (ns : List (Node O)) → outer_on false need marks (map step_of ns) ≡ asks false need marks ns
  outer-inside need marks [] = refl
  outer-inside zero marks (leaf c ∷ ns) = ap₂ ◌&&◌ (sym (or-true (not (eqb (marks % 2) 1)))) (outer-inside 0 (marks / 2) ns)
  outer-inside (suc k) marks (leaf c ∷ ns) =
      let b : Bool = not (eqb (marks % 2) 1) in
      ap₂ (λ (x : Bool) (need : ℕ). (x || b) && outer_on false need (marks / 2) (map step_of ns)) (eqb-suc-zero k) (need-leaf false k)
      ∙ ap₂ ◌&&◌ (sym (or-false b)) (outer-inside k (marks / 2) ns)
  outer-inside zero marks (all_of ∷ ns) = outer-inside 2 marks ns
  outer-inside (suc k) marks (all_of ∷ ns) = ap (λ (need : ℕ). outer_on false need marks (map step_of ns)) (need-join false k 1 refl) ∙ outer-inside (suc (suc k)) marks ns
  outer-inside zero marks (any_of ∷ ns) = outer-inside 2 marks ns
  outer-inside (suc k) marks (any_of ∷ ns) = ap (λ (need : ℕ). outer_on false need marks (map step_of ns)) (need-join false k 2 refl) ∙ outer-inside (suc (suc k)) marks ns

  outer-ending : (marks : ℕ) (ns : List (Node O)) → outer_on true 0 marks (map step_of ns) ≡ asks true 0 marks ns
  outer-ending marks [] = refl
  outer-ending marks (leaf c ∷ ns) = ap₂ ◌&&◌ (sym (or-true (not (eqb (marks % 2) 1)))) (outer-inside 0 (marks / 2) ns)
  outer-ending marks (all_of ∷ ns) = outer-ending marks ns
  outer-ending marks (any_of ∷ ns) = outer-inside 2 marks ns

  -- reversed
  steps_back : (ns r : List (Node O)) → map step_of (reverse_aux ns r) ≡ reverse_aux (map step_of ns) (map step_of r)
  steps_back [] r = refl
  steps_back (x ∷ ns) r = steps_back ns (x ∷ r)

  leaves-back : (ns r : List (Node O)) → length (leaves (reverse_aux ns r)) ≡ length (leaves ns) + length (leaves r)
  leaves-back [] r = omega arith
  leaves-back (leaf c ∷ ns) r = omega (arith, leaves-back ns (leaf c ∷ r))
  leaves-back (all_of ∷ ns) r = leaves-back ns (all_of ∷ r)
  leaves-back (any_of ∷ ns) r = leaves-back ns (any_of ∷ r)

outer-read : (outer : ℕ) (ss : List ℕ) (cs : List Comparison) → all (λ (s : ℕ). ltb s 3) ss ≡ true → length (leaves (nodes_read ss cs)) ≡ length cs
    → outer_on true 0 outer (reverse ss) ≡ within (digits_back (length cs) outer) (chained true 0 (reverse (nodes_read ss cs)))
outer-read outer ss cs h e =
    let ns = nodes_read ss cs in
    let many : length (leaves (reverse ns)) ≡ length cs = omega (arith, leaves-back ns []) in
    ap (outer_on true 0 outer) (ap reverse (read-steps ss cs h) ∙ sym (steps_back ns []))
    ∙ outer-ending outer (reverse ns)
    ∙ ap (λ (n : ℕ). within (digits_back n outer) (chained true 0 (reverse ns))) many

-- a condition whose steps are a postfix order
pub outer_told : (outer : ℕ) (c : Condition) → Ordered c → outer_on true 0 outer (reverse (used_steps c)) ≡ outer_fits c outer
unfolding condition_nodes
outer_told outer c o =
    outer-read outer (used_steps c) (used_comparisons c) o.known (leaves-many c o.few o.fifteen o.eight o.postfix)
