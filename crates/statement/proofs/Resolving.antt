-- A condition resolved node by node, as one loop does it: comparisons are made, AND and OR are passed. Assumes nothing.
use mathlib.Core.Path.{◌≡◌, refl, sym, ap, ap₂, subst, ◌∙◌}
use mathlib.Core.Bool.{Bool}
use mathlib.Core.List.{List, [], ◌∷◌, map}
use Prim.Native.Nat.{ℕ, suc, ◌+◌, ◌*◌, ◌≤◌}
use native.Mathlib.Omega.{arith}
use lib.ListN.{length, drop, set, replicate, length-map, drop_of_length-le}
use Rattle.meaning.specs.Condition.{renamed}
use Rattle.meaning.specs.Postfix.{Node, leaf, all_of, any_of, leaves}
use Rattle.meaning.specs.Grammar.{Term}
use Rattle.meaning.specs.Statement.{mark_in_term, comparison_of}
use Rattle.meaning.specs.Private.Walk.{marks_past, resolve_nodes}
use Rattle.statement.specs.declared.Comparison.{Comparison}
use Rattle.statement.specs.declared.conditions.Node.{Node as Noted}
use Rattle.statement.specs.declared.conditions.Node.TheVariants as N
use Rattle.statement.specs.Private.Places.{Column, nodes_on}
use Rattle.statement.specs.Compiled.{padded, left_side, right_side, comparison_struct, no_comparison, step_of, condition_struct}
use Rattle.statement.specs.Private.Built.{short_column, short_term, short_nodes, kept_on, mark_in_side, comparison_on, step_in}
use Rattle.lists.proofs.Walks.{Filling, filling-start, filling-more, filling-end}
use Rattle.statement.proofs.Sets.{steps-noted}
use Rattle.statement.proofs.Parts.{mark-side, mark-few}

-- resolving keeps the steps and the number of comparisons
module _ {C : Type 0} (place : C → ℕ) (short : C → C) where
  pub resolve-steps : (m : ℕ) (ns : List (Node (Term C))) → map step_of (resolve_nodes place m (short_nodes short ns)) ≡ map step_of ns
  resolve-steps m [] = refl
  resolve-steps m (leaf c ∷ ns) = ap (λ (xs : List ℕ). 0 ∷ xs) (resolve-steps (marks_past m (renamed (short_term short) c)) ns)
  resolve-steps m (all_of ∷ ns) = ap (λ (xs : List ℕ). 1 ∷ xs) (resolve-steps m ns)
  resolve-steps m (any_of ∷ ns) = ap (λ (xs : List ℕ). 2 ∷ xs) (resolve-steps m ns)

  pub resolve-count : (m : ℕ) (ns : List (Node (Term C))) → length (leaves (resolve_nodes place m (short_nodes short ns))) ≡ length (leaves ns)
  resolve-count m [] = refl
  resolve-count m (leaf c ∷ ns) = ap suc (resolve-count (marks_past m (renamed (short_term short) c)) ns)
  resolve-count m (all_of ∷ ns) = resolve-count m ns
  resolve-count m (any_of ∷ ns) = resolve-count m ns

module _ (d : Bool) (place : Column d → ℕ) where
  -- the comparisons of some nodes
  abbrev pub made : ℕ → List (Node (Term (Column d))) → List Comparison
  made m ns = map comparison_struct (leaves (resolve_nodes place m (short_nodes (short_column d) ns)))

  made-count : (m : ℕ) (ns : List (Node (Term (Column d)))) → length (made m ns) ≡ length (leaves ns)
  made-count m ns = length-map (leaves (resolve_nodes place m (short_nodes (short_column d) ns))) comparison_struct ∙ resolve-count place (short_column d) m ns

module _ (d : Bool) (s : List ℕ) (ns : List Noted) (place : Column d → ℕ) (marks : ℕ) where
  abbrev nodes_left : ℕ → List (Node (Term (Column d)))
  nodes_left i = nodes_on d s (drop i ns)

  -- i nodes are passed, and so many comparisons found, with m marks
  pub record Resolving (out : List Comparison) (found m i : ℕ) : Type 0 where
    pub few : m ≤ marks + 2 * i
    pub counted : found + length (leaves (nodes_left i)) ≡ length (leaves (nodes_left 0))
    pub fills : Filling (padded 8 no_comparison (made d place marks (nodes_left 0))) out found (made d place m (nodes_left i))

  pub resolving-start : (out : List Comparison) → out ≡ replicate 8 no_comparison → length (leaves (nodes_on d s ns)) ≤ 8 → Resolving out 0 marks 0
  resolving-start out e h = record {
    few = omega arith;
    counted = omega arith;
    fills = filling-start 8 no_comparison (made d place marks (nodes_left 0)) out e (omega (arith, made-count d place marks (nodes_left 0)));
  }

  module _ (out : List Comparison) (found m i : ℕ) (R : Resolving out found m i) where
    -- a comparison
    module _ (op : ℕ) (bare : Bool) (a b : ℕ) (q : drop i ns ≡ N.Comparison op bare a b ∷ drop (i + 1) ns) where
      pub resolving-more : (c : Comparison) (j : ℕ) → c ≡ comparison_struct (comparison_of place m (renamed (short_term (short_column d)) (comparison_on d s op a b)))
          → j ≡ mark_in_side (left_side c) + mark_in_side (right_side c) → Resolving (set out found c) (found + 1) (m + j) (i + 1)
      resolving-more c j ec ej =
          let x = renamed (short_term (short_column d)) (comparison_on d s op a b) in
          let y : mark_in_side (left_side c) ≡ mark_in_term x.left = ap (λ (k : Comparison). mark_in_side (left_side k)) ec ∙ mark-side place m x.left in
          let z : mark_in_side (right_side c) ≡ mark_in_term x.right = ap (λ (k : Comparison). mark_in_side (right_side k)) ec ∙ mark-side place (m + mark_in_term x.left) x.right in
          let p : marks_past m x ≡ m + j = omega arith in
          let w : made d place m (nodes_left i) ≡ c ∷ made d place (m + j) (nodes_left (i + 1)) =
          ap (λ (ks : List Noted). made d place m (nodes_on d s ks)) q ∙ ap₂ (λ (x : Comparison) (l : ℕ). x ∷ made d place l (nodes_left (i + 1))) (sym ec) p in
          record {
            few = omega (arith, R.few, mark-few (left_side c), mark-few (right_side c));
            counted = omega (arith, R.counted, ap (λ (ks : List Noted). length (leaves (nodes_on d s ks))) q);
            fills = filling-more _ out found _ _ _ w R.fills;
          }

    -- AND or OR
    pub resolving-pass : (x : Noted) → drop i ns ≡ x ∷ drop (i + 1) ns → ((op : ℕ) (bare : Bool) (a b : ℕ) → x ≡ N.Comparison op bare a b → ⊥) → Resolving out found m (i + 1)
    resolving-pass (N.Comparison op bare a b) q h = absurd (h op bare a b refl)
    resolving-pass N.And q h = record {
      few = omega (arith, R.few);
      counted = omega (arith, R.counted, ap (λ (ks : List Noted). length (leaves (nodes_on d s ks))) q);
      fills = subst (Filling (padded 8 no_comparison (made d place marks (nodes_left 0))) out found) (ap (λ (ks : List Noted). made d place m (nodes_on d s ks)) q) R.fills;
    }
    resolving-pass N.Or q h = record {
      few = omega (arith, R.few);
      counted = omega (arith, R.counted, ap (λ (ks : List Noted). length (leaves (nodes_on d s ks))) q);
      fills = subst (Filling (padded 8 no_comparison (made d place marks (nodes_left 0))) out found) (ap (λ (ks : List Noted). made d place m (nodes_on d s ks)) q) R.fills;
    }

  pub resolving-as : {out out' : List Comparison} {found found' m m' i : ℕ} → out' ≡ out → found' ≡ found → m' ≡ m → Resolving out found m i → Resolving out' found' m' i
  resolving-as eo ef em R = rw (eo, ef, em) R

  pub resolving-end : (out : List Comparison) (found m i : ℕ) (steps : List ℕ) → length ns ≤ i → Resolving out found m i → steps ≡ padded 15 0 (map step_in ns)
      → record { comparisons = out; steps = steps; count = found } ≡ condition_struct (resolve_nodes place marks (kept_on d s ns))
  resolving-end out found m i steps k R e =
      let q : drop i ns ≡ [] = drop_of_length-le ns k in
      let a : out ≡ padded 8 no_comparison (made d place marks (nodes_left 0)) = filling-end _ out found _ (ap (λ (ks : List Noted). made d place m (nodes_on d s ks)) q) R.fills in
      let f : found ≡ length (leaves (resolve_nodes place marks (kept_on d s ns))) =
      omega (arith, R.counted, ap (λ (ks : List Noted). length (leaves (nodes_on d s ks))) q, resolve-count place (short_column d) marks (nodes_on d s ns)) in
      let t : steps ≡ padded 15 0 (map step_of (resolve_nodes place marks (kept_on d s ns))) =
      e ∙ ap (padded 15 0) (sym (resolve-steps place (short_column d) marks (nodes_on d s ns) ∙ steps-noted d s ns)) in
      λ j. record { comparisons = a j; steps = t j; count = f j }
