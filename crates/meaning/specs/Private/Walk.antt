-- Names resolved and question marks numbered in a condition in postfix order, from left to right, as the code walks it; and what is in it. Assumes nothing: these are definitions.
use Rattle.std.specs.Prelude.{List, [], ◌∷◌, ℕ, ◌+◌}
use Rattle.meaning.specs.Condition.{Comparison}
use Rattle.meaning.specs.Postfix.{Node, leaf, all_of, any_of}
use Rattle.meaning.specs.Grammar.{Term}
use Rattle.meaning.specs.Statement.{Operand, mark_in_term, comparison_of}

-- the marks that stand before what follows a comparison; before what follows the nodes
abbrev pub marks_past : {C : Type 0} → ℕ → Comparison (Term C) → ℕ
marks_past m c = m + mark_in_term c.left + mark_in_term c.right

abbrev pub resolve_nodes : {C : Type 0} → (C → ℕ) → ℕ → List (Node (Term C)) → List (Node Operand)
resolve_nodes place m [] = []
resolve_nodes place m (leaf c ∷ ns) = leaf (comparison_of place m c) ∷ resolve_nodes place (marks_past m c) ns
resolve_nodes place m (all_of ∷ ns) = all_of ∷ resolve_nodes place m ns
resolve_nodes place m (any_of ∷ ns) = any_of ∷ resolve_nodes place m ns
