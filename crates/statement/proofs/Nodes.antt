-- What `put` leaves: the nodes that were noted and one more, read in a text, and as marks. Assumes nothing.
use mathlib.Core.Path.{◌≡◌, sym, ap, ◌∙◌, refl}
use mathlib.Core.Bool.{Bool}
use mathlib.Core.List.{List, [], ◌∷◌, ◌++◌, append-nil, append_assoc}
use Prim.Native.Nat.{ℕ}
use Rattle.lists.proofs.Lists.{map-append}
use Rattle.statement.specs.declared.conditions.Node.{Node}
use Rattle.statement.specs.Private.Places.{node_on, nodes_on, bare_mark, bare_marks_on}

pub marks-append : (xs ys : List Node) → bare_marks_on (xs ++ ys) ≡ bare_marks_on xs ++ bare_marks_on ys
marks-append [] ys = refl
marks-append (x ∷ xs) ys = ap (λ bs. bare_mark x ++ bs) (marks-append xs ys) ∙ sym (append_assoc (bare_mark x) (bare_marks_on xs) (bare_marks_on ys))

module _ (ns : List Node) (n : Node) where
  pub nodes-put : (d : Bool) (s : List ℕ) → nodes_on d s (ns ++ (n ∷ [])) ≡ nodes_on d s ns ++ (node_on d s n ∷ [])
  nodes-put d s = map-append (node_on d s) ns (n ∷ [])

  pub marks-put : bare_marks_on (ns ++ (n ∷ [])) ≡ bare_marks_on ns ++ bare_mark n
  marks-put = marks-append ns (n ∷ []) ∙ ap (λ bs. bare_marks_on ns ++ bs) (append-nil (bare_mark n))
