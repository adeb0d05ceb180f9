-- A law of lists in postfix order: two parts and what joins them, with more after them. Assumes nothing.
use mathlib.Core.Path.{◌≡◌, ap, ◌∙◌}
use mathlib.Core.List.{List, [], ◌∷◌, ◌++◌, append_assoc}

pub regroup : {A : Type 0} (xs ys : List A) (j : A) (rest : List A) → xs ++ (ys ++ (j ∷ [])) ++ rest ≡ xs ++ (ys ++ (j ∷ rest))
regroup xs ys j rest = append_assoc xs (ys ++ (j ∷ [])) rest ∙ ap (λ r. xs ++ r) (append_assoc ys (j ∷ []) rest)
