-- Conditions without NOT, in postfix order, as a statement is kept once it is added: the comparisons in the text's order, NOT pushed to them by the table of
-- opposites (rule 4), and AND and OR behind what they join. Their truth and their clauses, run on a stack; and what may be such a list.
-- (Requests A.5 and A.6: three values, and the outer comparisons.) Assumes nothing: these are definitions.
use Rattle.std.specs.Prelude.{Bool, true, false, not, ◌&&◌, ◌||◌, List, [], ◌∷◌, ◌++◌, ℕ, zero, suc, ◌+◌, ℤ, replicate}
use Rattle.lists.specs.Lists.{pairs}
use Rattle.meaning.specs.Condition.{Comparison, Condition, Tree, Optional, Level, compare, negate, group, alone, both, single, either, Where, always, under, opposed, holds}

pub data Node (O : Type 0) : Type 0 where
  leaf : Comparison O → Node O
  all_of any_of : Node O

-- the top of a stack, or d
abbrev pub top : {A : Type 0} → A → List A → A
top d [] = d
top d (a ∷ st) = a

-- the two on top joined; the top is the right side
abbrev pub joined : {A : Type 0} → (A → A → A) → List A → List A
joined f [] = []
joined f (b ∷ []) = []
joined f (b ∷ a ∷ st) = f a b ∷ st

module _ {O : Type 0} where
  abbrev pub signed : Bool → Comparison O → Comparison O
  signed true c = c
  signed false c = opposed c

  -- AND; under a NOT it is OR
  abbrev pub join_all : Bool → Node O
  join_all true = all_of
  join_all false = any_of

  abbrev pub join_any : Bool → Node O
  join_any true = any_of
  join_any false = all_of

  -- the nodes of c (true), or of NOT c (false)
  abbrev pub nodes : {l : Level} → Bool → Condition O l → List (Node O)
  nodes p (compare c) = leaf (signed p c) ∷ []
  nodes p (negate c) = nodes (not p) c
  nodes p (group c) = nodes p c
  nodes p (alone c) = nodes p c
  nodes p (both c d) = nodes p c ++ (nodes p d ++ (join_all p ∷ []))
  nodes p (single c) = nodes p c
  nodes p (either c d) = nodes p c ++ (nodes p d ++ (join_any p ∷ []))

  -- no nodes for an absent WHERE
  abbrev pub nodes_in : Where O → List (Node O)
  nodes_in always = []
  nodes_in (under c) = nodes true c

  abbrev pub leaves : List (Node O) → List (Comparison O)
  leaves [] = []
  leaves (leaf c ∷ ns) = c ∷ leaves ns
  leaves (all_of ∷ ns) = leaves ns
  leaves (any_of ∷ ns) = leaves ns

  -- ---- run on a stack of A: what a comparison gives, and what AND and OR make of two

  module _ {A : Type 0} (one : Comparison O → A) (all any : A → A → A) where
    abbrev pub step_on : Node O → List A → List A
    step_on (leaf c) st = one c ∷ st
    step_on all_of st = joined all st
    step_on any_of st = joined any st

    abbrev pub run_on : List (Node O) → List A → List A
    run_on [] st = st
    run_on (n ∷ ns) st = run_on ns (step_on n st)

  -- whether it is true: without NOT, what is true of the parts is enough (A.5); "An absent WHERE always holds"
  abbrev pub truth_of : (O → ℤ) → List (Node O) → Bool
  truth_of v ns = top true (run_on (holds v) ◌&&◌ ◌||◌ ns [])

  abbrev pub clauses_of_nodes : List (Node O) → List (List (Comparison O))
  clauses_of_nodes ns = top ([] ∷ []) (run_on (λ (c : Comparison O). (c ∷ []) ∷ []) pairs ◌++◌ ns [])

  -- ---- what may be the nodes of a condition: each AND and OR finds two values, and one value is left; k values are on the stack

  abbrev pub balanced_on : ℕ → List (Node O) → Bool
  balanced_on zero [] = false
  balanced_on (suc zero) [] = true
  balanced_on (suc (suc k)) [] = false
  balanced_on k (leaf c ∷ ns) = balanced_on (suc k) ns
  balanced_on zero (all_of ∷ ns) = false
  balanced_on (suc zero) (all_of ∷ ns) = false
  balanced_on (suc (suc k)) (all_of ∷ ns) = balanced_on (suc k) ns
  balanced_on zero (any_of ∷ ns) = false
  balanced_on (suc zero) (any_of ∷ ns) = false
  balanced_on (suc (suc k)) (any_of ∷ ns) = balanced_on (suc k) ns

  -- of a WHERE: no nodes, or those of a condition
  abbrev pub is_postfix : List (Node O) → Bool
  is_postfix [] = true
  is_postfix (n ∷ ns) = balanced_on 0 (n ∷ ns)

-- ---- A.6: the outer comparisons, by a mark for each comparison, in the text's order: what is kept of the parentheses and NOTs, which these nodes have no more

module _ {A : Type 0} where
  -- how many comparisons there are
  abbrev pub size : {l : Level} → Tree A l → ℕ
  size (compare c) = 1
  size (negate c) = size c
  size (group c) = size c
  size (alone c) = size c
  size (both c d) = size c + size d
  size (single c) = size c
  size (either c d) = size c + size d

  -- which of them are outer (`Condition.outer`)
  abbrev pub outer_marks : {l : Level} → Tree A l → List Bool
  outer_marks (compare c) = true ∷ []
  outer_marks (negate c) = replicate (size c) false
  outer_marks (group c) = replicate (size c) false
  outer_marks (alone c) = outer_marks c
  outer_marks (both c d) = outer_marks c ++ outer_marks d
  outer_marks (single c) = outer_marks c
  outer_marks (either c d) = replicate (size c + size d) false

  abbrev pub outer_marks_in : Optional A → List Bool
  outer_marks_in always = []
  outer_marks_in (under c) = outer_marks c

  -- those that are marked
  abbrev pub marked : List Bool → List A → List A
  marked [] cs = []
  marked (b ∷ bs) [] = []
  marked (true ∷ bs) (c ∷ cs) = c ∷ marked bs cs
  marked (false ∷ bs) (c ∷ cs) = marked bs cs

-- each mark of the first is one of the second
abbrev pub within : List Bool → List Bool → Bool
within [] cs = true
within (b ∷ bs) [] = not b && within bs []
within (b ∷ bs) (c ∷ cs) = (not b || c) && within bs cs

module _ {O : Type 0} where
  -- which comparisons of such a list of nodes may be outer in a text, from the last one on, where the nodes are read from the last one on: those that the ANDs at the end
  -- join, since the left side of an AND is a comparison or stands in parentheses or under NOT, and its right side may be the rest of a row of ANDs. `ending`: so far there
  -- were only these ANDs; `need`: so many parts are to be read of one that an AND or OR joins
  abbrev pub chained : Bool → ℕ → List (Node O) → List Bool
  chained ending need [] = []
  chained ending zero (leaf c ∷ ns) = true ∷ chained false zero ns
  chained true zero (all_of ∷ ns) = chained true zero ns
  chained false zero (all_of ∷ ns) = chained false 2 ns
  chained ending zero (any_of ∷ ns) = chained false 2 ns
  chained ending (suc k) (leaf c ∷ ns) = false ∷ chained ending k ns
  chained ending (suc k) (all_of ∷ ns) = chained ending (suc (suc k)) ns
  chained ending (suc k) (any_of ∷ ns) = chained ending (suc (suc k)) ns
