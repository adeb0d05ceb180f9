-- Conditions, over operands of any kind O: document 01, "NOT binds tightest, then AND, then OR, and a condition in parentheses may again hold AND,
-- OR and NOT." Their truth ("Meaning", and A.5 in three values), their clauses (rule 4), how many these are (rule 5), and their outer comparisons (A.6).
-- Assumes nothing: these are definitions.
use Rattle.std.specs.Prelude.{Bool, true, false, List, [], ◌∷◌, ◌++◌, ℕ, ◌+◌, ◌*◌, max, ℤ}
use Rattle.lists.specs.Lists.{pairs}
use Rattle.meaning.specs.Operator.{Predicate, Truth, is_true, not₃, and₃, or₃, compared, truth, opposite}

pub record Comparison (O : Type 0) : Type 0 where
  pub left : O
  pub op : Predicate
  pub right : O

-- what AND joins; what OR joins; a whole condition
pub data Level : Type 0 where
  atom conjunction disjunction : Level

-- conditions with comparisons of any type A, one constructor for each form: parentheses (`group`) and NOTs stay in the tree
pub data Tree (A : Type 0) : Level → Type 0 where
  compare : A → Tree A atom
  negate : Tree A atom → Tree A atom
  group : Tree A disjunction → Tree A atom
  alone : Tree A atom → Tree A conjunction
  both : Tree A atom → Tree A conjunction → Tree A conjunction
  single : Tree A conjunction → Tree A disjunction
  either : Tree A conjunction → Tree A disjunction → Tree A disjunction

-- an optional WHERE
pub data Optional (A : Type 0) : Type 0 where
  always : Optional A
  under : Tree A disjunction → Optional A

-- those whose comparisons have two sides
abbrev pub Condition : Type 0 → Level → Type 0
Condition O l = Tree (Comparison O) l

abbrev pub Where : Type 0 → Type 0
Where O = Optional (Comparison O)

module _ {O : Type 0} where
  -- ---- what is in it, from left to right

  abbrev pub comparisons : {l : Level} → Condition O l → List (Comparison O)
  comparisons (compare c) = c ∷ []
  comparisons (negate c) = comparisons c
  comparisons (group c) = comparisons c
  comparisons (alone c) = comparisons c
  comparisons (both c d) = comparisons c ++ comparisons d
  comparisons (single c) = comparisons c
  comparisons (either c d) = comparisons c ++ comparisons d

  abbrev pub sides : List (Comparison O) → List O
  sides [] = []
  sides (c ∷ cs) = c.left ∷ c.right ∷ sides cs

  abbrev pub comparisons_in : Where O → List (Comparison O)
  comparisons_in always = []
  comparisons_in (under c) = comparisons c

  -- the operands
  abbrev pub operands_in : Where O → List O
  operands_in w = sides (comparisons_in w)

  -- A.6, the outer ones: "every comparison that stands outside all OR, NOT and parentheses, alone or joined by AND"
  abbrev pub outer : {l : Level} → Condition O l → List (Comparison O)
  outer (compare c) = c ∷ []
  outer (negate c) = []
  outer (group c) = []
  outer (alone c) = outer c
  outer (both c d) = outer c ++ outer d
  outer (single c) = outer c
  outer (either c d) = []

  abbrev pub outer_in : Where O → List (Comparison O)
  outer_in always = []
  outer_in (under c) = outer c

  -- the most parentheses and NOTs around a comparison
  abbrev pub depth : {l : Level} → Condition O l → ℕ
  depth (compare c) = 0
  depth (negate c) = depth c + 1
  depth (group c) = depth c + 1
  depth (alone c) = depth c
  depth (both c d) = max (depth c) (depth d)
  depth (single c) = depth c
  depth (either c d) = max (depth c) (depth d)

  abbrev pub depth_in : Where O → ℕ
  depth_in always = 0
  depth_in (under c) = depth c

  -- ---- truth, where v gives each operand's value

  -- a comparison is true
  abbrev pub holds : (O → ℤ) → Comparison O → Bool
  holds v c = truth c.op (v c.left) (v c.right)

  -- "A comparison with it is unknown, AND, OR and NOT follow that standard's three values, .."
  abbrev pub eval : {l : Level} → (O → ℤ) → Condition O l → Truth
  eval v (compare c) = compared c.op (v c.left) (v c.right)
  eval v (negate c) = not₃ (eval v c)
  eval v (group c) = eval v c
  eval v (alone c) = eval v c
  eval v (both c d) = and₃ (eval v c) (eval v d)
  eval v (single c) = eval v c
  eval v (either c d) = or₃ (eval v c) (eval v d)

  -- ".. and WHERE takes only rows whose condition is true."; "An absent WHERE always holds."
  abbrev pub eval_where : (O → ℤ) → Where O → Bool
  eval_where v always = true
  eval_where v (under c) = is_true (eval v c)

  -- ---- clauses (rule 4)

  abbrev pub opposed : Comparison O → Comparison O
  opposed c = record { left = c.left; op = opposite c.op; right = c.right }

  -- the clauses of c (true), or of NOT c (false): NOT goes down to the comparisons, and exchanges AND and OR on its way.
  -- "OR lists left clauses then right; AND pairs each left clause with each right one, left outer."
  abbrev pub clauses : {l : Level} → Bool → Condition O l → List (List (Comparison O))
  clauses true (compare c) = (c ∷ []) ∷ []
  clauses false (compare c) = (opposed c ∷ []) ∷ []
  clauses true (negate c) = clauses false c
  clauses false (negate c) = clauses true c
  clauses p (group c) = clauses p c
  clauses p (alone c) = clauses p c
  clauses true (both c d) = pairs (clauses true c) (clauses true d)
  clauses false (both c d) = clauses false c ++ clauses false d
  clauses p (single c) = clauses p c
  clauses true (either c d) = clauses true c ++ clauses true d
  clauses false (either c d) = pairs (clauses false c) (clauses false d)

  abbrev pub clauses_of : Where O → List (List (Comparison O))
  clauses_of always = [] ∷ []
  clauses_of (under c) = clauses true c

  -- "Clause count: 1 a comparison or absent WHERE, sum for OR, product for AND" (rule 5), after NOT is pushed in
  abbrev pub clause_count : {l : Level} → Bool → Condition O l → ℕ
  clause_count true (compare c) = 1
  clause_count false (compare c) = 1
  clause_count true (negate c) = clause_count false c
  clause_count false (negate c) = clause_count true c
  clause_count p (group c) = clause_count p c
  clause_count p (alone c) = clause_count p c
  clause_count true (both c d) = clause_count true c * clause_count true d
  clause_count false (both c d) = clause_count false c + clause_count false d
  clause_count p (single c) = clause_count p c
  clause_count true (either c d) = clause_count true c + clause_count true d
  clause_count false (either c d) = clause_count false c * clause_count false d

  abbrev pub count_of : Where O → ℕ
  count_of always = 1
  count_of (under c) = clause_count true c

-- ---- each comparison replaced

module _ {A B : Type 0} where
  abbrev pub mapped : {l : Level} → (A → B) → Tree A l → Tree B l
  mapped f (compare c) = compare (f c)
  mapped f (negate c) = negate (mapped f c)
  mapped f (group c) = group (mapped f c)
  mapped f (alone c) = alone (mapped f c)
  mapped f (both c d) = both (mapped f c) (mapped f d)
  mapped f (single c) = single (mapped f c)
  mapped f (either c d) = either (mapped f c) (mapped f d)

  abbrev pub mapped_in : (A → B) → Optional A → Optional B
  mapped_in f always = always
  mapped_in f (under c) = under (mapped f c)

-- ---- each operand replaced

module _ {O P : Type 0} where
  abbrev pub renamed : (O → P) → Comparison O → Comparison P
  renamed f c = record { left = f c.left; op = c.op; right = f c.right }

  abbrev pub replaced_in : (O → P) → Where O → Where P
  replaced_in f = mapped_in (renamed f)
