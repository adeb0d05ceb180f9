-- The clauses of a condition say what it says, and rule 5 counts them (rules 4 and 5). Assumes nothing.
use mathlib.Core.Path.{◌≡◌, refl, sym, ap, ap₂, ◌∙◌}
use mathlib.Core.Bool.{Bool, true, false, not, ◌&&◌, ◌||◌, cond, or-false, and-true}
use mathlib.Core.List.{List, [], ◌∷◌, ◌++◌, map}
use Prim.Native.Nat.{ℕ, ◌+◌, ◌*◌, max}
use native.Mathlib.Omega.{arith}
use lib.IntN.{ℤ}
use lib.Signed.{lt_z}
use lib.ListN.{length, length-append}
use Rattle.lists.specs.Lists.{any, all, pairs}
use Rattle.lists.specs.Tests.{eq_z}
use Rattle.lists.proofs.Bools.{not-not, le_z-not}
use Rattle.lists.proofs.Lists.{any_append, any-pairs, length_pairs, map-append}
use Rattle.lists.proofs.Changed.{pairs-map}
use Rattle.meaning.specs.Operator.{Operator, eq, ne, lt, le, gt, ge, related, complement, is_null, Truth, known, unknown, not₃, and₃, or₃, is_true, Predicate, by, is-null, is-not-null, compared, opposite}
use Rattle.meaning.specs.Condition.{Comparison, Level, Condition, compare, negate, group, alone, both, single, either, Where, always, under, comparisons, sides, operands_in, depth, holds, eval, eval_where, opposed, clauses, clauses_of, clause_count, count_of, mapped, renamed, replaced_in}
use Rattle.meaning.specs.Statement.{Operand, Query, Change, insert, delete, update}
use Rattle.meaning.specs.Pattern.{Joint, column, of_query, of_update, moved, placed_from, replacing, query_clauses, update_clauses, both_clauses, joint_clauses, joint_count}
use Rattle.meaning.specs.Demand.{ClausesMean, ClausesCount}

-- a clause holds where all of its comparisons do
abbrev pub meets : {O : Type 0} → (O → ℤ) → List (Comparison O) → Bool
meets v = all (holds v)

-- a condition with each operand replaced
abbrev pub replaced : {O P : Type 0} {l : Level} → (O → P) → Condition O l → Condition P l
replaced f = mapped (renamed f)

-- ---- the table of opposites

complement-twice : (o : Operator) → complement (complement o) ≡ o
complement-twice eq = refl
complement-twice ne = refl
complement-twice lt = refl
complement-twice le = refl
complement-twice gt = refl
complement-twice ge = refl

pub opposite_twice : (p : Predicate) → opposite (opposite p) ≡ p
opposite_twice (by o) = ap by (complement-twice o)
opposite_twice is-null = refl
opposite_twice is-not-null = refl

-- of two numbers
pub complement-negates : (o : Operator) (a b : ℤ) → related (complement o) a b ≡ not (related o a b)
complement-negates eq a b = refl
complement-negates ne a b = sym (not-not (eq_z a b))
complement-negates lt a b = le_z-not b a
complement-negates le a b = sym (ap not (le_z-not a b) ∙ not-not (lt_z b a))
complement-negates gt a b = le_z-not a b
complement-negates ge a b = sym (ap not (le_z-not b a) ∙ not-not (lt_z a b))

not₃-known : (b : Bool) → known (not b) ≡ not₃ (known b)
not₃-known true = refl
not₃-known false = refl

-- the opposite has the negated truth, in three values
pub opposite_negates : (p : Predicate) (a b : ℤ) → compared (opposite p) a b ≡ not₃ (compared p a b)
opposite_negates (by o) a b = go (is_null a || is_null b)
  where
    go : (n : Bool) → cond n unknown (known (related (complement o) a b)) ≡ not₃ (cond n unknown (known (related o a b)))
    go true = refl
    go false = ap known (complement-negates o a b) ∙ not₃-known (related o a b)
opposite_negates is-null a b = not₃-known (is_null a)
opposite_negates is-not-null a b = ap known (sym (not-not (is_null a))) ∙ not₃-known (not (is_null a))

-- ---- what NOT, AND and OR make true, and what they make false

-- t, or its negation
abbrev pub polar : Bool → Truth → Truth
polar true t = t
polar false t = not₃ t

not₃-twice : (t : Truth) → not₃ (not₃ t) ≡ t
not₃-twice (known true) = refl
not₃-twice (known false) = refl
not₃-twice unknown = refl

pub true-not : (p : Bool) (t : Truth) → is_true (polar p (not₃ t)) ≡ is_true (polar (not p) t)
true-not true t = refl
true-not false t = ap is_true (not₃-twice t)

pub true-and : (p : Bool) (s t : Truth) → is_true (polar p (and₃ s t)) ≡ cond p ◌&&◌ ◌||◌ (is_true (polar p s)) (is_true (polar p t))
true-and true (known true) t = refl
true-and true (known false) t = refl
true-and true unknown (known true) = refl
true-and true unknown (known false) = refl
true-and true unknown unknown = refl
true-and false (known true) t = refl
true-and false (known false) t = refl
true-and false unknown (known true) = refl
true-and false unknown (known false) = refl
true-and false unknown unknown = refl

pub true-or : (p : Bool) (s t : Truth) → is_true (polar p (or₃ s t)) ≡ cond p ◌||◌ ◌&&◌ (is_true (polar p s)) (is_true (polar p t))
true-or true (known true) t = refl
true-or true (known false) t = refl
true-or true unknown (known true) = refl
true-or true unknown (known false) = refl
true-or true unknown unknown = refl
true-or false (known true) t = refl
true-or false (known false) t = refl
true-or false unknown (known true) = refl
true-or false unknown (known false) = refl
true-or false unknown unknown = refl

-- ---- the clauses

module _ {O : Type 0} (v : O → ℤ) where
  -- the clauses of c, or of NOT c: some clause is met exactly where c, or NOT c, is true
  pub clauses-polar : {l : Level} (p : Bool) (c : Condition O l) → any (meets v) (clauses p c) ≡ is_true (polar p (eval v c))
  clauses-polar true (compare c) = or-false (holds v c && true) ∙ and-true (holds v c)
  clauses-polar false (compare c) =
      or-false (holds v (opposed c) && true) ∙ and-true (holds v (opposed c)) ∙ ap is_true (opposite_negates c.op (v c.left) (v c.right))
  clauses-polar true (negate c) = clauses-polar false c
  clauses-polar false (negate c) = clauses-polar true c ∙ sym (true-not false (eval v c))
  clauses-polar p (group c) = clauses-polar p c
  clauses-polar p (alone c) = clauses-polar p c
  clauses-polar true (both c d) =
      any-pairs (holds v) (clauses true c) (clauses true d)
      ∙ ap₂ ◌&&◌ (clauses-polar true c) (clauses-polar true d) ∙ sym (true-and true (eval v c) (eval v d))
  clauses-polar false (both c d) =
      any_append (meets v) (clauses false c) (clauses false d)
      ∙ ap₂ ◌||◌ (clauses-polar false c) (clauses-polar false d) ∙ sym (true-and false (eval v c) (eval v d))
  clauses-polar p (single c) = clauses-polar p c
  clauses-polar true (either c d) =
      any_append (meets v) (clauses true c) (clauses true d)
      ∙ ap₂ ◌||◌ (clauses-polar true c) (clauses-polar true d) ∙ sym (true-or true (eval v c) (eval v d))
  clauses-polar false (either c d) =
      any-pairs (holds v) (clauses false c) (clauses false d)
      ∙ ap₂ ◌&&◌ (clauses-polar false c) (clauses-polar false d) ∙ sym (true-or false (eval v c) (eval v d))

  -- a condition is true exactly where all comparisons of some clause are
  pub clauses-mean : {l : Level} (c : Condition O l) → any (meets v) (clauses true c) ≡ is_true (eval v c)
  clauses-mean c = clauses-polar true c

  pub clauses_of-mean : (w : Where O) → any (meets v) (clauses_of w) ≡ eval_where v w
  clauses_of-mean always = refl
  clauses_of-mean (under c) = clauses-mean c

-- ---- how many they are

module _ {O : Type 0} where
  -- rule 5 counts the clauses
  pub clauses-count : {l : Level} (p : Bool) (c : Condition O l) → length (clauses p c) ≡ clause_count p c
  clauses-count true (compare c) = refl
  clauses-count false (compare c) = refl
  clauses-count true (negate c) = clauses-count false c
  clauses-count false (negate c) = clauses-count true c
  clauses-count p (group c) = clauses-count p c
  clauses-count p (alone c) = clauses-count p c
  clauses-count true (both c d) = length_pairs (clauses true c) (clauses true d) ∙ ap₂ ◌*◌ (clauses-count true c) (clauses-count true d)
  clauses-count false (both c d) = length-append (clauses false c) (clauses false d) ∙ ap₂ ◌+◌ (clauses-count false c) (clauses-count false d)
  clauses-count p (single c) = clauses-count p c
  clauses-count true (either c d) = length-append (clauses true c) (clauses true d) ∙ ap₂ ◌+◌ (clauses-count true c) (clauses-count true d)
  clauses-count false (either c d) = length_pairs (clauses false c) (clauses false d) ∙ ap₂ ◌*◌ (clauses-count false c) (clauses-count false d)

  pub clauses_of-count : (w : Where O) → length (clauses_of w) ≡ count_of w
  clauses_of-count always = refl
  clauses_of-count (under c) = clauses-count true c

-- ---- each operand replaced

module _ {O P : Type 0} (f : O → P) where
  -- replacing operands is replacing them in the valuation
  pub eval-replaced : {l : Level} (v : P → ℤ) (c : Condition O l) → eval v (replaced f c) ≡ eval (λ (o : O). v (f o)) c
  eval-replaced v (compare c) = refl
  eval-replaced v (negate c) = ap not₃ (eval-replaced v c)
  eval-replaced v (group c) = eval-replaced v c
  eval-replaced v (alone c) = eval-replaced v c
  eval-replaced v (both c d) = ap₂ and₃ (eval-replaced v c) (eval-replaced v d)
  eval-replaced v (single c) = eval-replaced v c
  eval-replaced v (either c d) = ap₂ or₃ (eval-replaced v c) (eval-replaced v d)

  pub eval_where-replaced : (v : P → ℤ) (w : Where O) → eval_where v (replaced_in f w) ≡ eval_where (λ (o : O). v (f o)) w
  eval_where-replaced v always = refl
  eval_where-replaced v (under c) = ap is_true (eval-replaced v c)

  -- and changes no count
  pub count-replaced : {l : Level} (p : Bool) (c : Condition O l) → clause_count p (replaced f c) ≡ clause_count p c
  count-replaced true (compare c) = refl
  count-replaced false (compare c) = refl
  count-replaced true (negate c) = count-replaced false c
  count-replaced false (negate c) = count-replaced true c
  count-replaced p (group c) = count-replaced p c
  count-replaced p (alone c) = count-replaced p c
  count-replaced true (both c d) = ap₂ ◌*◌ (count-replaced true c) (count-replaced true d)
  count-replaced false (both c d) = ap₂ ◌+◌ (count-replaced false c) (count-replaced false d)
  count-replaced p (single c) = count-replaced p c
  count-replaced true (either c d) = ap₂ ◌+◌ (count-replaced true c) (count-replaced true d)
  count-replaced false (either c d) = ap₂ ◌*◌ (count-replaced false c) (count-replaced false d)

  pub count_of-replaced : (w : Where O) → count_of (replaced_in f w) ≡ count_of w
  count_of-replaced always = refl
  count_of-replaced (under c) = count-replaced true c

  -- the comparisons, operands and depth of what it is put into
  pub comparisons-replaced : {l : Level} (c : Condition O l) → comparisons (replaced f c) ≡ map (renamed f) (comparisons c)
  comparisons-replaced (compare c) = refl
  comparisons-replaced (negate c) = comparisons-replaced c
  comparisons-replaced (group c) = comparisons-replaced c
  comparisons-replaced (alone c) = comparisons-replaced c
  comparisons-replaced (both c d) =
      ap₂ ◌++◌ (comparisons-replaced c) (comparisons-replaced d) ∙ sym (map-append (renamed f) (comparisons c) (comparisons d))
  comparisons-replaced (single c) = comparisons-replaced c
  comparisons-replaced (either c d) =
      ap₂ ◌++◌ (comparisons-replaced c) (comparisons-replaced d) ∙ sym (map-append (renamed f) (comparisons c) (comparisons d))

  sides-replaced : (cs : List (Comparison O)) → sides (map (renamed f) cs) ≡ map f (sides cs)
  sides-replaced [] = refl
  sides-replaced (c ∷ cs) = ap (λ (l : List P). f c.left ∷ f c.right ∷ l) (sides-replaced cs)

  pub operands-replaced : (w : Where O) → operands_in (replaced_in f w) ≡ map f (operands_in w)
  operands-replaced always = refl
  operands-replaced (under c) = ap sides (comparisons-replaced c) ∙ sides-replaced (comparisons c)

  pub depth-replaced : {l : Level} (c : Condition O l) → depth (replaced f c) ≡ depth c
  depth-replaced (compare c) = refl
  depth-replaced (negate c) = ap (λ (n : ℕ). n + 1) (depth-replaced c)
  depth-replaced (group c) = ap (λ (n : ℕ). n + 1) (depth-replaced c)
  depth-replaced (alone c) = depth-replaced c
  depth-replaced (both c d) = ap₂ max (depth-replaced c) (depth-replaced d)
  depth-replaced (single c) = depth-replaced c
  depth-replaced (either c d) = ap₂ max (depth-replaced c) (depth-replaced d)

  -- the clauses of a condition with replaced operands are its clauses with replaced operands
  pub clauses-replaced : {l : Level} (p : Bool) (c : Condition O l) → clauses p (replaced f c) ≡ map (map (renamed f)) (clauses p c)
  clauses-replaced true (compare c) = refl
  clauses-replaced false (compare c) = refl
  clauses-replaced true (negate c) = clauses-replaced false c
  clauses-replaced false (negate c) = clauses-replaced true c
  clauses-replaced p (group c) = clauses-replaced p c
  clauses-replaced p (alone c) = clauses-replaced p c
  clauses-replaced true (both c d) =
      ap₂ pairs (clauses-replaced true c) (clauses-replaced true d) ∙ sym (pairs-map (renamed f) (clauses true c) (clauses true d))
  clauses-replaced false (both c d) =
      ap₂ ◌++◌ (clauses-replaced false c) (clauses-replaced false d) ∙ sym (map-append (map (renamed f)) (clauses false c) (clauses false d))
  clauses-replaced p (single c) = clauses-replaced p c
  clauses-replaced true (either c d) =
      ap₂ ◌++◌ (clauses-replaced true c) (clauses-replaced true d) ∙ sym (map-append (map (renamed f)) (clauses true c) (clauses true d))
  clauses-replaced false (either c d) =
      ap₂ pairs (clauses-replaced false c) (clauses-replaced false d) ∙ sym (pairs-map (renamed f) (clauses false c) (clauses false d))

  pub clauses_of-replaced : (w : Where O) → clauses_of (replaced_in f w) ≡ map (map (renamed f)) (clauses_of w)
  clauses_of-replaced always = refl
  clauses_of-replaced (under c) = clauses-replaced true c

-- ---- the joint formula

module _ (q : Query) where
  query-length : (f : ℕ → Joint) → length (query_clauses f q) ≡ count_of q.condition
  query-length f = clauses_of-count (replaced_in (of_query f) q.condition) ∙ count_of-replaced (of_query f) q.condition

  both-length : (k : ℕ) (g : Where Operand) (f : ℕ → Joint) → length (both_clauses k g f q) ≡ count_of g * count_of q.condition
  both-length k g f =
      length_pairs (update_clauses k g) (query_clauses f q)
      ∙ ap₂ ◌*◌ (clauses_of-count (replaced_in (of_update k) g) ∙ count_of-replaced (of_update k) g) (query-length f)

  -- rule 5's number is the number of joint clauses
  pub joint-length : (k : ℕ) (c : Change) → length (joint_clauses k q c) ≡ joint_count q c
  unfolding joint_clauses
  joint-length k (insert os) = query-length (replacing (placed_from k os))
  joint-length k (delete g) = both-length k g column
  joint-length k (update ss g) =
      length-append (both_clauses k g column q) (both_clauses k g (replacing (moved k ss)) q)
      ∙ ap₂ ◌+◌ (both-length k g column) (both-length k g (replacing (moved k ss))) ∙ omega arith

-- ---- as claims

pub clauses_mean : ClausesMean
clauses_mean = (clauses_of-mean, clauses_of-mean)

pub clauses_count : ClausesCount
clauses_count = record { of_condition = clauses_of-count; of_joint = λ k q c. joint-length q k c }
