-- The outer comparisons (request A.6), as marks beside the nodes of a condition: those that are marked are the outer ones; marks are within what the nodes allow (`chained`); and nodes
-- with any marks that they allow are those of a condition. And a row of the first table for which one of them is not true has no pair in the answer. Assumes nothing.
use mathlib.Core.Path.{◌≡◌, refl, sym, ap, ap₂, ◌∙◌, subst}
use mathlib.Core.Bool.{Bool, true, false, not, ◌&&◌, ◌||◌, false≢true}
use mathlib.Core.List.{List, [], ◌∷◌, ◌++◌, map, append_assoc, append-nil, reverse, reverse_aux, reverse_aux-append, reverse-reverse}
use Prim.Native.Nat.{ℕ, zero, suc, ◌+◌, ◌≤◌, ◌<◌}
use native.Mathlib.Omega.{arith}
use lib.IntN.{ℤ}
use lib.ListN.{length, length-append, length-reverse, replicate, length-replicate, replicate-append-replicate}
use borrow.Author.Tests.{ltb-true}
use Rattle.lists.specs.Lists.{all, All, cons_if, keep, pairs}
use Rattle.lists.proofs.Bools.{and_left, and_right, and_both, contra}
use Rattle.lists.proofs.Lists.{All-head, All-tail, All-every, all_append}
use Rattle.meaning.specs.Operator.{is_true, truth}
use Rattle.meaning.specs.Condition.{Comparison, Level, atom, conjunction, disjunction, Tree, Condition, compare, negate, group, alone, both, single, either, Optional, Where, always, under, comparisons, comparisons_in, outer, outer_in, depth, depth_in, holds, eval, eval_where, mapped, mapped_in}
use Rattle.meaning.specs.Postfix.{Node, leaf, all_of, any_of, signed, nodes, nodes_in, leaves, balanced_on, is_postfix, size, outer_marks, outer_marks_in, marked, within, chained}
use Rattle.meaning.specs.Grammar.{Term}
use Rattle.meaning.specs.Statement.{is_below, Operand, column, value, Second, Query, resolved, resolved_where}
use Rattle.meaning.specs.Meaning.{Row, operand_value, takes, answer}
use Rattle.meaning.specs.Plain.{of_first, passes_first}
use Rattle.meaning.specs.Demand.{NoPairListed}
use Rattle.meaning.proofs.Clauses.{true-and}
use Rattle.meaning.proofs.Weakening.{cell-left, answer-append, all_none}
use Rattle.meaning.proofs.Postfix.{signed_in, leaves_signed, leaves-nodes}

-- ---- a mark for each comparison

module _ {O : Type 0} where
  pub size-comparisons : {l : Level} (c : Condition O l) → size c ≡ length (comparisons c)
  size-comparisons (compare c) = refl
  size-comparisons (negate c) = size-comparisons c
  size-comparisons (group c) = size-comparisons c
  size-comparisons (alone c) = size-comparisons c
  size-comparisons (both c d) = ap₂ ◌+◌ (size-comparisons c) (size-comparisons d) ∙ sym (length-append (comparisons c) (comparisons d))
  size-comparisons (single c) = size-comparisons c
  size-comparisons (either c d) = ap₂ ◌+◌ (size-comparisons c) (size-comparisons d) ∙ sym (length-append (comparisons c) (comparisons d))

  size-signed : {l : Level} (p : Bool) (c : Condition O l) → size c ≡ length (signed_in p c)
  size-signed p c = size-comparisons c ∙ sym (leaves-nodes p c) ∙ ap length (leaves_signed p c)

  marks-size : {l : Level} (c : Condition O l) → length (outer_marks c) ≡ size c
  marks-size (compare c) = refl
  marks-size (negate c) = length-replicate (size c) false
  marks-size (group c) = length-replicate (size c) false
  marks-size (alone c) = marks-size c
  marks-size (both c d) = length-append (outer_marks c) (outer_marks d) ∙ ap₂ ◌+◌ (marks-size c) (marks-size d)
  marks-size (single c) = marks-size c
  marks-size (either c d) = length-replicate (size c + size d) false

  pub marks-length : (w : Where O) → length (outer_marks_in w) ≡ length (comparisons_in w)
  marks-length always = refl
  marks-length (under c) = marks-size c ∙ size-comparisons c

-- ---- those that are marked are the outer ones

module _ {A : Type 0} where
  marked-none : (n : ℕ) (xs : List A) → marked (replicate n false) xs ≡ []
  marked-none zero xs = refl
  marked-none (suc n) [] = refl
  marked-none (suc n) (x ∷ xs) = marked-none n xs

  marked_append : (us bs : List Bool) (xs ys : List A) → length us ≡ length xs → marked (us ++ bs) (xs ++ ys) ≡ marked us xs ++ marked bs ys
  marked_append [] bs [] ys h = refl
  marked_append [] bs (x ∷ xs) ys h = absurd (omega arith)
  marked_append (a ∷ us) bs [] ys h = absurd (omega arith)
  marked_append (true ∷ us) bs (x ∷ xs) ys h = ap (λ r. x ∷ r) (marked_append us bs xs ys (omega arith))
  marked_append (false ∷ us) bs (x ∷ xs) ys h = marked_append us bs xs ys (omega arith)

module _ {O : Type 0} where
  marked-signed : {l : Level} (c : Condition O l) → marked (outer_marks c) (signed_in true c) ≡ outer c
  marked-signed (compare c) = refl
  marked-signed (negate c) = marked-none (size c) (signed_in false c)
  marked-signed (group c) = marked-none (size c) (signed_in true c)
  marked-signed (alone c) = marked-signed c
  marked-signed (both c d) =
      marked_append (outer_marks c) (outer_marks d) (signed_in true c) (signed_in true d) (marks-size c ∙ size-signed true c)
      ∙ ap₂ ◌++◌ (marked-signed c) (marked-signed d)
  marked-signed (single c) = marked-signed c
  marked-signed (either c d) = marked-none (size c + size d) (signed_in true c ++ signed_in true d)

  pub marked-outer : (w : Where O) → marked (outer_marks_in w) (leaves (nodes_in w)) ≡ outer_in w
  marked-outer always = refl
  marked-outer (under c) = ap (marked (outer_marks c)) (leaves_signed true c) ∙ marked-signed c

-- ---- they stay where comparisons are replaced, and where names are resolved

module _ {A B : Type 0} (f : A → B) where
  size-mapped : {l : Level} (c : Tree A l) → size (mapped f c) ≡ size c
  size-mapped (compare c) = refl
  size-mapped (negate c) = size-mapped c
  size-mapped (group c) = size-mapped c
  size-mapped (alone c) = size-mapped c
  size-mapped (both c d) = ap₂ ◌+◌ (size-mapped c) (size-mapped d)
  size-mapped (single c) = size-mapped c
  size-mapped (either c d) = ap₂ ◌+◌ (size-mapped c) (size-mapped d)

  tree-mapped : {l : Level} (c : Tree A l) → outer_marks (mapped f c) ≡ outer_marks c
  tree-mapped (compare c) = refl
  tree-mapped (negate c) = ap (λ n. replicate n false) (size-mapped c)
  tree-mapped (group c) = ap (λ n. replicate n false) (size-mapped c)
  tree-mapped (alone c) = tree-mapped c
  tree-mapped (both c d) = ap₂ ◌++◌ (tree-mapped c) (tree-mapped d)
  tree-mapped (single c) = tree-mapped c
  tree-mapped (either c d) = ap₂ (λ m n. replicate (m + n) false) (size-mapped c) (size-mapped d)

  pub marks-mapped : (w : Optional A) → outer_marks_in (mapped_in f w) ≡ outer_marks_in w
  marks-mapped always = refl
  marks-mapped (under c) = tree-mapped c

module _ {C : Type 0} (place : C → ℕ) where
  size-resolved : {l : Level} (m : ℕ) (c : Condition (Term C) l) → size (resolved place m c) ≡ size c
  size-resolved m (compare c) = refl
  size-resolved m (negate c) = size-resolved m c
  size-resolved m (group c) = size-resolved m c
  size-resolved m (alone c) = size-resolved m c
  size-resolved m (both c d) = ap₂ ◌+◌ (size-resolved m c) (size-resolved _ d)
  size-resolved m (single c) = size-resolved m c
  size-resolved m (either c d) = ap₂ ◌+◌ (size-resolved m c) (size-resolved _ d)

  tree-resolved : {l : Level} (m : ℕ) (c : Condition (Term C) l) → outer_marks (resolved place m c) ≡ outer_marks c
  tree-resolved m (compare c) = refl
  tree-resolved m (negate c) = ap (λ n. replicate n false) (size-resolved m c)
  tree-resolved m (group c) = ap (λ n. replicate n false) (size-resolved m c)
  tree-resolved m (alone c) = tree-resolved m c
  tree-resolved m (both c d) = ap₂ ◌++◌ (tree-resolved m c) (tree-resolved _ d)
  tree-resolved m (single c) = tree-resolved m c
  tree-resolved m (either c d) = ap₂ (λ i j. replicate (i + j) false) (size-resolved m c) (size-resolved _ d)

  pub marks-resolved : (m : ℕ) (w : Where (Term C)) → outer_marks_in (resolved_where place m w) ≡ outer_marks_in w
  marks-resolved m always = refl
  marks-resolved m (under c) = tree-resolved m c

-- ---- as many marks, and each of them is one of the second

data Fit : List Bool → List Bool → Type 0 where
  end : Fit [] []
  next : {a b : Bool} {us bs : List Bool} → (not a || b) ≡ true → Fit us bs → Fit (a ∷ us) (b ∷ bs)

fit-within : {us bs : List Bool} → Fit us bs → within us bs ≡ true
fit-within end = refl
fit-within (next h f) = and_both _ _ h (fit-within f)

within-fit : (us bs : List Bool) → length us ≡ length bs → within us bs ≡ true → Fit us bs
within-fit [] [] e h = end
within-fit [] (b ∷ bs) e h = absurd (omega arith)
within-fit (a ∷ us) [] e h = absurd (omega arith)
within-fit (a ∷ us) (b ∷ bs) e h = next (and_left (not a || b) (within us bs) h) (within-fit us bs (omega arith) (and_right (not a || b) (within us bs) h))

fit_append : {us bs cs ds : List Bool} → Fit us bs → Fit cs ds → Fit (us ++ cs) (bs ++ ds)
fit_append end g = g
fit_append (next h f) g = next h (fit_append f g)

fit-back : {us bs cs ds : List Bool} → Fit us bs → Fit cs ds → Fit (reverse_aux us cs) (reverse_aux bs ds)
fit-back end g = g
fit-back (next h f) g = fit-back f (next h g)

-- those of two parts
fit_parts : (bs cs : List Bool) {us : List Bool} → Fit us (bs ++ cs) → (x : List Bool) × (y : List Bool) × (x ++ y ≡ us) × Fit x bs × Fit y cs
fit_parts [] cs {us} f = ([], us, refl, end, f)
fit_parts (b ∷ bs) cs (next {a = a} h f) = let r = fit_parts bs cs f in (a ∷ r.0, r.1, ap (λ x. a ∷ x) r.2, next h r.3, r.4)

-- no marks
fit_none : (bs : List Bool) (n : ℕ) → n ≡ length bs → Fit (replicate n false) bs
fit_none [] zero e = end
fit_none [] (suc n) e = absurd (omega arith)
fit_none (b ∷ bs) zero e = absurd (omega arith)
fit_none (b ∷ bs) (suc n) e = next refl (fit_none bs n (omega arith))

none-fits : (n : ℕ) {us : List Bool} → Fit us (replicate n false) → replicate n false ≡ us
none-fits zero end = refl
none-fits (suc n) (next {a = true} h f) = absurd (false≢true h)
none-fits (suc n) (next {a = false} h f) = ap (λ x. false ∷ x) (none-fits n f)

none_within : (n : ℕ) (cs : List Bool) → within (replicate n false) cs ≡ true
none_within zero cs = refl
none_within (suc n) [] = none_within n []
none_within (suc n) (c ∷ cs) = none_within n cs

-- marks of which none is set are within any
pub unmarked-within : (n : ℕ) (cs : List Bool) → within (reverse (replicate n false)) cs ≡ true
unmarked-within n cs = go n 0
  where
    go : (n m : ℕ) → within (reverse_aux (replicate n false) (replicate m false)) cs ≡ true
    go zero m = none_within m cs
    go (suc n) m = go n (suc m)

nones : (m n : ℕ) (r : List Bool) → reverse_aux (replicate n false) (reverse_aux (replicate m false) r) ≡ reverse_aux (replicate (m + n) false) r
nones m n r = sym (reverse_aux-append (replicate m false) (replicate n false) r) ∙ ap (λ x. reverse_aux x r) (replicate-append-replicate m n false)

-- ---- a condition without NOT and without parentheses, by its nodes

data Formula (O : Type 0) : Type 0 where
  one : Comparison O → Formula O
  and or : Formula O → Formula O → Formula O

module _ {O : Type 0} where
  abbrev order : Formula O → List (Node O)
  order (one c) = leaf c ∷ []
  order (and f g) = order f ++ (order g ++ (all_of ∷ []))
  order (or f g) = order f ++ (order g ++ (any_of ∷ []))

  abbrev weight : Formula O → ℕ
  weight (one c) = 1
  weight (and f g) = weight f + weight g
  weight (or f g) = weight f + weight g

  abbrev formula : {l : Level} → Bool → Condition O l → Formula O
  formula p (compare c) = one (signed p c)
  formula p (negate c) = formula (not p) c
  formula p (group c) = formula p c
  formula p (alone c) = formula p c
  formula true (both c d) = and (formula true c) (formula true d)
  formula false (both c d) = or (formula false c) (formula false d)
  formula p (single c) = formula p c
  formula true (either c d) = or (formula true c) (formula true d)
  formula false (either c d) = and (formula false c) (formula false d)

  order-joined : {xs ys zs ws : List (Node O)} (n : Node O) → xs ≡ ys → zs ≡ ws → xs ++ (zs ++ (n ∷ [])) ≡ ys ++ (ws ++ (n ∷ []))
  order-joined n e f = ap₂ (λ x z. x ++ (z ++ (n ∷ []))) e f

  -- each condition has one
  order-formula : {l : Level} (p : Bool) (c : Condition O l) → order (formula p c) ≡ nodes p c
  order-formula p (compare c) = refl
  order-formula p (negate c) = order-formula (not p) c
  order-formula p (group c) = order-formula p c
  order-formula p (alone c) = order-formula p c
  order-formula true (both c d) = order-joined all_of (order-formula true c) (order-formula true d)
  order-formula false (both c d) = order-joined any_of (order-formula false c) (order-formula false d)
  order-formula p (single c) = order-formula p c
  order-formula true (either c d) = order-joined any_of (order-formula true c) (order-formula true d)
  order-formula false (either c d) = order-joined all_of (order-formula false c) (order-formula false d)

  -- and each is that of a condition, here with both sides of each AND and OR in parentheses
  inside : (f : Formula O) → (c : Condition O disjunction) × (nodes true c ≡ order f) × (size c ≡ weight f) × (depth c < weight f)
  inside (one c) = (single (alone (compare c)), refl, refl, omega arith)
  inside (and f g) =
      let (c, e, m, h) = inside f in
      let (d, k, n, i) = inside g in
      (single (both (group c) (alone (group d))), order-joined all_of e k, ap₂ ◌+◌ m n, omega (arith, h, i))
  inside (or f g) =
      let (c, e, m, h) = inside f in
      let (d, k, n, i) = inside g in
      (either (alone (group c)) (single (alone (group d))), order-joined any_of e k, ap₂ ◌+◌ m n, omega (arith, h, i))

  order-leaves : (f : Formula O) → length (leaves (order f)) ≡ weight f
  order-leaves f = let (c, e, m, h) = inside f in ap (λ ns. length (leaves ns)) (sym e) ∙ leaves-nodes true c ∙ sym (size-comparisons c) ∙ m

  weight-formula : {l : Level} (p : Bool) (c : Condition O l) → size c ≡ weight (formula p c)
  weight-formula p c =
      size-comparisons c ∙ sym (leaves-nodes p c) ∙ ap (λ ns. length (leaves ns)) (sym (order-formula p c)) ∙ order-leaves (formula p c)

  -- which comparisons may be outer: where it is the left side of an AND, and where it is a whole condition or the right side of one
  abbrev lone : Formula O → List Bool
  lone (one c) = true ∷ []
  lone (and f g) = replicate (weight f + weight g) false
  lone (or f g) = replicate (weight f + weight g) false

  abbrev chain : Formula O → List Bool
  chain (one c) = true ∷ []
  chain (and f g) = lone f ++ chain g
  chain (or f g) = replicate (weight f + weight g) false

  lone-length : (f : Formula O) → weight f ≡ length (lone f)
  lone-length (one c) = refl
  lone-length (and f g) = sym (length-replicate (weight f + weight g) false)
  lone-length (or f g) = sym (length-replicate (weight f + weight g) false)

  chain_length : (f : Formula O) → weight f ≡ length (chain f)
  chain_length (one c) = refl
  chain_length (and f g) = ap₂ ◌+◌ (lone-length f) (chain_length g) ∙ sym (length-append (lone f) (chain g))
  chain_length (or f g) = sym (length-replicate (weight f + weight g) false)

  -- ---- read from the last node on

  abbrev back : Formula O → List (Node O) → List (Node O)
  back (one c) rest = leaf c ∷ rest
  back (and f g) rest = all_of ∷ back g (back f rest)
  back (or f g) rest = any_of ∷ back g (back f rest)

  back-joined : (xs ys rest mid out : List (Node O)) (n : Node O) → reverse_aux xs rest ≡ mid → reverse_aux ys mid ≡ out → reverse_aux (xs ++ (ys ++ (n ∷ []))) rest ≡ n ∷ out
  back-joined xs ys rest mid out n e f =
      reverse_aux-append xs (ys ++ (n ∷ [])) rest ∙ ap (reverse_aux (ys ++ (n ∷ []))) e ∙ reverse_aux-append ys (n ∷ []) mid ∙ ap (λ r. n ∷ r) f

  back-order : (f : Formula O) (rest : List (Node O)) → reverse_aux (order f) rest ≡ back f rest
  back-order (one c) rest = refl
  back-order (and f g) rest = back-joined (order f) (order g) rest (back f rest) _ all_of (back-order f rest) (back-order g (back f rest))
  back-order (or f g) rest = back-joined (order f) (order g) rest (back f rest) _ any_of (back-order f rest) (back-order g (back f rest))

  -- a part that an AND or OR joins
  skipped-part : (f : Formula O) (e : Bool) (k : ℕ) (rest : List (Node O))
      → chained e (suc k) (back f rest) ≡ reverse_aux (replicate (weight f) false) (chained e k rest)
  skipped-part (one c) e k rest = refl
  skipped-part (and f g) e k rest =
      skipped-part g e (suc k) (back f rest) ∙ ap (reverse_aux (replicate (weight g) false)) (skipped-part f e k rest) ∙ nones (weight f) (weight g) (chained e k rest)
  skipped-part (or f g) e k rest =
      skipped-part g e (suc k) (back f rest) ∙ ap (reverse_aux (replicate (weight g) false)) (skipped-part f e k rest) ∙ nones (weight f) (weight g) (chained e k rest)

  left-part : (f : Formula O) (rest : List (Node O)) → chained false 0 (back f rest) ≡ reverse_aux (lone f) (chained false 0 rest)
  left-part (one c) rest = refl
  left-part (and f g) rest = skipped-part (and f g) false 0 rest
  left-part (or f g) rest = skipped-part (or f g) false 0 rest

  last-part : (f : Formula O) (rest : List (Node O)) → chained true 0 (back f rest) ≡ reverse_aux (chain f) (chained false 0 rest)
  last-part (one c) rest = refl
  last-part (and f g) rest =
      last-part g (back f rest) ∙ ap (reverse_aux (chain g)) (left-part f rest) ∙ sym (reverse_aux-append (lone f) (chain g) (chained false 0 rest))
  last-part (or f g) rest = skipped-part (or f g) false 0 rest

  chained-order : (f : Formula O) → chained true 0 (reverse (order f)) ≡ reverse (chain f)
  chained-order f = ap (chained true 0) (back-order f []) ∙ last-part f []

  -- ---- the outer comparisons of a condition are among them

  chain-none : {l : Level} (p : Bool) (c : Condition O l) → Fit (replicate (size c) false) (chain (formula p c))
  chain-none p c = fit_none (chain (formula p c)) (size c) (weight-formula p c ∙ chain_length (formula p c))

  lone-none : {l : Level} (p : Bool) (c : Condition O l) → Fit (replicate (size c) false) (lone (formula p c))
  lone-none p c = fit_none (lone (formula p c)) (size c) (weight-formula p c ∙ lone-length (formula p c))

  left-fit : (c : Condition O atom) → Fit (outer_marks c) (lone (formula true c))
  left-fit (compare c) = next refl end
  left-fit (negate c) = lone-none false c
  left-fit (group c) = lone-none true c

  marks-fit : {l : Level} (c : Condition O l) → Fit (outer_marks c) (chain (formula true c))
  marks-fit (compare c) = next refl end
  marks-fit (negate c) = chain-none false c
  marks-fit (group c) = chain-none true c
  marks-fit (alone c) = marks-fit c
  marks-fit (both c d) = fit_append (left-fit c) (marks-fit d)
  marks-fit (single c) = marks-fit c
  marks-fit (either c d) = chain-none true (either c d)

  pub outer-chained : (w : Where O) → within (reverse (outer_marks_in w)) (chained true 0 (reverse (nodes_in w))) ≡ true
  outer-chained always = refl
  outer-chained (under c) =
      ap (within (reverse (outer_marks c))) (ap (λ ns. chained true 0 (reverse ns)) (sym (order-formula true c)) ∙ chained-order (formula true c))
      ∙ fit-within (fit-back (marks-fit c) end)

  -- ---- every list of nodes in which each join finds two values, and that leaves one, has a formula: formulas on a stack, the top first

  abbrev spread : List (Formula O) → List (Node O)
  spread [] = []
  spread (f ∷ st) = spread st ++ order f

  abbrev Built : List (Node O) → Type 0
  Built ns = (f : Formula O) × (order f ≡ ns)

  spread-joined : (xs cs ds ns : List (Node O)) (j : Node O) → (xs ++ (cs ++ (ds ++ (j ∷ [])))) ++ ns ≡ xs ++ cs ++ ds ++ (j ∷ ns)
  spread-joined xs cs ds ns j = simp append_assoc

  build : (ns : List (Node O)) (st : List (Formula O)) → balanced_on (length st) ns ≡ true → Built (spread st ++ ns)
  build [] [] h = absurd (false≢true h)
  build [] (f ∷ []) h = (f, sym (append-nil (order f)))
  build [] (g ∷ f ∷ st) h = absurd (false≢true h)
  build (leaf c ∷ ns) st h = subst Built (append_assoc (spread st) (leaf c ∷ []) ns) (build ns (one c ∷ st) h)
  build (all_of ∷ ns) [] h = absurd (false≢true h)
  build (all_of ∷ ns) (f ∷ []) h = absurd (false≢true h)
  build (all_of ∷ ns) (g ∷ f ∷ st) h = subst Built (spread-joined (spread st) (order f) (order g) ns all_of) (build ns (and f g ∷ st) h)
  build (any_of ∷ ns) [] h = absurd (false≢true h)
  build (any_of ∷ ns) (f ∷ []) h = absurd (false≢true h)
  build (any_of ∷ ns) (g ∷ f ∷ st) h = subst Built (spread-joined (spread st) (order f) (order g) ns any_of) (build ns (or f g ∷ st) h)

  -- ---- a condition for each formula and each choice of marks that it allows; it has no more parentheses around a comparison than there are comparisons

  -- the condition c has these nodes and marks, and this depth at most
  abbrev Marked : {l : Level} → Formula O → List Bool → Condition O l → Type 0
  Marked f bs c = (nodes true c ≡ order f) × (outer_marks c ≡ bs) × (depth c ≤ weight f)

  in-parentheses : (f : Formula O) {bs : List Bool} → Fit bs (replicate (weight f) false) → (c : Condition O atom) × Marked f bs c
  in-parentheses f h =
      let (c, e, m, i) = inside f in
      (group c, (e, ap (λ n. replicate n false) m ∙ none-fits (weight f) h, omega (arith, i)))

  -- a comparison in parentheses is not outer
  one-marked : (b : Bool) (c : Comparison O) → (d : Condition O atom) × Marked (one c) (b ∷ []) d
  one-marked true c = (compare c, (refl, refl, omega arith))
  one-marked false c = (group (single (alone (compare c))), (refl, refl, omega arith))

  left-marked : (f : Formula O) {bs : List Bool} → Fit bs (lone f) → (c : Condition O atom) × Marked f bs c
  left-marked (one c) (next {a = b} h end) = one-marked b c
  left-marked (and f g) h = in-parentheses (and f g) h
  left-marked (or f g) h = in-parentheses (or f g) h

  last-marked : (f : Formula O) {bs : List Bool} → Fit bs (chain f) → (c : Condition O conjunction) × Marked f bs c
  last-marked (one c) h = let (d, k) = left-marked (one c) h in (alone d, k)
  last-marked (and f g) h =
      let (x, y, e, i, j) = fit_parts (lone f) (chain g) h in
      let (c, (cn, cm, cd)) = left-marked f i in
      let (d, (dn, dm, dd)) = last-marked g j in
      (both c d, (order-joined all_of cn dn, ap₂ ◌++◌ cm dm ∙ e, omega (arith, cd, dd)))
  last-marked (or f g) h = let (d, k) = left-marked (or f g) h in (alone d, k)

  abbrev From : List Bool → List (Node O) → Type 0
  From bs ns = (w : Where O) × (nodes_in w ≡ ns) × (outer_marks_in w ≡ bs) × (length (leaves ns) ≤ 8 → depth_in w ≤ 8)

  from-formula : (bs : List Bool) (f : Formula O) → length bs ≡ length (leaves (order f)) → within (reverse bs) (chained true 0 (reverse (order f))) ≡ true
      → From bs (order f)
  from-formula bs f e k =
      let n : length (reverse bs) ≡ length (reverse (chain f)) =
      length-reverse bs ∙ e ∙ order-leaves f ∙ chain_length f ∙ sym (length-reverse (chain f)) in
      let there : Fit (reverse bs) (reverse (chain f)) = within-fit (reverse bs) (reverse (chain f)) n (ap (within (reverse bs)) (sym (chained-order f)) ∙ k) in
      let here : Fit bs (chain f) = subst (λ x. Fit x (chain f)) (reverse-reverse bs) (subst (Fit (reverse (reverse bs))) (reverse-reverse (chain f)) (fit-back there end)) in
      let (c, (cn, cm, cd)) = last-marked f here in
      (under (single c), cn, cm, λ i. omega (arith, cd, order-leaves f))

  -- nodes that may be those of a condition, with marks that they allow: those of a condition of little depth
  pub where-marked : (ns : List (Node O)) → is_postfix ns ≡ true → (bs : List Bool) → length bs ≡ length (leaves ns)
      → within (reverse bs) (chained true 0 (reverse ns)) ≡ true → (w : Where O) × (nodes_in w ≡ ns) × (outer_marks_in w ≡ bs) × (length (leaves ns) ≤ 8 → depth_in w ≤ 8)
  where-marked [] h [] e k = (always, refl, refl, λ i. omega arith)
  where-marked [] h (b ∷ bs) e k = absurd (omega arith)
  where-marked (n ∷ ns) h bs e k =
      let (f, o) = build (n ∷ ns) [] h in
      subst (λ ms. length bs ≡ length (leaves ms) → within (reverse bs) (chained true 0 (reverse ms)) ≡ true → From bs ms) o (from-formula bs f) e k

-- ---- a row of the first table for which an outer comparison is not true has no pair in the answer

module _ {O : Type 0} (v : O → ℤ) where
  -- every outer comparison of a condition that is true is true
  pub outer-needed : {l : Level} (c : Condition O l) → is_true (eval v c) ≡ true → all (holds v) (outer c) ≡ true
  outer-needed (compare c) h = and_both (holds v c) true h refl
  outer-needed (negate c) h = refl
  outer-needed (group c) h = refl
  outer-needed (alone c) h = outer-needed c h
  outer-needed (both c d) h =
      let k : (is_true (eval v c) && is_true (eval v d)) ≡ true = sym (true-and true (eval v c) (eval v d)) ∙ h in
      all_append (holds v) (outer c) (outer d)
      ∙ and_both (all (holds v) (outer c)) (all (holds v) (outer d)) (outer-needed c (and_left (is_true (eval v c)) (is_true (eval v d)) k))
      (outer-needed d (and_right (is_true (eval v c)) (is_true (eval v d)) k))
  outer-needed (single c) h = outer-needed c h
  outer-needed (either c d) h = refl

  outer-where : (w : Where O) → eval_where v w ≡ true → all (holds v) (outer_in w) ≡ true
  outer-where always h = refl
  outer-where (under c) h = outer-needed c h

module _ (vs : List ℤ) (r o : Row) (start : ℕ) (wide : length r ≡ start) where
  -- a column below `start` reads the same beside any row
  side_same : (x : Operand) → is_below start x ≡ true → operand_value (r ++ o) vs x ≡ operand_value r vs x
  side_same (column i) h = cell-left r o i (subst (λ (n : ℕ). i < n) (sym wide) (ltb-true i start h))
  side_same (value v) h = refl

  kept-hold : (cs : List (Comparison Operand)) → all (holds (operand_value (r ++ o) vs)) cs ≡ true → all (holds (operand_value r vs)) (keep (of_first start) cs) ≡ true
  kept-hold [] h = refl
  kept-hold (c ∷ cs) h =
      go (of_first start c) refl (kept-hold cs (and_right (holds (operand_value (r ++ o) vs) c) (all (holds (operand_value (r ++ o) vs)) cs) h))
    where
      go : (b : Bool) → of_first start c ≡ b → all (holds (operand_value r vs)) (keep (of_first start) cs) ≡ true
          → all (holds (operand_value r vs)) (cons_if b c (keep (of_first start) cs)) ≡ true
      go true e k =
          and_both (holds (operand_value r vs) c) (all (holds (operand_value r vs)) (keep (of_first start) cs))
          (sym
          (ap₂ (truth c.op) (side_same c.left (and_left (is_below start c.left) (is_below start c.right) e))
          (side_same c.right (and_right (is_below start c.left) (is_below start c.right) e)))
          ∙ and_left (holds (operand_value (r ++ o) vs) c) (all (holds (operand_value (r ++ o) vs)) cs) h) k
      go false e k = k

module _ (q : Query) (s : Second) (vs : List ℤ) where
  -- a pair that is taken passes by its first row
  taken-passes : (r o : Row) → length r ≡ s.start → takes q vs (r ++ o) ≡ true → passes_first q s vs r ≡ true
  taken-passes r o wide h = kept-hold vs r o s.start wide (outer_in q.condition) (outer-where (operand_value (r ++ o) vs) q.condition h)

  pub skipped : (r : Row) (others : List Row) → length r ≡ s.start → passes_first q s vs r ≡ false → answer q vs (map (λ (o : Row). r ++ o) others) ≡ []
  skipped r others wide h =
      all_none q vs r others (All-every (λ o. contra (takes q vs (r ++ o)) (passes_first q s vs r) (taken-passes r o wide) h) others)

  -- so such rows may be left out
  pub skipped-pairs : (rows others : List Row) → All (λ r. length r ≡ s.start) rows
      → answer q vs (pairs (keep (passes_first q s vs) rows) others) ≡ answer q vs (pairs rows others)
  skipped-pairs [] others w = refl
  skipped-pairs (r ∷ rows) others w = go (passes_first q s vs r) refl (skipped-pairs rows others (All-tail w))
    where
      go : (b : Bool) → passes_first q s vs r ≡ b → answer q vs (pairs (keep (passes_first q s vs) rows) others) ≡ answer q vs (pairs rows others)
          → answer q vs (pairs (cons_if b r (keep (passes_first q s vs) rows)) others) ≡ answer q vs (pairs (r ∷ rows) others)
      go true e k =
          answer-append q vs (map (λ (o : Row). r ++ o) others) (pairs (keep (passes_first q s vs) rows) others)
          ∙ ap (λ l. answer q vs (map (λ (o : Row). r ++ o) others) ++ l) k ∙ sym (answer-append q vs (map (λ (o : Row). r ++ o) others) (pairs rows others))
      go false e k =
          k
          ∙ sym
          (answer-append q vs (map (λ (o : Row). r ++ o) others) (pairs rows others) ∙ ap (λ l. l ++ answer q vs (pairs rows others)) (skipped r others (All-head w) e))

pub no_pair_listed : NoPairListed
no_pair_listed q s vs r others h wide = ap (answer q vs) (append-nil (map (λ (o : Row). r ++ o) others)) ∙ skipped q s vs r others wide h
