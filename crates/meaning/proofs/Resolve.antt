-- Names resolved and question marks numbered in a condition in postfix order: it is what the condition itself gives; joins, constants and the number of
-- question marks stay; the tests of the outcome hold of it; and what passes the tests comes from a condition as it is written, that names columns of the table, or of the two.
-- Assumes nothing.
use mathlib.Core.Path.{◌≡◌, refl, sym, ap, ap₂, ◌∙◌, subst}
use mathlib.Core.Bool.{Bool, true, false, not, ◌&&◌, ◌||◌, cond, or-true, false≢true}
use mathlib.Core.List.{List, [], ◌∷◌, ◌++◌, reverse, reverse_aux}
use Prim.Native.Nat.{ℕ, zero, suc, ◌+◌, ◌-◌, ◌≤◌, ◌<◌}
use native.Mathlib.Nat.{le_of_suc-le-suc, not-suc-le-zero, add-zero}
use native.Mathlib.Omega.{arith}
use borrow.Author.Tests.{ltb-true, ltb-false, lt-ltb, eqb-true, eq-eqb}
use lib.Dec.{eqb, eqb_refl, ltb}
use lib.IntN.{ℤ}
use lib.ListN.{length, get_or}
use Rattle.lists.specs.Lists.{All, nil, cons, any, all, repeats}
use Rattle.lists.specs.Tests.{eq_list-refl}
use Rattle.lists.proofs.Bools.{T→true, and_left, and_right, and_both, or_left, or_right, not-false, contra}
use Rattle.lists.proofs.Lists.{All-head, All-tail, any_false}
use Rattle.lists.proofs.Places.{All-at}
use Rattle.meaning.specs.Operator.{Predicate, by, is-null, is-not-null}
use Rattle.meaning.specs.Condition.{Comparison, Level, Condition, compare, negate, group, alone, both, single, either, Optional, Where, always, under, comparisons, sides, comparisons_in, operands_in, depth_in, mapped_in, renamed}
use Rattle.meaning.specs.Postfix.{Node, leaf, all_of, any_of, signed, join_all, join_any, nodes, nodes_in, leaves, balanced_on, is_postfix, outer_marks_in, within, chained}
use Rattle.meaning.specs.Tokens.{Name}
use Rattle.meaning.specs.Grammar as G
use Rattle.meaning.specs.Grammar.{mark, Term, given, Test, comparison, Dotted}
use Rattle.meaning.specs.Limits.{term_givens, term_columns, mark_count, is_within32, outside32}
use Rattle.meaning.specs.Names.{same_name, has, position, is_of, pair_place}
use Rattle.meaning.specs.Statement.{Operand, column, value, constant, parameter, mark_in_term, operand_of, comparison_of, resolved, resolved_where, is_below}
use Rattle.meaning.specs.Resolve.{mark_in_operand, parameter_count, is_numbered, numbered_on, numbered_from, columns_below, is_test_by, is_test}
use Rattle.meaning.specs.Private.Walk.{marks_past, resolve_nodes}
use Rattle.meaning.proofs.Names.{same-is, has-position}
use Rattle.meaning.proofs.Dotted.{pair_inside}
use Rattle.meaning.proofs.Postfix.{sides-nodes, sides-in, leaves_in, postfix-where}
use Rattle.meaning.proofs.Outer.{where-marked, marks-mapped}
use Rattle.meaning.proofs.Written.{IsTest, Fits, written, nodes-back, nodes-tests}

-- ---- what is in a condition in postfix order

-- the marks that stand before what follows the nodes
abbrev pub marks_after : {C : Type 0} → ℕ → List (Node (Term C)) → ℕ
marks_after m [] = m
marks_after m (leaf c ∷ ns) = marks_after (marks_past m c) ns
marks_after m (all_of ∷ ns) = marks_after m ns
marks_after m (any_of ∷ ns) = marks_after m ns

-- the constants
abbrev pub term_constants : {C : Type 0} → List (Term C) → List ℤ
term_constants [] = []
term_constants (G.column n ∷ ts) = term_constants ts
term_constants (given (G.constant z) ∷ ts) = z ∷ term_constants ts
term_constants (given mark ∷ ts) = term_constants ts

abbrev pub operand_constants : List Operand → List ℤ
operand_constants [] = []
operand_constants (column i ∷ os) = operand_constants os
operand_constants (value (constant z) ∷ os) = z ∷ operand_constants os
operand_constants (value (parameter k) ∷ os) = operand_constants os

-- A.5: the null tests are of columns
abbrev pub are_tests : List (Node Operand) → Bool
are_tests ns = all is_test (leaves ns)

-- ---- the marks passed

pub term-marks : {C : Type 0} (t : Term C) (ts : List (Term C)) → mark_count (term_givens (t ∷ ts)) ≡ mark_in_term t + mark_count (term_givens ts)
term-marks (G.column n) ts = omega arith
term-marks (given v) ts = refl

-- those of the comparisons
pub marks-after : {C : Type 0} (m : ℕ) (ns : List (Node (Term C))) → marks_after m ns ≡ m + mark_count (term_givens (sides (leaves ns)))
marks-after m [] = sym (add-zero m)
marks-after m (leaf c ∷ ns) =
    marks-after (marks_past m c) ns
    ∙ omega (arith, term-marks c.left (c.right ∷ sides (leaves ns)), term-marks c.right (sides (leaves ns)))
marks-after m (all_of ∷ ns) = marks-after m ns
marks-after m (any_of ∷ ns) = marks-after m ns

-- over the nodes of a condition: its marks
pub marks-nodes : {C : Type 0} {l : Level} (m : ℕ) (p : Bool) (c : Condition (Term C) l) → marks_after m (nodes p c) ≡ m + mark_count (term_givens (sides (comparisons c)))
marks-nodes m p c = marks-after m (nodes p c) ∙ ap (λ os. m + mark_count (term_givens os)) (sides-nodes p c)

-- nodes of which as much may be outer, with one more of a kind before each
module _ {O P : Type 0} (xs : List (Node O)) (ys : List (Node P)) (same : (e : Bool) (k : ℕ) → chained e k xs ≡ chained e k ys) where
  leaf-chained : (c : Comparison O) (d : Comparison P) (e : Bool) (k : ℕ) → chained e k (leaf c ∷ xs) ≡ chained e k (leaf d ∷ ys)
  leaf-chained c d e zero = ap (λ r. true ∷ r) (same false zero)
  leaf-chained c d e (suc k) = ap (λ r. false ∷ r) (same e k)

  all-chained : (e : Bool) (k : ℕ) → chained e k (all_of ∷ xs) ≡ chained e k (all_of ∷ ys)
  all-chained true zero = same true zero
  all-chained false zero = same false 2
  all-chained e (suc k) = same e (suc (suc k))

  any-chained : (e : Bool) (k : ℕ) → chained e k (any_of ∷ xs) ≡ chained e k (any_of ∷ ys)
  any-chained e zero = same false 2
  any-chained e (suc k) = same e (suc (suc k))

module _ {C : Type 0} (place : C → ℕ) where
  -- ---- the nodes of the condition with names resolved

  pub resolve-append : (m : ℕ) (ns ms : List (Node (Term C)))
      → resolve_nodes place m (ns ++ ms) ≡ resolve_nodes place m ns ++ resolve_nodes place (marks_after m ns) ms
  resolve-append m [] ms = refl
  resolve-append m (leaf c ∷ ns) ms = ap (λ r. leaf (comparison_of place m c) ∷ r) (resolve-append (marks_past m c) ns ms)
  resolve-append m (all_of ∷ ns) ms = ap (λ r. all_of ∷ r) (resolve-append m ns ms)
  resolve-append m (any_of ∷ ns) ms = ap (λ r. any_of ∷ r) (resolve-append m ns ms)

  resolve-signed : (m : ℕ) (p : Bool) (c : Comparison (Term C)) → signed p (comparison_of place m c) ≡ comparison_of place m (signed p c)
  resolve-signed m true c = refl
  resolve-signed m false c = refl

  resolve-all : (m : ℕ) (p : Bool) → resolve_nodes place m (join_all p ∷ []) ≡ join_all p ∷ []
  resolve-all m true = refl
  resolve-all m false = refl

  resolve-any : (m : ℕ) (p : Bool) → resolve_nodes place m (join_any p ∷ []) ≡ join_any p ∷ []
  resolve-any m true = refl
  resolve-any m false = refl

  resolve-joined : (m n : ℕ) (xs ys : List (Node (Term C))) (j : Node (Term C)) (cs ds : List (Node Operand)) (k : Node Operand)
      → marks_after m xs ≡ n → cs ≡ resolve_nodes place m xs → ds ≡ resolve_nodes place n ys
      → ((i : ℕ) → resolve_nodes place i (j ∷ []) ≡ k ∷ []) → cs ++ (ds ++ (k ∷ [])) ≡ resolve_nodes place m (xs ++ (ys ++ (j ∷ [])))
  resolve-joined m n xs ys j cs ds k e hx hy hj =
      sym
      (resolve-append m xs (ys ++ (j ∷ []))
      ∙ ap₂ ◌++◌ (sym hx)
      (resolve-append (marks_after m xs) ys (j ∷ [])
      ∙ ap₂ ◌++◌ (ap (λ i. resolve_nodes place i ys) e ∙ sym hy) (hj (marks_after (marks_after m xs) ys))))

  -- resolving a condition and taking its nodes is taking its nodes and resolving them
  pub resolve-nodes : {l : Level} (m : ℕ) (p : Bool) (c : Condition (Term C) l) → nodes p (resolved place m c) ≡ resolve_nodes place m (nodes p c)
  resolve-nodes m p (compare c) = ap (λ d. leaf d ∷ []) (resolve-signed m p c)
  resolve-nodes m p (negate c) = resolve-nodes m (not p) c
  resolve-nodes m p (group c) = resolve-nodes m p c
  resolve-nodes m p (alone c) = resolve-nodes m p c
  resolve-nodes m p (both c d) =
      let n : ℕ = m + mark_count (term_givens (sides (comparisons c))) in
      resolve-joined m n (nodes p c) (nodes p d) (join_all p) (nodes p (resolved place m c)) (nodes p (resolved place n d)) (join_all p)
      (marks-nodes m p c) (resolve-nodes m p c) (resolve-nodes n p d) (λ i. resolve-all i p)
  resolve-nodes m p (single c) = resolve-nodes m p c
  resolve-nodes m p (either c d) =
      let n : ℕ = m + mark_count (term_givens (sides (comparisons c))) in
      resolve-joined m n (nodes p c) (nodes p d) (join_any p) (nodes p (resolved place m c)) (nodes p (resolved place n d)) (join_any p)
      (marks-nodes m p c) (resolve-nodes m p c) (resolve-nodes n p d) (λ i. resolve-any i p)

  pub resolve-where : (m : ℕ) (w : Where (Term C)) → nodes_in (resolved_where place m w) ≡ resolve_nodes place m (nodes_in w)
  resolve-where m always = refl
  resolve-where m (under c) = resolve-nodes m true c

  -- ---- what stays

  -- the joins
  pub resolve-balanced : (k m : ℕ) (ns : List (Node (Term C))) → balanced_on k (resolve_nodes place m ns) ≡ balanced_on k ns
  resolve-balanced zero m [] = refl
  resolve-balanced (suc zero) m [] = refl
  resolve-balanced (suc (suc k)) m [] = refl
  resolve-balanced k m (leaf c ∷ ns) = resolve-balanced (suc k) (marks_past m c) ns
  resolve-balanced zero m (all_of ∷ ns) = refl
  resolve-balanced (suc zero) m (all_of ∷ ns) = refl
  resolve-balanced (suc (suc k)) m (all_of ∷ ns) = resolve-balanced (suc k) m ns
  resolve-balanced zero m (any_of ∷ ns) = refl
  resolve-balanced (suc zero) m (any_of ∷ ns) = refl
  resolve-balanced (suc (suc k)) m (any_of ∷ ns) = resolve-balanced (suc k) m ns

  pub resolve-postfix : (m : ℕ) (ns : List (Node (Term C))) → is_postfix (resolve_nodes place m ns) ≡ is_postfix ns
  resolve-postfix m [] = refl
  resolve-postfix m (leaf c ∷ ns) = resolve-balanced 0 m (leaf c ∷ ns)
  resolve-postfix m (all_of ∷ ns) = refl
  resolve-postfix m (any_of ∷ ns) = refl

  -- the number of nodes, and of comparisons
  pub resolve-length : (m : ℕ) (ns : List (Node (Term C))) → length (resolve_nodes place m ns) ≡ length ns
  resolve-length m [] = refl
  resolve-length m (leaf c ∷ ns) = ap suc (resolve-length (marks_past m c) ns)
  resolve-length m (all_of ∷ ns) = ap suc (resolve-length m ns)
  resolve-length m (any_of ∷ ns) = ap suc (resolve-length m ns)

  pub resolve-leaves : (m : ℕ) (ns : List (Node (Term C))) → length (leaves (resolve_nodes place m ns)) ≡ length (leaves ns)
  resolve-leaves m [] = refl
  resolve-leaves m (leaf c ∷ ns) = ap suc (resolve-leaves (marks_past m c) ns)
  resolve-leaves m (all_of ∷ ns) = resolve-leaves m ns
  resolve-leaves m (any_of ∷ ns) = resolve-leaves m ns

  -- what may be outer
  resolve-back : (m : ℕ) (ns : List (Node (Term C))) (xs : List (Node Operand)) (ys : List (Node (Term C)))
      → ((e : Bool) (k : ℕ) → chained e k xs ≡ chained e k ys) → (e : Bool) (k : ℕ) → chained e k (reverse_aux (resolve_nodes place m ns) xs) ≡ chained e k (reverse_aux ns ys)
  resolve-back m [] xs ys h = h
  resolve-back m (leaf c ∷ ns) xs ys h =
      resolve-back (marks_past m c) ns (leaf (comparison_of place m c) ∷ xs) (leaf c ∷ ys) (leaf-chained xs ys h (comparison_of place m c) c)
  resolve-back m (all_of ∷ ns) xs ys h = resolve-back m ns (all_of ∷ xs) (all_of ∷ ys) (all-chained xs ys h)
  resolve-back m (any_of ∷ ns) xs ys h = resolve-back m ns (any_of ∷ xs) (any_of ∷ ys) (any-chained xs ys h)

  pub resolve-chained : (m : ℕ) (ns : List (Node (Term C))) → chained true 0 (reverse (resolve_nodes place m ns)) ≡ chained true 0 (reverse ns)
  resolve-chained m ns = resolve-back m ns [] [] (λ e k. refl) true 0

  -- the constants
  constant_of : (m : ℕ) (t : Term C) (os : List Operand) (ts : List (Term C)) → operand_constants os ≡ term_constants ts
      → operand_constants (operand_of place m t ∷ os) ≡ term_constants (t ∷ ts)
  constant_of m (G.column n) os ts h = h
  constant_of m (given (G.constant z)) os ts h = ap (λ r. z ∷ r) h
  constant_of m (given mark) os ts h = h

  pub resolve-constants : (m : ℕ) (ns : List (Node (Term C))) → operand_constants (sides (leaves (resolve_nodes place m ns))) ≡ term_constants (sides (leaves ns))
  resolve-constants m [] = refl
  resolve-constants m (leaf c ∷ ns) =
      let os : List Operand = sides (leaves (resolve_nodes place (marks_past m c) ns)) in
      let n : ℕ = m + mark_in_term c.left in
      constant_of m c.left (operand_of place n c.right ∷ os) (c.right ∷ sides (leaves ns))
      (constant_of n c.right os (sides (leaves ns)) (resolve-constants (marks_past m c) ns))
  resolve-constants m (all_of ∷ ns) = resolve-constants m ns
  resolve-constants m (any_of ∷ ns) = resolve-constants m ns

  -- the number of question marks
  operand-marks : (m : ℕ) (t : Term C) → mark_in_operand (operand_of place m t) ≡ mark_in_term t
  operand-marks m (G.column n) = refl
  operand-marks m (given (G.constant z)) = refl
  operand-marks m (given mark) = refl

  pub resolve-marks : (m : ℕ) (ns : List (Node (Term C)))
      → parameter_count (sides (leaves (resolve_nodes place m ns))) ≡ mark_count (term_givens (sides (leaves ns)))
  resolve-marks m [] = refl
  resolve-marks m (leaf c ∷ ns) =
      let n : ℕ = m + mark_in_term c.left in
      omega (
        arith,
        operand-marks m c.left,
        operand-marks n c.right,
        resolve-marks (marks_past m c) ns,
        term-marks c.left (c.right ∷ sides (leaves ns)),
        term-marks c.right (sides (leaves ns)),
      )
  resolve-marks m (all_of ∷ ns) = resolve-marks m ns
  resolve-marks m (any_of ∷ ns) = resolve-marks m ns

  -- ---- the tests hold of it

  operand-numbered : (m : ℕ) (t : Term C) → is_numbered m (operand_of place m t) ≡ true
  operand-numbered m (G.column n) = refl
  operand-numbered m (given (G.constant z)) = refl
  operand-numbered m (given mark) = eq-eqb (suc m) (suc m) refl

  numbered_next : (m : ℕ) (t : Term C) (os : List Operand) → numbered_on (m + mark_in_term t) os ≡ true → numbered_on m (operand_of place m t ∷ os) ≡ true
  numbered_next m t os h =
      and_both (is_numbered m (operand_of place m t)) _ (operand-numbered m t) (ap (λ k. numbered_on (m + k) os) (operand-marks m t) ∙ h)

  -- its question marks are numbered
  pub resolve-numbered : (m : ℕ) (ns : List (Node (Term C))) → numbered_from m (resolve_nodes place m ns) ≡ true
  resolve-numbered m [] = refl
  resolve-numbered m (leaf c ∷ ns) =
      let os : List Operand = sides (leaves (resolve_nodes place (marks_past m c) ns)) in
      let n : ℕ = m + mark_in_term c.left in
      numbered_next m c.left (operand_of place n c.right ∷ os) (numbered_next n c.right os (resolve-numbered (marks_past m c) ns))
  resolve-numbered m (all_of ∷ ns) = resolve-numbered m ns
  resolve-numbered m (any_of ∷ ns) = resolve-numbered m ns

  test-resolved : (m n : ℕ) (p : Predicate) (a b : Term C) → Fits p a b → is_test_by p (operand_of place m a) (operand_of place n b) ≡ true
  test-resolved m n (by o) a b h = refl
  test-resolved m n is-null (G.column c) (G.column d) h = eq-eqb (place c) (place d) (ap place h)
  test-resolved m n is-null (G.column c) (given v) h = absurd h
  test-resolved m n is-null (given v) b h = absurd h
  test-resolved m n is-not-null (G.column c) (G.column d) h = eq-eqb (place c) (place d) (ap place h)
  test-resolved m n is-not-null (G.column c) (given v) h = absurd h
  test-resolved m n is-not-null (given v) b h = absurd h

  -- its null tests are of columns
  pub resolve-tests : (m : ℕ) (ns : List (Node (Term C))) → All IsTest (leaves ns) → are_tests (resolve_nodes place m ns) ≡ true
  resolve-tests m [] h = refl
  resolve-tests m (leaf c ∷ ns) h =
      and_both (is_test (comparison_of place m c)) _ (test-resolved m (m + mark_in_term c.left) c.op c.left c.right (All-head h))
      (resolve-tests (marks_past m c) ns (All-tail h))
  resolve-tests m (all_of ∷ ns) h = resolve-tests m ns h
  resolve-tests m (any_of ∷ ns) h = resolve-tests m ns h

-- columns, some of them strange; the others have their places among the first `width`
module _ {C : Type 0} (place : C → ℕ) (width : ℕ) (strange : C → Bool) (inside : (c : C) → strange c ≡ false → place c < width) where
  below_next : (m : ℕ) (t : Term C) (ts : List (Term C)) (os : List Operand) → any strange (term_columns (t ∷ ts)) ≡ false
      → (any strange (term_columns ts) ≡ false → all (is_below width) os ≡ true) → all (is_below width) (operand_of place m t ∷ os) ≡ true
  below_next m (G.column n) ts os h k =
      and_both (ltb (place n) width) _ (lt-ltb (place n) width (inside n (or_left (strange n) (any strange (term_columns ts)) h)))
      (k (or_right (strange n) (any strange (term_columns ts)) h))
  below_next m (given v) ts os h k = k h

  -- its columns are among them, if none is strange
  pub resolve-below : (m : ℕ) (ns : List (Node (Term C))) → any strange (term_columns (sides (leaves ns))) ≡ false
      → columns_below width (resolve_nodes place m ns) ≡ true
  resolve-below m [] h = refl
  resolve-below m (leaf c ∷ ns) h =
      let os : List Operand = sides (leaves (resolve_nodes place (marks_past m c) ns)) in
      let n : ℕ = m + mark_in_term c.left in
      below_next m c.left (c.right ∷ sides (leaves ns)) (operand_of place n c.right ∷ os) h
      (λ k. below_next n c.right (sides (leaves ns)) os k (resolve-below (marks_past m c) ns))
  resolve-below m (all_of ∷ ns) h = resolve-below m ns h
  resolve-below m (any_of ∷ ns) h = resolve-below m ns h

  -- the nodes of a WHERE of which no column is strange pass the four tests
  pub where-passes : (m : ℕ) (w : Optional (Test C)) → any strange (term_columns (operands_in (mapped_in comparison w))) ≡ false
      → (is_postfix (nodes_in (resolved_where place m (mapped_in comparison w))) ≡ true)
      × (columns_below width (nodes_in (resolved_where place m (mapped_in comparison w))) ≡ true)
      × (numbered_from m (nodes_in (resolved_where place m (mapped_in comparison w))) ≡ true)
      × (are_tests (nodes_in (resolved_where place m (mapped_in comparison w))) ≡ true)
  where-passes m v h =
      let w : Where (Term C) = mapped_in comparison v in (
        postfix-where (resolved_where place m w),
        ap (columns_below width) (resolve-where place m w)
            ∙ resolve-below m (nodes_in w) (ap (λ os. any strange (term_columns os)) (sides-in w) ∙ h),
        ap (numbered_from m) (resolve-where place m w) ∙ resolve-numbered place m (nodes_in w),
        ap are_tests (resolve-where place m w) ∙ resolve-tests place m (nodes_in w) (nodes-tests v),
      )

-- the constants of terms that are outside 32 bits
pub outside-constants : {C : Type 0} (ts : List (Term C)) → any outside32 (term_givens ts) ≡ any (λ (z : ℤ). not (is_within32 z)) (term_constants ts)
outside-constants [] = refl
outside-constants (G.column n ∷ ts) = outside-constants ts
outside-constants (given (G.constant z) ∷ ts) = ap (λ b. not (is_within32 z) || b) (outside-constants ts)
outside-constants (given mark ∷ ts) = outside-constants ts

-- ---- names of a list of different names

pub same-name : (n : Name) → same_name n n ≡ true
same-name n = T→true (same_name n n) (eq_list-refl eqb eqb_refl n)

pub same-swap : (m n : Name) → same_name m n ≡ false → same_name n m ≡ false
same-swap m n h = contra (same_name n m) (same_name m n) (λ e. ap (same_name m) (same-is n m e) ∙ same-name m) h

-- the name at a place inside the list is there
pub has-at : (ns : List Name) (i : ℕ) (d : Name) → i < length ns → has ns (get_or ns i d) ≡ true
has-at [] i d h = absurd (not-suc-le-zero h)
has-at (n ∷ ns) zero d h = ap (λ b. b || has ns n) (same-name n)
has-at (n ∷ ns) (suc i) d h =
    ap (λ b. same_name (get_or ns i d) n || b) (has-at ns i d (le_of_suc-le-suc h)) ∙ or-true (same_name (get_or ns i d) n)

-- and where the names are different, that is its place
pub position_at : (ns : List Name) (i : ℕ) (d : Name) → repeats same_name ns ≡ false → i < length ns → position ns (get_or ns i d) ≡ i
position_at [] i d r h = absurd (not-suc-le-zero h)
position_at (n ∷ ns) zero d r h = ap (λ b. cond b 0 (suc (position ns n))) (same-name n)
position_at (n ∷ ns) (suc i) d r h =
    let k : i < length ns = le_of_suc-le-suc h in
    let others : All (λ m. same_name n m ≡ false) ns = any_false (same_name n) ns (or_left (any (same_name n) ns) (repeats same_name ns) r) in
    ap (λ b. cond b 0 (suc (position ns (get_or ns i d)))) (same-swap n (get_or ns i d) (All-at i d k others))
    ∙ ap suc (position_at ns i d (or_right (any (same_name n) ns) (repeats same_name ns) r) k)

-- ---- back: nodes that pass the tests come from names

same-comparison : {O : Type 0} (a b : O) (c : Comparison O) → a ≡ c.left → b ≡ c.right
    → ◌≡◌ {A = Comparison O} (record { left = a; op = c.op; right = b }) c
same-comparison a b c e f = λ i. record { left = e i; op = c.op; right = f i }

-- columns, some of them strange: the others have their places among the first `width`, and `at` gives the one at each of these
pub record Columns {C : Type 0} (place : C → ℕ) (width : ℕ) (strange : C → Bool) (at : ℕ → C) : Type 0 where
  pub inside : (c : C) → strange c ≡ false → place c < width
  pub known : (i : ℕ) → i < width → strange (at i) ≡ false
  pub there : (i : ℕ) → i < width → place (at i) ≡ i

-- a WHERE, as it is written, of which the nodes ns and the marks bs of its outer comparisons come, and what is in it
pub record Source {C : Type 0} (place : C → ℕ) (strange : C → Bool) (m : ℕ) (ns : List (Node Operand)) (bs : List Bool) : Type 0 where
  pub source : Optional (Test C)
  pub resolves : nodes_in (resolved_where place m (mapped_in comparison source)) ≡ ns
  pub known : any strange (term_columns (operands_in (mapped_in comparison source))) ≡ false
  pub constants : term_constants (operands_in (mapped_in comparison source)) ≡ operand_constants (sides (leaves ns))
  pub marks : mark_count (term_givens (operands_in (mapped_in comparison source))) ≡ parameter_count (sides (leaves ns))
  pub size : length (comparisons_in (mapped_in comparison source)) ≡ length (leaves ns)
  pub shallow : length (leaves ns) ≤ 8 → depth_in (mapped_in comparison source) ≤ 8
  pub outer : outer_marks_in source ≡ bs

module _ {C : Type 0} (place : C → ℕ) (width : ℕ) (strange : C → Bool) (at : ℕ → C) (K : Columns place width strange at) where
  -- a term of which the operand comes
  abbrev pub term_at : Operand → Term C
  term_at (column i) = G.column (at i)
  term_at (value (constant z)) = given (G.constant z)
  term_at (value (parameter k)) = given mark

  abbrev pub unresolved : List (Node Operand) → List (Node (Term C))
  unresolved [] = []
  unresolved (leaf c ∷ ns) = leaf (renamed term_at c) ∷ unresolved ns
  unresolved (all_of ∷ ns) = all_of ∷ unresolved ns
  unresolved (any_of ∷ ns) = any_of ∷ unresolved ns

  mark-at : (o : Operand) → mark_in_term (term_at o) ≡ mark_in_operand o
  mark-at (column i) = refl
  mark-at (value (constant z)) = refl
  mark-at (value (parameter k)) = refl

  term-known : (o : Operand) (ts : List (Term C)) → is_below width o ≡ true → any strange (term_columns ts) ≡ false → any strange (term_columns (term_at o ∷ ts)) ≡ false
  term-known (column i) ts h k = ap (λ b. b || any strange (term_columns ts)) (K.known i (ltb-true i width h)) ∙ k
  term-known (value (constant z)) ts h k = k
  term-known (value (parameter j)) ts h k = k

  -- none of its columns is strange
  pub unresolved-known : (ns : List (Node Operand)) → columns_below width ns ≡ true → any strange (term_columns (sides (leaves (unresolved ns)))) ≡ false
  unresolved-known [] h = refl
  unresolved-known (leaf c ∷ ns) h =
      let os : List Operand = sides (leaves ns) in
      let ts : List (Term C) = sides (leaves (unresolved ns)) in
      let r : all (is_below width) (c.right ∷ os) ≡ true = and_right (is_below width c.left) _ h in
      term-known c.left (term_at c.right ∷ ts) (and_left (is_below width c.left) _ h)
      (term-known c.right ts (and_left (is_below width c.right) _ r) (unresolved-known ns (and_right (is_below width c.right) _ r)))
  unresolved-known (all_of ∷ ns) h = unresolved-known ns h
  unresolved-known (any_of ∷ ns) h = unresolved-known ns h

  operand-back : (m : ℕ) (o : Operand) → is_below width o ≡ true → is_numbered m o ≡ true → operand_of place m (term_at o) ≡ o
  operand-back m (column i) h k = ap column (K.there i (ltb-true i width h))
  operand-back m (value (constant z)) h k = refl
  operand-back m (value (parameter j)) h k = ap (λ i. value (parameter i)) (sym (eqb-true j (suc m) k))

  -- and they resolve to the nodes that were given
  pub resolve-unresolved : (m : ℕ) (ns : List (Node Operand)) → columns_below width ns ≡ true → numbered_from m ns ≡ true → resolve_nodes place m (unresolved ns) ≡ ns
  resolve-unresolved m [] h k = refl
  resolve-unresolved m (leaf c ∷ ns) h k =
      let l : Operand = c.left in
      let r : Operand = c.right in
      let n : ℕ = m + mark_in_operand l in
      let h₁ : all (is_below width) (r ∷ sides (leaves ns)) ≡ true = and_right (is_below width l) _ h in
      let k₁ : numbered_on n (r ∷ sides (leaves ns)) ≡ true = and_right (is_numbered m l) _ k in
      let e : operand_of place m (term_at l) ≡ l = operand-back m l (and_left (is_below width l) _ h) (and_left (is_numbered m l) _ k) in
      let f : operand_of place (m + mark_in_term (term_at l)) (term_at r) ≡ r =
      ap (λ i. operand_of place (m + i) (term_at r)) (mark-at l) ∙ operand-back n r (and_left (is_below width r) _ h₁) (and_left (is_numbered n r) _ k₁) in
      ap₂ (λ d rest. leaf d ∷ rest) (same-comparison (operand_of place m (term_at l)) (operand_of place (m + mark_in_term (term_at l)) (term_at r)) c e f)
      (ap₂ (λ i j. resolve_nodes place (m + i + j) (unresolved ns)) (mark-at l) (mark-at r)
      ∙ resolve-unresolved (n + mark_in_operand r) ns (and_right (is_below width r) _ h₁) (and_right (is_numbered n r) _ k₁))
  resolve-unresolved m (all_of ∷ ns) h k = ap (λ r. all_of ∷ r) (resolve-unresolved m ns h k)
  resolve-unresolved m (any_of ∷ ns) h k = ap (λ r. any_of ∷ r) (resolve-unresolved m ns h k)

  test-unresolved : (p : Predicate) (a b : Operand) → is_test_by p a b ≡ true → Fits p (term_at a) (term_at b)
  test-unresolved (by o) a b h = tt
  test-unresolved is-null (column i) (column j) h = ap at (eqb-true i j h)
  test-unresolved is-null (column i) (value v) h = absurd (false≢true h)
  test-unresolved is-null (value v) b h = absurd (false≢true h)
  test-unresolved is-not-null (column i) (column j) h = ap at (eqb-true i j h)
  test-unresolved is-not-null (column i) (value v) h = absurd (false≢true h)
  test-unresolved is-not-null (value v) b h = absurd (false≢true h)

  -- its null tests are of columns
  unresolved-tests : (ns : List (Node Operand)) → are_tests ns ≡ true → All IsTest (leaves (unresolved ns))
  unresolved-tests [] h = nil
  unresolved-tests (leaf c ∷ ns) h =
      cons (test-unresolved c.op c.left c.right (and_left (is_test c) _ h)) (unresolved-tests ns (and_right (is_test c) _ h))
  unresolved-tests (all_of ∷ ns) h = unresolved-tests ns h
  unresolved-tests (any_of ∷ ns) h = unresolved-tests ns h

  -- nodes that pass the four tests, with marks that they allow, come from a WHERE of which no column is strange
  pub where-source : (m : ℕ) (ns : List (Node Operand)) (bs : List Bool)
      → is_postfix ns ≡ true → columns_below width ns ≡ true → numbered_from m ns ≡ true → are_tests ns ≡ true
      → length bs ≡ length (leaves ns) → within (reverse bs) (chained true 0 (reverse ns)) ≡ true → Source place strange m ns bs
  where-source m ns bs p h k t n o =
      let ts : List (Node (Term C)) = unresolved ns in
      let back : resolve_nodes place m ts ≡ ns = resolve-unresolved m ns h k in
      let q : is_postfix ts ≡ true = sym (resolve-postfix place m ts) ∙ ap is_postfix back ∙ p in
      let many : length (leaves ts) ≡ length (leaves ns) = sym (resolve-leaves place m ts) ∙ ap (λ us. length (leaves us)) back in
      let may : chained true 0 (reverse ts) ≡ chained true 0 (reverse ns) = sym (resolve-chained place m ts) ∙ ap (λ us. chained true 0 (reverse us)) back in
      let b : (w : Where (Term C)) × (nodes_in w ≡ ts) × (outer_marks_in w ≡ bs) × (length (leaves ts) ≤ 8 → depth_in w ≤ 8) =
      where-marked ts q bs (n ∙ sym many) (ap (within (reverse bs)) may ∙ o) in
      let w : Where (Term C) = b.0 in
      let e : mapped_in comparison (mapped_in written w) ≡ w =
      nodes-back w (subst (λ us. All IsTest (leaves us)) (sym b.1) (unresolved-tests ns t)) in
      let inside : sides (leaves ts) ≡ operands_in w = ap (λ us. sides (leaves us)) (sym b.1) ∙ sides-in w in
      let operands : operands_in (mapped_in comparison (mapped_in written w)) ≡ sides (leaves ts) = ap operands_in e ∙ sym inside in
      record {
        source = mapped_in written w;
        resolves = ap (λ x. nodes_in (resolved_where place m x)) e ∙ resolve-where place m w ∙ ap (resolve_nodes place m) b.1 ∙ back;
        known = ap (λ os. any strange (term_columns os)) operands ∙ unresolved-known ns h;
        constants = ap term_constants operands ∙ sym (resolve-constants place m ts) ∙ ap (λ us. operand_constants (sides (leaves us))) back;
        marks = ap (λ os. mark_count (term_givens os)) operands ∙ sym (resolve-marks place m ts) ∙ ap (λ us. parameter_count (sides (leaves us))) back;
        size = ap (λ x. length (comparisons_in x)) e ∙ sym (leaves_in w) ∙ ap (λ us. length (leaves us)) b.1 ∙ many;
        shallow = λ s. subst (λ x. depth_in x ≤ 8) (sym e) (b.3 (subst (λ i. i ≤ 8) (sym many) s));
        outer = marks-mapped written w ∙ b.2;
      }

-- ---- the columns of a table, and of two

-- a name that is not missing has its place
pub name-inside : (cs : List Name) (n : Name) → not (has cs n) ≡ false → position cs n < length cs
name-inside cs n h = has-position cs n (not-false (has cs n) h)

pub one_table : (cs : List Name) → repeats same_name cs ≡ false → Columns (position cs) (length cs) (λ (n : Name). not (has cs n)) (λ i. get_or cs i [])
one_table cs r = record {
  inside = name-inside cs;
  known = λ i h. ap not (has-at cs i [] h);
  there = λ i h. position_at cs i [] r h;
}

module _ (t : Name) (cs : List Name) (u : Name) (ds : List Name) where
  -- the dotted column at a place of a pair of rows
  abbrev pub dotted_at : ℕ → Dotted
  dotted_at i = cond (ltb i (length cs)) (t, get_or cs i []) (u, get_or ds (i - length cs) [])

  pub dotted-inside : (c : Dotted) → not (is_of t cs c || is_of u ds c) ≡ false → pair_place t cs u ds c < length cs + length ds
  dotted-inside c h = pair_inside t cs u ds c (not-false (is_of t cs c || is_of u ds c) h)

  pub two-tables : repeats same_name cs ≡ false → repeats same_name ds ≡ false → same_name t u ≡ false
      → Columns (pair_place t cs u ds) (length cs + length ds) (λ (c : Dotted). not (is_of t cs c || is_of u ds c)) dotted_at
  two-tables r s d = record {
    inside = dotted-inside;
    known = λ i h. known_at (ltb i (length cs)) i refl h;
    there = λ i h. there-at (ltb i (length cs)) i refl h;
  }
    where
      first_of : (i : ℕ) → i < length cs → is_of t cs (t, get_or cs i []) ≡ true
      first_of i h = and_both (same_name t t) (has cs (get_or cs i [])) (same-name t) (has-at cs i [] h)

      not_first : (n : Name) → is_of t cs (u, n) ≡ false
      not_first n = ap (λ b. b && has cs n) (same-swap t u d)

      second-of : (j : ℕ) → j < length ds → is_of u ds (u, get_or ds j []) ≡ true
      second-of j h = and_both (same_name u u) (has ds (get_or ds j [])) (same-name u) (has-at ds j [] h)

      behind : (i : ℕ) → ltb i (length cs) ≡ false → i < length cs + length ds → i - length cs < length ds
      behind i e h = let k : length cs ≤ i = ltb-false i (length cs) e in omega arith

      known_at : (b : Bool) (i : ℕ) → ltb i (length cs) ≡ b → i < length cs + length ds
          → not (is_of t cs (cond b (t, get_or cs i []) (u, get_or ds (i - length cs) [])) || is_of u ds (cond b (t, get_or cs i []) (u, get_or ds (i - length cs) []))) ≡ false
      known_at true i e h = ap (λ b. not (b || is_of u ds (t, get_or cs i []))) (first_of i (ltb-true i (length cs) e))
      known_at false i e h =
          let j : ℕ = i - length cs in
          ap (λ b. not (b || is_of u ds (u, get_or ds j []))) (not_first (get_or ds j []))
          ∙ ap not (second-of j (behind i e h))

      there-at : (b : Bool) (i : ℕ) → ltb i (length cs) ≡ b → i < length cs + length ds → pair_place t cs u ds (cond b (t, get_or cs i []) (u, get_or ds (i - length cs) [])) ≡ i
      there-at true i e h =
          let c : Dotted = (t, get_or cs i []) in
          ap (λ b. cond b (position cs c.1) (cond (is_of u ds c) (length cs + position ds c.1) (length cs + length ds))) (first_of i (ltb-true i (length cs) e))
          ∙ position_at cs i [] r (ltb-true i (length cs) e)
      there-at false i e h =
          let j : ℕ = i - length cs in
          let c : Dotted = (u, get_or ds j []) in
          let k : length cs ≤ i = ltb-false i (length cs) e in
          let z : length cs + (i - length cs) ≡ i = omega arith in
          ap (λ b. cond b (position cs c.1) (cond (is_of u ds c) (length cs + position ds c.1) (length cs + length ds))) (not_first (get_or ds j []))
          ∙ ap (λ b. cond b (length cs + position ds c.1) (length cs + length ds)) (second-of j (behind i e h))
          ∙ ap (λ n. length cs + n) (position_at ds j [] s (behind i e h))
          ∙ z
