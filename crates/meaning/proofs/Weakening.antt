-- The patterns weaken the condition under which an update matters: if it matters through some row, a pattern agrees with the query's values. So where
-- no pattern agrees the answer stays. Assumes nothing.
use mathlib.Core.Path.{◌≡◌, refl, sym, ap, ap₂, fun_ext, subst, ◌∙◌}
use mathlib.Core.Bool.{Bool, true, false, not, ◌&&◌, ◌||◌, cond, true≢false, false≢true}
use mathlib.Core.Option.{Option, none, some}
use mathlib.Core.List.{List, [], ◌∷◌, ◌++◌, map, append-nil, append_assoc}
use Prim.Native.Nat.{ℕ, zero, suc, ◌+◌, ◌≤◌, ◌<◌, suc-le-suc}
use native.Mathlib.Omega.{arith}
use lib.IntN.{ℤ, pos}
use lib.Dec.{eqb, ltb}
use lib.ListN.{length, set, replicate, length-set, length-append, length-map}
use lib.Seq.{get_or-set_same, get_or-set_other}
use borrow.Author.Tests.{eqb-true, eqb-false}
use Rattle.lists.specs.Lists.{any, All, nil, cons, cons_if, keep, pairs, flat}
use Rattle.lists.specs.Tests.{dec_n, dec_z, eq_z, eq_z-refl, eq_list, eq_list-refl}
use Rattle.lists.proofs.Bools.{and-or, and_left, and_right, and_both, or_left, or_right, not-false, contra, clash, T→true, eq_z-true, yes_of}
use Rattle.lists.proofs.Lists.{All-head, All-tail, All-map, All-every, All-both, All-left, All-right, All-source, any_append, any_false, any-flat-map, any-implies, any-keep, any-map, any-pairs, keep_append, keep-no, map-append, map_same}
use Rattle.lists.proofs.Changed.{eq_list-true, any-distinct}
use Rattle.meaning.specs.Operator.{not₃, and₃, or₃, is_true, compared}
use Rattle.meaning.specs.Condition.{Comparison, Level, Condition, compare, negate, group, alone, both, single, either, Where, always, under, comparisons, operands_in, sides, holds, eval, eval_where, clauses_of, replaced_in}
use Rattle.meaning.specs.Statement as S
use Rattle.meaning.specs.Statement.{Value, parameter, Operand, value, Second, Query, Change, insert, delete, update, Update}
use Rattle.meaning.specs.Meaning.{Row, cell, value_of, operand_value, meets_where, takes, selected, answer, new_row, assigned, changed}
use Rattle.meaning.specs.Pattern.{differs, Side, neither, first, second, side_of, beside, matters_in, is_side, same_table, matters, second_start, start_of, operand_columns, columns_used, moved, touches, Joint, column, of_value, of_update, of_query, set_column, placed_from, replacing, Clause, query_clauses, update_clauses, both_clauses, joint_clauses, joint_count, most_clauses, contradictory, Entry-discrete, anything, same_entry, Pattern, pattern, clause_patterns, chosen, patterns, agrees, matches, removal, judged, matches_two}
use Rattle.meaning.specs.Demand.{IsColumn, ChangesWithin, StandsBeside, PatternsWeaken, PushedWeakens, rows_beside, AnswerStays}
use Rattle.meaning.proofs.Clauses.{meets, clauses_of-mean, eval_where-replaced}
use Rattle.meaning.proofs.Classes.{joint_value, not-contradictory, pattern-agrees}

-- ---- patterns and clauses

same-pattern : (p r : Pattern) → eq_list same_entry p r ≡ true → p ≡ r
same-pattern = eq_list-true same_entry (λ e f h. yes_of (Entry-discrete dec_z dec_n e f) h)

-- a pattern of the list agrees exactly where the pattern of some clause agrees that rule 6 does not remove
pub any-clause : (us qs : List ℤ) (n : ℕ) (cs : List Clause)
    → any (agrees us qs) (clause_patterns n cs) ≡ any (λ (c : Clause). not (contradictory c) && agrees us qs (pattern n c)) cs
any-clause us qs n cs =
    any-distinct (eq_list same_entry) same-pattern (agrees us qs) (map (pattern n) (keep (λ (c : Clause). not (contradictory c)) cs))
    ∙ any-map (pattern n) (agrees us qs) (keep (λ (c : Clause). not (contradictory c)) cs)
    ∙ any-keep (λ (c : Clause). not (contradictory c)) (λ (c : Clause). agrees us qs (pattern n c)) cs

agrees-anything : (us qs : List ℤ) → agrees us qs (replicate (length qs) anything) ≡ true
agrees-anything us [] = refl
agrees-anything us (z ∷ zs) = agrees-anything us zs

-- where some clause is met by a row, some pattern agrees
module _ (r : Row) (us qs : List ℤ) where
  clause-agrees : (c : Clause) → meets (joint_value r us qs) c ≡ true → (not (contradictory c) && agrees us qs (pattern (length qs) c)) ≡ true
  clause-agrees c h = and_both (not (contradictory c)) (agrees us qs (pattern (length qs) c)) (ap not (not-contradictory r us qs c h)) (pattern-agrees r us qs c h)

  chosen-agrees : (many : Bool) (cs : List Clause) → any (meets (joint_value r us qs)) cs ≡ true → any (agrees us qs) (chosen true many (length qs) cs) ≡ true
  chosen-agrees true cs h = rw (agrees-anything us qs)
  chosen-agrees false cs h =
      any-clause us qs (length qs) cs
      ∙ any-implies (meets (joint_value r us qs)) (λ (c : Clause). not (contradictory c) && agrees us qs (pattern (length qs) c)) clause-agrees cs h

-- ---- the joint formula (rule 3)

module _ (r : Row) (us qs : List ℤ) where
  of_value-is : (o : Value) → joint_value r us qs (of_value o) ≡ value_of us o
  of_value-is (S.constant z) = refl
  of_value-is (parameter k) = refl

  -- an operand of the query, where f gives the columns of the row s
  of_query-is : (f : ℕ → Joint) (s : Row) → ((i : ℕ) → joint_value r us qs (f i) ≡ cell s i)
      → (o : Operand) → joint_value r us qs (of_query f o) ≡ operand_value s qs o
  of_query-is f s h (S.column i) = h i
  of_query-is f s h (value (S.constant z)) = refl
  of_query-is f s h (value (parameter k)) = refl

  set_is : (i : ℕ) (ss : List (ℕ × Value)) (s : Row) (x : Joint) → joint_value r us qs x ≡ cell s i → All (λ (a : ℕ × Value). a.0 < length s) ss
      → joint_value r us qs (set_column ss i x) ≡ cell (assigned ss us s) i
  set_is i [] s x e h = e
  set_is i (a ∷ ss) s x e h =
      set_is i ss (set s a.0 (value_of us a.1)) (cond (eqb i a.0) (of_value a.1) x) (step (eqb i a.0) refl)
      (All-map (λ b k. subst (λ (n : ℕ). b.0 < n) (sym (length-set s a.0 (value_of us a.1))) k) (All-tail h))
    where
      step : (b : Bool) → eqb i a.0 ≡ b → joint_value r us qs (cond b (of_value a.1) x) ≡ cell (set s a.0 (value_of us a.1)) i
      step true k =
          of_value-is a.1
          ∙ sym (ap (cell (set s a.0 (value_of us a.1))) (eqb-true i a.0 k)
          ∙ get_or-set_same s a.0 (value_of us a.1) (pos 0) (All-head h))
      step false k = e ∙ sym (get_or-set_other s a.0 i (value_of us a.1) (pos 0) (eqb-false i a.0 k))

  -- the clauses of a condition with replaced operands
  replaced-mean : (f : Operand → Joint) (w : Operand → ℤ) → ((o : Operand) → joint_value r us qs (f o) ≡ w o)
      → (c : Where Operand) → any (meets (joint_value r us qs)) (clauses_of (replaced_in f c)) ≡ eval_where w c
  replaced-mean f w h c =
      clauses_of-mean (joint_value r us qs) (replaced_in f c) ∙ eval_where-replaced f (joint_value r us qs) c ∙ ap (λ (x : Operand → ℤ). eval_where x c) (fun_ext h)

  query-mean : (q : Query) (f : ℕ → Joint) (s : Row) → ((i : ℕ) → joint_value r us qs (f i) ≡ cell s i)
      → any (meets (joint_value r us qs)) (query_clauses f q) ≡ takes q qs s
  query-mean q f s h = replaced-mean (of_query f) (operand_value s qs) (of_query-is f s h) q.condition

-- ---- conditions that two valuations read alike

module _ {O : Type 0} (v w : O → ℤ) where
  sides-same : (cs : List (Comparison O)) → All (λ (o : O). v o ≡ w o) (sides cs) → All (λ (c : Comparison O). (v c.left ≡ w c.left) × (v c.right ≡ w c.right)) cs
  sides-same [] h = nil
  sides-same (c ∷ cs) h = cons (All-head h, All-head (All-tail h)) (sides-same cs (All-tail (All-tail h)))

  eval-same : {l : Level} (c : Condition O l) → All (λ (d : Comparison O). (v d.left ≡ w d.left) × (v d.right ≡ w d.right)) (comparisons c) → eval v c ≡ eval w c
  eval-same (compare c) h = ap₂ (compared c.op) (All-head h).0 (All-head h).1
  eval-same (negate c) h = ap not₃ (eval-same c h)
  eval-same (group c) h = eval-same c h
  eval-same (alone c) h = eval-same c h
  eval-same (both c d) h = ap₂ and₃ (eval-same c (All-left (comparisons c) (comparisons d) h)) (eval-same d (All-right (comparisons c) h))
  eval-same (single c) h = eval-same c h
  eval-same (either c d) h = ap₂ or₃ (eval-same c (All-left (comparisons c) (comparisons d) h)) (eval-same d (All-right (comparisons c) h))

  -- a WHERE says the same of two valuations that give its operands the same values
  eval_where-same : (c : Where O) → All (λ (o : O). v o ≡ w o) (operands_in c) → eval_where v c ≡ eval_where w c
  eval_where-same always h = refl
  eval_where-same (under c) h = ap is_true (eval-same c (sides-same (comparisons c) h))

-- a row that differs is taken before or after
differs-taken : (a b e : Bool) → ((a && not b) || ((not a && b) || (a && (b && not e)))) ≡ true → (a || b) ≡ true
differs-taken true b e h = refl
differs-taken false true e h = refl
differs-taken false false e h = h

-- the update's operands, where its row r stands k columns on in x
operands-at : (x r : Row) (us qs : List ℤ) (k : ℕ) → ((i : ℕ) → i < length r → cell x (k + i) ≡ cell r i)
    → (os : List Operand) → All (IsColumn r) os → All (λ (o : Operand). joint_value x us qs (of_update k o) ≡ operand_value r us o) os
operands-at x r us qs k f [] h = nil
operands-at x r us qs k f (S.column i ∷ os) h = cons (f i (All-head h)) (operands-at x r us qs k f os (All-tail h))
operands-at x r us qs k f (value v ∷ os) h = cons (of_value-is x us qs v) (operands-at x r us qs k f os (All-tail h))

-- a question's formula with f for its columns, joined to the update's
both-mean : (q : Query) (qs us : List ℤ) (k : ℕ) (x r s : Row) (g : Where Operand) (f : ℕ → Joint) → ((i : ℕ) → i < length r → cell x (k + i) ≡ cell r i)
    → All (IsColumn r) (operands_in g) → ((i : ℕ) → joint_value x us qs (f i) ≡ cell s i)
    → any (meets (joint_value x us qs)) (both_clauses k g f q) ≡ (meets_where g us r && takes q qs s)
both-mean q qs us k x r s g f at w h =
    any-pairs (holds (joint_value x us qs)) (update_clauses k g) (query_clauses f q)
    ∙ ap₂ ◌&&◌
    (clauses_of-mean (joint_value x us qs) (replaced_in (of_update k) g)
    ∙ eval_where-replaced (of_update k) (joint_value x us qs) g
    ∙ eval_where-same (λ (o : Operand). joint_value x us qs (of_update k o)) (operand_value r us) g (operands-at x r us qs k at (operands_in g) w))
    (query-mean x us qs q f s h)

-- ---- a row beside another one

set-left : (r o : Row) (i : ℕ) (z : ℤ) → i < length r → set (r ++ o) i z ≡ set r i z ++ o
set-left [] o i z h = absurd (omega arith)
set-left (x ∷ r) o zero z h = refl
set-left (x ∷ r) o (suc i) z h = ap (λ (l : Row). x ∷ l) (set-left r o i z (omega arith))

set-right : (o r : Row) (i : ℕ) (z : ℤ) (j : ℕ) → j ≡ length o + i → set (o ++ r) j z ≡ o ++ set r i z
set-right [] r i z j e = ap (λ (n : ℕ). set r n z) (let h : j ≡ i = omega (arith, e) in h)
set-right (x ∷ o) r i z zero e = absurd (omega (arith, e))
set-right (x ∷ o) r i z (suc j) e = ap (λ (l : Row). x ∷ l) (set-right o r i z j (omega (arith, e)))

pub cell-left : (r o : Row) (i : ℕ) → i < length r → cell (r ++ o) i ≡ cell r i
cell-left [] o i h = absurd (omega arith)
cell-left (x ∷ r) o zero h = refl
cell-left (x ∷ r) o (suc i) h = cell-left r o i (omega arith)

cell-right : (o r : Row) (i j : ℕ) → j ≡ length o + i → cell (o ++ r) j ≡ cell r i
cell-right [] r i j e = ap (cell r) (let h : j ≡ i = omega (arith, e) in h)
cell-right (x ∷ o) r i zero e = absurd (omega (arith, e))
cell-right (x ∷ o) r i (suc j) e = cell-right o r i j (omega (arith, e))

-- what the proofs below use of how the two rows stand
pub record Placed (k : ℕ) (put : Row → Row) (n : ℕ) : Type 0 where
  pub cells_at : (r : Row) → length r ≡ n → (i : ℕ) → i < n → cell (put r) (k + i) ≡ cell r i
  pub set_at : (r : Row) → length r ≡ n → (i : ℕ) (z : ℤ) → i < n → set (put r) (k + i) z ≡ put (set r i z)
  pub wide : (r : Row) → length r ≡ n → k + n ≤ length (put r)

left-placed : (o : Row) (n : ℕ) → Placed 0 (λ r. r ++ o) n
left-placed o n = record {
  cells_at = λ r e i h. subst (λ (j : ℕ). cell (r ++ o) j ≡ cell r i) (let z : i ≡ 0 + i = omega arith in z) (cell-left r o i (omega (arith, e, h)));
  set_at = λ r e i z h. subst (λ (j : ℕ). set (r ++ o) j z ≡ set r i z ++ o) (let z : i ≡ 0 + i = omega arith in z) (set-left r o i z (omega (arith, e, h)));
  wide = λ r e. omega (arith, e, length-append r o);
}

right-placed : (o : Row) (k n : ℕ) → length o ≡ k → Placed k (λ r. o ++ r) n
right-placed o k n e = record {
  cells_at = λ r d i h. cell-right o r i (k + i) (omega (arith, e));
  set_at = λ r d i z h. set-right o r i z (k + i) (omega (arith, e));
  wide = λ r d. omega (arith, d, e, length-append o r);
}

placed : (q : Query) (s : Side) (o : Row) (n : ℕ) → StandsBeside q s o → Placed (start_of q s) (λ r. beside s r o) n
placed q neither o n h = left-placed o n
placed q first o n h = left-placed o n
placed q second o n h = right-placed o (start_of q second) n h

module _ (k : ℕ) (put : Row → Row) (n : ℕ) (P : Placed k put n) (us : List ℤ) where
  -- the settings of the updated row are those of the pair, k columns on
  assigned-placed : (ss : List (ℕ × Value)) (r : Row) → length r ≡ n → All (λ (a : ℕ × Value). a.0 < n) ss → assigned (moved k ss) us (put r) ≡ put (assigned ss us r)
  assigned-placed [] r e h = refl
  assigned-placed (a ∷ ss) r e h =
      ap (assigned (moved k ss) us) (P.set_at r e a.0 (value_of us a.1) (All-head h))
      ∙ assigned-placed ss (set r a.0 (value_of us a.1)) (length-set r a.0 (value_of us a.1) ∙ e) (All-tail h)

  moved-within : (ss : List (ℕ × Value)) (r : Row) → length r ≡ n → All (λ (a : ℕ × Value). a.0 < n) ss → All (λ (a : ℕ × Value). a.0 < length (put r)) (moved k ss)
  moved-within [] r e h = nil
  moved-within (a ∷ ss) r e h = let w : k + n ≤ length (put r) = P.wide r e in
      let b : a.0 < n = All-head h in
      cons {x = (k + a.0, a.1)} (let z : k + a.0 < length (put r) = omega arith in z) (moved-within ss r e (All-tail h))

-- a row whose columns from k on are the inserted values is as the settings from k on leave it
replaced-inserted : (x : Row) (us qs : List ℤ) (i : ℕ) (os : List Value) (k : ℕ) (y : Joint) → joint_value x us qs y ≡ cell x i
    → ((j : ℕ) → j < length os → cell x (k + j) ≡ cell (new_row os us) j) → joint_value x us qs (set_column (placed_from k os) i y) ≡ cell x i
replaced-inserted x us qs i [] k y e f = e
replaced-inserted x us qs i (v ∷ os) k y e f =
    replaced-inserted x us qs i os (suc k) (cond (eqb i k) (of_value v) y) (go (eqb i k) refl)
    (λ j h. ap (cell x) (let z : suc k + j ≡ k + suc j = omega arith in z) ∙ f (suc j) (suc-le-suc h))
  where
    go : (b : Bool) → eqb i k ≡ b → joint_value x us qs (cond b (of_value v) y) ≡ cell x i
    go true h = of_value-is x us qs v ∙ sym (f 0 (omega arith)) ∙ ap (cell x) (let z : k + 0 ≡ i = omega (arith, eqb-true i k h) in z)
    go false h = e

-- if the update matters through a row beside another, some joint clause is met by a pair of rows: the two, or for an INSERT the new row and the other
joint-met : (q : Query) (qs : List ℤ) (s : Side) (c : Change) (us : List ℤ) (r o : Row) → ChangesWithin c r → StandsBeside q s o → matters_in q qs s c us r o ≡ true
    → (x : Row) × (any (meets (joint_value x us qs)) (joint_clauses (start_of q s) q c) ≡ true)
unfolding joint_clauses
joint-met q qs s (insert os) us r o w b h = (x, query-mean x us qs q (replacing (placed_from k os)) x is ∙ h)
  where
    k : ℕ
    k = start_of q s

    x : Row
    x = beside s (new_row os us) o

    wide : length (new_row os us) ≡ length os
    wide = length-map os (value_of us)

    is : (i : ℕ) → joint_value x us qs (replacing (placed_from k os) i) ≡ cell x i
    is i = replaced-inserted x us qs i os k (column i) refl (λ j h. (placed q s o (length os) b).cells_at (new_row os us) wide j h)
joint-met q qs s (delete g) us r o w b h =
    (beside s r o, both-mean q qs us (start_of q s) (beside s r o) r (beside s r o) g column ((placed q s o (length r) b).cells_at r refl) w (λ i. refl) ∙ h)
joint-met q qs s (update ss g) us r o w b h = (
  x,
  any_append (meets (joint_value x us qs)) (both_clauses k g column q) (both_clauses k g (replacing (moved k ss)) q)
      ∙ ap₂ ◌||◌ (both-mean q qs us k x r x g column (P.cells_at r refl) w.1 (λ i. refl))
      (both-mean q qs us k x r y g (replacing (moved k ss)) (P.cells_at r refl) w.1 is)
      ∙ and-or (meets_where g us r) (takes q qs x) (takes q qs y)
      ∙ and_both (meets_where g us r) (takes q qs x || takes q qs y) (and_left (meets_where g us r) (differs q qs x y) h)
      (differs-taken (takes q qs x) (takes q qs y) (eq_list eq_z (selected q x) (selected q y)) (and_right (meets_where g us r) (differs q qs x y) h)),
)
  where
    k : ℕ
    k = start_of q s

    x : Row
    x = beside s r o

    y : Row
    y = beside s (assigned ss us r) o

    P : Placed k (λ r. beside s r o) (length r)
    P = placed q s o (length r) b

    is : (i : ℕ) → joint_value x us qs (replacing (moved k ss) i) ≡ cell y i
    is i =
        set_is x us qs i (moved k ss) x (column i) refl (moved-within k (λ r. beside s r o) (length r) P us ss r refl w.0)
        ∙ ap (λ (z : Row). cell z i) (assigned-placed k (λ r. beside s r o) (length r) P us ss r refl w.0)

-- ---- rule 2

module _ (qs : List ℤ) (r s : Row) where
  operands_same : (os : List Operand) → All (λ (i : ℕ). cell s i ≡ cell r i) (operand_columns os) → All (λ (o : Operand). operand_value s qs o ≡ operand_value r qs o) os
  operands_same [] h = nil
  operands_same (S.column i ∷ os) h = cons (All-head h) (operands_same os (All-tail h))
  operands_same (value o ∷ os) h = cons refl (operands_same os h)

  takes_same : (q : Query) → All (λ (i : ℕ). cell s i ≡ cell r i) (columns_used q) → takes q qs s ≡ takes q qs r
  takes_same q h =
      eval_where-same (operand_value s qs) (operand_value r qs) q.condition
      (operands_same (operands_in q.condition) (All-right q.selected h))

  selected-same : (q : Query) → All (λ (i : ℕ). cell s i ≡ cell r i) (columns_used q) → selected q s ≡ selected q r
  selected-same q h = map_same (cell r) (All-left q.selected (operand_columns (operands_in q.condition)) h)

-- columns that are not set stay
unset-same : (us : List ℤ) (is : List ℕ) (ss : List (ℕ × Value)) (r : Row) → any (λ (s : ℕ × Value). any (eqb s.0) is) ss ≡ false
    → All (λ (i : ℕ). cell (assigned ss us r) i ≡ cell r i) is
unset-same us is [] r h = All-every (λ i. refl) is
unset-same us is (a ∷ ss) r h =
    All-map (λ i k. k.1 ∙ get_or-set_other r a.0 i (value_of us a.1) (pos 0) (λ p. eqb-false a.0 i k.0 (sym p)))
    (All-both (any_false (eqb a.0) is (or_left (any (eqb a.0) is) (any (λ (s : ℕ × Value). any (eqb s.0) is) ss) h))
    (unset-same us is ss (set r a.0 (value_of us a.1)) (or_right (any (eqb a.0) is) (any (λ (s : ℕ × Value). any (eqb s.0) is) ss) h)))

pub eq_list-same : (xs : Row) → eq_list eq_z xs xs ≡ true
eq_list-same xs = T→true (eq_list eq_z xs xs) (eq_list-refl eq_z eq_z-refl xs)

same_differs : (a e : Bool) → e ≡ true → ((a && not a) || ((not a && a) || (a && (a && not e)))) ≡ false
same_differs true e h = ap not h
same_differs false e h = refl

-- an update that matters sets a column that the query selects or tests
matters-touches : (q : Query) (qs : List ℤ) (s : Side) (c : Change) (us : List ℤ) (r o : Row) → ChangesWithin c r → StandsBeside q s o
    → matters_in q qs s c us r o ≡ true → touches (start_of q s) q c ≡ true
matters-touches q qs s (insert os) us r o w b h = refl
matters-touches q qs s (delete g) us r o w b h = refl
matters-touches q qs s (update ss g) us r o w b h = go (touches k q (update ss g)) refl
  where
    k : ℕ
    k = start_of q s

    x : Row
    x = beside s r o

    y : Row
    y = beside s (assigned ss us r) o

    none : touches k q (update ss g) ≡ false → differs q qs x y ≡ false
    none e =
        let is : assigned (moved k ss) us x ≡ y = assigned-placed k (λ r. beside s r o) (length r) (placed q s o (length r) b) us ss r refl w.0 in
        let u : All (λ (i : ℕ). cell y i ≡ cell x i) (columns_used q) =
        subst (λ (z : Row). All (λ (i : ℕ). cell z i ≡ cell x i) (columns_used q)) is (unset-same us (columns_used q) (moved k ss) x e) in
        rw (takes_same qs x y q u, selected-same qs x y q u) (same_differs (takes q qs x) (eq_list eq_z (selected q x) (selected q x)) (eq_list-same (selected q x)))

    go : (b : Bool) → touches k q (update ss g) ≡ b → b ≡ true
    go true e = refl
    go false e = clash (and_right (meets_where g us r) (differs q qs x y) h) (none e)

-- ---- the claims

-- if the update matters through some row beside another, some pattern agrees with the query's values
pub patterns_weaken : PatternsWeaken
unfolding matters matches patterns
patterns_weaken q qs u us r o n w b h =
    let s = side_of q u in
    let k = start_of q s in
    let is = and_left (is_side s) (matters_in q qs s u.change us r o) h in
    let through = and_right (is_side s) (matters_in q qs s u.change us r o) h in
    let can : (is_side s && touches k q u.change) ≡ true =
    and_both (is_side s) (touches k q u.change) is (matters-touches q qs s u.change us r o w b through) in
    let met = joint-met q qs s u.change us r o w b through in
    ap₂ (λ (b : Bool) (n : ℕ). any (agrees us qs) (chosen b (ltb most_clauses (joint_count q u.change)) n (joint_clauses k q u.change))) can (sym n)
    ∙ chosen-agrees met.0 us qs (ltb most_clauses (joint_count q u.change)) (joint_clauses k q u.change) met.1

-- the values of a row as constants are that row
pub row-again : (us : List ℤ) (r : Row) → new_row (map S.constant r) us ≡ r
row-again us [] = refl
row-again us (z ∷ r) = ap (λ (l : Row). z ∷ l) (row-again us r)

-- if the question takes a row that is pushed out, a pattern that is worked out for it agrees
pub pushed_weakens : PushedWeakens
unfolding matters
pushed_weakens q qs t us r o n is b h =
    let v : Update = removal t r in
    patterns_weaken q qs v us [] o n tt b
    (and_both (same_table q v) (matters_in q qs (side_of q v) v.change us [] o) is (ap (λ (x : Row). takes q qs (beside (side_of q v) x o)) (row-again us r) ∙ h))

-- ---- a change that shows nowhere: each row gives a list, and the lists stand one after another

blocks : (Row → List Row) → List Row → List Row
blocks f rows = flat (map f rows)

Quiet : Change → List ℤ → (Row → List Row) → List Row → Type 0
Quiet (insert os) us f rows = f (new_row os us) ≡ []
Quiet (delete g) us f rows = All (λ r. meets_where g us r ≡ true → f r ≡ []) rows
Quiet (update ss g) us f rows = All (λ r. meets_where g us r ≡ true → f (assigned ss us r) ≡ f r) rows

blocks-append : (f : Row → List Row) (xs ys : List Row) → blocks f (xs ++ ys) ≡ blocks f xs ++ blocks f ys
unfolding blocks
blocks-append f [] ys = refl
blocks-append f (x ∷ xs) ys = ap (λ (l : List Row). f x ++ l) (blocks-append f xs ys) ∙ sym (append_assoc (f x) (blocks f xs) (blocks f ys))

quiet-blocks : (c : Change) (us : List ℤ) (f : Row → List Row) (rows : List Row) → Quiet c us f rows → blocks f (changed c us rows) ≡ blocks f rows
unfolding changed blocks Quiet
quiet-blocks (insert os) us f rows h =
    blocks-append f rows (new_row os us ∷ []) ∙ ap (λ (l : List Row). blocks f rows ++ (l ++ [])) h ∙ append-nil (blocks f rows)
quiet-blocks (delete g) us f [] h = refl
quiet-blocks (delete g) us f (r ∷ rows) h = go (meets_where g us r) (All-head h) (quiet-blocks (delete g) us f rows (All-tail h))
  where
    left : List Row
    left = keep (λ (r : Row). not (meets_where g us r)) rows

    go : (b : Bool) → (b ≡ true → f r ≡ []) → blocks f left ≡ blocks f rows → blocks f (cons_if (not b) r left) ≡ f r ++ blocks f rows
    go true e ih = ih ∙ ap (λ (l : List Row). l ++ blocks f rows) (sym (e refl))
    go false e ih = ap (λ (l : List Row). f r ++ l) ih
quiet-blocks (update ss g) us f [] h = refl
quiet-blocks (update ss g) us f (r ∷ rows) h = ap₂ ◌++◌ (go (meets_where g us r) (All-head h)) (quiet-blocks (update ss g) us f rows (All-tail h))
  where
    go : (b : Bool) → (b ≡ true → f (assigned ss us r) ≡ f r) → f (cond b (assigned ss us r) r) ≡ f r
    go true e = e refl
    go false e = refl

-- the rows through which a change is judged: of INSERT the new row alone, whatever other row is named
abbrev pub Seen : Change → List Row → List Row
Seen (insert os) rows = [] ∷ []
Seen (delete g) rows = rows
Seen (update ss g) rows = rows

seen-within : (c : Change) (rows : List Row) → All (ChangesWithin c) rows → All (ChangesWithin c) (Seen c rows)
seen-within (insert os) rows w = cons tt nil
seen-within (delete g) rows w = w
seen-within (update ss g) rows w = w

-- ---- answers of pairs, row by row

-- a row that does not differ is taken after if it is before, and then with the same selected columns
undiffering : (a b : Bool) (x y : Row) → ((a && not b) || ((not a && b) || (a && (b && not (eq_list eq_z x y))))) ≡ false → (b ≡ a) × (a ≡ true → y ≡ x)
undiffering true true x y h = (refl, λ e. sym (eq_list-true eq_z eq_z-true x y (not-false (eq_list eq_z x y) h)))
undiffering true false x y h = absurd (true≢false h)
undiffering false true x y h = absurd (true≢false h)
undiffering false false x y h = (refl, λ e. absurd (false≢true e))

module _ (q : Query) (qs : List ℤ) where
  -- what one pair gives
  one : Row → List Row
  one x = answer q qs (x ∷ [])

  pub answer-append : (xs ys : List Row) → answer q qs (xs ++ ys) ≡ answer q qs xs ++ answer q qs ys
  unfolding answer
  answer-append xs ys = ap (map (selected q)) (keep_append (takes q qs) xs ys) ∙ map-append (selected q) (keep (takes q qs) xs) (keep (takes q qs) ys)

  -- the updated table is the first
  first-blocks : (rows others : List Row) → answer q qs (pairs rows others) ≡ blocks (λ r. answer q qs (map (λ (o : Row). r ++ o) others)) rows
  unfolding blocks answer
  first-blocks [] others = refl
  first-blocks (r ∷ rows) others =
      answer-append (map (λ (o : Row). r ++ o) others) (pairs rows others)
      ∙ ap (λ (l : List Row). answer q qs (map (λ (o : Row). r ++ o) others) ++ l) (first-blocks rows others)

  -- the rows beside one row of the first table
  row-blocks : (o : Row) (rows : List Row) → answer q qs (map (λ (r : Row). o ++ r) rows) ≡ blocks (λ r. one (o ++ r)) rows
  unfolding blocks answer one
  row-blocks o [] = refl
  row-blocks o (r ∷ rows) = answer-append ((o ++ r) ∷ []) (map (λ (r : Row). o ++ r) rows) ∙ ap (λ (l : List Row). one (o ++ r) ++ l) (row-blocks o rows)

  one_none : (x : Row) → takes q qs x ≡ false → one x ≡ []
  unfolding one answer
  one_none x h = ap (map (selected q)) (keep-no (takes q qs) x [] h)

  one_same : (x y : Row) → differs q qs x y ≡ false → one y ≡ one x
  unfolding one answer
  one_same x y h = go (takes q qs x) (takes q qs y) (undiffering (takes q qs x) (takes q qs y) (selected q x) (selected q y) h)
    where
      go : (a b : Bool) → (b ≡ a) × (a ≡ true → selected q y ≡ selected q x) → map (selected q) (cons_if b y []) ≡ map (selected q) (cons_if a x [])
      go true true e = ap (λ (z : Row). z ∷ []) (e.1 refl)
      go true false e = absurd (false≢true e.0)
      go false true e = absurd (true≢false e.0)
      go false false e = refl

  -- beside every row of the other table
  pub all_none : (r : Row) (others : List Row) → All (λ o. takes q qs (r ++ o) ≡ false) others → answer q qs (map (λ (o : Row). r ++ o) others) ≡ []
  unfolding answer one
  all_none r [] h = refl
  all_none r (o ∷ others) h =
      answer-append ((r ++ o) ∷ []) (map (λ (o : Row). r ++ o) others) ∙ ap₂ ◌++◌ (one_none (r ++ o) (All-head h)) (all_none r others (All-tail h))

  all_same : (r s : Row) (others : List Row) → All (λ o. differs q qs (r ++ o) (s ++ o) ≡ false) others
      → answer q qs (map (λ (o : Row). s ++ o) others) ≡ answer q qs (map (λ (o : Row). r ++ o) others)
  unfolding answer one
  all_same r s [] h = refl
  all_same r s (o ∷ others) h =
      answer-append ((s ++ o) ∷ []) (map (λ (o : Row). s ++ o) others)
      ∙ ap₂ ◌++◌ (one_same (r ++ o) (s ++ o) (All-head h)) (all_same r s others (All-tail h))
      ∙ sym (answer-append ((r ++ o) ∷ []) (map (λ (o : Row). r ++ o) others))

  -- no row matters beside any other
  Unmoved : Side → Change → List ℤ → Row → Row → Type 0
  Unmoved s c us r o = matters_in q qs s c us r o ≡ false

  past-false : (b c : Bool) → (b && c) ≡ false → b ≡ true → c ≡ false
  past-false true c h e = h
  past-false false c h e = absurd (false≢true e)

  quiet-first : (c : Change) (us : List ℤ) (rows others : List Row) → All (λ r. All (Unmoved first c us r) others) (Seen c rows)
      → Quiet c us (λ r. answer q qs (map (λ (o : Row). r ++ o) others)) rows
  unfolding Quiet Unmoved
  quiet-first (insert os) us rows others f = all_none (new_row os us) others (All-head f)
  quiet-first (delete g) us rows others f =
      All-map (λ r k e. all_none r others (All-map (λ o h. past-false (meets_where g us r) (takes q qs (r ++ o)) h e) k)) f
  quiet-first (update ss g) us rows others f =
      All-map (λ r k e. all_same r (assigned ss us r) others (All-map (λ o h. past-false (meets_where g us r) (differs q qs (r ++ o) (assigned ss us r ++ o)) h e) k)) f

  quiet-second : (c : Change) (us : List ℤ) (rows : List Row) (o : Row) → All (λ r. Unmoved second c us r o) (Seen c rows) → Quiet c us (λ r. one (o ++ r)) rows
  unfolding Quiet Unmoved
  quiet-second (insert os) us rows o f = one_none (o ++ new_row os us) (All-head f)
  quiet-second (delete g) us rows o f = All-map (λ r k e. one_none (o ++ r) (past-false (meets_where g us r) (takes q qs (o ++ r)) k e)) f
  quiet-second (update ss g) us rows o f =
      All-map (λ r k e. one_same (o ++ r) (o ++ assigned ss us r) (past-false (meets_where g us r) (differs q qs (o ++ r) (o ++ assigned ss us r)) k e)) f

  first-stays : (c : Change) (us : List ℤ) (rows others : List Row) → All (λ r. All (Unmoved first c us r) others) (Seen c rows)
      → answer q qs (pairs (changed c us rows) others) ≡ answer q qs (pairs rows others)
  first-stays c us rows others f =
      first-blocks (changed c us rows) others
      ∙ quiet-blocks c us (λ r. answer q qs (map (λ (o : Row). r ++ o) others)) rows (quiet-first c us rows others f)
      ∙ sym (first-blocks rows others)

  second-stays : (c : Change) (us : List ℤ) (rows others : List Row) → All (λ o. All (λ r. Unmoved second c us r o) (Seen c rows)) others
      → answer q qs (pairs others (changed c us rows)) ≡ answer q qs (pairs others rows)
  second-stays c us rows [] f = refl
  second-stays c us rows (o ∷ others) f =
      answer-append (map (λ (r : Row). o ++ r) (changed c us rows)) (pairs others (changed c us rows))
      ∙ ap₂ ◌++◌
      (row-blocks o (changed c us rows) ∙ quiet-blocks c us (λ r. one (o ++ r)) rows (quiet-second c us rows o (All-head f)) ∙ sym (row-blocks o rows))
      (second-stays c us rows others (All-tail f))
      ∙ sym (answer-append (map (λ (r : Row). o ++ r) rows) (pairs others rows))

-- a question over one table is one over pairs with the row of no columns
pairs-alone : (rows : List Row) → pairs rows ([] ∷ []) ≡ rows
pairs-alone [] = refl
pairs-alone (r ∷ rows) = ap₂ ◌∷◌ (append-nil r) (pairs-alone rows)

pairs-behind : (rows : List Row) → pairs ([] ∷ []) rows ≡ rows
pairs-behind [] = refl
pairs-behind (r ∷ rows) = ap (λ (l : List Row). r ∷ l) (pairs-behind rows)

-- where the change matters through no row of a question's one table the answer stays
pub alone-stays : (q : Query) (qs : List ℤ) (c : Change) (us : List ℤ) (rows : List Row) → All (λ r. matters_in q qs first c us r [] ≡ false) (Seen c rows)
    → answer q qs (changed c us rows) ≡ answer q qs rows
unfolding Unmoved
alone-stays q qs c us rows f =
    ap (answer q qs) (sym (pairs-alone (changed c us rows)))
    ∙ first-stays q qs c us rows ([] ∷ []) (All-map (λ r h. cons h nil) f)
    ∙ ap (answer q qs) (pairs-alone rows)

-- where no pattern of the update agrees the answer stays
unmatched-stays : (q : Query) (qs : List ℤ) (u : Update) (us : List ℤ) (rows others : List Row) → length qs ≡ q.parameters → All (ChangesWithin u.change) rows
    → All (StandsBeside q (side_of q u)) others → same_table q u ≡ true → matches q u us qs ≡ false
    → answer q qs (rows_beside q.second (side_of q u) (changed u.change us rows) others) ≡ answer q qs (rows_beside q.second (side_of q u) rows others)
unfolding matters Unmoved
unmatched-stays q qs u us rows others n w b is h = go q.second refl (side_of q u) refl b
  where
    unmoved : (s : Side) → side_of q u ≡ s → (r o : Row) → ChangesWithin u.change r → StandsBeside q s o → matters_in q qs s u.change us r o ≡ false
    unmoved s e r o k j =
        let d : matters_in q qs (side_of q u) u.change us r o ≡ false =
        sym (ap (λ (b : Bool). b && matters_in q qs (side_of q u) u.change us r o) is)
        ∙ contra (matters q qs u us r o) (matches q u us qs) (patterns_weaken q qs u us r o n k (subst (λ (s : Side). StandsBeside q s o) (sym e) j)) h in
        subst (λ (s : Side). matters_in q qs s u.change us r o ≡ false) e d

    seen : All (ChangesWithin u.change) (Seen u.change rows)
    seen = seen-within u.change rows w

    go : (m : Option Second) → q.second ≡ m → (s : Side) → side_of q u ≡ s → All (StandsBeside q s) others
        → answer q qs (rows_beside m s (changed u.change us rows) others) ≡ answer q qs (rows_beside m s rows others)
    go m d neither e b = clash is (ap is_side e)
    go none d first e b = alone-stays q qs u.change us rows (All-map (λ r k. unmoved first e r [] k tt) seen)
    go none d second e b =
        ap (answer q qs) (sym (pairs-behind (changed u.change us rows)))
        ∙ second-stays q qs u.change us rows ([] ∷ []) (cons (All-map (λ r k. unmoved second e r [] k (sym (ap second_start d))) seen) nil)
        ∙ ap (answer q qs) (pairs-behind rows)
    go (some x) d first e b = first-stays q qs u.change us rows others (All-map (λ r k. All-map (λ o j. unmoved first e r o k j) b) seen)
    go (some x) d second e b = second-stays q qs u.change us rows others (All-map (λ o j. All-map (λ r k. unmoved second e r o k j) seen) b)

-- ---- rows that a ring pushed out

-- an update and the rows that it pushes out match exactly if one of those that are judged does
pub matches-two : (q : Query) (u : Update) (out : List Row) (us qs : List ℤ) → matches_two q u out us qs ≡ any (λ (v : Update). matches q v us qs) (judged u out)
unfolding matches_two matches
matches-two q u out us qs = any-flat-map (agrees us qs) (patterns q) (judged u out)

-- they are of the update's table
same-side : (q : Query) (u : Update) (r : Row) → side_of q (removal u.table r) ≡ side_of q u
unfolding side_of
same-side q u r = refl

-- where no pattern agrees that is worked out for a row, the question does not take it
untaken : (q : Query) (qs : List ℤ) (u : Update) (us : List ℤ) (r o : Row) → length qs ≡ q.parameters → same_table q u ≡ true → (s : Side) → side_of q u ≡ s
    → StandsBeside q s o → matches q (removal u.table r) us qs ≡ false → takes q qs (beside s r o) ≡ false
untaken q qs u us r o n is s e b h =
    let d : side_of q (removal u.table r) ≡ s = same-side q u r ∙ e in
    subst (λ (s : Side). takes q qs (beside s r o) ≡ false) d
    (contra (takes q qs (beside (side_of q (removal u.table r)) r o)) (matches q (removal u.table r) us qs)
    (pushed_weakens q qs u.table us r o n (ap is_side (same-side q u r) ∙ is) (subst (λ (s : Side). StandsBeside q s o) (sym d) b)) h)

blocks-none : (f : Row → List Row) {out : List Row} (rows : List Row) → All (λ r. f r ≡ []) out → blocks f (out ++ rows) ≡ blocks f rows
unfolding blocks
blocks-none f rows nil = refl
blocks-none f rows (cons e h) = ap₂ ◌++◌ e (blocks-none f rows h)

module _ (q : Query) (qs : List ℤ) (out rows : List Row) where
  -- rows that are taken beside no other one show nowhere
  first-unseen : (others : List Row) → All (λ r. All (λ o. takes q qs (r ++ o) ≡ false) others) out → answer q qs (pairs (out ++ rows) others) ≡ answer q qs (pairs rows others)
  first-unseen others h =
      first-blocks q qs (out ++ rows) others
      ∙ blocks-none (λ r. answer q qs (map (λ (o : Row). r ++ o) others)) rows (All-map (λ r k. all_none q qs r others k) h)
      ∙ sym (first-blocks q qs rows others)

  second-unseen : (others : List Row) → All (λ o. All (λ r. takes q qs (o ++ r) ≡ false) out) others → answer q qs (pairs others (out ++ rows)) ≡ answer q qs (pairs others rows)
  second-unseen [] h = refl
  second-unseen (o ∷ others) h =
      answer-append q qs (map (λ (r : Row). o ++ r) (out ++ rows)) (pairs others (out ++ rows))
      ∙ ap₂ ◌++◌
      (row-blocks q qs o (out ++ rows) ∙ blocks-none (λ r. one q qs (o ++ r)) rows (All-map (λ r k. one_none q qs (o ++ r) k) (All-head h)) ∙ sym (row-blocks q qs o rows))
      (second-unseen others (All-tail h))
      ∙ sym (answer-append q qs (map (λ (r : Row). o ++ r) rows) (pairs others rows))

  pub alone-unseen : All (λ r. takes q qs (r ++ []) ≡ false) out → answer q qs (out ++ rows) ≡ answer q qs rows
  alone-unseen h =
      ap (answer q qs) (sym (pairs-alone (out ++ rows)))
      ∙ first-unseen ([] ∷ []) (All-map (λ r k. cons k nil) h)
      ∙ ap (answer q qs) (pairs-alone rows)

-- where no pattern that is worked out for one of the rows agrees they show nowhere
unmatched-unseen : (q : Query) (qs : List ℤ) (u : Update) (us : List ℤ) (out rows others : List Row) → length qs ≡ q.parameters
    → All (StandsBeside q (side_of q u)) others → same_table q u ≡ true → All (λ r. matches q (removal u.table r) us qs ≡ false) out
    → answer q qs (rows_beside q.second (side_of q u) (out ++ rows) others) ≡ answer q qs (rows_beside q.second (side_of q u) rows others)
unmatched-unseen q qs u us out rows others n b is h = go q.second refl (side_of q u) refl b
  where
    go : (m : Option Second) → q.second ≡ m → (s : Side) → side_of q u ≡ s → All (StandsBeside q s) others
        → answer q qs (rows_beside m s (out ++ rows) others) ≡ answer q qs (rows_beside m s rows others)
    go m d neither e b = clash is (ap is_side e)
    go none d first e b = alone-unseen q qs out rows (All-map (λ r k. untaken q qs u us r [] n is first e tt k) h)
    go none d second e b =
        ap (answer q qs) (sym (pairs-behind (out ++ rows)))
        ∙ second-unseen q qs out rows ([] ∷ []) (cons (All-map (λ r k. untaken q qs u us r [] n is second e (sym (ap second_start d)) k) h) nil)
        ∙ ap (answer q qs) (pairs-behind rows)
    go (some x) d first e b = first-unseen q qs out rows others (All-map (λ r k. All-map (λ o j. untaken q qs u us r o n is first e j k) b) h)
    go (some x) d second e b = second-unseen q qs out rows others (All-map (λ o j. All-map (λ r k. untaken q qs u us r o n is second e j k) h) b)

-- where no pattern of the two agrees the answer stays
pub answer_stays : AnswerStays
answer_stays q qs u us out rows others n w b is h =
    let none : All (λ (v : Update). matches q v us qs ≡ false) (judged u out) = any_false (λ (v : Update). matches q v us qs) (judged u out) (sym (matches-two q u out us qs) ∙ h) in
    unmatched-stays q qs u us rows others n w b is (All-head none)
    ∙ sym (unmatched-unseen q qs u us out rows others n b is (All-source (removal u.table) out (All-tail none)))
