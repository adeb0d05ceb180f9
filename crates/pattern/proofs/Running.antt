-- The masks of a condition, step by step: the steps from the i-th on, run on the clauses of the stack's masks, give the clauses of the condition. Assumes nothing.
use mathlib.Core.Path.{◌≡◌, refl, sym, ap, ap₂, ◌∙◌}
use mathlib.Core.Bool.{true, false≢true}
use mathlib.Core.List.{List, [], ◌∷◌, ◌++◌, map}
use Prim.Native.Nat.{ℕ, zero, suc, ◌+◌, ◌-◌, ◌*◌, ◌^◌, ◌≤◌, ◌<◌}
use native.Mathlib.Numerals.{add-one}
use native.Mathlib.Omega.{arith}
use lib.ListN.{length, take, drop, get_or, length-map, length-take, length-drop, drop_of_length-le}
use lib.Seq.{drop-cons}
use Rattle.lists.specs.Lists.{pairs}
use Rattle.lists.proofs.Lists.{map-drop, map-append}
use Rattle.meaning.specs.Condition as C
use Rattle.meaning.specs.Statement as M
use Rattle.meaning.specs.Postfix.{top, run_on, clauses_of_nodes}
use Rattle.statement.specs.declared.Comparison.{Comparison}
use Rattle.statement.specs.declared.Condition.{Condition}
use Rattle.statement.specs.Compiled as Compiled
use Rattle.statement.specs.Sound.{comparison_read, nodes_read, used_comparisons, used_steps, condition_nodes}
use Rattle.pattern.specs.Stored.{clauses_read}
use Rattle.pattern.specs.declared.masks.Clauses.{Clauses}
use Rattle.pattern.specs.declared.masks.Stack.{Stack}
use Rattle.pattern.specs.Private.Masks.{select, sums, balanced, no_stack, stepped_of, Steps, comparisons_read, Masked}
use Rattle.pattern.proofs.Selecting.{select-one, and-clauses, most-18}
use Rattle.pattern.proofs.Stacking.{Stacked, stacked-few, stacked-push, stacked-either, stacked-both, upper, Holds, pushes, push-holds, joins, either-holds, both-holds}
use Rattle.pattern.proofs.Formed.{balanced-few, steps-length, steps_next}

-- ---- the clauses of a stack

abbrev Clause : Type 0
Clause = List (C.Comparison M.Operand)

abbrev alone : C.Comparison M.Operand → List Clause
alone c = (c ∷ []) ∷ []

abbrev run : List ℕ → List Comparison → List (List Clause) → List (List Clause)
run ss cs st = run_on alone pairs ◌++◌ (nodes_read ss cs) st

module _ (c : Condition) where
  abbrev used : List Comparison
  used = used_comparisons c

  abbrev steps : List ℕ
  steps = used_steps c

  abbrev clauses_in : List (List ℕ) → List (List Clause)
  clauses_in st = map (map (select (comparisons_read c))) st

  -- i steps are done: the stack, and how many comparisons they had
  pub record Running (s : Stack) (i : ℕ) : Type 0 where
    pub stack : List (List ℕ)
    pub next : ℕ
    pub holds : Holds s next stack
    pub stacked : Stacked next stack
    pub counted : i + length stack ≡ 2 * next
    pub some : next ≤ i
    pub left_balanced : balanced (length stack) (drop i steps) ≡ true
    pub left_clauses : run (drop i steps) (drop next used) (clauses_in stack) ≡ run steps used []

  pub run-start : balanced 0 steps ≡ true → Running no_stack 0
  run-start h = record {
    stack = [];
    next = 0;
    holds = record { masks_long = refl; lengths_long = refl; masks_are = refl; total_is = refl; lengths_are = refl; depth_is = refl; bit_is = refl };
    stacked = refl;
    counted = refl;
    some = omega arith;
    left_balanced = h;
    left_clauses = refl;
  }

  module _ (sl : length c.steps ≡ 15) (cl : length c.comparisons ≡ 8) (few : c.count ≤ 8) (s : Stack) (i : ℕ) (R : Running s i) (h : i + 1 < 2 * c.count) where
    abbrev st : List (List ℕ)
    st = R.stack

    abbrev q : ℕ
    q = R.next

    abbrev rest : List ℕ
    rest = drop (i + 1) steps

    rest-length : length rest ≡ 2 * c.count - 1 - (i + 1)
    rest-length = length-drop (i + 1) steps ∙ ap (λ (n : ℕ). n - (i + 1)) (steps-length c sl few)

    -- the steps left, by the next one
    left-steps : (k : ℕ) → get_or c.steps i 0 ≡ k → drop i steps ≡ k ∷ rest
    left-steps k e = steps_next c sl few i h ∙ ap (λ (x : ℕ). x ∷ rest) e

    left_is : (k : ℕ) → get_or c.steps i 0 ≡ k → balanced (length st) (k ∷ rest) ≡ true
    left_is k e = ap (balanced (length st)) (sym (left-steps k e)) ∙ R.left_balanced

    run_is : (k : ℕ) → get_or c.steps i 0 ≡ k → run (k ∷ rest) (drop q used) (clauses_in st) ≡ run steps used []
    run_is k e = ap (λ (l : List ℕ). run l (drop q used) (clauses_in st)) (sym (left-steps k e)) ∙ R.left_clauses

    shallow : s.depth ≤ q
    shallow = omega (arith, R.holds.depth_is, R.counted, R.some)

    -- ---- a comparison

    -- there is one more
    next-below : get_or c.steps i 0 ≡ 0 → q < c.count
    next-below e = omega (arith, balanced-few (suc (length st)) rest (left_is 0 e), rest-length, R.counted)

    abbrev none_such : Comparison
    none_such = Compiled.no_comparison

    next-is : get_or c.steps i 0 ≡ 0 → drop q used ≡ get_or used q none_such ∷ drop (q + 1) used
    next-is e =
        drop-cons used q none_such (omega (arith, next-below e, length-take c.count c.comparisons))
        ∙ ap (λ (n : ℕ). get_or used q none_such ∷ drop n used) (sym (add-one q))

    push-more : get_or c.steps i 0 ≡ 0 → Running (stepped_of 0 s) (i + 1)
    push-more e =
        let l : q < c.count = next-below e in
        let d : s.depth < 8 = omega (arith, shallow) in
        let x : C.Comparison M.Operand = comparison_read (get_or used q none_such) in
        let one : select (comparisons_read c) (2 ^ q) ≡ x ∷ [] =
        select-one (comparisons_read c) q x (map comparison_read (drop (q + 1) used)) (sym (map-drop comparison_read q used) ∙ ap (map comparison_read) (next-is e)) in
        record {
          stack = (2 ^ q ∷ []) ∷ st;
          next = q + 1;
          holds = push-holds s q st R.holds R.stacked (omega arith) d;
          stacked = stacked-push q st R.stacked;
          counted = omega (arith, R.counted);
          some = omega (arith, R.some);
          left_balanced = left_is 0 e;
          left_clauses = ap (λ (y : Clause). run rest (drop (q + 1) used) ((y ∷ []) ∷ clauses_in st)) one
              ∙ sym (ap (λ (l : List Comparison). run (0 ∷ rest) l (clauses_in st)) (next-is e)) ∙ run_is 0 e;
        }

    pushes-next : get_or c.steps i 0 ≡ 0 → Steps 0 s
    pushes-next e = pushes s q st R.holds R.stacked (omega (arith, next-below e)) (omega (arith, shallow, next-below e))

    -- ---- a join

    next-few : q ≤ 8
    next-few = omega (arith, balanced-few (length st) (drop i steps) R.left_balanced, length-drop i steps, steps-length c sl few, R.counted)

    join-steps : (j : ℕ) (stk : List (List ℕ)) → Holds s q stk → Stacked q stk → balanced (length stk) (suc j ∷ rest) ≡ true → Steps (suc j) s
    join-steps j [] H S b = absurd (false≢true b)
    join-steps j (rs ∷ []) H S b = absurd (false≢true b)
    join-steps j (rs ∷ ls ∷ stk) H S b = joins s q rs ls stk H S next-few (omega (arith, shallow, next-few))

    join_more : (j : ℕ) (stk : List (List ℕ)) → Holds s q stk → Stacked q stk → i + length stk ≡ 2 * q → balanced (length stk) (suc j ∷ rest) ≡ true
        → run (suc j ∷ rest) (drop q used) (clauses_in stk) ≡ run steps used [] → Running (stepped_of (suc j) s) (i + 1)
    join_more j [] H S n b e = absurd (false≢true b)
    join_more j (rs ∷ []) H S n b e = absurd (false≢true b)
    join_more zero (rs ∷ ls ∷ stk) H S n b e =
        let l = S.1.0 in
        let both : map (select (comparisons_read c)) (sums ls rs) ≡ pairs (map (select (comparisons_read c)) ls) (map (select (comparisons_read c)) rs) =
        and-clauses (comparisons_read c) l.base l.size S.0.size ls rs l.bits (upper q rs ls stk next-few S) in
        record {
          stack = sums ls rs ∷ stk;
          next = q;
          holds = both-holds s q rs ls stk H S next-few (omega (arith, shallow, next-few));
          stacked = stacked-both q rs ls stk next-few S;
          counted = omega arith;
          some = omega (arith, R.some);
          left_balanced = b;
          left_clauses = ap (λ (y : List Clause). run rest (drop q used) (y ∷ clauses_in stk)) both ∙ e;
        }
    join_more (suc j) (rs ∷ ls ∷ stk) H S n b e = record {
      stack = (ls ++ rs) ∷ stk;
      next = q;
      holds = either-holds s q rs ls stk H S next-few (omega (arith, shallow, next-few));
      stacked = stacked-either q rs ls stk next-few S;
      counted = omega arith;
      some = omega (arith, R.some);
      left_balanced = b;
      left_clauses = ap (λ (y : List Clause). run rest (drop q used) (y ∷ clauses_in stk)) (map-append (select (comparisons_read c)) ls rs) ∙ e;
    }

    -- ---- any step

    pub run-steps : (k : ℕ) → get_or c.steps i 0 ≡ k → Steps k s
    run-steps zero e = pushes-next e
    run-steps (suc j) e = join-steps j st R.holds R.stacked (left_is (suc j) e)

    pub run_more : (k : ℕ) → get_or c.steps i 0 ≡ k → Running (stepped_of k s) (i + 1)
    run_more zero e = push-more e
    run_more (suc j) e = join_more j st R.holds R.stacked R.counted (left_is (suc j) e) (run_is (suc j) e)

  -- ---- all steps

  pub run-done : length c.steps ≡ 15 → c.count ≤ 8 → (s : Stack) (i : ℕ) → i + 1 ≡ 2 * c.count → Running s i
      → Masked c (record { masks = s.masks; count = s.total })
  unfolding clauses_read condition_nodes
  run-done sl few s i h R = go R.stack R.holds R.stacked R.counted left-none run-none'
    where
      none_left : drop i steps ≡ []
      none_left = let l : length steps ≤ i = omega (arith, steps-length c sl few) in drop_of_length-le steps l

      left-none : balanced (length R.stack) [] ≡ true
      left-none = ap (balanced (length R.stack)) (sym none_left) ∙ R.left_balanced

      run-none' : clauses_in R.stack ≡ run steps used []
      run-none' = sym (ap (λ (l : List ℕ). run l (drop R.next used) (clauses_in R.stack)) none_left) ∙ R.left_clauses

      go : (stk : List (List ℕ)) → Holds s R.next stk → Stacked R.next stk → i + length stk ≡ 2 * R.next → balanced (length stk) [] ≡ true → clauses_in stk ≡ run steps used []
          → Masked c (record { masks = s.masks; count = s.total })
      go [] H S k b e = absurd (false≢true b)
      go (ms ∷ []) H S k b e =
          let next-few : R.next ≤ 8 = omega arith in
          let n : s.total ≡ length ms = H.total_is in
          let all : clauses_read c ≡ map (select (comparisons_read c)) ms = sym (ap (top ([] ∷ [])) e) in
          record {
            few = omega (arith, stacked-few R.next (ms ∷ []) next-few S, most-18 R.next next-few);
            long = H.masks_long;
            counted = ap length all ∙ length-map ms (select (comparisons_read c)) ∙ sym n;
            clauses_are = all ∙ ap (map (select (comparisons_read c))) (sym H.masks_are);
          }
      go (ms ∷ ns ∷ stk) H S k b e = absurd (false≢true b)

  pub run_none : c.count ≡ 0 → (r : Clauses) → r.count ≡ 1 → length r.masks ≡ 18 → take 1 r.masks ≡ 0 ∷ [] → Masked c r
  unfolding clauses_read condition_nodes
  run_none e r ec el em =
      let none : comparisons_read c ≡ [] = ap (λ (n : ℕ). map comparison_read (take n c.comparisons)) e in
      let all : clauses_read c ≡ [] ∷ [] = ap (λ (n : ℕ). clauses_of_nodes (nodes_read (take (2 * n - 1) c.steps) (take n c.comparisons))) e in
      record {
        few = omega arith;
        long = el;
        counted = ap length all ∙ sym ec;
        clauses_are = all ∙ sym (ap₂ (λ (l : Clause) (m : List ℕ). map (select l) m) none (ap (λ (n : ℕ). take n r.masks) ec ∙ em));
      }
