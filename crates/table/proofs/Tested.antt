-- The test of a row on prepared numbers: from comparison to comparison one arrives where the condition says. Assumes nothing.
use Prim.Native.Nat.{ℕ, zero, suc, ◌+◌, ◌*◌, ◌≤◌, ◌<◌, min}
use mathlib.Core.Path.{◌≡◌, refl, sym, ap, ap₂, ◌∙◌, subst}
use mathlib.Core.Bool.{Bool, true, false, not, ◌&&◌, ◌||◌, cond}
use mathlib.Core.List.{List, [], ◌∷◌, map}
use native.Mathlib.Omega.{arith}
use borrow.Author.Tests.{lt-ltb, le-ltb, ltb-true, ltb-false}
use lib.Dec.{eqb, ltb}
use lib.IntN.{ℤ}
use lib.ListN.{length, take, drop, get_or, length-take, drop_of_length-le}
use lib.Seq.{drop-cons, get_or-take}
use Rattle.lists.specs.Lists.{All, nil, cons, cons_if, keep}
use Rattle.meaning.specs.Cells.{rows_in}
use Rattle.meaning.specs.Condition as C
use Rattle.meaning.specs.Postfix.{top, joined, run_on}
use Rattle.meaning.specs.Meaning.{Row, operand_value}
use Rattle.statement.specs.Operators.{order_of}
use Rattle.statement.specs.Compiled.{no_comparison}
use Rattle.statement.specs.Sound.{comparison_read, nodes_read, used_comparisons, used_steps, condition_nodes}
use Rattle.statement.specs.declared.Comparison.{Comparison}
use Rattle.statement.specs.declared.Condition.{Condition}
use Rattle.statement.specs.declared.Order.{Order}
use Rattle.statement.specs.declared.Order.TheVariants.{Less, Equal, Greater, Unknown}
use Rattle.table.specs.Rows.{meets_stored}
use Rattle.table.specs.Changed.{updated_if}
use Rattle.table.specs.Tests.{longest, met, side_at, target_place, next_at, arrives, Forward, passes, Prepared}
use Rattle.table.specs.Private.Linking.{exit, run_at, held_of, Linked}
use Rattle.table.proofs.Means.{meets-where}

-- a comparison has four targets
pub place-small : (o : Order) → target_place o ≤ 3
place-small Less = omega arith
place-small Equal = omega arith
place-small Greater = omega arith
place-small Unknown = omega arith

-- ---- the comparisons of a condition

module _ (row vs : List ℤ) where
  -- the next of some comparisons: what it says, and those after it; none holds
  data Next : List Comparison → Bool → List Comparison → Type 0 where
    ended : Next [] true []
    more : {c : Comparison} {cs : List Comparison} → Next (c ∷ cs) (C.holds (operand_value row vs) (comparison_read c)) cs

  module _ (h : ℕ → Bool) (cs : List Comparison) (each : (i : ℕ) → Next (drop i cs) (h i) (drop (suc i) cs)) where
    abbrev run : List ℕ → List Comparison → List Bool → List Bool
    run ss ds st = run_on (C.holds (operand_value row vs)) ◌&&◌ ◌||◌ (nodes_read ss ds) st

    runs_on : {b : Bool} {ds es : List Comparison} (ss : List ℕ) (st : List Bool) → Next ds b es → run ss es (b ∷ st) ≡ run (0 ∷ ss) ds st
    runs_on ss st ended = refl
    runs_on ss st more = refl

    run_is : (next : ℕ) (ss : List ℕ) (st : List Bool) → run_at h next ss st ≡ run ss (drop next cs) st
    run_is next [] st = refl
    run_is next (zero ∷ ss) st = run_is (suc next) ss (h next ∷ st) ∙ runs_on ss st (each next)
    run_is next (suc zero ∷ ss) st = run_is next ss (joined ◌&&◌ st)
    run_is next (suc (suc k) ∷ ss) st = run_is next ss (joined ◌||◌ st)

-- a condition of n comparisons
pub record Shaped (c : Condition) (n : ℕ) : Type 0 where
  pub eight : length c.comparisons ≡ 8
  pub count_is : n ≡ min c.count 8

-- the truth of comparison i
abbrev held_in : Condition → List ℤ → Row → ℕ → Bool
held_in c vs row i = C.holds (operand_value row vs) (comparison_read (get_or c.comparisons i no_comparison))

module _ (c : Condition) (vs : List ℤ) (n : ℕ) (S : Shaped c n) (row : Row) where
  each-is : (i : ℕ) → Next row vs (drop i (used_comparisons c)) (held_of n (held_in c vs row) i) (drop (suc i) (used_comparisons c))
  each-is i = go (ltb i n) refl
    where
      cs : List Comparison
      cs = used_comparisons c

      size : length cs ≡ n
      size = let l : length (take c.count c.comparisons) ≡ min c.count (length c.comparisons) = length-take c.count c.comparisons in omega (arith, S.count_is, S.eight)

      go : (b : Bool) → ltb i n ≡ b → Next row vs (drop i cs) (cond b (held_in c vs row i) true) (drop (suc i) cs)
      go true e =
          let h : i < n = ltb-true i n e in
          let l : i < length cs = omega (arith, size) in
          let g : get_or cs i no_comparison ≡ get_or c.comparisons i no_comparison = get_or-take c.count c.comparisons i no_comparison (omega (arith, S.count_is)) in
          subst (λ (l : List Comparison). Next row vs l (held_in c vs row i) (drop (suc i) cs))
          (sym (drop-cons cs i no_comparison l ∙ ap (λ (d : Comparison). d ∷ drop (suc i) cs) g)) more
      go false e =
          let h : n ≤ i = ltb-false i n e in
          let a : length cs ≤ i = omega (arith, size) in
          let b : length cs ≤ suc i = omega (arith, size) in
          subst (λ (l : List Comparison). Next row vs l true (drop (suc i) cs)) (sym (drop_of_length-le cs a))
          (subst (λ (l : List Comparison). Next row vs [] true l) (sym (drop_of_length-le cs b)) ended)

  -- the steps say what the condition says
  runs-meets : top true (run_at (held_of n (held_in c vs row)) 0 (used_steps c) []) ≡ meets_stored c vs row
  unfolding meets_stored condition_nodes
  runs-meets =
      ap (top true) (run_is row vs (held_of n (held_in c vs row)) (used_comparisons c) each-is 0 (used_steps c) [])

exit-met : (b : Bool) → eqb (exit b) met ≡ b
exit-met true = refl
exit-met false = refl

-- comparisons that lead out by their truths, linked by the condition's steps, test what the condition says
pub prepared-by : (c : Condition) (vs : List ℤ) (n : ℕ) (places : List ℕ) (numbers : List ℤ) → Shaped c n → (t targets : List ℕ) (start : ℕ)
    → Linked (used_steps c) n t targets start
    → ((k : ℕ) → k < n → (d : Comparison) (row : Row) → length row ≤ longest
    → next_at t places numbers row k ≡ exit (C.holds (operand_value row vs) (comparison_read (get_or c.comparisons k d))))
    → Prepared c vs targets places numbers start
unfolding passes next_at
prepared-by c vs n places numbers S t targets start K each =
    record {
      forward = K.forward;
      says = λ row short.
          ap (λ (k : ℕ). eqb k met)
          (K.arrives_at (λ (i : ℕ). target_place (order_of (side_at places numbers row (2 * i)) (side_at places numbers row (2 * i + 1)))) (held_in c vs row)
          (λ i. place-small (order_of (side_at places numbers row (2 * i)) (side_at places numbers row (2 * i + 1)))) (λ i h. each i h no_comparison row short))
          ∙ exit-met (top true (run_at (held_of n (held_in c vs row)) 0 (used_steps c) []))
          ∙ runs-meets c vs n S row;
    }

-- ---- the loop over comparisons

-- from place i, with enough turns left, one arrives where one does from the start
pub record Walking (targets places : List ℕ) (numbers : List ℤ) (start : ℕ) (row : Row) (i : ℕ) : Type 0 where
  turns : ℕ
  enough : met ≤ turns + i
  same : arrives (next_at targets places numbers row) turns i ≡ arrives (next_at targets places numbers row) met start

module _ (targets places : List ℕ) (numbers : List ℤ) (start : ℕ) (row : Row) where
  pub walk_start : Walking targets places numbers start row start
  walk_start = record { turns = met; enough = omega arith; same = refl }

  module _ (i : ℕ) (W : Walking targets places numbers start row i) where
    -- it goes on to a later place
    pub walk-on : Forward targets → i < met → i < next_at targets places numbers row i
    unfolding next_at
    walk-on F h =
        let o : Order = order_of (side_at places numbers row (2 * i)) (side_at places numbers row (2 * i + 1)) in
        F i (target_place o) h (place-small o)

    pub walk_more : Forward targets → i < met → (j : ℕ) → j ≡ next_at targets places numbers row i → Walking targets places numbers start row j
    walk_more F h j e = go W.turns W.enough W.same
      where
        next : ℕ → ℕ
        next = next_at targets places numbers row

        go : (k : ℕ) → met ≤ k + i → arrives next k i ≡ arrives next met start → Walking targets places numbers start row j
        go zero m s = absurd (omega arith)
        go (suc k) m s =
            let l : i < next i = walk-on F h in
            record {
              turns = k;
              enough = omega (arith, e);
              same = ap (arrives next k) e ∙ sym (ap (λ (b : Bool). cond b (arrives next k (next i)) i) (lt-ltb i met h)) ∙ s;
            }

    pub walk-done : met ≤ i → eqb i met ≡ passes targets places numbers start row
    unfolding passes
    walk-done h = ap (λ (k : ℕ). eqb k met) (sym (stays W.turns) ∙ W.same)
      where
        stays : (k : ℕ) → arrives (next_at targets places numbers row) k i ≡ i
        stays zero = refl
        stays (suc k) = ap (λ (b : Bool). cond b (arrives (next_at targets places numbers row) k (next_at targets places numbers row i)) i) (le-ltb i met h)

-- ---- rows of a table

pub keep_same : {A : Type 0} (p q : A → Bool) {l : List A} → All (λ x. p x ≡ q x) l → keep p l ≡ keep q l
keep_same p q nil = refl
keep_same p q (cons {x} e h) = ap₂ (λ (b : Bool) t. cons_if b x t) e (keep_same p q h)

-- of the rows of a table the test says what the condition says
pub rows_pass : (targets places : List ℕ) (numbers : List ℤ) (start : ℕ) (c : Condition) (vs : List ℤ)
    → Prepared c vs targets places numbers start → (w k : ℕ) (cells : List ℤ) → w ≤ longest
    → All (λ (r : Row). passes targets places numbers start r ≡ meets_stored c vs r) (rows_in w k cells)
rows_pass targets places numbers start c vs P w zero cells h = nil
rows_pass targets places numbers start c vs P w (suc k) cells h =
    let l : length (take w cells) ≡ min w (length cells) = length-take w cells in
    let short : length (take w cells) ≤ longest = omega arith in
    cons (P.says (take w cells) short) (rows_pass targets places numbers start c vs P w k (drop w cells) h)

module _ (p q : Row → Bool) where
  pub without-same : {l : List Row} → All (λ x. p x ≡ q x) l → keep (λ r. not (p r)) l ≡ keep (λ r. not (q r)) l
  without-same nil = refl
  without-same (cons {x} e h) = ap₂ (λ (b : Bool) t. cons_if (not b) x t) e (without-same h)

  pub settled_same : (f : Row → Row) {l : List Row} → All (λ x. p x ≡ q x) l → map (updated_if p f) l ≡ map (updated_if q f) l
  settled_same f nil = refl
  settled_same f (cons {x} e h) = ap₂ (λ (b : Bool) t. cond b (f x) x ∷ t) e (settled_same f h)
