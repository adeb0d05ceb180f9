-- A condition prepared as numbers, one comparison after another. Assumes nothing.
use Prim.Native.Nat.{ℕ, ◌+◌, ◌*◌, ◌≤◌, ◌<◌}
use mathlib.Core.Path.{◌≡◌, refl, sym, ap, ap₂, ◌∙◌, subst}
use mathlib.Core.Bool.{Bool, true, false, cond}
use mathlib.Core.List.{List}
use native.Mathlib.Omega.{arith}
use borrow.Author.Tests.{ltb-true, ltb-false, eqb-true, eqb-false}
use lib.Dec.{eqb, ltb}
use lib.IntN.{ℤ, pos}
use lib.ListN.{length, get_or, set, length-set, get_or-eq_default, take, length-take}
use lib.Seq.{get_or-set_same, get_or-set_other, get_or-take}
use Rattle.lists.proofs.Places.{get_or-inside}
use Rattle.meaning.specs.Condition as C
use Rattle.meaning.specs.Operator.{Predicate}
use Rattle.meaning.specs.Statement as M
use Rattle.meaning.specs.Statement.{column, value}
use Rattle.meaning.specs.Meaning.{Row, value_of, operand_value}
use Rattle.statement.specs.Operators.{predicate_at, is_null_test, order_of, truth_by}
use Rattle.statement.proofs.OperatorLaws.{tested-order}
use Rattle.statement.specs.Compiled.{left_side, right_side}
use Rattle.statement.specs.Sound.{operand_read, comparison_read, used_steps}
use Rattle.statement.specs.declared.Comparison.{Comparison}
use Rattle.statement.specs.declared.Condition.{Condition}
use Rattle.statement.specs.declared.Operand.{Operand}
use Rattle.statement.specs.declared.Order.{Order}
use Rattle.statement.specs.declared.Order.TheVariants.{Less, Equal, Greater, Unknown}
use Rattle.table.specs.Tests.{longest, met, target_place, side_at, next_at, Prepared}
use Rattle.table.specs.Private.Testing.{right_tested, place_in, number_in, place_of, number_of}
use Rattle.table.specs.Private.Linking.{exit, target_by, target_put, targets_put, Unlinked, Linked}
use Rattle.table.proofs.Linking.{exit_out}
use Rattle.table.proofs.Tested.{Shaped, place-small, prepared-by}

-- of every row, the cell at the side's place, or its number where the row ends before that, is the operand's value
side-in : (o : M.Operand) (vs : List ℤ) (row : Row) → length row ≤ longest → get_or row (place_in o) (number_in vs o) ≡ operand_value row vs o
side-in (column i) vs row h = refl
side-in (value v) vs row h = get_or-eq_default row (value_of vs v) h

side-is : (o : Operand) (vs : List ℤ) (row : Row) → length row ≤ longest → get_or row (place_of o) (number_of vs o) ≡ operand_value row vs (operand_read o)
side-is o vs row h = side-in (operand_read o) vs row h

-- ---- two and four entries set

module _ {A : Type 0} (l : List A) (i : ℕ) (x y : A) (d : A) where
  two-other : (j : ℕ) → j < 2 * i → get_or (set (set l (2 * i) x) (2 * i + 1) y) j d ≡ get_or l j d
  two-other j h = get_or-set_other (set l (2 * i) x) (2 * i + 1) j y d (λ e. omega arith) ∙ get_or-set_other l (2 * i) j x d (λ e. omega arith)

  two-first : 2 * i < length l → get_or (set (set l (2 * i) x) (2 * i + 1) y) (2 * i) d ≡ x
  two-first h = get_or-set_other (set l (2 * i) x) (2 * i + 1) (2 * i) y d (λ e. omega arith) ∙ get_or-set_same l (2 * i) x d h

  two-second : 2 * i + 1 < length l → get_or (set (set l (2 * i) x) (2 * i + 1) y) (2 * i + 1) d ≡ y
  two-second h = get_or-set_same (set l (2 * i) x) (2 * i + 1) y d (simp length-set h)

put-other : (l : List ℕ) (i op : ℕ) (o : Order) (j : ℕ) → (j ≡ 4 * i + target_place o → ⊥) → get_or (target_put l i op o) j 0 ≡ get_or l j 0
put-other l i op o j d = get_or-set_other l (4 * i + target_place o) j (target_by op o) 0 d

module _ (l : List ℕ) (i op : ℕ) where
  abbrev one : List ℕ
  one = target_put l i op Less

  abbrev two : List ℕ
  two = target_put one i op Equal

  abbrev three : List ℕ
  three = target_put two i op Greater

  four-other : (j : ℕ) → j < 4 * i → get_or (targets_put l i op) j 0 ≡ get_or l j 0
  four-other j h =
      put-other three i op Unknown j (λ e. omega arith)
      ∙ put-other two i op Greater j (λ e. omega arith)
      ∙ put-other one i op Equal j (λ e. omega arith)
      ∙ put-other l i op Less j (λ e. omega arith)

  -- the target by an order
  four-at : 4 * i + 3 < length l → (o : Order) → get_or (targets_put l i op) (4 * i + target_place o) 0 ≡ target_by op o
  four-at h Less =
      let r : 4 * i + 0 < length l = omega arith in
      put-other three i op Unknown (4 * i + 0) (λ e. omega arith)
      ∙ put-other two i op Greater (4 * i + 0) (λ e. omega arith)
      ∙ put-other one i op Equal (4 * i + 0) (λ e. omega arith)
      ∙ get_or-set_same l (4 * i + 0) (target_by op Less) 0 r
  four-at h Equal =
      let r : 4 * i + 1 < length l = omega arith in
      put-other three i op Unknown (4 * i + 1) (λ e. omega arith)
      ∙ put-other two i op Greater (4 * i + 1) (λ e. omega arith)
      ∙ get_or-set_same one (4 * i + 1) (target_by op Equal) 0 (simp length-set r)
  four-at h Greater =
      let r : 4 * i + 2 < length l = omega arith in
      put-other three i op Unknown (4 * i + 2) (λ e. omega arith)
      ∙ get_or-set_same two (4 * i + 2) (target_by op Greater) 0 (simp length-set r)
  four-at h Unknown = get_or-set_same three (4 * i + 3) (target_by op Unknown) 0 (simp length-set h)

-- each target is an exit
set_out : (l : List ℕ) (i x : ℕ) → met ≤ x → Unlinked l → Unlinked (set l i x)
set_out l i x h U = (simp length-set U.0, λ j under. go j under (eqb j i) refl)
  where
    go : (j : ℕ) → j < 32 → (b : Bool) → eqb j i ≡ b → met ≤ get_or (set l i x) j 0
    go j under true e =
        let q : j ≡ i = eqb-true j i e in
        subst (λ (k : ℕ). met ≤ get_or (set l i x) k 0) (sym q) (subst (λ (k : ℕ). met ≤ k) (sym (get_or-set_same l i x 0 (omega (arith, U.0)))) h)
    go j under false e = subst (λ (k : ℕ). met ≤ k) (sym (get_or-set_other l i j x 0 (λ q. eqb-false j i e q))) (U.1 j under)

put_out : (l : List ℕ) (i op : ℕ) (o : Order) → Unlinked l → Unlinked (target_put l i op o)
put_out l i op o U = set_out l (4 * i + target_place o) (target_by op o) (exit_out (truth_by (predicate_at op) o)) U

-- ---- the loop

-- of n comparisons the first i are prepared, each by itself
pub record Filled (c : Condition) (vs : List ℤ) (targets places : List ℕ) (numbers : List ℤ) (n i : ℕ) : Type 0 where
  pub shaped : Shaped c n
  pub unlinked : Unlinked targets
  pub places-16 : length places ≡ 16
  pub numbers-16 : length numbers ≡ 16
  pub done : (k : ℕ) → k < i → (d : Comparison) (row : Row) → length row ≤ longest
      → next_at targets places numbers row k ≡ exit (C.holds (operand_value row vs) (comparison_read (get_or c.comparisons k d)))

module _ (c : Condition) (vs : List ℤ) (targets places : List ℕ) (numbers : List ℤ) (n : ℕ) where
  pub fill_start : Shaped c n → Unlinked targets → length places ≡ 16 → length numbers ≡ 16 → Filled c vs targets places numbers n 0
  fill_start s u p m = record { shaped = s; unlinked = u; places-16 = p; numbers-16 = m; done = λ k h. absurd (omega arith) }

  module _ (i : ℕ) (F : Filled c vs targets places numbers n i) where
    fill-next : (d : Comparison) → i < n
        → Filled c vs (targets_put targets i (get_or c.comparisons i d).op)
        (set (set places (2 * i) (place_of (left_side (get_or c.comparisons i d)))) (2 * i + 1) (place_of (right_tested (get_or c.comparisons i d))))
        (set (set numbers (2 * i) (number_of vs (left_side (get_or c.comparisons i d)))) (2 * i + 1) (number_of vs (right_tested (get_or c.comparisons i d)))) n (i + 1)
    unfolding next_at
    fill-next d h =
        record {
          shaped = F.shaped;
          unlinked = put_out (three targets i cmp.op) i cmp.op Unknown (put_out (two targets i cmp.op) i cmp.op Greater (put_out (one targets i cmp.op) i cmp.op Equal (put_out targets i cmp.op Less F.unlinked)));
          places-16 = simp length-set F.places-16;
          numbers-16 = simp length-set F.numbers-16;
          done = λ k under d' row short. go k under d' row short (ltb k i) refl;
        }
      where
        cmp : Comparison
        cmp = get_or c.comparisons i d

        o : Predicate
        o = predicate_at cmp.op

        p : ℕ
        p = place_of (left_side cmp)

        q : ℕ
        q = place_of (right_tested cmp)

        x : ℤ
        x = number_of vs (left_side cmp)

        y : ℤ
        y = number_of vs (right_tested cmp)

        ts : List ℕ
        ts = targets_put targets i cmp.op

        ps : List ℕ
        ps = set (set places (2 * i) p) (2 * i + 1) q

        ns : List ℤ
        ns = set (set numbers (2 * i) x) (2 * i + 1) y

        few : i < 8
        few = omega (arith, F.shaped.count_is)

        -- comparisons before are as they were
        kept : (k : ℕ) → k < i → (row : Row) → next_at ts ps ns row k ≡ next_at targets places numbers row k
        kept k under row =
            let side : (j : ℕ) → j < 2 * i → side_at ps ns row j ≡ side_at places numbers row j = λ j m. ap₂ (get_or row) (two-other places i p q 0 j m) (two-other numbers i x y (pos 0) j m) in
            let a : side_at ps ns row (2 * k) ≡ side_at places numbers row (2 * k) = side (2 * k) (omega arith) in
            let b : side_at ps ns row (2 * k + 1) ≡ side_at places numbers row (2 * k + 1) = side (2 * k + 1) (omega arith) in
            let z : Order = order_of (side_at places numbers row (2 * k)) (side_at places numbers row (2 * k + 1)) in
            let s : target_place z ≤ 3 = place-small z in
            ap₂ (λ (u v : ℤ). get_or ts (4 * k + target_place (order_of u v)) 0) a b ∙ four-other targets i cmp.op (4 * k + target_place z) (omega arith)

        -- the right side as it is tested
        tested : (row : Row) (b : Bool) (l r : Operand)
            → operand_value row vs (operand_read (cond b l r)) ≡ cond b (operand_value row vs (operand_read l)) (operand_value row vs (operand_read r))
        tested row true l r = refl
        tested row false l r = refl

        -- the next is what it says
        new : (row : Row) → length row ≤ longest → next_at ts ps ns row i ≡ exit (C.holds (operand_value row vs) (comparison_read cmp))
        new row short =
            let u : ℤ = operand_value row vs (operand_read (left_side cmp)) in
            let v : ℤ = operand_value row vs (operand_read (right_side cmp)) in
            let a : side_at ps ns row (2 * i) ≡ u =
            ap₂ (get_or row) (two-first places i p q 0 (omega (arith, F.places-16))) (two-first numbers i x y (pos 0) (omega (arith, F.numbers-16))) ∙ side-is (left_side cmp) vs row short in
            let w : ℤ = cond (is_null_test o) u v in
            let b : side_at ps ns row (2 * i + 1) ≡ w =
            ap₂ (get_or row) (two-second places i p q 0 (omega (arith, F.places-16))) (two-second numbers i x y (pos 0) (omega (arith, F.numbers-16))) ∙ side-is (right_tested cmp) vs row short
            ∙ tested row (is_null_test o) (left_side cmp) (right_side cmp) in
            ap₂ (λ (s t : ℤ). get_or ts (4 * i + target_place (order_of s t)) 0) a b ∙ four-at targets i cmp.op (omega (arith, F.unlinked.0)) (order_of u w) ∙ ap exit (tested-order o u v)

        go : (k : ℕ) → k < i + 1 → (d' : Comparison) (row : Row) → length row ≤ longest → (b : Bool) → ltb k i ≡ b
            → next_at ts ps ns row k ≡ exit (C.holds (operand_value row vs) (comparison_read (get_or c.comparisons k d')))
        go k under d' row short true e = kept k (ltb-true k i e) row ∙ F.done k (ltb-true k i e) d' row short
        go k under d' row short false e =
            let g : i ≤ k = ltb-false k i e in
            let s : k ≡ i = omega arith in
            let in8 : i < length c.comparisons = omega (arith, F.shaped.eight, few) in
            ap (λ (j : ℕ). next_at ts ps ns row j) s ∙ new row short
            ∙ ap (λ (m : Comparison). exit (C.holds (operand_value row vs) (comparison_read m))) (get_or-inside c.comparisons i d d' in8)
            ∙ ap (λ (j : ℕ). exit (C.holds (operand_value row vs) (comparison_read (get_or c.comparisons j d')))) (sym s)

    pub fill_more : (d : Comparison) (a b : Operand) (targets' places₁ places' : List ℕ) (numbers₁ numbers' : List ℤ) → i < n
        → a ≡ left_side (get_or c.comparisons i d) → b ≡ right_tested (get_or c.comparisons i d) → targets' ≡ targets_put targets i (get_or c.comparisons i d).op
        → places₁ ≡ set places (2 * i) (place_of a) → numbers₁ ≡ set numbers (2 * i) (number_of vs a)
        → places' ≡ set places₁ (2 * i + 1) (place_of b) → numbers' ≡ set numbers₁ (2 * i + 1) (number_of vs b)
        → Filled c vs targets' places' numbers' n (i + 1)
    fill_more d a b targets' places₁ places' numbers₁ numbers' h ea eb et ep en fp fn =
        let put : List ℕ → Operand → Operand → List ℕ = λ l x y. set (set l (2 * i) (place_of x)) (2 * i + 1) (place_of y) in
        let noted : List ℤ → Operand → Operand → List ℤ = λ l x y. set (set l (2 * i) (number_of vs x)) (2 * i + 1) (number_of vs y) in
        let x : Operand = left_side (get_or c.comparisons i d) in
        let y : Operand = right_tested (get_or c.comparisons i d) in
        let p : places' ≡ put places x y = fp ∙ ap (λ (l : List ℕ). set l (2 * i + 1) (place_of b)) ep ∙ ap₂ (put places) ea eb in
        let q : numbers' ≡ noted numbers x y = fn ∙ ap (λ (l : List ℤ). set l (2 * i + 1) (number_of vs b)) en ∙ ap₂ (noted numbers) ea eb in
        subst (λ (t : List ℕ). Filled c vs t places' numbers' n (i + 1)) (sym et)
        (subst (λ (l : List ℕ). Filled c vs (targets_put targets i (get_or c.comparisons i d).op) l numbers' n (i + 1)) (sym p)
        (subst (λ (l : List ℤ). Filled c vs (targets_put targets i (get_or c.comparisons i d).op) (put places x y) l n (i + 1)) (sym q)
        (fill-next d h)))

    -- the same of a comparison that is read from those in use
    pub fill_read : (x d : Comparison) (list : List Comparison) (a b : Operand) (targets' places₁ places' : List ℕ) (numbers₁ numbers' : List ℤ) → list ≡ take c.count c.comparisons → n ≡ length list → i < n
        → x ≡ get_or list i d → a ≡ left_side x → b ≡ right_tested x → targets' ≡ targets_put targets i x.op
        → places₁ ≡ set places (2 * i) (place_of a) → numbers₁ ≡ set numbers (2 * i) (number_of vs a)
        → places' ≡ set places₁ (2 * i + 1) (place_of b) → numbers' ≡ set numbers₁ (2 * i + 1) (number_of vs b)
        → Filled c vs targets' places' numbers' n (i + 1)
    fill_read x d list a b targets' places₁ places' numbers₁ numbers' el en h ex ea eb et =
        let k : i < c.count = omega (arith, ap length el, length-take c.count c.comparisons) in
        let q : x ≡ get_or c.comparisons i d = ex ∙ ap (λ (l : List Comparison). get_or l i d) el ∙ get_or-take c.count c.comparisons i d k in
        fill_more d a b targets' places₁ places' numbers₁ numbers' h (ea ∙ ap left_side q) (eb ∙ ap right_tested q) (et ∙ ap (λ (y : Comparison). targets_put targets i y.op) q)

    -- all are prepared, and then linked
    pub fill_done : n ≤ i → (targets' : List ℕ) (start : ℕ) → Linked (used_steps c) n targets targets' start → Prepared c vs targets' places numbers start
    fill_done h targets' start K = prepared-by c vs n places numbers F.shaped targets targets' start K (λ k under d row short. F.done k (omega arith) d row short)
