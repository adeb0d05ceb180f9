-- A literal with a number in a column, and the numbers that are tried for a column, by the numbers of sides: what module `literals` finds is what is said of the literals.
-- Assumes nothing.
use Rattle.std.specs.Prelude.{Some, None}
use mathlib.Core.Path.{◌≡◌, refl, sym, ap, ap₂, ◌∙◌}
use mathlib.Core.Logic.{◌≢◌, inl, inr}
use mathlib.Core.Bool.{Bool, beq, true, false, not, ◌&&◌, ◌||◌, cond, and-true, or-false, true≢false, false≢true}
use mathlib.Core.List.{List, [], ◌∷◌, ◌++◌, map}
use Prim.Native.Nat.{ℕ, zero, suc, ◌+◌, ◌-◌, ◌≤◌, ◌<◌}
use native.Mathlib.Numerals.{add-one}
use native.Mathlib.Omega.{arith}
use lib.Dec.{eqb, leb, ltb}
use lib.IntN.{ℤ, pos, negsuc, suc_ℤ}
use borrow.Author.Tests.{eqb-true, eqb-false, leb-true, leb-false, ltb-true, ltb-false, lt-ltb, le-ltb, lt-leb, le-leb, eq-eqb, ne_eqb}
use Rattle.std.specs.List.{range_with_len}
use Rattle.lists.specs.Lists.{All, any, all, cons_if, keep, flat, from}
use Rattle.lists.proofs.Bools.{and_left, and_right, not-true}
use Rattle.lists.proofs.Lists.{All-head, All-tail, any_append, any-map, keep_append, map-append}
use Rattle.meaning.specs.Operator.{null, Predicate, by, is-null, is-not-null, truth}
use Rattle.meaning.specs.Condition.{Comparison, holds}
use Rattle.meaning.specs.Limits.{is_within32}
use Rattle.meaning.specs.Statement.{Operand, column, value, constant}
use Rattle.meaning.specs.Exact.{compares_columns, with_columns}
use Rattle.statement.specs.Operators.{predicate_at, is_null_test}
use Rattle.pattern.specs.Private.Least.{marks_from, columns_from, rename_code, code_constant}
use Rattle.pattern.specs.Private.Literals.{Literal, agree, wanted, column_by, is_other, at_value, fits_at, number_beside, with_next, column_possible, possible, operand_of_code, IsSide}
use Rattle.pattern.specs.declared.labels.Compared.{Compared}
use Rattle.pattern.specs.Private.Deciding as Deciding
use Rattle.pattern.specs.Private.Deciding.{fits_code, other_code, all_fit, number_fits, some_number, beside_fits, column_fits, tests_of, possible_code, literal, trues_of, literal_read, Sound}

-- the constant of a number below 2 to the 32
abbrev constant_by : Bool → ℕ → ℤ
constant_by b n = cond b (negsuc (2147483648 - suc n)) (pos (n - 2147483648))

-- the constant of a side, if it is one
abbrev if_constant : ℕ → List ℤ
if_constant x = cond (ltb x marks_from) (code_constant x ∷ []) []

-- ---- a literal with a number in column i

-- an operand is another column
abbrev pub is_else : ℕ → Operand → Bool
is_else i (column j) = not (eqb i j)
is_else i (value v) = false

module _ (i : ℕ) where
  left_other : (p : Predicate) (a b : Operand) → is_else i a ≡ true → is_other i (column_by p a b) ≡ true
  left_other (by o) (column j) b e = e
  left_other (by o) (value v) b e = absurd (false≢true e)
  left_other is-null (column j) b e = e
  left_other is-null (value v) b e = absurd (false≢true e)
  left_other is-not-null (column j) b e = e
  left_other is-not-null (value v) b e = absurd (false≢true e)

  right-other : (p : Predicate) (a b : Operand) → is_null_test p ≡ false → compares_columns p a b ≡ false → is_else i b ≡ true → is_other i (column_by p a b) ≡ true
  right-other (by o) (column j) (column k) n s e = absurd (true≢false s)
  right-other (by o) (column j) (value w) n s e = absurd (false≢true e)
  right-other (by o) (value v) (column k) n s e = e
  right-other (by o) (value v) (value w) n s e = absurd (false≢true e)
  right-other is-null a b n s e = absurd (true≢false n)
  right-other is-not-null a b n s e = absurd (true≢false n)

  none_other : (p : Predicate) (a b : Operand) → is_else i a ≡ false → (is_null_test p ≡ false → is_else i b ≡ false) → is_other i (column_by p a b) ≡ false
  none_other (by o) (column j) b e f = e
  none_other (by o) (value v) (column k) e f = f refl
  none_other (by o) (value v) (value w) e f = refl
  none_other is-null (column j) b e f = e
  none_other is-null (value v) b e f = refl
  none_other is-not-null (column j) b e f = e
  none_other is-not-null (value v) b e f = refl

agree_same : (r want : Bool) → beq r want ≡ agree want r
agree_same true true = refl
agree_same true false = refl
agree_same false true = refl
agree_same false false = refl

-- a null test looks at its left side alone
truth-right : (p : Predicate) (x y z : ℤ) → (is_null_test p ≡ false → y ≡ z) → truth p x y ≡ truth p x z
truth-right (by o) x y z f = ap (truth (by o) x) (f refl)
truth-right is-null x y z f = refl
truth-right is-not-null x y z f = refl

-- a side with the constant w in a column
abbrev held_as : ℕ → ℕ → ℕ → ℕ
held_as x col w = rename_code col w x

constant-operand : (x : ℕ) → x < marks_from → operand_of_code x ≡ value (constant (code_constant x))
constant-operand x h = ap (λ (b : Bool). cond b (value (constant (code_constant x))) (column (x - columns_from))) (lt-ltb x marks_from h)

column-operand : (x : ℕ) → marks_from ≤ x → operand_of_code x ≡ column (x - columns_from)
column-operand x h = ap (λ (b : Bool). cond b (value (constant (code_constant x))) (column (x - columns_from))) (le-ltb x marks_from h)

module _ (col : ℕ) (there : columns_from ≤ col) where
  other-column : (x : ℕ) → IsSide x → marks_from ≤ x → x ≢ col → eqb (col - columns_from) (x - columns_from) ≡ false
  other-column x (inl l) h n = absurd (omega arith)
  other-column x (inr l) h n = ne_eqb (col - columns_from) (x - columns_from) (λ e. n (omega arith))

  same-column : (x : ℕ) → x ≡ col → eqb (col - columns_from) (x - columns_from) ≡ true
  same-column x e = eq-eqb (col - columns_from) (x - columns_from) (omega arith)

  module _ (w : ℕ) (small : w < marks_from) where
    -- what a side holds that is then a constant, and no other column
    held-constant : (x : ℕ) → held_as x col w < marks_from
        → (at_value (code_constant w) (operand_of_code x) ≡ code_constant (held_as x col w)) × (is_else (col - columns_from) (operand_of_code x) ≡ false)
    held-constant x h = go (eqb x col) refl h
      where
        go : (b : Bool) → eqb x col ≡ b → cond b w x < marks_from
            → (at_value (code_constant w) (operand_of_code x) ≡ code_constant (cond b w x)) × (is_else (col - columns_from) (operand_of_code x) ≡ false)
        go true e h =
            let q = eqb-true x col e in
            let o = column-operand x (omega arith) in
            (ap (at_value (code_constant w)) o, ap (is_else (col - columns_from)) o ∙ ap not (same-column x q))
        go false e h = let o = constant-operand x h in (ap (at_value (code_constant w)) o, ap (is_else (col - columns_from)) o)

    -- a side that is then no constant is another column
    held-other : (x : ℕ) → IsSide x → marks_from ≤ held_as x col w → is_else (col - columns_from) (operand_of_code x) ≡ true
    held-other x s h = go (eqb x col) refl h
      where
        go : (b : Bool) → eqb x col ≡ b → marks_from ≤ cond b w x → is_else (col - columns_from) (operand_of_code x) ≡ true
        go true e h = absurd (omega arith)
        go false e h = ap (is_else (col - columns_from)) (column-operand x h) ∙ ap not (other-column x s h (eqb-false x col e))

    module _ (op a b : ℕ) (want : Bool) (sa : IsSide a) (sb : IsSide b) where
      abbrev test : Comparison Operand
      test = record { left = operand_of_code a; op = predicate_at op; right = operand_of_code b }

      abbrev met : Bool
      met = agree want (holds (at_value (code_constant w)) test)

      abbrev x : ℕ
      x = held_as a col w

      abbrev y : ℕ
      y = held_as b col w

      abbrev nulls : Bool
      nulls = is_null_test (predicate_at op)

      abbrev own : Bool
      own = beq (truth (predicate_at op) (code_constant x) (code_constant y)) want

      fits-left : marks_from ≤ x → true ≡ fits_at (col - columns_from) (code_constant w) (wanted want test)
      fits-left h = sym (ap (λ (c : Bool). c || met) (left_other (col - columns_from) (predicate_at op) (operand_of_code a) (operand_of_code b) (held-other a sa h)))

      fits-right : with_columns test ≡ false → (leb marks_from y && not nulls) ≡ true → true ≡ fits_at (col - columns_from) (code_constant w) (wanted want test)
      fits-right k h =
          let l : marks_from ≤ y = leb-true marks_from y (and_left (leb marks_from y) (not nulls) h) in
          let n : nulls ≡ false = not-true nulls (and_right (leb marks_from y) (not nulls) h) in
          sym (ap (λ (c : Bool). c || met) (right-other (col - columns_from) (predicate_at op) (operand_of_code a) (operand_of_code b) n k (held-other b sb l)))

      fits-own : x < marks_from → (leb marks_from y && not nulls) ≡ false → own ≡ fits_at (col - columns_from) (code_constant w) (wanted want test)
      fits-own hx hy =
          let X = held-constant a hx in
          let small-right : nulls ≡ false → y < marks_from =
          λ n. leb-false marks_from y (sym (and-true (leb marks_from y)) ∙ ap (λ (c : Bool). leb marks_from y && not c) (sym n) ∙ hy) in
          agree_same (truth (predicate_at op) (code_constant x) (code_constant y)) want
          ∙ ap (agree want)
          (ap (λ (z : ℤ). truth (predicate_at op) z (code_constant y)) (sym X.0)
          ∙ truth-right (predicate_at op) (at_value (code_constant w) (operand_of_code a)) (code_constant y) (at_value (code_constant w) (operand_of_code b))
          (λ n. sym (held-constant b (small-right n)).0))
          ∙ sym (ap (λ (c : Bool). c || met) (none_other (col - columns_from) (predicate_at op) (operand_of_code a) (operand_of_code b) X.1 (λ n. (held-constant b (small-right n)).1)))

      fits-by : with_columns test ≡ false → ((leb marks_from x || (leb marks_from y && not nulls)) || own) ≡ fits_at (col - columns_from) (code_constant w) (wanted want test)
      fits-by k = go (leb marks_from x) (leb marks_from y && not nulls) refl refl
        where
          go : (s t : Bool) → leb marks_from x ≡ s → (leb marks_from y && not nulls) ≡ t → ((s || t) || own) ≡ fits_at (col - columns_from) (code_constant w) (wanted want test)
          go true t e f = fits-left (leb-true marks_from x e)
          go false true e f = fits-right k f
          go false false e f = fits-own (leb-false marks_from x e) f

    -- with the constant w in the column a literal is met as its comparison is
    fits-is : (l : Deciding.Literal) → Sound l → fits_code col w l ≡ fits_at (col - columns_from) (code_constant w) (literal_read l)
    fits-is l S = fits-by l.test.op l.test.left l.test.right l.want S.sides.0 S.sides.1 S.apart

    all-fit : (ls : List Deciding.Literal) → All Sound ls → all_fit ls col w ≡ all (fits_at (col - columns_from) (code_constant w)) (map literal_read ls)
    all-fit [] h = refl
    all-fit (l ∷ ls) h = ap₂ ◌&&◌ (fits-is l (All-head h)) (all-fit ls (All-tail h))

  -- ---- the number beside the column

  module _ (a b : ℕ) where
    pub beside-left : a ≡ col → if_constant b ≡ number_beside (col - columns_from) (operand_of_code a) (operand_of_code b)
    beside-left e = go (ltb b marks_from) ∙ ap (λ (o : Operand). number_beside (col - columns_from) o (operand_of_code b)) (sym (column-operand a (omega arith)))
      where
        go : (t : Bool) → cond t (code_constant b ∷ []) []
            ≡ number_beside (col - columns_from) (column (a - columns_from)) (cond t (value (constant (code_constant b))) (column (b - columns_from)))
        go true = sym (ap (λ (s : Bool). cond s (code_constant b ∷ []) []) (same-column a e))
        go false = refl

    pub beside-right : b ≡ col → if_constant a ≡ number_beside (col - columns_from) (operand_of_code a) (operand_of_code b)
    beside-right e = go (ltb a marks_from) ∙ ap (number_beside (col - columns_from) (operand_of_code a)) (sym (column-operand b (omega arith)))
      where
        go : (t : Bool) → cond t (code_constant a ∷ []) []
            ≡ number_beside (col - columns_from) (cond t (value (constant (code_constant a))) (column (a - columns_from))) (column (b - columns_from))
        go true = sym (ap (λ (s : Bool). cond s (code_constant a ∷ []) []) (same-column b e))
        go false = refl

    pub beside_none : IsSide a → IsSide b → a ≢ col → b ≢ col → [] ≡ number_beside (col - columns_from) (operand_of_code a) (operand_of_code b)
    beside_none s t m n = go (ltb a marks_from) (ltb b marks_from) refl refl
      where
        go : (x y : Bool) → ltb a marks_from ≡ x → ltb b marks_from ≡ y
            → [] ≡ number_beside (col - columns_from) (cond x (value (constant (code_constant a))) (column (a - columns_from)))
            (cond y (value (constant (code_constant b))) (column (b - columns_from)))
        go true true e f = refl
        go true false e f = sym (ap (λ (s : Bool). cond s (code_constant a ∷ []) []) (other-column b t (ltb-false b marks_from f) n))
        go false true e f = sym (ap (λ (s : Bool). cond s (code_constant b ∷ []) []) (other-column a s (ltb-false a marks_from e) m))
        go false false e f = refl

-- ---- a constant and the next one

next-code : (x : ℕ) → suc_ℤ (code_constant x) ≡ code_constant (x + 1)
next-code x = go (ltb x 2147483648) (ltb (x + 1) 2147483648) refl refl
  where
    go : (s t : Bool) → ltb x 2147483648 ≡ s → ltb (x + 1) 2147483648 ≡ t → suc_ℤ (constant_by s x) ≡ constant_by t (x + 1)
    go true true e f =
        let l = ltb-true (x + 1) 2147483648 f in
        let m : 2147483648 - suc x ≡ suc (2147483648 - suc (x + 1)) = omega arith in
        ap (λ (k : ℕ). suc_ℤ (negsuc k)) m
    go true false e f =
        let h = ltb-true x 2147483648 e in
        let l = ltb-false (x + 1) 2147483648 f in
        let m : 2147483648 - suc x ≡ 0 = omega arith in
        let z : 0 ≡ x + 1 - 2147483648 = omega arith in
        ap (λ (k : ℕ). suc_ℤ (negsuc k)) m ∙ ap pos z
    go false true e f = let h = ltb-false x 2147483648 e in let l = ltb-true (x + 1) 2147483648 f in absurd (omega arith)
    go false false e f = let h = ltb-false x 2147483648 e in let m : suc (x - 2147483648) ≡ x + 1 - 2147483648 = omega arith in ap pos m

constant-within : (x : ℕ) → x < marks_from → is_within32 (code_constant x) ≡ true
constant-within x h = go (ltb x 2147483648) refl
  where
    go : (b : Bool) → ltb x 2147483648 ≡ b → is_within32 (constant_by b x) ≡ true
    go true e = ap (λ (t : Bool). t && true) (le-leb (2147483648 - suc x) 2147483647 (omega arith))
    go false e = le-leb (x - 2147483648) 2147483647 (omega arith)

constant-beyond : (x : ℕ) → marks_from ≤ x → is_within32 (code_constant x) ≡ false
constant-beyond x h =
    ap (λ (b : Bool). is_within32 (constant_by b x)) (le-ltb x 2147483648 (omega arith)) ∙ lt-leb (x - 2147483648) 2147483647 (omega arith)

-- the constant and the next one, if it is one
tries : (q : ℤ → Bool) (x : ℕ) → x < marks_from
    → (q (code_constant x) || (ltb x 4294967295 && q (code_constant (x + 1)))) ≡ any q (keep is_within32 (with_next (code_constant x ∷ [])))
tries q x h =
    go (ltb x 4294967295) refl
    ∙ ap (λ (z : ℤ). q (code_constant x) || any q (keep is_within32 (z ∷ []))) (sym (next-code x))
    ∙ ap (λ (t : Bool). any q (cons_if t (code_constant x) (keep is_within32 (suc_ℤ (code_constant x) ∷ [])))) (sym (constant-within x h))
  where
    go : (b : Bool) → ltb x 4294967295 ≡ b
        → (q (code_constant x) || (b && q (code_constant (x + 1)))) ≡ (q (code_constant x) || any q (keep is_within32 (code_constant (x + 1) ∷ [])))
    go true e =
        let l = ltb-true x 4294967295 e in
        ap (λ (t : Bool). q (code_constant x) || t)
        (sym (or-false (q (code_constant (x + 1)))) ∙ ap (λ (t : Bool). any q (cons_if t (code_constant (x + 1)) [])) (sym (constant-within (x + 1) (omega arith))))
    go false e =
        let l = ltb-false x 4294967295 e in
        ap (λ (t : Bool). q (code_constant x) || any q (cons_if t (code_constant (x + 1)) [])) (sym (constant-beyond (x + 1) (omega arith)))

-- ---- all numbers of a column

next-append : (a b : List ℤ) → with_next (a ++ b) ≡ with_next a ++ with_next b
next-append [] b = refl
next-append (z ∷ a) b = ap (λ (l : List ℤ). z ∷ suc_ℤ z ∷ l) (next-append a b)

-- with this number in column i the literals on it are met, and those on no column
abbrev suits : List Literal → ℕ → ℤ → Bool
suits ls i w = all (fits_at i w) ls

module _ (ls : List Literal) (i : ℕ) where
  -- the number that a literal compares the column with, or the next one, does so
  abbrev suits_beside : Literal → Bool
  suits_beside l = any (suits ls i) (keep is_within32 (with_next (number_beside i l.test.left l.test.right)))

  beside-all : (ms : List Literal)
      → any (suits ls i) (keep is_within32 (with_next (flat (map (λ (l : Literal). number_beside i l.test.left l.test.right) ms)))) ≡ any suits_beside ms
  beside-all [] = refl
  beside-all (m ∷ ms) =
      let one = number_beside i m.test.left m.test.right in
      let rest = flat (map (λ (l : Literal). number_beside i l.test.left l.test.right) ms) in
      ap (λ (zs : List ℤ). any (suits ls i) (keep is_within32 zs)) (next-append one rest)
      ∙ ap (any (suits ls i)) (keep_append is_within32 (with_next one) (with_next rest))
      ∙ any_append (suits ls i) (keep is_within32 (with_next one)) (keep is_within32 (with_next rest))
      ∙ ap (λ (b : Bool). suits_beside m || b) (beside-all ms)

  column-parts : column_possible ls i ≡ (any (suits ls i) (null ∷ suc_ℤ null ∷ []) || any suits_beside ls)
  column-parts =
      any_append (suits ls i) (null ∷ suc_ℤ null ∷ []) (keep is_within32 (with_next (flat (map (λ (l : Literal). number_beside i l.test.left l.test.right) ls))))
      ∙ ap (λ (b : Bool). any (suits ls i) (null ∷ suc_ℤ null ∷ []) || b) (beside-all ls)

-- ---- a column, by its number

module _ (ls : List Deciding.Literal) (h : All Sound ls) (col : ℕ) (there : columns_from ≤ col) where
  abbrev said : List Literal
  said = map literal_read ls

  abbrev i : ℕ
  i = col - columns_from

  number-is : (w : ℕ) → w < marks_from → number_fits ls col w ≡ any (suits said i) (keep is_within32 (with_next (code_constant w ∷ [])))
  number-is w k =
      ap₂ ◌||◌ (all-fit col there w k ls h) (go (ltb w 4294967295) refl)
      ∙ tries (suits said i) w k
    where
      go : (b : Bool) → ltb w 4294967295 ≡ b → (b && all_fit ls col (w + 1)) ≡ (b && suits said i (code_constant (w + 1)))
      go true e = let l = ltb-true w 4294967295 e in all-fit col there (w + 1) (omega arith) ls h
      go false e = refl

  beside-code : (x : ℕ) → some_number ls col (cond (ltb x marks_from) (Some x) None) ≡ any (suits said i) (keep is_within32 (with_next (if_constant x)))
  beside-code x = go (ltb x marks_from) refl
    where
      go : (b : Bool) → ltb x marks_from ≡ b
          → some_number ls col (cond b (Some x) None) ≡ any (suits said i) (keep is_within32 (with_next (cond b (code_constant x ∷ []) [])))
      go true e = number-is x (ltb-true x marks_from e)
      go false e = refl

  other-is : (l : Deciding.Literal) → Sound l → if_constant (other_code col l.test) ≡ number_beside i (operand_of_code l.test.left) (operand_of_code l.test.right)
  other-is l S = go (eqb l.test.left col) (eqb l.test.right col) refl refl
    where
      go : (s t : Bool) → eqb l.test.left col ≡ s → eqb l.test.right col ≡ t
          → if_constant (cond s l.test.right (cond t l.test.left col)) ≡ number_beside i (operand_of_code l.test.left) (operand_of_code l.test.right)
      go true t e f = beside-left col there l.test.left l.test.right (eqb-true l.test.left col e)
      go false true e f = beside-right col there l.test.left l.test.right (eqb-true l.test.right col f)
      go false false e f =
          ap (λ (b : Bool). cond b (code_constant col ∷ []) []) (le-ltb col marks_from (omega arith))
          ∙ beside_none col there l.test.left l.test.right S.sides.0 S.sides.1 (eqb-false l.test.left col e) (eqb-false l.test.right col f)

  some-beside : (ms : List Deciding.Literal) → All Sound ms → any (λ (l : Deciding.Literal). beside_fits ls col l.test) ms ≡ any (suits_beside said i) (map literal_read ms)
  some-beside [] k = refl
  some-beside (m ∷ ms) k =
      ap₂ ◌||◌
      (beside-code (other_code col m.test) ∙ ap (λ (zs : List ℤ). any (suits said i) (keep is_within32 (with_next zs))) (other-is m (All-head k)))
      (some-beside ms (All-tail k))

  column-is : column_fits ls (tests_of ls) col ≡ column_possible said i
  column-is = ap₂ ◌||◌ (number-is 0 (omega arith)) (any-map (λ (l : Deciding.Literal). l.test) (beside_fits ls col) ls ∙ some-beside ls h) ∙ sym (column-parts said i)

-- ---- all columns

-- the numbers of a range
pub range-from : (a n : ℕ) → range_with_len a n ≡ from a n
range-from a zero = refl
range-from a (suc n) = ap (λ (l : List ℕ). a ∷ l) (ap (λ (k : ℕ). range_with_len k n) (add-one a) ∙ range-from (suc a) n)

-- the comparisons of three lists of literals
tests-made : (want : Bool) (cs : List Compared) → tests_of (map (literal want) cs) ≡ cs
tests-made want [] = refl
tests-made want (c ∷ cs) = ap (λ (r : List Compared). c ∷ r) (tests-made want cs)

pub tests-three : (a b c : List Compared) (want : Bool) → tests_of (trues_of a ++ (trues_of b ++ map (literal want) c)) ≡ a ++ (b ++ c)
tests-three a b c want =
    map-append (λ (l : Deciding.Literal). l.test) (trues_of a) (trues_of b ++ map (literal want) c)
    ∙ ap₂ (λ (x y : List Compared). x ++ y) (tests-made true a)
    (map-append (λ (l : Deciding.Literal). l.test) (trues_of b) (map (literal want) c) ∙ ap₂ (λ (x y : List Compared). x ++ y) (tests-made true b) (tests-made want c))

module _ {A : Type 0} (p q : A → Bool) (f : (x : A) → p x ≡ q x) where
  all-same : (xs : List A) → all p xs ≡ all q xs
  all-same [] = refl
  all-same (x ∷ xs) = ap₂ ◌&&◌ (f x) (all-same xs)

-- what the code finds of literals is what is said of them
pub possible-read : (width : ℕ) (ls : List Deciding.Literal) → All Sound ls → possible_code width ls ≡ possible width (map literal_read ls)
unfolding possible possible_code
possible-read width ls h =
    all-same (λ (i : ℕ). column_fits ls (tests_of ls) (columns_from + i)) (column_possible (map literal_read ls))
    (λ i.
    let e : columns_from + i - columns_from ≡ i = omega arith in
    column-is ls h (columns_from + i) (omega arith) ∙ ap (column_possible (map literal_read ls)) e)
    (from 0 width)
