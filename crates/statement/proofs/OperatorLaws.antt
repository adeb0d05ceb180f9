-- The operators by their numbers: there and back, opposites, and comparisons by the order of their sides. Assumes nothing.
use mathlib.Core.Path.{◌≡◌, refl, sym, ap, ap₂, ◌∙◌}
use mathlib.Core.Bool.{Bool, true, false, not, cond, ◌||◌}
use Prim.Native.Nat.{ℕ, zero, suc, ◌≤◌, ◌<◌}
use native.Mathlib.Omega.{arith}
use borrow.Author.Tests.{ne_eqb, lt-ltb, le-ltb, le-leb, lt-leb, ltb-true, ltb-false, eqb-true, eqb-false}
use lib.Dec.{eqb, ltb}
use lib.IntN.{ℤ, pos, negsuc}
use lib.Signed.{lt_z, le_z}
use Rattle.lists.specs.Tests.{eq_z}
use Rattle.lists.proofs.Bools.{clash}
use Rattle.meaning.specs.Operator.{Operator, eq, ne, lt, le, gt, ge, related, is_null, known, unknown, is_true, Predicate, by, is-null, is-not-null, truth, opposite}
use Rattle.statement.specs.declared.Order.TheVariants.{Less, Equal, Greater, Unknown}
use Rattle.statement.specs.Operators.{operator_number, predicate_at, predicate_number, is_null_test, opposite_of, order_of, truth_by}

-- ---- numbers

pub operator-few : (o : Operator) → operator_number o < 6
operator-few eq = omega arith
operator-few ne = omega arith
operator-few lt = omega arith
operator-few le = omega arith
operator-few gt = omega arith
operator-few ge = omega arith

pub predicate-back : (p : Predicate) → predicate_at (predicate_number p) ≡ p
predicate-back (by eq) = refl
predicate-back (by ne) = refl
predicate-back (by lt) = refl
predicate-back (by le) = refl
predicate-back (by gt) = refl
predicate-back (by ge) = refl
predicate-back is-null = refl
predicate-back is-not-null = refl

pub predicate-few : (p : Predicate) → predicate_number p < 8
predicate-few (by o) = omega (arith, operator-few o)
predicate-few is-null = omega arith
predicate-few is-not-null = omega arith

pub predicate-number : (k : ℕ) → k < 8 → predicate_number (predicate_at k) ≡ k
predicate-number zero h = refl
predicate-number (suc zero) h = refl
predicate-number (suc (suc zero)) h = refl
predicate-number (suc (suc (suc zero))) h = refl
predicate-number (suc (suc (suc (suc zero)))) h = refl
predicate-number (suc (suc (suc (suc (suc zero))))) h = refl
predicate-number (suc (suc (suc (suc (suc (suc zero)))))) h = refl
predicate-number (suc (suc (suc (suc (suc (suc (suc zero))))))) h = refl
predicate-number (suc (suc (suc (suc (suc (suc (suc (suc k)))))))) h = absurd (omega arith)

-- the array of opposites agrees with the table of rule 4
pub opposite-is : (k : ℕ) → k < 8 → predicate_at (opposite_of k) ≡ opposite (predicate_at k)
unfolding opposite_of
opposite-is zero h = refl
opposite-is (suc zero) h = refl
opposite-is (suc (suc zero)) h = refl
opposite-is (suc (suc (suc zero))) h = refl
opposite-is (suc (suc (suc (suc zero)))) h = refl
opposite-is (suc (suc (suc (suc (suc zero))))) h = refl
opposite-is (suc (suc (suc (suc (suc (suc zero)))))) h = refl
opposite-is (suc (suc (suc (suc (suc (suc (suc zero))))))) h = refl
opposite-is (suc (suc (suc (suc (suc (suc (suc (suc k)))))))) h = absurd (omega arith)

-- ---- what `truth` says of each operator

-- ---- the order of two numbers, and what each comparison says of it

data Ordered (a b : ℤ) : Type 0 where
  less : lt_z a b ≡ true → eq_z a b ≡ false → le_z a b ≡ true → lt_z b a ≡ false → le_z b a ≡ false → Ordered a b
  same : lt_z a b ≡ false → eq_z a b ≡ true → le_z a b ≡ true → lt_z b a ≡ false → le_z b a ≡ true → Ordered a b
  more : lt_z a b ≡ false → eq_z a b ≡ false → le_z a b ≡ false → lt_z b a ≡ true → le_z b a ≡ true → Ordered a b

ordered : (a b : ℤ) → Ordered a b
ordered (pos a) (negsuc b) = more refl refl refl refl refl
ordered (negsuc a) (pos b) = less refl refl refl refl refl
ordered (pos a) (pos b) = go (ltb a b) refl (eqb a b) refl
  where
    go : (l : Bool) → ltb a b ≡ l → (e : Bool) → eqb a b ≡ e → Ordered (pos a) (pos b)
    go true p e q =
        let h : a < b = ltb-true a b p in
        less p (ne_eqb a b (λ e. omega arith)) (le-leb a b (omega arith)) (le-ltb b a (omega arith)) (lt-leb b a (omega arith))
    go false p true q =
        let h : a ≡ b = eqb-true a b q in
        same p q (le-leb a b (omega arith)) (le-ltb b a (omega arith)) (le-leb b a (omega arith))
    go false p false q =
        let h : b ≤ a = ltb-false a b p in
        let d : a ≡ b → ⊥ = eqb-false a b q in
        more p q (lt-leb a b (omega arith)) (lt-ltb b a (omega arith)) (le-leb b a (omega arith))
ordered (negsuc a) (negsuc b) = go (ltb b a) refl (eqb a b) refl
  where
    go : (l : Bool) → ltb b a ≡ l → (e : Bool) → eqb a b ≡ e → Ordered (negsuc a) (negsuc b)
    go true p e q =
        let h : b < a = ltb-true b a p in
        less p (ne_eqb a b (λ e. omega arith)) (le-leb b a (omega arith)) (le-ltb a b (omega arith)) (lt-leb a b (omega arith))
    go false p true q =
        let h : a ≡ b = eqb-true a b q in
        same p q (le-leb b a (omega arith)) (le-ltb a b (omega arith)) (le-leb a b (omega arith))
    go false p false q =
        let h : a ≤ b = ltb-false b a p in
        let d : a ≡ b → ⊥ = eqb-false a b q in
        more p q (lt-leb b a (omega arith)) (lt-ltb a b (omega arith)) (le-leb a b (omega arith))

-- neither is null: a comparison by an operator is true of two numbers where it is true of their order
known-order : (o : Operator) (a b : ℤ) → truth_by (by o) (cond (lt_z a b) Less (cond (eq_z a b) Equal Greater)) ≡ related o a b
known-order o a b = go (ordered a b)
  where
    at : (l e : Bool) → lt_z a b ≡ l → eq_z a b ≡ e → truth_by (by o) (cond (lt_z a b) Less (cond (eq_z a b) Equal Greater)) ≡ truth_by (by o) (cond l Less (cond e Equal Greater))
    at l e f g = ap₂ (λ (s t : Bool). truth_by (by o) (cond s Less (cond t Equal Greater))) f g

    is-less : (o : Operator) → lt_z a b ≡ true → eq_z a b ≡ false → le_z a b ≡ true → lt_z b a ≡ false → le_z b a ≡ false → related o (pos 0) (pos 1) ≡ related o a b
    is-less eq l e m g k = sym e
    is-less ne l e m g k = sym (ap not e)
    is-less lt l e m g k = sym l
    is-less le l e m g k = sym m
    is-less gt l e m g k = sym g
    is-less ge l e m g k = sym k

    is_same : (o : Operator) → lt_z a b ≡ false → eq_z a b ≡ true → le_z a b ≡ true → lt_z b a ≡ false → le_z b a ≡ true → related o (pos 0) (pos 0) ≡ related o a b
    is_same eq l e m g k = sym e
    is_same ne l e m g k = sym (ap not e)
    is_same lt l e m g k = sym l
    is_same le l e m g k = sym m
    is_same gt l e m g k = sym g
    is_same ge l e m g k = sym k

    is-more : (o : Operator) → lt_z a b ≡ false → eq_z a b ≡ false → le_z a b ≡ false → lt_z b a ≡ true → le_z b a ≡ true → related o (pos 1) (pos 0) ≡ related o a b
    is-more eq l e m g k = sym e
    is-more ne l e m g k = sym (ap not e)
    is-more lt l e m g k = sym l
    is-more le l e m g k = sym m
    is-more gt l e m g k = sym g
    is-more ge l e m g k = sym k

    go : Ordered a b → truth_by (by o) (cond (lt_z a b) Less (cond (eq_z a b) Equal Greater)) ≡ related o a b
    go (less l e m g k) = at true false l e ∙ is-less o l e m g k
    go (same l e m g k) = at false true l e ∙ is_same o l e m g k
    go (more l e m g k) = at false false l e ∙ is-more o l e m g k

-- a comparison that is no null test is true of two numbers where it is true of their order
pub by_order : (p : Predicate) → is_null_test p ≡ false → (a b : ℤ) → truth_by p (order_of a b) ≡ truth p a b
by_order (by o) h a b = go (is_null a || is_null b) (known-order o a b)
  where
    go : (n : Bool) → truth_by (by o) (cond (lt_z a b) Less (cond (eq_z a b) Equal Greater)) ≡ related o a b
        → truth_by (by o) (cond n Unknown (cond (lt_z a b) Less (cond (eq_z a b) Equal Greater))) ≡ is_true (cond n unknown (known (related o a b)))
    go true e = refl
    go false e = e
by_order is-null h a b = clash refl h
by_order is-not-null h a b = clash refl h

-- and a null test, which looks at its left side, where it is true of the order of that side to itself
pub null_order : (p : Predicate) → is_null_test p ≡ true → (a b : ℤ) → truth_by p (order_of a a) ≡ truth p a b
null_order (by o) h a b = clash h refl
null_order is-null h a b = go (is_null a) (lt_z a a) (eq_z a a)
  where
    go : (n s t : Bool) → truth_by is-null (cond (n || n) Unknown (cond s Less (cond t Equal Greater))) ≡ n
    go true s t = refl
    go false true t = refl
    go false false true = refl
    go false false false = refl
null_order is-not-null h a b = go (is_null a) (lt_z a a) (eq_z a a)
  where
    go : (n s t : Bool) → truth_by is-not-null (cond (n || n) Unknown (cond s Less (cond t Equal Greater))) ≡ not n
    go true s t = refl
    go false true t = refl
    go false false true = refl
    go false false false = refl

-- so any comparison, with the left side on both sides of a null test
pub tested-order : (p : Predicate) (a b : ℤ) → truth_by p (order_of a (cond (is_null_test p) a b)) ≡ truth p a b
tested-order (by o) a b = by_order (by o) refl a b
tested-order is-null a b = null_order is-null refl a b
tested-order is-not-null a b = null_order is-not-null refl a b
