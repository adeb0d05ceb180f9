-- An UPDATE alters a row in a selected column exactly if the row does not hold, in some set column of the table that is selected, the number that the column is last set to.
-- Assumes nothing.
use mathlib.Core.Path.{◌≡◌, refl, sym, ap, subst, ◌∙◌}
use mathlib.Core.Bool.{Bool, true, false, not, ◌&&◌, ◌||◌, cond, true≢false, and-true}
use mathlib.Core.List.{List, [], ◌∷◌, map}
use Prim.Native.Nat.{ℕ, zero, suc, ◌≤◌, ◌<◌}
use native.Mathlib.Omega.{arith}
use lib.IntN.{ℤ, pos}
use lib.Dec.{eqb, ltb}
use lib.ListN.{length, take, set, length-set}
use lib.Seq.{get_or-set_other}
use borrow.Author.Tests.{eqb-true, eqb-false, eq-eqb, ltb-true, ltb-false}
use Rattle.lists.specs.Lists.{All, nil, cons, any, all, keep}
use Rattle.lists.specs.Tests.{eq_z, eq_list}
use Rattle.lists.proofs.Bools.{and_left, and_right, and_both, or_left, or_right, not-and, iff, clash, eq_z-same, eq_z-true}
use Rattle.lists.proofs.Lists.{All-every, All-map, All-image, All-keep, any-map, any-keep, any_same, any-implies}
use Rattle.meaning.specs.Operator.{eq, null, is_null, is_true, known, unknown, by, is-null, truth}
use Rattle.meaning.specs.Condition.{holds}
use Rattle.meaning.specs.Statement as M
use Rattle.meaning.specs.Statement.{Operand, column, value, constant}
use Rattle.meaning.specs.Meaning.{Row, cell, value_of, operand_value, assigned}
use Rattle.meaning.proofs.Exact.{found}
use Rattle.statement.specs.declared.Query.{Query}
use Rattle.statement.specs.declared.Update.{Update}
use Rattle.statement.specs.Sound.{settings_read}
use Rattle.table.specs.Rows.{selected_stored}
use Rattle.pattern.specs.Private.Literals.{Literal, wanted, falses, set_operand, holds_number, alterations}
use Rattle.pattern.proofs.Choice.{met, Proper}
use Rattle.pattern.proofs.Plain.{set-cell}

-- ---- a test of a column for a number, or for null

pub holds-number : (r : Row) (i : ℕ) (z : ℤ) → holds (operand_value r []) (holds_number i (value (constant z))) ≡ eq_z (cell r i) z
holds-number r i z = go (is_null z) refl
  where
    go : (t : Bool) → is_null z ≡ t → truth (cond t is-null (by eq)) (cell r i) z ≡ eq_z (cell r i) z
    go true e = ap (eq_z (cell r i)) (sym (eq_z-true z null e))
    go false e = other (is_null (cell r i)) refl
      where
        differ : (t : Bool) → eq_z (cell r i) z ≡ t → is_null (cell r i) ≡ true → t ≡ false
        differ true m k = clash (ap is_null (sym (eq_z-true (cell r i) z m)) ∙ k) e
        differ false m k = refl

        other : (s : Bool) → is_null (cell r i) ≡ s → is_true (cond (s || is_null z) unknown (known (eq_z (cell r i) z))) ≡ eq_z (cell r i) z
        other true k = sym (differ (eq_z (cell r i) z) refl k)
        other false k = ap (λ (t : Bool). is_true (cond t unknown (known (eq_z (cell r i) z)))) e

-- ---- a set column is set to a number

abbrev pub Constant : Operand → Type 0
Constant o = (z : ℤ) × (o ≡ value (constant z))

constant-stays : (ss : List (ℕ × M.Value)) (us : List ℤ) (i : ℕ) (o : Operand) (z : ℤ) → o ≡ value (constant z) → Constant (set_operand ss us i o)
constant-stays [] us i o z e = (z, e)
constant-stays (s ∷ ss) us i o z e =
    constant-stays ss us i (cond (eqb i s.0) (value (constant (value_of us s.1))) o) (cond (eqb i s.0) (value_of us s.1) z) (go (eqb i s.0))
  where
    go : (t : Bool) → cond t (value (constant (value_of us s.1))) o ≡ value (constant (cond t (value_of us s.1) z))
    go true = refl
    go false = e

pub settings-constant : (ss : List (ℕ × M.Value)) (us : List ℤ) → All (λ (s : ℕ × M.Value). (o : Operand) → Constant (set_operand ss us s.0 o)) ss
settings-constant [] us = nil
settings-constant (s ∷ ss) us =
    cons {x = s}
    (λ o. constant-stays ss us s.0 (cond (eqb s.0 s.0) (value (constant v)) o) v (ap (λ (t : Bool). cond t (value (constant v)) o) (eq-eqb s.0 s.0 refl)))
    (All-map (λ (t : ℕ × M.Value) f o. f (cond (eqb t.0 s.0) (value (constant v)) o)) (settings-constant ss us))
  where
    v : ℤ
    v = value_of us s.1

-- ---- a column that is not set stays, and so does one past the row

set_past : (l : Row) (k : ℕ) (v : ℤ) → length l ≤ k → set l k v ≡ l
set_past [] k v h = refl
set_past (y ∷ l) zero v h = absurd (omega arith)
set_past (y ∷ l) (suc k) v h = ap (λ (m : Row). y ∷ m) (set_past l k v (omega arith))

stays : (n : ℕ) (us : List ℤ) (i : ℕ) (ss : List (ℕ × M.Value)) (a : Row) → length a ≡ n → any (λ (s : ℕ × M.Value). ltb s.0 n && eqb s.0 i) ss ≡ false
    → cell (assigned ss us a) i ≡ cell a i
stays n us i [] a l h = refl
stays n us i (s ∷ ss) a l h =
    stays n us i ss (set a s.0 v) (length-set a s.0 v ∙ l) (or_right (ltb s.0 n && eqb s.0 i) (any (λ (s : ℕ × M.Value). ltb s.0 n && eqb s.0 i) ss) h)
    ∙ go (ltb s.0 n) (eqb s.0 i) refl refl (or_left (ltb s.0 n && eqb s.0 i) (any (λ (s : ℕ × M.Value). ltb s.0 n && eqb s.0 i) ss) h)
  where
    v : ℤ
    v = value_of us s.1

    go : (x y : Bool) → ltb s.0 n ≡ x → eqb s.0 i ≡ y → (x && y) ≡ false → cell (set a s.0 v) i ≡ cell a i
    go true true e f k = absurd (true≢false k)
    go true false e f k = get_or-set_other a s.0 i v (pos 0) (λ p. eqb-false s.0 i f (sym p))
    go false y e f k = ap (λ (b : Row). cell b i) (set_past a s.0 v (subst (λ (m : ℕ). m ≤ s.0) (sym l) (ltb-false s.0 n e)))

-- ---- some selected column differs

abbrev differs_at : Row → Row → ℕ → Bool
differs_at r s i = not (eq_z (cell r i) (cell s i))

selected-differ : (r s : Row) (is : List ℕ) → not (eq_list eq_z (map (cell r) is) (map (cell s) is)) ≡ any (differs_at r s) is
selected-differ r s [] = refl
selected-differ r s (i ∷ is) =
    sym (not-and (eq_z (cell r i) (cell s i)) (eq_list eq_z (map (cell r) is) (map (cell s) is)))
    ∙ ap (λ (t : Bool). differs_at r s i || t) (selected-differ r s is)

-- each number of a list is among them
among_self : (is : List ℕ) → All (λ (i : ℕ). any (eqb i) is ≡ true) is
among_self [] = nil
among_self (i ∷ is) = cons (ap (λ (t : Bool). t || any (eqb i) is) (eq-eqb i i refl)) (All-map (λ j h. late (eqb j i) (any (eqb j) is) h) (among_self is))
  where
    late : (x y : Bool) → y ≡ true → (x || y) ≡ true
    late true y h = refl
    late false y h = h

module _ (n : ℕ) (ss : List (ℕ × M.Value)) (us : List ℤ) (is : List ℕ) (r : Row) (long : length r ≡ n) where
  abbrev after : Row
  after = assigned ss us r

  -- a set column of the table that is selected
  abbrev chosen : ℕ × M.Value → Bool
  chosen s = ltb s.0 n && any (eqb s.0) is

  abbrev told : ℕ × M.Value → List Literal
  told s = falses (holds_number s.0 (set_operand ss us s.0 (column s.0)) ∷ [])

  -- it differs exactly if the row does not hold its number
  number_at : (i : ℕ) → i < n → Constant (set_operand ss us i (column i)) → holds (operand_value r []) (holds_number i (set_operand ss us i (column i))) ≡ eq_z (cell r i) (cell after i)
  number_at i h (z, e) =
      ap (λ (o : Operand). holds (operand_value r []) (holds_number i o)) e
      ∙ holds-number r i z
      ∙ ap (eq_z (cell r i)) (sym (ap (operand_value r []) e) ∙ set-cell ss us r r i (column i) (subst (λ (m : ℕ). i < m) (sym long) h) refl)

  told_at : (s : ℕ × M.Value) → ((o : Operand) → Constant (set_operand ss us s.0 o)) → (chosen s && all (met r) (told s)) ≡ (chosen s && differs_at r after s.0)
  told_at s f = go (ltb s.0 n) refl
    where
      go : (t : Bool) → ltb s.0 n ≡ t → ((t && any (eqb s.0) is) && all (met r) (told s)) ≡ ((t && any (eqb s.0) is) && differs_at r after s.0)
      go true e =
          ap (λ (t : Bool). any (eqb s.0) is && t)
          (and-true (not (holds (operand_value r []) (holds_number s.0 (set_operand ss us s.0 (column s.0)))))
          ∙ ap not (number_at s.0 (ltb-true s.0 n e) (f (column s.0))))
      go false e = refl

  -- a setting of a selected column that alters it
  some-chosen : any (λ (s : ℕ × M.Value). chosen s && differs_at r after s.0) ss ≡ any (differs_at r after) is
  some-chosen = iff (any p ss) (any (differs_at r after) is) there back
    where
      p : ℕ × M.Value → Bool
      p s = chosen s && differs_at r after s.0

      there : any p ss ≡ true → any (differs_at r after) is ≡ true
      there k = go (found {P = λ s. Unit {0}} p ss (All-every (λ s. tt) ss) k)
        where
          go : (s : ℕ × M.Value) × Unit {0} × (p s ≡ true) → any (differs_at r after) is ≡ true
          go (s, t, e) =
              any-implies (eqb s.0) (differs_at r after)
              (λ i m. subst (λ (j : ℕ). differs_at r after j ≡ true) (eqb-true s.0 i m) (and_right (chosen s) (differs_at r after s.0) e)) is
              (and_right (ltb s.0 n) (any (eqb s.0) is) (and_left (chosen s) (differs_at r after s.0) e))

      -- it is set
      sets : (i : ℕ) → differs_at r after i ≡ true → any (λ (s : ℕ × M.Value). ltb s.0 n && eqb s.0 i) ss ≡ true
      sets i d = go (any (λ (s : ℕ × M.Value). ltb s.0 n && eqb s.0 i) ss) refl
        where
          go : (t : Bool) → any (λ (s : ℕ × M.Value). ltb s.0 n && eqb s.0 i) ss ≡ t → t ≡ true
          go true e = refl
          go false e = clash d (ap (λ (x : ℤ). not (eq_z (cell r i) x)) (stays n us i ss r long e) ∙ ap not (eq_z-same (cell r i)))

      back : any (differs_at r after) is ≡ true → any p ss ≡ true
      back k = go (found (differs_at r after) is (among_self is) k)
        where
          go : (i : ℕ) × (any (eqb i) is ≡ true) × (differs_at r after i ≡ true) → any p ss ≡ true
          go (i, a, d) = any-implies (λ (s : ℕ × M.Value). ltb s.0 n && eqb s.0 i) p one ss (sets i d)
            where
              one : (s : ℕ × M.Value) → (ltb s.0 n && eqb s.0 i) ≡ true → p s ≡ true
              one s m =
                  let e = sym (eqb-true s.0 i (and_right (ltb s.0 n) (eqb s.0 i) m)) in
                  and_both (chosen s) (differs_at r after s.0)
                  (and_both (ltb s.0 n) (any (eqb s.0) is) (and_left (ltb s.0 n) (eqb s.0 i) m) (subst (λ (j : ℕ). any (eqb j) is ≡ true) e a))
                  (subst (λ (j : ℕ). differs_at r after j ≡ true) e d)

  told-differ : any (all (met r)) (map told (keep chosen ss)) ≡ not (eq_list eq_z (map (cell r) is) (map (cell after) is))
  told-differ =
      any-map told (all (met r)) (keep chosen ss)
      ∙ any-keep chosen (λ (s : ℕ × M.Value). all (met r) (told s)) ss
      ∙ any_same (All-map told_at (settings-constant ss us))
      ∙ some-chosen
      ∙ sym (selected-differ r after is)

-- ---- "alters in a selected column"

pub alters : (n : ℕ) (q : Query) (u : Update) (us : List ℤ) (r : Row) → length r ≡ n
    → any (all (met r)) (alterations n q u us) ≡ not (eq_list eq_z (selected_stored q r) (selected_stored q (assigned (settings_read u) us r)))
alters n q u us r long = told-differ n (settings_read u) us (take q.count q.selected) r long

-- each is a literal on a column of the table
pub alterations-proper : (n : ℕ) (q : Query) (u : Update) (us : List ℤ) → All (All (Proper n)) (alterations n q u us)
alterations-proper n q u us =
    All-image (λ (s : ℕ × M.Value). falses (holds_number s.0 (set_operand ss us s.0 (column s.0)) ∷ []))
    (All-keep (λ (s : ℕ × M.Value). ltb s.0 n && any (eqb s.0) is)
    (λ (s : ℕ × M.Value) f e. cons (one s.0 (and_left (ltb s.0 n) (any (eqb s.0) is) e) (f (column s.0))) nil) (settings-constant ss us))
  where
    ss : List (ℕ × M.Value)
    ss = settings_read u

    is : List ℕ
    is = take q.count q.selected

    number : (i : ℕ) (z : ℤ) → i < n → (t : Bool) → Proper n (wanted false (record { left = column i; op = cond t is-null (by eq); right = value (constant z) }))
    number i z h true = record { separate = refl; inside = h }
    number i z h false = record { separate = refl; inside = h }

    one : (i : ℕ) → ltb i n ≡ true → Constant (set_operand ss us i (column i)) → Proper n (wanted false (holds_number i (set_operand ss us i (column i))))
    one i h (z, e) = subst (λ (o : Operand). Proper n (wanted false (holds_number i o))) (sym e) (number i z (ltb-true i n h) (is_null z))
