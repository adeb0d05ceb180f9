-- The demand of specs/Demand about question marks: those of a statement, from left to right, are 1, 2 and on, up to the number of them. Assumes nothing.
use mathlib.Core.Path.{◌≡◌, refl, sym, ap, ap₂, ◌∙◌}
use mathlib.Core.List.{List, [], ◌∷◌, ◌++◌, map, append-nil}
use Prim.Native.Nat.{ℕ, zero, suc, ◌+◌}
use native.Mathlib.Omega.{arith}
use Rattle.lists.specs.Lists.{from}
use Rattle.meaning.specs.Condition.{Comparison, Level, Condition, compare, negate, group, alone, both, single, either, comparisons, sides, Where, always, under, operands_in, mapped_in}
use Rattle.meaning.specs.Tokens.{Name}
use Rattle.meaning.specs.Grammar as G
use Rattle.meaning.specs.Grammar.{Given, mark, Term, given, comparison, items}
use Rattle.meaning.specs.Limits.{term_givens, mark_in, mark_count}
use Rattle.meaning.specs.Names.{columns_of, position, pair_place}
use Rattle.meaning.specs.Statement.{Value, constant, parameter, Operand, column, value, numbered, numbered_all, settings, mark_in_term, operand_of, comparison_of, resolved, resolved_where, setting_marks, statement_of}
use Rattle.meaning.specs.Demand.{value_marks, operand_marks, MarksNumbered}
use Rattle.meaning.proofs.Postfix.{sides-append}
use Rattle.meaning.proofs.Resolve.{term-marks}
use Rattle.meaning.proofs.Dotted.{bare-givens}

-- ---- numbers one after another, and the marks of two parts

from-same : (i j a b : ℕ) → i ≡ j → a ≡ b → from i a ≡ from j b
from-same i j a b e f = ap₂ from e f

from-append : (i a b : ℕ) → from i (a + b) ≡ from i a ++ from (i + a) b
from-append i zero b = from-same i (i + 0) (0 + b) b (omega arith) (omega arith)
from-append i (suc a) b =
    let e : suc a + b ≡ suc (a + b) = omega arith in
    let f : suc i + a ≡ i + suc a = omega arith in
    ap (from i) e ∙ ap (λ (r : List ℕ). i ∷ r) (from-append (suc i) a b ∙ ap (λ (j : ℕ). from (suc i) a ++ from j b) f)

marks-append : (xs ys : List Operand) → operand_marks (xs ++ ys) ≡ operand_marks xs ++ operand_marks ys
marks-append [] ys = refl
marks-append (column i ∷ xs) ys = marks-append xs ys
marks-append (value (constant z) ∷ xs) ys = marks-append xs ys
marks-append (value (parameter k) ∷ xs) ys = ap (λ (r : List ℕ). k ∷ r) (marks-append xs ys)

count-append : (xs ys : List Given) → mark_count (xs ++ ys) ≡ mark_count xs + mark_count ys
count-append [] ys = omega arith
count-append (v ∷ xs) ys = let h = count-append xs ys in omega arith

givens-append : {C : Type 0} → (xs ys : List (Term C)) → term_givens (xs ++ ys) ≡ term_givens xs ++ term_givens ys
givens-append [] ys = refl
givens-append (G.column n ∷ xs) ys = givens-append xs ys
givens-append (given v ∷ xs) ys = ap (λ (r : List Given). v ∷ r) (givens-append xs ys)

-- ---- one more value or operand, after m marks

no-mark : (m n : ℕ) (ks : List ℕ) → ks ≡ from (suc (m + 0)) n → ks ≡ from (suc m) (0 + n)
no-mark m n ks h = h ∙ from-same (suc (m + 0)) (suc m) n (0 + n) (omega arith) (omega arith)

a-mark : (m n : ℕ) (ks : List ℕ) → ks ≡ from (suc (m + 1)) n → suc m ∷ ks ≡ from (suc m) (1 + n)
a-mark m n ks h =
    ap (λ (r : List ℕ). suc m ∷ r) (h ∙ from-same (suc (m + 1)) (suc (suc m)) n n (omega arith) refl)
    ∙ from-same (suc m) (suc m) (suc n) (1 + n) refl (omega arith)

value-first : (m n : ℕ) (v : Given) (vs : List Value) → value_marks vs ≡ from (suc (m + mark_in v)) n → value_marks (numbered m v ∷ vs) ≡ from (suc m) (mark_in v + n)
value-first m n (G.constant z) vs h = no-mark m n (value_marks vs) h
value-first m n mark vs h = a-mark m n (value_marks vs) h

module _ {C : Type 0} (place : C → ℕ) where
  operand-first : (m n : ℕ) (t : Term C) (os : List Operand) → operand_marks os ≡ from (suc (m + mark_in_term t)) n
      → operand_marks (operand_of place m t ∷ os) ≡ from (suc m) (mark_in_term t + n)
  operand-first m n (G.column c) os h = no-mark m n (operand_marks os) h
  operand-first m n (given (G.constant z)) os h = no-mark m n (operand_marks os) h
  operand-first m n (given mark) os h = a-mark m n (operand_marks os) h

-- ---- VALUES and SET

value-marks : (m : ℕ) (vs : List Given) → value_marks (numbered_all m vs) ≡ from (suc m) (mark_count vs)
value-marks m [] = refl
value-marks m (v ∷ vs) = value-first m (mark_count vs) v (numbered_all (m + mark_in v) vs) (value-marks (m + mark_in v) vs)

set-marks : (columns : List Name) (m : ℕ) (ss : List (Name × Given))
    → value_marks (map (λ (s : ℕ × Value). s.1) (settings columns m ss)) ≡ from (suc m) (setting_marks ss)
set-marks columns m [] = refl
set-marks columns m (s ∷ ss) =
    value-first m (setting_marks ss) s.1 (map (λ (s : ℕ × Value). s.1) (settings columns (m + mark_in s.1) ss)) (set-marks columns (m + mark_in s.1) ss)

-- ---- conditions

abbrev marks_in : {C : Type 0} → List (Comparison (Term C)) → ℕ
marks_in cs = mark_count (term_givens (sides cs))

-- those of the first part, then those of the second
joined : {C : Type 0} (m : ℕ) (cs ds : List (Comparison (Term C))) (xs ys : List (Comparison Operand)) → operand_marks (sides xs) ≡ from (suc m) (marks_in cs)
    → operand_marks (sides ys) ≡ from (suc (m + marks_in cs)) (marks_in ds) → operand_marks (sides (xs ++ ys)) ≡ from (suc m) (marks_in (cs ++ ds))
joined m cs ds xs ys h k =
    let e : suc (m + marks_in cs) ≡ suc m + marks_in cs = omega arith in
    let n : marks_in (cs ++ ds) ≡ marks_in cs + marks_in ds =
    ap (λ ts. mark_count (term_givens ts)) (sides-append cs ds) ∙ ap mark_count (givens-append (sides cs) (sides ds)) ∙ count-append (term_givens (sides cs)) (term_givens (sides ds)) in
    ap operand_marks (sides-append xs ys)
    ∙ marks-append (sides xs) (sides ys)
    ∙ ap₂ ◌++◌ h (k ∙ ap (λ (j : ℕ). from j (marks_in ds)) e)
    ∙ sym (from-append (suc m) (marks_in cs) (marks_in ds))
    ∙ ap (from (suc m)) (sym n)

module _ {C : Type 0} (place : C → ℕ) where
  compared : (m : ℕ) (c : Comparison (Term C)) → operand_marks (sides (comparison_of place m c ∷ [])) ≡ from (suc m) (marks_in (c ∷ []))
  compared m c =
      let n : marks_in (c ∷ []) ≡ mark_in_term c.left + (mark_in_term c.right + 0) =
      term-marks c.left (c.right ∷ []) ∙ ap (λ (k : ℕ). mark_in_term c.left + k) (term-marks c.right []) in
      operand-first place m (mark_in_term c.right + 0) c.left (operand_of place (m + mark_in_term c.left) c.right ∷ [])
      (operand-first place (m + mark_in_term c.left) 0 c.right [] refl)
      ∙ ap (from (suc m)) (sym n)

  tested : {l : Level} (m : ℕ) (c : Condition (Term C) l) → operand_marks (sides (comparisons (resolved place m c))) ≡ from (suc m) (marks_in (comparisons c))
  tested m (compare c) = compared m c
  tested m (negate c) = tested m c
  tested m (group c) = tested m c
  tested m (alone c) = tested m c
  tested m (both c d) =
      let n : ℕ = m + marks_in (comparisons c) in
      joined m (comparisons c) (comparisons d) (comparisons (resolved place m c)) (comparisons (resolved place n d)) (tested m c) (tested n d)
  tested m (single c) = tested m c
  tested m (either c d) =
      let n : ℕ = m + marks_in (comparisons c) in
      joined m (comparisons c) (comparisons d) (comparisons (resolved place m c)) (comparisons (resolved place n d)) (tested m c) (tested n d)

  where-marks : (m : ℕ) (w : Where (Term C)) → operand_marks (operands_in (resolved_where place m w)) ≡ from (suc m) (mark_count (term_givens (operands_in w)))
  where-marks m always = refl
  where-marks m (under c) = tested m c

-- ---- statements

pub marks_numbered : MarksNumbered
unfolding statement_of
marks_numbered ts (G.table t cs ring z) = tt
marks_numbered ts (G.select cs t w) = where-marks (position (columns_of ts t)) 0 (mapped_in comparison w)
marks_numbered ts (G.pair cs t u w) =
    where-marks (pair_place t (columns_of ts t) u (columns_of ts u)) 0 (mapped_in comparison w)
    ∙ ap (λ (vs : List Given). from 1 (mark_count vs)) (sym (bare-givens (mapped_in comparison w)))
marks_numbered ts (G.insert t vs) = value-marks 0 (items vs) ∙ ap (from 1) (sym (ap mark_count (append-nil (items vs))))
marks_numbered ts (G.update t ss w) =
    let n : ℕ = setting_marks (items ss) in
    let k : ℕ = mark_count (term_givens (operands_in (mapped_in comparison w))) in
    ap₂ ◌++◌ (set-marks (columns_of ts t) 0 (items ss)) (where-marks (position (columns_of ts t)) n (mapped_in comparison w) ∙ from-same (suc n) (1 + n) k k (omega arith) refl)
    ∙ sym (from-append 1 n k)
    ∙ ap (from 1) (sym (count-append (map (λ (s : Name × Given). s.1) (items ss)) (term_givens (operands_in (mapped_in comparison w)))))
marks_numbered ts (G.delete t w) = where-marks (position (columns_of ts t)) 0 (mapped_in comparison w)
