-- A condition of at most 8 comparisons has at most 18 clauses. Assumes nothing.
use mathlib.Core.Path.{◌≡◌, refl, subst}
use mathlib.Core.Bool.{Bool, true, false, not, ◌&&◌, ◌||◌}
use mathlib.Core.List.{List, [], ◌∷◌, ◌++◌}
use Prim.Native.Nat.{ℕ, ◌+◌, ◌*◌, ◌≤◌}
use native.Mathlib.Nat.{add-le-add, mul-le-mul, le_trans}
use native.Mathlib.Omega.{arith}
use lib.Dec.{leb}
use lib.ListN.{length, get_or, length-append}
use borrow.Author.Tests.{leb-true, le-leb}
use Rattle.lists.specs.Lists.{all, from}
use Rattle.lists.proofs.Bools.{and_left, and_right}
use Rattle.lists.proofs.Lists.{all_true}
use Rattle.lists.proofs.Changed.{from-has}
use Rattle.meaning.specs.Condition.{Level, Condition, compare, negate, group, alone, both, single, either, Where, always, under, comparisons, comparisons_in, clause_count, count_of}

-- the most clauses of n comparisons, n up to 8: the greatest product of numbers that sum to n
abbrev most : ℕ → ℕ
most n = get_or (1 ∷ 1 ∷ 2 ∷ 3 ∷ 4 ∷ 6 ∷ 9 ∷ 12 ∷ 18 ∷ []) n 0

-- sums and products of the table stay within it
abbrev within : ℕ → ℕ → Bool
within a b = not (leb (a + b) 8) || (leb (most a + most b) (most (a + b)) && leb (most a * most b) (most (a + b)))

table : all (λ (a : ℕ). leb (most a) 18 && all (within a) (from 1 8)) (from 1 8) ≡ true
table = refl

module _ (a : ℕ) (low : 1 ≤ a) (high : a ≤ 8) where
  row : (leb (most a) 18 && all (within a) (from 1 8)) ≡ true
  row = from-has 1 8 (all_true (λ (a : ℕ). leb (most a) 18 && all (within a) (from 1 8)) (from 1 8) table) a low (omega arith)

  most-18 : most a ≤ 18
  most-18 = leb-true (most a) 18 (and_left (leb (most a) 18) (all (within a) (from 1 8)) row)

  entry : (b : ℕ) → 1 ≤ b → a + b ≤ 8 → (leb (most a + most b) (most (a + b)) && leb (most a * most b) (most (a + b))) ≡ true
  entry b k h =
      subst (λ (t : Bool). (not t || (leb (most a + most b) (most (a + b)) && leb (most a * most b) (most (a + b)))) ≡ true) (le-leb (a + b) 8 h)
      (from-has 1 8 (all_true (within a) (from 1 8) (and_right (leb (most a) 18) (all (within a) (from 1 8)) row)) b k (omega arith))

  both-within : (b : ℕ) → 1 ≤ b → a + b ≤ 8 → (most a + most b ≤ most (a + b)) × (most a * most b ≤ most (a + b))
  both-within b k h =
      let sums = leb (most a + most b) (most (a + b)) in
      let products = leb (most a * most b) (most (a + b)) in (
        leb-true (most a + most b) (most (a + b)) (and_left sums products (entry b k h)),
        leb-true (most a * most b) (most (a + b)) (and_right sums products (entry b k h)),
      )

-- two conditions with the comparisons xs and ys, and at most x and y clauses
few-both : {A : Type 0} (xs ys : List A) (x y : ℕ) → 1 ≤ length xs → 1 ≤ length ys
    → (length xs ≤ 8 → x ≤ most (length xs)) → (length ys ≤ 8 → y ≤ most (length ys)) → length (xs ++ ys) ≤ 8
    → (x + y ≤ most (length (xs ++ ys))) × (x * y ≤ most (length (xs ++ ys)))
few-both xs ys x y a b f g h =
    let h' : length xs + length ys ≤ 8 = omega (arith, length-append xs ys) in
    let hx : x ≤ most (length xs) = f (omega arith) in
    let hy : y ≤ most (length ys) = g (omega arith) in
    let k = both-within (length xs) a (omega arith) (length ys) b h' in
    rw (length-append xs ys) (le_trans (add-le-add hx hy) k.0, le_trans (mul-le-mul hx hy) k.1)

module _ {O : Type 0} where
  some-comparison : {l : Level} (c : Condition O l) → 1 ≤ length (comparisons c)
  some-comparison (compare c) = omega arith
  some-comparison (negate c) = some-comparison c
  some-comparison (group c) = some-comparison c
  some-comparison (alone c) = some-comparison c
  some-comparison (both c d) = let h = some-comparison c in let e = length-append (comparisons c) (comparisons d) in omega arith
  some-comparison (single c) = some-comparison c
  some-comparison (either c d) = let h = some-comparison c in let e = length-append (comparisons c) (comparisons d) in omega arith

  few : {l : Level} (p : Bool) (c : Condition O l) → length (comparisons c) ≤ 8 → clause_count p c ≤ most (length (comparisons c))
  few true (compare c) h = omega arith
  few false (compare c) h = omega arith
  few true (negate c) h = few false c h
  few false (negate c) h = few true c h
  few p (group c) h = few p c h
  few p (alone c) h = few p c h
  few true (both c d) h = (few-both (comparisons c) (comparisons d) (clause_count true c) (clause_count true d) (some-comparison c) (some-comparison d) (few true c) (few true d) h).1
  few false (both c d) h = (few-both (comparisons c) (comparisons d) (clause_count false c) (clause_count false d) (some-comparison c) (some-comparison d) (few false c) (few false d) h).0
  few p (single c) h = few p c h
  few true (either c d) h = (few-both (comparisons c) (comparisons d) (clause_count true c) (clause_count true d) (some-comparison c) (some-comparison d) (few true c) (few true d) h).0
  few false (either c d) h = (few-both (comparisons c) (comparisons d) (clause_count false c) (clause_count false d) (some-comparison c) (some-comparison d) (few false c) (few false d) h).1

  -- a condition of at most 8 comparisons has at most 18 clauses
  pub few-clauses : {l : Level} (c : Condition O l) (p : Bool) → length (comparisons c) ≤ 8 → clause_count p c ≤ 18
  few-clauses c p h = le_trans (few p c h) (most-18 (length (comparisons c)) (some-comparison c) h)

  pub few-clauses_of : (w : Where O) → length (comparisons_in w) ≤ 8 → count_of w ≤ 18
  few-clauses_of always h = omega arith
  few-clauses_of (under c) h = few-clauses c true h
