-- The members that a mask selects: masks that share no bit, sums of masks and pairs of clauses; masks whose bits lie between two places; how many masks a
-- stack of so many comparisons has. Assumes nothing.
use mathlib.Core.Path.{◌≡◌, refl, sym, ap, ap₂, subst, ◌∙◌}
use mathlib.Core.Bool.{Bool, true, false, not, ◌&&◌, ◌||◌}
use mathlib.Core.List.{List, [], ◌∷◌, ◌++◌, map}
use Prim.Native.Nat.{ℕ, zero, suc, ◌+◌, ◌*◌, ◌^◌, ◌/◌, ◌%◌, ◌≤◌, ◌<◌}
use native.Mathlib.Nat.{pow-zero, pow-succ', mul-le-mul_left, mul_assoc, mul-add}
use native.Mathlib.Omega.{arith}
use lib.Pow.{pow-add, pow_pos, pow_mono}
use lib.Dec.{eqb, leb}
use lib.ListN.{drop, get_or}
use borrow.Author.Tests.{leb-true, le-leb}
use Rattle.lists.specs.Lists.{All, nil, cons, cons_if, all, pairs, from}
use Rattle.lists.proofs.Bools.{and_left, and_right}
use Rattle.lists.proofs.Lists.{All-map, All-append, map-append, all_true}
use Rattle.lists.proofs.Changed.{from-has}
use Rattle.pattern.specs.Private.Masks.{select, sums}

-- ---- no bit, one bit, and two masks that share no bit

pub select-none : {A : Type 0} (xs : List A) → select xs 0 ≡ []
select-none [] = refl
select-none (x ∷ xs) = select-none xs

module _ {A : Type 0} where
  select-bit : (x : A) (xs : List A) (m k h : ℕ) → m % 2 ≡ k → m / 2 ≡ h → select (x ∷ xs) m ≡ cons_if (eqb k 1) x (select xs h)
  select-bit x xs m k h e f = ap₂ (λ (i j : ℕ). cons_if (eqb i 1) x (select xs j)) e f

  pub select-one : (xs : List A) (q : ℕ) (y : A) (ys : List A) → drop q xs ≡ y ∷ ys → select xs (2 ^ q) ≡ y ∷ []
  select-one [] zero y ys e = cc
  select-one [] (suc q) y ys e = cc
  select-one (x ∷ xs) zero y ys e = let f : x ≡ y = cc in ap₂ ◌∷◌ f (select-none xs)
  select-one (x ∷ xs) (suc q) y ys e =
      let p : 2 ^ suc q ≡ 2 * 2 ^ q = pow-succ' 2 q in
      select-bit x xs (2 ^ suc q) 0 (2 ^ q) (omega arith) (omega arith) ∙ select-one xs q y ys e

  pub select-sum : (xs : List A) (q a b : ℕ) → a < 2 ^ q → select xs (a + 2 ^ q * b) ≡ select xs a ++ select xs (2 ^ q * b)
  select-sum xs zero a b h =
      let z : a ≡ 0 = omega (arith, pow-zero 2) in
      let s : a + 2 ^ zero * b ≡ 2 ^ zero * b = omega arith in
      ap (select xs) s ∙ ap (λ (l : List A). l ++ select xs (2 ^ zero * b)) (sym (ap (select xs) z ∙ select-none xs))
  select-sum [] (suc q) a b h = refl
  select-sum (x ∷ xs) (suc q) a b h =
      let p : 2 ^ suc q ≡ 2 * 2 ^ q = pow-succ' 2 q in
      let d : 2 ^ suc q * b ≡ 2 * (2 ^ q * b) = ap (λ (k : ℕ). k * b) p ∙ mul_assoc 2 (2 ^ q) b in
      let h' : a / 2 < 2 ^ q = omega arith in
      select-bit x xs (a + 2 ^ suc q * b) (a % 2) (a / 2 + 2 ^ q * b) (omega arith) (omega arith)
      ∙ ap (cons_if (eqb (a % 2) 1) x) (select-sum xs q (a / 2) b h')
      ∙ go (eqb (a % 2) 1) (select xs (a / 2)) (select xs (2 ^ q * b))
      ∙ ap (λ (l : List A). cons_if (eqb (a % 2) 1) x (select xs (a / 2)) ++ l) (sym (select-bit x xs (2 ^ suc q * b) 0 (2 ^ q * b) (omega arith) (omega arith)))
    where
      go : (t : Bool) (l r : List A) → cons_if t x (l ++ r) ≡ cons_if t x l ++ r
      go true l r = refl
      go false l r = refl

-- ---- masks whose bits lie from p on, n places

pub record Within (p n m : ℕ) : Type 0 where
  pub high : ℕ
  pub is : m ≡ 2 ^ p * high
  pub small : high < 2 ^ n

pub within-below : (p n m : ℕ) → Within p n m → m < 2 ^ (p + n)
within-below p n m w =
    let k : 2 ^ p * suc w.high ≤ 2 ^ p * 2 ^ n = mul-le-mul_left (2 ^ p) w.small in
    rw (pow-add 2 p n) (omega (arith, w.is, pow_pos p))

-- among more places: after them, before them
pub within-left : (p n k m : ℕ) → Within p n m → Within p (n + k) m
within-left p n k m w =
    let l : n ≤ n + k = omega arith in
    record { high = w.high; is = w.is; small = omega (arith, w.small, pow_mono l) }

pub within-right : (p n k m : ℕ) → Within (p + n) k m → Within p (n + k) m
within-right p n k m w = record {
  high = 2 ^ n * w.high;
  is = w.is ∙ ap (λ (x : ℕ). x * w.high) (pow-add 2 p n) ∙ mul_assoc (2 ^ p) (2 ^ n) w.high;
  small = within-below n k (2 ^ n * w.high) (record { high = w.high; is = refl; small = w.small });
}

pub within-sum : (p n k a b : ℕ) → Within p n a → Within (p + n) k b → Within p (n + k) (a + b)
unfolding within-right
within-sum p n k a b v w =
    let r : Within p (n + k) b = within-right p n k b w in
    let h : 2 ^ n * suc w.high ≤ 2 ^ n * 2 ^ k = mul-le-mul_left (2 ^ n) w.small in
    record {
      high = v.high + 2 ^ n * w.high;
      is = ap₂ ◌+◌ v.is r.is ∙ sym (mul-add (2 ^ p) v.high (2 ^ n * w.high));
      small = rw (pow-add 2 n k) (omega (arith, v.small));
    }

module _ (p n k : ℕ) where
  pub all_either : (as₁ bs : List ℕ) → All (Within p n) as₁ → All (Within (p + n) k) bs → All (Within p (n + k)) (as₁ ++ bs)
  all_either as₁ bs h l = All-append (All-map (within-left p n k) h) (All-map (within-right p n k) l)

  row_within : (a : ℕ) (bs : List ℕ) → Within p n a → All (Within (p + n) k) bs → All (Within p (n + k)) (map (λ (b : ℕ). a + b) bs)
  row_within a [] v nil = nil
  row_within a (b ∷ bs) v (cons w l) = cons (within-sum p n k a b v w) (row_within a bs v l)

  pub all_both : (as₁ bs : List ℕ) → All (Within p n) as₁ → All (Within (p + n) k) bs → All (Within p (n + k)) (sums as₁ bs)
  all_both [] bs nil l = nil
  all_both (a ∷ as₁) bs (cons v h) l = All-append (row_within a bs v l) (all_both as₁ bs h l)

-- the sums fit the width of a mask
pub sums_fit : (p n k : ℕ) (as₁ bs : List ℕ) → p + (n + k) ≤ 8 → All (Within p n) as₁ → All (Within (p + n) k) bs
    → All (λ (a : ℕ). All (λ (b : ℕ). a + b < 256) bs) as₁
sums_fit p n k as₁ bs e h l =
    All-map (λ a v. All-map (λ b w. omega (arith, within-below p (n + k) (a + b) (within-sum p n k a b v w), pow_mono e)) l) h

-- ---- OR and AND of masks are OR and AND of clauses

module _ {A : Type 0} (xs : List A) where
  pub one-clauses : (p n k a b : ℕ) → Within p n a → Within (p + n) k b → select xs (a + b) ≡ select xs a ++ select xs b
  one-clauses p n k a b v w =
      ap (λ (m : ℕ). select xs (a + m)) w.is ∙ select-sum xs (p + n) a w.high (within-below p n a v) ∙ ap (λ (m : ℕ). select xs a ++ select xs m) (sym w.is)

  row-clauses : (p n k a : ℕ) (bs : List ℕ) → Within p n a → All (Within (p + n) k) bs
      → map (select xs) (map (λ (b : ℕ). a + b) bs) ≡ map (λ (d : List A). select xs a ++ d) (map (select xs) bs)
  row-clauses p n k a [] v nil = refl
  row-clauses p n k a (b ∷ bs) v (cons w l) = ap₂ ◌∷◌ (one-clauses p n k a b v w) (row-clauses p n k a bs v l)

  pub and-clauses : (p n k : ℕ) (as₁ bs : List ℕ) → All (Within p n) as₁ → All (Within (p + n) k) bs
      → map (select xs) (sums as₁ bs) ≡ pairs (map (select xs) as₁) (map (select xs) bs)
  and-clauses p n k [] bs nil l = refl
  and-clauses p n k (a ∷ as₁) bs (cons v h) l =
      map-append (select xs) (map (λ (b : ℕ). a + b) bs) (sums as₁ bs) ∙ ap₂ ◌++◌ (row-clauses p n k a bs v l) (and-clauses p n k as₁ bs h l)

-- ---- the most clauses of n comparisons, n up to 8: the greatest product of numbers that sum to n

abbrev pub most : ℕ → ℕ
most n = get_or (0 ∷ 1 ∷ 2 ∷ 3 ∷ 4 ∷ 6 ∷ 9 ∷ 12 ∷ 18 ∷ []) n 0

-- sums and products of the table stay within it
abbrev within : ℕ → ℕ → Bool
within a b = not (leb (a + b) 8) || (leb (most a + most b) (most (a + b)) && leb (most a * most b) (most (a + b)))

table : all (λ (a : ℕ). leb (most a) 18 && all (within a) (from 0 9)) (from 0 9) ≡ true
table = refl

module _ (a : ℕ) (h : a ≤ 8) where
  row : (leb (most a) 18 && all (within a) (from 0 9)) ≡ true
  row = from-has 0 9 (all_true (λ (a : ℕ). leb (most a) 18 && all (within a) (from 0 9)) (from 0 9) table) a (omega arith) (omega arith)

  pub most-18 : most a ≤ 18
  most-18 = leb-true (most a) 18 (and_left (leb (most a) 18) (all (within a) (from 0 9)) row)

pub most-both : (a b : ℕ) → a + b ≤ 8 → (most a + most b ≤ most (a + b)) × (most a * most b ≤ most (a + b))
most-both a b h =
    let s : Bool = leb (most a + most b) (most (a + b)) in
    let p : Bool = leb (most a * most b) (most (a + b)) in
    let r : (s && p) ≡ true =
    subst (λ (t : Bool). (not t || (s && p)) ≡ true) (le-leb (a + b) 8 h)
    (from-has 0 9 (all_true (within a) (from 0 9) (and_right (leb (most a) 18) (all (within a) (from 0 9)) (row a (omega arith)))) b (omega arith) (omega arith)) in
    (leb-true (most a + most b) (most (a + b)) (and_left s p r), leb-true (most a * most b) (most (a + b)) (and_right s p r))
