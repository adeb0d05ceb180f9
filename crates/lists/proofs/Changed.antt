-- Lists whose members are changed, dropped or joined: what stays the same. Assumes nothing.
use mathlib.Core.Path.{◌≡◌, refl, sym, ap, ap₂, subst, ◌∙◌}
use mathlib.Core.Bool.{Bool, true, false, not, ◌||◌, false≢true}
use mathlib.Core.List.Memᴰ.{head, tail}
use mathlib.Core.List.{List, [], ◌∷◌, ◌++◌, map, Memᴰ as Member}
use Prim.Native.Nat.{ℕ, zero, suc, ◌+◌, ◌≤◌, ◌<◌, suc-le-suc}
use native.Mathlib.Decide.{ℕ_discrete}
use native.Mathlib.Omega.{arith}
use lib.ListN.{length, get_or}
use Rattle.lists.specs.Lists.{any, All, nil, cons, cons_if, keep, pairs, distinct, from}
use Rattle.lists.specs.Tests.{eq_list, eq_list→eq}
use Rattle.lists.proofs.Bools.{T→true, true→T}
use Rattle.lists.proofs.Lists.{map-append, All-keep}
use Rattle.lists.proofs.Places.{length-keep}

-- ---- members

module _ {A : Type 0} where
  pub member-has : {P : A → Type 0} {l : List A} {x : A} → All P l → Member x l → P x
  member-has {P} nil m = elim m [ ]
  member-has {P} (cons p h) (head e) = subst P (sym e) p
  member-has (cons p h) (tail m) = member-has h m

  pub members-have : {P : A → Type 0} (l : List A) → ((x : A) → Member x l → P x) → All P l
  members-have [] f = nil
  members-have (x ∷ l) f = cons (f x (head refl)) (members-have l (λ y m. f y (tail m)))

  -- a member that passes the test is kept
  pub member-keep : (p : A → Bool) {x : A} {l : List A} → p x ≡ true → Member x l → Member x (keep p l)
  member-keep p {x} {l = []} h m = elim m [ ]
  member-keep p {x} {l = y ∷ l} h (head e) = rw (sym (ap p e) ∙ h) (head e)
  member-keep p {x} {l = y ∷ l} h (tail m) = go (p y) (member-keep p h m)
    where
      go : (b : Bool) → Member x (keep p l) → Member x (cons_if b y (keep p l))
      go true k = tail k
      go false k = k

pub pairs-map : {A B : Type 0} (f : A → B) (cs ds : List (List A)) → map (map f) (pairs cs ds) ≡ pairs (map (map f) cs) (map (map f) ds)
pairs-map f [] ds = refl
pairs-map f (c ∷ cs) ds =
    map-append (map f) (map (λ d. c ++ d) ds) (pairs cs ds) ∙ ap₂ ◌++◌ (go ds) (pairs-map f cs ds)
  where
    go : (ds : List (List _)) → map (map f) (map (λ d. c ++ d) ds) ≡ map (λ d. map f c ++ d) (map (map f) ds)
    go [] = refl
    go (d ∷ ds) = ap₂ ◌∷◌ (map-append f c d) (go ds)

-- counting from one later
pub map-from : {A : Type 0} (g : ℕ → A) (i n : ℕ) → map g (from (suc i) n) ≡ map (λ (k : ℕ). g (suc k)) (from i n)
map-from g i zero = refl
map-from g i (suc n) = ap (λ r. g (suc i) ∷ r) (map-from g (suc i) n)

any-later : (p : ℕ → Bool) (i n : ℕ) → any p (from (suc i) n) ≡ any (λ (k : ℕ). p (suc k)) (from i n)
any-later p i zero = refl
any-later p i (suc n) = ap (λ (b : Bool). p (suc i) || b) (any-later p (suc i) n)

-- a test of places that is one of the members there
pub any-places : {A : Type 0} (p : ℕ → Bool) (q : A → Bool) (l : List A) (d : A) → ((i : ℕ) → i < length l → p i ≡ q (get_or l i d))
    → any p (from 0 (length l)) ≡ any q l
any-places p q [] d f = refl
any-places p q (x ∷ l) d f =
    ap₂ ◌||◌ (f zero (omega arith)) (any-later p 0 (length l) ∙ any-places (λ (k : ℕ). p (suc k)) q l d (λ i h. f (suc i) (suc-le-suc h)))

-- what all of these numbers have
pub from-has : {P : ℕ → Type 0} (i n : ℕ) → All P (from i n) → (k : ℕ) → i ≤ k → k < i + n → P k
from-has i zero h k a b = absurd (omega arith)
from-has {P} i (suc n) (cons p h) k a b = go (ℕ_discrete i k) (from-has (suc i) n h k)
  where
    go : Dec (i ≡ k) → (suc i ≤ k → k < suc i + n → P k) → P k
    go (yes e) f = subst P e p
    go (no e) f = f (omega arith) (omega arith)

pub eq_list-true : {A : Type 0} (same : A → A → Bool) → ((x y : A) → same x y ≡ true → x ≡ y)
    → (xs ys : List A) → eq_list same xs ys ≡ true → xs ≡ ys
eq_list-true same f xs ys h = eq_list→eq same (λ x y t. f x y (T→true (same x y) t)) xs ys (true→T (eq_list same xs ys) h)

-- ---- repeats add nothing to a test

absorb : (a b c : Bool) → a ≡ b → (a || c) ≡ (a || (b || c))
absorb true b c e = refl
absorb false true c e = absurd (false≢true e)
absorb false false c e = refl

swap : (a b c d : Bool) → (a || c) ≡ (a || d) → (a || (b || c)) ≡ (a || (b || d))
swap true b c d h = refl
swap false true c d h = refl
swap false false c d h = h

module _ {A : Type 0} (same : A → A → Bool) (is : (x y : A) → same x y ≡ true → x ≡ y) (g : A → Bool) where
  others : (x : A) (ys : List A) → (g x || any g (keep (λ (y : A). not (same x y)) ys)) ≡ (g x || any g ys)
  others x [] = refl
  others x (y ∷ ys) = go (same x y) refl (others x ys)
    where
      go : (b : Bool) → same x y ≡ b → (g x || any g (keep (λ (y : A). not (same x y)) ys)) ≡ (g x || any g ys)
          → (g x || any g (cons_if (not b) y (keep (λ (y : A). not (same x y)) ys))) ≡ (g x || (g y || any g ys))
      go true e h = h ∙ absorb (g x) (g y) (any g ys) (ap g (is x y e))
      go false e h = swap (g x) (g y) (any g (keep (λ (y : A). not (same x y)) ys)) (any g ys) h

  pub any-distinct : (xs : List A) → any g (distinct same xs) ≡ any g xs
  any-distinct [] = refl
  any-distinct (x ∷ xs) = others x (distinct same xs) ∙ ap (λ (b : Bool). g x || b) (any-distinct xs)

module _ {A : Type 0} (same : A → A → Bool) where
  pub All-distinct : {P : A → Type 0} {xs : List A} → All P xs → All P (distinct same xs)
  All-distinct nil = nil
  All-distinct (cons {x = x} p h) = cons p (All-keep (λ (y : A). not (same x y)) (λ y q e. q) (All-distinct h))

  pub length-distinct : (xs : List A) → length (distinct same xs) ≤ length xs
  length-distinct [] = omega arith
  length-distinct (x ∷ xs) =
      let h = length-keep (λ (y : A). not (same x y)) (distinct same xs) in
      let k = length-distinct xs in
      omega arith
