-- A list in another order, and numbers counted from one on. Assumes nothing.
use mathlib.Core.Path.{◌≡◌, refl, sym, ap, subst}
use mathlib.Core.Logic.{◌≢◌}
use mathlib.Core.Bool.{Bool, true, false, not}
use mathlib.Core.List.{List, [], ◌∷◌, ◌++◌, map, map-id}
use Prim.Native.Nat.{ℕ, zero, suc, ◌+◌, ◌≤◌, ◌<◌}
use native.Mathlib.Nat.{le_refl}
use native.Mathlib.Omega.{arith}
use lib.ListN.{length, take, length-append}
use Rattle.lists.specs.Lists.{All, nil, cons, DistinctBy, Distinct, cons_if, keep, from}
use Rattle.lists.proofs.Lists.{All-head, All-tail, All-map, All-append, All-left, All-right}

module _ {A : Type 0} where
  -- the second list is the first in another order
  pub data Moved : List A → List A → Type 0 where
    still : Moved [] []
    to : {x : A} {l : List A} (a b : List A) → Moved l (a ++ b) → Moved (x ∷ l) (a ++ x ∷ b)

  pub moved-refl : (l : List A) → Moved l l
  moved-refl [] = still
  moved-refl (x ∷ l) = to [] l (moved-refl l)

  -- the last to the front
  pub moved-last : (a : List A) (x : A) → Moved (a ++ x ∷ []) (x ∷ a)
  moved-last [] x = moved-refl (x ∷ [])
  moved-last (y ∷ a) x = to (x ∷ []) a (moved-last a x)

  -- one of them to the front
  pub moved-mid : (a : List A) (x : A) (b : List A) → Moved (a ++ x ∷ b) (x ∷ (a ++ b))
  moved-mid [] x b = moved-refl (x ∷ b)
  moved-mid (y ∷ a) x b = to (x ∷ []) (a ++ b) (moved-mid a x b)

  insert-All : {P : A → Type 0} (x : A) (a b : List A) → P x → All P (a ++ b) → All P (a ++ x ∷ b)
  insert-All x a b p h = All-append (All-left a b h) (cons p (All-right a h))

  pub moved-All : {P : A → Type 0} {l r : List A} → Moved l r → All P l → All P r
  moved-All still h = nil
  moved-All (to {x = x} a b m) h = insert-All x a b (All-head h) (moved-All m (All-tail h))

  pub moved_length : {l r : List A} → Moved l r → length l ≡ length r
  moved_length still = refl
  moved_length (to {x = x} {l = l} a b m) = omega (arith, moved_length m, length-append a b, length-append a (x ∷ b))

  module _ {B : Type 0} (f : A → B) where
    insert-distinct : (x : A) (a b : List A) → DistinctBy f (a ++ b) → All (λ y. f y ≢ f x) (a ++ b) → DistinctBy f (a ++ x ∷ b)
    insert-distinct x [] b d h = (h, d)
    insert-distinct x (y ∷ a) b d h =
        (insert-All x a b (λ e. All-head h (sym e)) d.0, insert-distinct x a b d.1 (All-tail h))

    pub moved-distinct_by : {l r : List A} → Moved l r → DistinctBy f l → DistinctBy f r
    moved-distinct_by still d = tt
    moved-distinct_by (to {x = x} a b m) d = insert-distinct x a b (moved-distinct_by m d.1) (moved-All m d.0)

  pub moved-distinct : {l r : List A} → Moved l r → Distinct l → Distinct r
  moved-distinct m d = moved-distinct_by (λ (x : A). x) m d

module _ {A B : Type 0} (f : A → B) (rest : List B) where
  -- one of them to the front
  pub moved_front : (a : List A) (x : A) (b : List A) → Moved (map f (a ++ x ∷ b) ++ rest) (f x ∷ (map f (a ++ b) ++ rest))
  moved_front [] x b = moved-refl (f x ∷ (map f b ++ rest))
  moved_front (y ∷ a) x b = to (f x ∷ []) (map f (a ++ b) ++ rest) (moved_front a x b)

  -- those that d takes go behind the others
  pub moved-drop : (d : A → Bool) (l : List A) → Moved (map f l ++ rest) (map f (keep (λ x. not (d x)) l) ++ (map f (keep d l) ++ rest))
  moved-drop d [] = moved-refl rest
  moved-drop d (x ∷ l) = go (d x) (moved-drop d l)
    where
      go : (b : Bool) → Moved (map f l ++ rest) (map f (keep (λ y. not (d y)) l) ++ (map f (keep d l) ++ rest))
          → Moved (f x ∷ (map f l ++ rest)) (map f (cons_if (not b) x (keep (λ y. not (d y)) l)) ++ (map f (cons_if b x (keep d l)) ++ rest))
      go true m = to (map f (keep (λ y. not (d y)) l)) (map f (keep d l) ++ rest) m
      go false m = to [] (map f (keep (λ y. not (d y)) l) ++ (map f (keep d l) ++ rest)) m

-- those that p takes go behind the others
pub moved-parted : {A : Type 0} (p : A → Bool) (l rest : List A) → Moved (l ++ rest) (keep (λ x. not (p x)) l ++ (keep p l ++ rest))
moved-parted p l rest =
    subst (λ r. Moved (r ++ rest) (keep (λ x. not (p x)) l ++ (keep p l ++ rest))) (map-id l)
    (subst (λ r. Moved (map (λ x. x) l ++ rest) (r ++ (keep p l ++ rest))) (map-id (keep (λ x. not (p x)) l))
    (subst (λ r. Moved (map (λ x. x) l ++ rest) (map (λ x. x) (keep (λ x. not (p x)) l) ++ (r ++ rest))) (map-id (keep p l)) (moved-drop (λ x. x) rest p l)))

-- each is taken or not
pub parted-length : {A : Type 0} (p : A → Bool) (l : List A) → length (keep (λ x. not (p x)) l) + length (keep p l) ≡ length l
parted-length p l =
    let e = moved_length (moved-parted p l []) in
    omega (arith, length-append l [], length-append (keep (λ x. not (p x)) l) (keep p l ++ []), length-append (keep p l) [])

-- ---- i, i + 1 and on

from_low : (i n : ℕ) → All (λ j. i ≤ j) (from i n)
from_low i zero = nil
from_low i (suc n) = cons (le_refl i) (All-map (λ j h. omega arith) (from_low (suc i) n))

pub from-once : (i n : ℕ) → Distinct (from i n)
from-once i zero = tt
from-once i (suc n) = (All-map (λ j h e. omega arith) (from_low (suc i) n), from-once (suc i) n)

pub from-below : (i n : ℕ) → All (λ j. j < i + n) (from i n)
from-below i zero = nil
from-below i (suc n) = cons {x = i} (omega arith) (All-map (λ j h. omega arith) (from-below (suc i) n))

pub from-count : (i n : ℕ) → length (from i n) ≡ n
from-count i zero = refl
from-count i (suc n) = ap suc (from-count (suc i) n)

pub take-from : (i n m : ℕ) → n ≤ m → take n (from i m) ≡ from i n
take-from i zero m h = refl
take-from i (suc n) zero h = absurd (omega arith)
take-from i (suc n) (suc m) h = ap (λ r. i ∷ r) (take-from (suc i) n m (omega arith))
