-- A loop that goes up a list and puts f x for each member x. Assumes nothing.
use mathlib.Core.Path.{◌≡◌, refl, ap, ap₂, sym, subst, ◌∙◌}
use mathlib.Core.List.{List, [], ◌∷◌, ◌++◌, map}
use Prim.Native.Nat.{ℕ, zero, suc, ◌+◌, ◌-◌, ◌<◌}
use native.Mathlib.Nat.{le_of_suc-le-suc, not-suc-le-zero}
use native.Mathlib.Numerals.{add-one}
use native.Mathlib.Omega.{arith}
use lib.ListN.{length, get_or, take, drop, set, replicate, length-map}
use lib.Seq.{length-take-le, take-suc, drop-cons, append_snoc, set_at, get_or_at}
use denote.Param.Members.{Mut, Called}
use Rattle.std.specs.Array.{IsFromFnResultFrom, IsFromFnResult}
use Rattle.lists.specs.Lists.{from}
use Rattle.lists.proofs.Lists.{map-append}

module _ {A : Type 0} (f : A → A) where
  -- the first j members are done
  abbrev pub mapped : List A → ℕ → List A
  mapped l j = map f (take j l) ++ drop j l

  done : (l : List A) (j : ℕ) → j < length l → length (map f (take j l)) ≡ j
  done l j h = length-map (take j l) f ∙ length-take-le j l (omega arith)

  pub mapped_at : (l : List A) (j : ℕ) (d : A) → j < length l → get_or (mapped l j) j d ≡ get_or l j d
  mapped_at l j d h = rw (drop-cons l j d h) (get_or_at (map f (take j l)) (get_or l j d) (drop (suc j) l) d j (done l j h))

  -- a turn's store
  pub mapped-more : (l m : List A) (j : ℕ) (d y : A) → j < length l → m ≡ mapped l j → y ≡ f (get_or m j d) → set m j y ≡ mapped l (j + 1)
  mapped-more l m j d y h e q =
      ap₂ (λ (x : List A) (z : A). set x j z) e (q ∙ ap (λ (x : List A). f (get_or x j d)) e ∙ ap f (mapped_at l j d h))
      ∙ rw (add-one, take-suc l j d h, drop-cons l j d h)
      (set_at (map f (take j l)) (get_or l j d) (drop (suc j) l) (f (get_or l j d)) j (done l j h) ∙ rw (map-append f (take j l) (get_or l j d ∷ [])) (sym (append_snoc (map f (take j l)) (f (get_or l j d)) (drop (suc j) l))))

-- a member of a mapped list, where there is one
pub get_or-map-in : {A B : Type 0} (f : A → B) (l : List A) (i : ℕ) (d : A) (e : B) → i < length l → get_or (map f l) i e ≡ f (get_or l i d)
get_or-map-in f [] i d e h = absurd (not-suc-le-zero h)
get_or-map-in f (x ∷ xs) zero d e h = refl
get_or-map-in f (x ∷ xs) (suc i) d e h = get_or-map-in f xs i d e (le_of_suc-le-suc h)

-- a list that is f of another at each place
pub map-placed : {A B : Type 0} (f : A → B) (xs : List A) (ys : List B) (d : A) (e : B) → length ys ≡ length xs → ((k : ℕ) → k < length xs → get_or ys k e ≡ f (get_or xs k d)) → ys ≡ map f xs
map-placed f [] [] d e n h = refl
map-placed f [] (y ∷ ys) d e n h = absurd (omega arith)
map-placed f (x ∷ xs) [] d e n h = absurd (omega arith)
map-placed f (x ∷ xs) (y ∷ ys) d e n h = ap₂ ◌∷◌ (h 0 (omega arith)) (map-placed f xs ys d e (omega arith) (λ k l. h (suc k) (omega arith)))

-- what `from_fn` gives, where each call gives f of its number and keeps what holds of the closure
module _ {F B : Type 0} (g : Mut F (ℕ × Unit {0}) B) (I : F → Type 0) (f : ℕ → B) (turn : (s : F) (j : ℕ) (y : B) (t : F) → I s → Called g s (j, tt) y t → (y ≡ f j) × I t) (ys : List B) (e : B) where
  made-at : (s : F) (i n k : ℕ) → I s → IsFromFnResultFrom g s ys i n → k < n → get_or ys (i + k) e ≡ f (i + k)
  made-at s i zero k h m l = absurd (not-suc-le-zero l)
  made-at s i (suc n) zero h m l =
      let z : i ≡ i + 0 = omega arith in
      subst (λ (j : ℕ). get_or ys j e ≡ f j) z (m.2.1 e ∙ (turn s i m.1 m.0 h m.3).0)
  made-at s i (suc n) (suc k) h m l =
      let z : (i + 1) + k ≡ i + suc k = omega arith in
      subst (λ (j : ℕ). get_or ys j e ≡ f j) z (made-at m.0 (i + 1) n k (turn s i m.1 m.0 h m.3).1 m.4 (le_of_suc-le-suc l))

  pub made-is : (s : F) (n : ℕ) → I s → IsFromFnResult g s ys n → (k : ℕ) → k < n → get_or ys k e ≡ f k
  made-is s n h m k l = let z : 0 + k ≡ k = omega arith in subst (λ (j : ℕ). get_or ys j e ≡ f j) z (made-at s 0 n k h m.each l)

pub drop-replicate : {A : Type 0} (n m : ℕ) (a : A) → drop n (replicate m a) ≡ replicate (m - n) a
drop-replicate zero m a = let e : m ≡ m - 0 = omega arith in ap (λ (k : ℕ). replicate k a) e
drop-replicate (suc n) zero a = let e : 0 ≡ 0 - suc n = omega arith in ap (λ (k : ℕ). replicate k a) e
drop-replicate (suc n) (suc m) a = let e : m - n ≡ suc m - suc n = omega arith in drop-replicate n m a ∙ ap (λ (k : ℕ). replicate k a) e

-- ---- i, i + 1 and on

pub from_at : (i n k d : ℕ) → k < n → get_or (from i n) k d ≡ i + k
from_at i zero k d h = absurd (not-suc-le-zero h)
from_at i (suc n) zero d h = omega arith
from_at i (suc n) (suc k) d h = from_at (suc i) n k d (le_of_suc-le-suc h) ∙ omega arith

pub from_last : (i n : ℕ) → from i (suc n) ≡ from i n ++ ((i + n) ∷ [])
from_last i zero = let e : i ≡ i + 0 = omega arith in ap (λ (k : ℕ). k ∷ []) e
from_last i (suc n) =
    let e : suc i + n ≡ i + suc n = omega arith in
    ap (λ (l : List ℕ). i ∷ l) (from_last (suc i) n) ∙ ap (λ (k : ℕ). i ∷ from (suc i) n ++ (k ∷ [])) e
