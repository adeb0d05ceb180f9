-- Laws of the list functions of specs/Lists. Assumes nothing.
use mathlib.Core.Path.{◌≡◌, refl, sym, ap, ap₂, ◌∙◌}
use mathlib.Core.Logic.{◌≢◌, ◌⊎◌, inl, inr}
use mathlib.Core.Bool.{Bool, true, false, ◌&&◌, ◌||◌, and-false, or-true}
use mathlib.Core.Option.{Option, none, some}
use mathlib.Core.List.{List, [], ◌∷◌, ◌++◌, map}
use Prim.Native.Nat.{ℕ, zero, suc, ◌*◌, ◌≤◌, zero-le, suc-le-suc}
use native.Mathlib.Nat.{zero-mul}
use native.Mathlib.Omega.{arith}
use lib.ListN.{length, get_or, take, drop, length-append, length-map}
use Rattle.lists.specs.Lists.{any, all, All, nil, cons, DistinctBy, Distinct, cons_if, keep, pairs, behind, unsnoc, flat}
use Rattle.lists.proofs.Bools.{and-or, or-and, and_assoc, or_assoc, and_left, and_right, and_both, or_left, or_right}

module _ {A : Type 0} where
  -- ---- All

  pub All-head : {P : A → Type 0} {x : A} {l : List A} → All P (x ∷ l) → P x
  All-head (cons p h) = p

  pub All-tail : {P : A → Type 0} {x : A} {l : List A} → All P (x ∷ l) → All P l
  All-tail (cons p h) = h

  pub All-every : {P : A → Type 0} → ((x : A) → P x) → (l : List A) → All P l
  All-every f [] = nil
  All-every f (x ∷ l) = cons (f x) (All-every f l)

  pub All-map : {P Q : A → Type 0} {l : List A} → ((x : A) → P x → Q x) → All P l → All Q l
  All-map f nil = nil
  All-map f (cons {x = x} p h) = cons (f x p) (All-map f h)

  pub All-both : {P Q : A → Type 0} {l : List A} → All P l → All Q l → All (λ x. P x × Q x) l
  All-both nil k = nil
  All-both (cons p h) k = cons (p, All-head k) (All-both h (All-tail k))

  pub All-append : {P : A → Type 0} {a b : List A} → All P a → All P b → All P (a ++ b)
  All-append nil k = k
  All-append (cons p h) k = cons p (All-append h k)

  pub All-left : {P : A → Type 0} (a b : List A) → All P (a ++ b) → All P a
  All-left [] b h = nil
  All-left (x ∷ a) b h = cons (All-head h) (All-left a b (All-tail h))

  pub All-right : {P : A → Type 0} (a : List A) {b : List A} → All P (a ++ b) → All P b
  All-right [] h = h
  All-right (x ∷ a) h = All-right a (All-tail h)

  pub All-take : {P : A → Type 0} {l : List A} (n : ℕ) → All P l → All P (take n l)
  All-take zero h = nil
  All-take (suc n) nil = nil
  All-take (suc n) (cons {x = x} {xs = xs} p h) = cons p (All-take {l = xs} n h)

  pub All-drop : {P : A → Type 0} {l : List A} (n : ℕ) → All P l → All P (drop n l)
  All-drop zero h = h
  All-drop (suc n) nil = nil
  All-drop (suc n) (cons {x = x} {xs = xs} p h) = All-drop {l = xs} n h

  pub All-mid : {P : A → Type 0} (a : List A) (x : A) (b : List A) → All P (a ++ x ∷ b) → All P (x ∷ a ++ b)
  All-mid a x b h = cons (All-head (All-right a h)) (All-append (All-left a (x ∷ b) h) (All-tail (All-right a h)))

  All-cons_if : {P : A → Type 0} {l : List A} (b : Bool) (x : A) → (b ≡ true → P x) → All P l → All P (cons_if b x l)
  All-cons_if true x f h = cons (f refl) h
  All-cons_if false x f h = h

  -- what is kept was there, and passed the test
  pub All-keep : {P Q : A → Type 0} {l : List A} (p : A → Bool) → ((x : A) → P x → p x ≡ true → Q x) → All P l → All Q (keep p l)
  All-keep p f nil = nil
  All-keep p f (cons {x = x} q h) = All-cons_if (p x) x (f x q) (All-keep p f h)

  pub All-kept : (p : A → Bool) (l : List A) → All (λ x. p x ≡ true) (keep p l)
  All-kept p l = All-keep p (λ x t e. e) (All-every {P = λ x. Unit {0}} (λ x. tt) l)

  -- the i-th member has what every member has, and so has the one that stands in past the end
  pub All-get_or : {P : A → Type 0} {l : List A} (i : ℕ) (d : A) → P d → All P l → P (get_or l i d)
  All-get_or i d p nil = p
  All-get_or zero d p (cons q h) = q
  All-get_or (suc i) d p (cons q h) = All-get_or i d p h

  -- ---- any and all

  pub any_append : (p : A → Bool) (xs ys : List A) → any p (xs ++ ys) ≡ (any p xs || any p ys)
  any_append p [] ys = refl
  any_append p (x ∷ xs) ys = rw (any_append p xs ys) (or_assoc (p x) (any p xs) (any p ys))

  pub all_append : (p : A → Bool) (xs ys : List A) → all p (xs ++ ys) ≡ (all p xs && all p ys)
  all_append p [] ys = refl
  all_append p (x ∷ xs) ys = rw (all_append p xs ys) (and_assoc (p x) (all p xs) (all p ys))

  pub all_true : (p : A → Bool) (xs : List A) → all p xs ≡ true → All (λ x. p x ≡ true) xs
  all_true p [] h = nil
  all_true p (x ∷ xs) h = cons (and_left (p x) (all p xs) h) (all_true p xs (and_right (p x) (all p xs) h))

  pub all-of : (p : A → Bool) {xs : List A} → All (λ x. p x ≡ true) xs → all p xs ≡ true
  all-of p nil = refl
  all-of p (cons {x = x} {xs = xs} e h) = and_both (p x) (all p xs) e (all-of p h)

  pub any_none : (p : A → Bool) {xs : List A} → All (λ x. p x ≡ false) xs → any p xs ≡ false
  any_none p nil = refl
  any_none p (cons {x = x} {xs = xs} e h) = ap (λ (b : Bool). b || any p xs) e ∙ any_none p h

  pub any_false : (p : A → Bool) (xs : List A) → any p xs ≡ false → All (λ x. p x ≡ false) xs
  any_false p [] h = nil
  any_false p (x ∷ xs) h = cons (or_left (p x) (any p xs) h) (any_false p xs (or_right (p x) (any p xs) h))

  -- tests that say the same of every member
  pub any_same : {p q : A → Bool} {xs : List A} → All (λ (x : A). p x ≡ q x) xs → any p xs ≡ any q xs
  any_same nil = refl
  any_same (cons e h) = ap₂ ◌||◌ e (any_same h)

  -- a test that implies another
  pub any-implies : (p q : A → Bool) → ((x : A) → p x ≡ true → q x ≡ true) → (xs : List A) → any p xs ≡ true → any q xs ≡ true
  any-implies p q f [] h = h
  any-implies p q f (x ∷ xs) h = go (p x) refl (any-implies p q f xs) h
    where
      go : (b : Bool) → p x ≡ b → (any p xs ≡ true → any q xs ≡ true) → (b || any p xs) ≡ true → (q x || any q xs) ≡ true
      go true e ih h = rw (f x e)
      go false e ih h = rw (ih h) (or-true (q x))

  pub any-keep : (p q : A → Bool) (xs : List A) → any q (keep p xs) ≡ any (λ (x : A). p x && q x) xs
  any-keep p q [] = refl
  any-keep p q (x ∷ xs) = go (p x) (any-keep p q xs)
    where
      go : (b : Bool) → any q (keep p xs) ≡ any (λ (x : A). p x && q x) xs
          → any q (cons_if b x (keep p xs)) ≡ ((b && q x) || any (λ (x : A). p x && q x) xs)
      go true h = rw h
      go false h = h

  -- ---- keep

  cons_if-append : (b : Bool) (x : A) (m n : List A) → cons_if b x (m ++ n) ≡ cons_if b x m ++ n
  cons_if-append true x m n = refl
  cons_if-append false x m n = refl

  pub keep_append : (p : A → Bool) (a b : List A) → keep p (a ++ b) ≡ keep p a ++ keep p b
  keep_append p [] b = refl
  keep_append p (x ∷ a) b = ap (cons_if (p x) x) (keep_append p a b) ∙ cons_if-append (p x) x (keep p a) (keep p b)

  pub keep-yes : (p : A → Bool) (x : A) (l : List A) → p x ≡ true → keep p (x ∷ l) ≡ x ∷ keep p l
  keep-yes p x l e = ap (λ b. cons_if b x (keep p l)) e

  pub keep-no : (p : A → Bool) (x : A) (l : List A) → p x ≡ false → keep p (x ∷ l) ≡ keep p l
  keep-no p x l e = ap (λ b. cons_if b x (keep p l)) e

  pub keep_all : (p : A → Bool) {l : List A} → All (λ x. p x ≡ true) l → keep p l ≡ l
  keep_all p nil = refl
  keep_all p (cons {x = x} {xs = l} e h) = keep-yes p x l e ∙ ap (λ r. x ∷ r) (keep_all p h)

  -- ---- DistinctBy

  module _ {B : Type 0} (f : A → B) where
    pub distinct-left : (a b : List A) → DistinctBy f (a ++ b) → DistinctBy f a
    distinct-left [] b h = tt
    distinct-left (x ∷ a) b h = (All-left a b h.0, distinct-left a b h.1)

    pub distinct-take : (n : ℕ) (l : List A) → DistinctBy f l → DistinctBy f (take n l)
    distinct-take zero l h = tt
    distinct-take (suc n) [] h = tt
    distinct-take (suc n) (x ∷ l) h = (All-take n h.0, distinct-take n l h.1)

    distinct-cons_if : (b : Bool) (x : A) (l : List A) → All (λ y. f y ≢ f x) l → DistinctBy f l → DistinctBy f (cons_if b x l)
    distinct-cons_if true x l h k = (h, k)
    distinct-cons_if false x l h k = k

    pub distinct-keep : (p : A → Bool) (l : List A) → DistinctBy f l → DistinctBy f (keep p l)
    distinct-keep p [] h = tt
    distinct-keep p (x ∷ l) h =
        distinct-cons_if (p x) x (keep p l) (All-keep p (λ y q e. q) h.0) (distinct-keep p l h.1)

    -- ---- map

    pub All-image : {P : B → Type 0} {l : List A} → All (λ x. P (f x)) l → All P (map f l)
    All-image nil = nil
    All-image (cons p h) = cons p (All-image h)

    pub map-append : (xs ys : List A) → map f (xs ++ ys) ≡ map f xs ++ map f ys
    map-append [] ys = refl
    map-append (x ∷ xs) ys = ap (λ r. f x ∷ r) (map-append xs ys)

    pub any-map : (q : B → Bool) (xs : List A) → any q (map f xs) ≡ any (λ x. q (f x)) xs
    any-map q [] = refl
    any-map q (x ∷ xs) = rw (any-map q xs)

    pub map-take : (n : ℕ) (l : List A) → map f (take n l) ≡ take n (map f l)
    map-take zero l = refl
    map-take (suc n) [] = refl
    map-take (suc n) (x ∷ l) = ap (λ r. f x ∷ r) (map-take n l)

    pub map-drop : (n : ℕ) (l : List A) → map f (drop n l) ≡ drop n (map f l)
    map-drop zero l = refl
    map-drop (suc n) [] = refl
    map-drop (suc n) (x ∷ l) = map-drop n l

    pub map_same : {g : A → B} {l : List A} → All (λ x. g x ≡ f x) l → map g l ≡ map f l
    map_same nil = refl
    map_same (cons e h) = ap₂ (λ a b. a ∷ b) e (map_same h)

    pub keep-map : (p : B → Bool) (l : List A) → map f (keep (λ x. p (f x)) l) ≡ keep p (map f l)
    keep-map p [] = refl
    keep-map p (x ∷ l) = go (p (f x)) ∙ ap (cons_if (p (f x)) (f x)) (keep-map p l)
      where
        go : (b : Bool) → map f (cons_if b x (keep (λ y. p (f y)) l)) ≡ cons_if b (f x) (map f (keep (λ y. p (f y)) l))
        go true = refl
        go false = refl

    pub distinct-image : (l : List A) → DistinctBy f l → Distinct (map f l)
    distinct-image [] h = tt
    distinct-image (x ∷ l) h = (All-image h.0, distinct-image l h.1)

  -- ---- take

  -- a list cut off at n: the front is cut, or what stands at x is still there
  pub take-mid : (n : ℕ) (a : List A) (x : A) (b : List A) → (n ≤ length a) ⊎ ((c : List A) × (take n (a ++ x ∷ b) ≡ a ++ x ∷ c))
  take-mid zero a x b = inl zero-le
  take-mid (suc n) [] x b = inr (take n b, refl)
  take-mid (suc n) (y ∷ a) x b = more (take-mid n a x b)
    where
      more : (n ≤ length a) ⊎ ((c : List A) × (take n (a ++ x ∷ b) ≡ a ++ x ∷ c))
          → (suc n ≤ length (y ∷ a)) ⊎ ((c : List A) × (take (suc n) (y ∷ a ++ x ∷ b) ≡ y ∷ a ++ x ∷ c))
      more (inl h) = inl (suc-le-suc h)
      more (inr c) = inr (c.0, ap (λ r. y ∷ r) c.1)

  -- ---- unsnoc

  -- what `unsnoc` gives: nothing of an empty list, or all but the last and the last
  abbrev pub Unsnoc : List A → Option (List A × A) → Type 0
  Unsnoc l none = l ≡ []
  Unsnoc l (some c) = l ≡ c.0 ++ c.1 ∷ []

  pub unsnoc-is : (l : List A) → Unsnoc l (unsnoc l)
  unsnoc-is [] = refl
  unsnoc-is (x ∷ l) = go (unsnoc l) (unsnoc-is l)
    where
      go : (o : Option (List A × A)) → Unsnoc l o → Unsnoc (x ∷ l) (behind x o)
      go none e = ap (λ r. x ∷ r) e
      go (some c) e = ap (λ r. x ∷ r) e

pub All-source : {A B : Type 0} {P : B → Type 0} (f : A → B) (l : List A) → All P (map f l) → All (λ x. P (f x)) l
All-source f [] h = nil
All-source f (x ∷ l) h = cons (All-head h) (All-source f l (All-tail h))

-- a test of lists one after another, each made from a member
pub any-flat-map : {A B : Type 0} (p : B → Bool) (f : A → List B) (xs : List A) → any p (flat (map f xs)) ≡ any (λ (x : A). any p (f x)) xs
any-flat-map p f [] = refl
any-flat-map p f (x ∷ xs) = any_append p (f x) (flat (map f xs)) ∙ ap (λ (b : Bool). any p (f x) || b) (any-flat-map p f xs)

pub distinct-source : {A B C : Type 0} (f : A → B) (g : B → C) (l : List A) → DistinctBy g (map f l) → DistinctBy (λ x. g (f x)) l
distinct-source f g [] d = tt
distinct-source f g (x ∷ l) d = (All-source f l d.0, distinct-source f g l d.1)

-- ---- pairs: a section's own lemmas stand at its A, so those at List A want another section

module _ {A : Type 0} where
  any-prefix : (p : A → Bool) (c : List A) (ds : List (List A))
      → any (all p) (map (λ (d : List A). c ++ d) ds) ≡ (all p c && any (all p) ds)
  any-prefix p c [] = sym (and-false (all p c))
  any-prefix p c (d ∷ ds) = rw (all_append p c d, any-prefix p c ds) (and-or (all p c) (all p d) (any (all p) ds))

  pub any-pairs : (p : A → Bool) (cs ds : List (List A)) → any (all p) (pairs cs ds) ≡ (any (all p) cs && any (all p) ds)
  any-pairs p [] ds = refl
  any-pairs p (c ∷ cs) ds =
      any_append (all p) (map (λ (d : List A). c ++ d) ds) (pairs cs ds)
      ∙ rw (any-prefix p c ds, any-pairs p cs ds) (or-and (all p c) (any (all p) cs) (any (all p) ds))

  pub length_pairs : (cs ds : List (List A)) → length (pairs cs ds) ≡ length cs * length ds
  length_pairs [] ds = sym (zero-mul (length ds))
  length_pairs (c ∷ cs) ds =
      length-append (map (λ (d : List A). c ++ d) ds) (pairs cs ds)
      ∙ rw (length-map ds (λ (d : List A). c ++ d), length_pairs cs ds) (omega arith)

  -- what the members of the lists have, those of their pairs have
  All-prefix : {P : A → Type 0} {c : List A} {ds : List (List A)} → All P c → All (All P) ds → All (All P) (map (λ (d : List A). c ++ d) ds)
  All-prefix h nil = nil
  All-prefix h (cons k ks) = cons (All-append h k) (All-prefix h ks)

  pub All-pairs : {P : A → Type 0} {cs ds : List (List A)} → All (All P) cs → All (All P) ds → All (All P) (pairs cs ds)
  All-pairs nil k = nil
  All-pairs (cons h hs) k = All-append (All-prefix h k) (All-pairs hs k)
