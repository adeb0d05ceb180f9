-- What the library's iterators answer of the members of a list, in the words of specs/Lists. Assumes nothing.
use mathlib.Core.Path.{◌≡◌, refl, sym, ap, ap₂, ◌∙◌}
use mathlib.Core.Bool.{Bool, true, false, ◌&&◌, ◌||◌, or-false}
use mathlib.Core.List.{List, [], ◌∷◌, ◌++◌, map, append-nil, append_assoc}
use Prim.Native.Nat.{ℕ, ◌+◌}
use native.Mathlib.Omega.{arith}
use borrow.Author.Tests.{eqb-true, eqb-false, eq-eqb, ne_eqb}
use lib.Dec.{eqb}
use lib.ListN.{length, take, length-append}
use lib.Seq.{take_at}
use Rattle.std.specs.List.{list_all, list_any, enumerate_from}
use Rattle.std.proofs.lemmas.List.Recursion.{same_from_clauses}
use Rattle.lists.specs.Lists.{any, all, repeats}
use Rattle.lists.proofs.Bools.{or_assoc}
use Rattle.lists.proofs.Lists.{All-every, any_same, any_append, any-map}

-- one number beside another, turned
pub eqb-turned : (x y : ℕ) → eqb x y ≡ eqb y x
eqb-turned x y = go (eqb x y) refl
  where
    go : (b : Bool) → eqb x y ≡ b → b ≡ eqb y x
    go true e = sym (eq-eqb y x (sym (eqb-true x y e)))
    go false e = sym (ne_eqb y x (λ q. eqb-false x y e (sym q)))

-- ---- the library's test of every member, and of some member

module _ {A : Type 0} (p : A → Bool) where
  pub all-is : (xs : List A) → list_all p xs ≡ all p xs
  all-is = same_from_clauses (list_all p) (all p) (λ x b. p x && b) refl (λ _ _. refl) (λ _ _. refl)

  pub any-is : (xs : List A) → list_any p xs ≡ any p xs
  any-is = same_from_clauses (list_any p) (any p) (λ x b. p x || b) refl (λ _ _. refl) (λ _ _. refl)

-- ---- members that are the same

pub shuffled : (a b c d : Bool) → ((a || (b || false)) || (c || d)) ≡ ((a || c) || (b || d))
shuffled true b c d = refl
shuffled false true true d = refl
shuffled false true false d = refl
shuffled false false c d = refl

module _ {A : Type 0} (same : A → A → Bool) (turned : (x y : A) → same x y ≡ same y x) where
  -- the member that is looked for stands on the right
  pub any-turned : (x : A) (l : List A) → list_any (λ (y : A). same y x) l ≡ any (same x) l
  any-turned x l = any-is (λ (y : A). same y x) l ∙ any_same (All-every (λ y. turned y x) l)

  -- one more: two of those before it are the same, or it is among them
  pub repeats-last : (l : List A) (x : A) → repeats same (l ++ (x ∷ [])) ≡ (repeats same l || any (same x) l)
  repeats-last [] x = refl
  repeats-last (y ∷ l) x =
      ap₂ ◌||◌ (any_append (same y) l (x ∷ []) ∙ ap (λ (b : Bool). any (same y) l || (b || false)) (turned y x)) (repeats-last l x)
      ∙ shuffled (any (same y) l) (same x y) (repeats same l) (any (same x) l)

  -- each member is looked for among those before it
  module _ (before : ℕ × A → Bool) (all : List A) (told : (i : ℕ) (x : A) → before (i, x) ≡ any (same x) (take i all)) where
    repeats-from : (ys xs : List A) (n : ℕ) → n ≡ length ys → all ≡ ys ++ xs → (repeats same ys || list_any before (enumerate_from n xs)) ≡ repeats same all
    repeats-from ys [] n e h = or-false _ ∙ ap (repeats same) (sym (append-nil ys) ∙ sym h)
    repeats-from ys (x ∷ xs) n e h =
        let t : take n all ≡ ys = ap (take n) h ∙ take_at ys (x ∷ xs) n (sym e) in
        let k : n + 1 ≡ length (ys ++ (x ∷ [])) = omega (arith, length-append ys (x ∷ [])) in
        ap (λ (b : Bool). repeats same ys || (b || list_any before (enumerate_from (n + 1) xs))) (told n x ∙ ap (any (same x)) t)
        ∙ or_assoc (repeats same ys) (any (same x) ys) (list_any before (enumerate_from (n + 1) xs))
        ∙ ap (λ (c : Bool). c || list_any before (enumerate_from (n + 1) xs)) (sym (repeats-last ys x))
        ∙ repeats-from (ys ++ (x ∷ [])) xs (n + 1) k (h ∙ sym (append_assoc ys (x ∷ []) xs))

    pub repeats-is : list_any before (enumerate_from 0 all) ≡ repeats same all
    repeats-is = repeats-from [] all 0 refl refl

-- members are compared by their images
pub repeats-map : {A B : Type 0} (same : B → B → Bool) (f : A → B) (l : List A) → repeats same (map f l) ≡ repeats (λ (x y : A). same (f x) (f y)) l
repeats-map same f [] = refl
repeats-map same f (x ∷ l) = ap₂ ◌||◌ (any-map f (same (f x)) l) (repeats-map same f l)
