-- Lists that are read from a place on, round: `turned` of specs/Lists. Assumes nothing.
use mathlib.Core.Path.{◌≡◌, sym, ap, ap₂, ◌∙◌}
use mathlib.Core.Bool.{Bool}
use mathlib.Core.List.{List, [], ◌∷◌, ◌++◌, map, append_assoc, append-nil}
use Prim.Native.Nat.{ℕ, suc, ◌+◌, ◌≤◌, ◌<◌}
use native.Mathlib.Numerals.{add-one}
use native.Mathlib.Omega.{arith}
use lib.ListN.{length, take, drop, set, length-append, take-append-drop, drop_of_length-le}
use lib.Seq.{take_at, drop_at, set_split, length-take-le, drop-cons, take_all}
use Rattle.lists.specs.Lists.{All, keep, count, turned}
use Rattle.lists.proofs.Lists.{All-append, All-take, All-drop, keep_append, map-append, map-take, map-drop}

module _ {A : Type 0} where
  pub turned_zero : (l : List A) → turned 0 l ≡ l
  turned_zero l = append-nil l

  -- from a place past the end on, it is the list itself
  pub turned-past : (k : ℕ) (l : List A) → length l ≤ k → turned k l ≡ l
  turned-past k l h = ap₂ (λ (x y : List A). x ++ y) (drop_of_length-le l h) (take_all k l h)

  pub length-turned : (k : ℕ) (l : List A) → length (turned k l) ≡ length l
  length-turned k l =
      let a : length (turned k l) ≡ length (drop k l) + length (take k l) = length-append (drop k l) (take k l) in
      let b : length l ≡ length (take k l) + length (drop k l) = ap length (sym (take-append-drop k l)) ∙ length-append (take k l) (drop k l) in
      omega arith

  -- as many members pass a test
  pub count-turned : (p : A → Bool) (k : ℕ) (l : List A) → count p (turned k l) ≡ count p l
  count-turned p k l =
      let a : count p (turned k l) ≡ count p (drop k l) + count p (take k l) =
      ap length (keep_append p (drop k l) (take k l)) ∙ length-append (keep p (drop k l)) (keep p (take k l)) in
      let b : count p l ≡ count p (take k l) + count p (drop k l) =
      ap (count p) (sym (take-append-drop k l)) ∙ ap length (keep_append p (take k l) (drop k l)) ∙ length-append (keep p (take k l)) (keep p (drop k l)) in
      omega arith

  pub All-turned : {P : A → Type 0} {l : List A} (k : ℕ) → All P l → All P (turned k l)
  All-turned k h = All-append (All-drop k h) (All-take k h)

  -- the member at the starting place replaced, and the start moved on: the first goes and the new one is last
  module _ (l : List A) (k : ℕ) (x : A) (h : k < length l) where
    put : set l k x ≡ take k l ++ (x ∷ drop (suc k) l)
    put = set_split l k x h

    -- the members behind the first, round
    rest : drop 1 (turned k l) ≡ drop (suc k) l ++ take k l
    rest = ap (λ (d : List A). drop 1 (d ++ take k l)) (drop-cons l k x h)

    pub turned_set : turned (k + 1) (set l k x) ≡ drop 1 (turned k l) ++ (x ∷ [])
    turned_set =
        let front : List A = take k l ++ (x ∷ []) in
        let long : length front ≡ k + 1 =
        let e : length (take k l) ≡ k = length-take-le k l (omega arith) in
        length-append (take k l) (x ∷ []) ∙ ap (λ (n : ℕ). n + 1) e in
        ap (turned (k + 1)) (put ∙ sym (append_assoc (take k l) (x ∷ []) (drop (suc k) l)))
        ∙ ap₂ (λ (a b : List A). a ++ b) (drop_at front (drop (suc k) l) (k + 1) long) (take_at front (drop (suc k) l) (k + 1) long)
        ∙ sym (append_assoc (drop (suc k) l) (take k l) (x ∷ []))
        ∙ ap (λ (a : List A). a ++ (x ∷ [])) (sym rest)

    -- at the last place the start is the first one again
    pub turned-set-last : length l ≤ k + 1 → turned 0 (set l k x) ≡ drop 1 (turned k l) ++ (x ∷ [])
    turned-set-last n =
        let m : length l ≤ suc k = omega (arith, n, add-one k) in
        let none : drop (suc k) l ≡ [] = drop_of_length-le l m in
        turned_zero (set l k x)
        ∙ put
        ∙ ap (λ (d : List A). take k l ++ (x ∷ d)) none
        ∙ ap (λ (d : List A). (d ++ take k l) ++ (x ∷ [])) (sym none)
        ∙ ap (λ (a : List A). a ++ (x ∷ [])) (sym rest)

pub turned-map : {A B : Type 0} (f : A → B) (k : ℕ) (l : List A) → turned k (map f l) ≡ map f (turned k l)
turned-map {B = B} f k l = ap₂ (λ (a b : List B). a ++ b) (sym (map-drop f k l)) (sym (map-take f k l)) ∙ sym (map-append f (drop k l) (take k l))
