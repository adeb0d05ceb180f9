-- Loops that go up a list: whether some member passes a test, how many do, an array filled from another, and two lists compared. Assumes nothing.
use mathlib.Core.Path.{◌≡◌, refl, sym, ap, ap₂, ◌∙◌}
use mathlib.Core.Bool.{Bool, true, false, cond, ◌||◌, or-false}
use mathlib.Core.List.{List, ◌∷◌, ◌++◌, map}
use Prim.Native.Nat.{ℕ, ◌+◌, ◌≤◌, ◌<◌}
use native.Mathlib.Numerals.{add-one}
use native.Mathlib.Omega.{arith}
use lib.ListN.{length, get_or, drop, set, length-map, drop_of_length-le}
use lib.Seq.{drop-cons, take_all, paste}
use Rattle.std.specs.List.{count_by}
use Rattle.std.proofs.lemmas.List.Recursion.{is_count_by}
use Rattle.lists.specs.Lists.{any, cons_if, keep, count}
use Rattle.lists.proofs.Bools.{or_assoc}
use Rattle.table.proofs.Copied.{pasted}
use Rattle.pattern.proofs.Mapped.{get_or-map-in}

module _ {A : Type 0} (p : A → Bool) where
  -- what an iterator counts
  pub count_is : (l : List A) → count_by p l ≡ count p l
  count_is l = sym (is_count_by (count p) p refl (λ x xs. count-of (p x) x xs) l)
    where
      count-of : (b : Bool) (x : A) (xs : List A) → length (cons_if b x (keep p xs)) ≡ cond b (1 + count p xs) (count p xs)
      count-of true x xs = omega arith
      count-of false x xs = refl

module _ {A : Type 0} where
  pub drop-next : (l : List A) (i : ℕ) (d : A) → i < length l → drop i l ≡ get_or l i d ∷ drop (i + 1) l
  drop-next l i d h = drop-cons l i d h ∙ ap (λ (k : ℕ). get_or l i d ∷ drop k l) (sym (add-one i))

  module _ (p : A → Bool) (l : List A) where
    -- one was found, or one of those from the i-th on passes, exactly if one of all does
    abbrev pub Seeking : Bool → ℕ → Type 0
    Seeking found i = (found || any p (drop i l)) ≡ any p l

    pub seek-more : (i : ℕ) (d : A) (found found' b : Bool) → i < length l → found' ≡ (found || b) → b ≡ p (get_or l i d) → Seeking found i → Seeking found' (i + 1)
    seek-more i d found found' b h e q inv =
        ap (λ (x : Bool). x || any p (drop (i + 1) l)) (e ∙ ap (λ (x : Bool). found || x) q)
        ∙ sym (or_assoc found (p (get_or l i d)) (any p (drop (i + 1) l)))
        ∙ sym (ap (λ (x : List A). found || any p x) (drop-next l i d h)) ∙ inv

    pub seek-done : (i : ℕ) (found : Bool) → length l ≤ i → Seeking found i → found ≡ any p l
    seek-done i found h inv =
        sym (or-false found) ∙ sym (ap (λ (x : List A). found || any p x) (drop_of_length-le l h)) ∙ inv

-- the first k of an array are f of another's
module _ {A B : Type 0} (f : A → B) (l : List A) (blank : List B) (room : length l ≤ length blank) where
  pub fill_more : (k : ℕ) (out : List B) (y : B) (d : A) → k < length l → y ≡ f (get_or l k d) → out ≡ paste blank 0 (map f l) k → set out k y ≡ paste blank 0 (map f l) (k + 1)
  fill_more k out y d h q inv =
      let z : k ≡ 0 + k = omega arith in
      let n : length (map f l) ≡ length l = length-map l f in
      pasted blank 0 (map f l) k y out k y (omega arith) (omega arith) inv z (q ∙ sym (get_or-map-in f l k d y h))

  pub fill_done : (k : ℕ) (out : List B) → k ≡ length l → out ≡ paste blank 0 (map f l) k → out ≡ map f l ++ drop (length l) blank
  fill_done k out e inv =
      let z : 0 + k ≡ length l = omega arith in
      let n : length (map f l) ≡ length l = length-map l f in
      inv ∙ ap₂ (λ (x : List B) (j : ℕ). x ++ drop j blank) (take_all k (map f l) (omega arith)) z
