-- Laws of tests that several proofs use. Assumes nothing.
use mathlib.Core.Path.{◌≡◌, refl, sym, ap, ap₂, ◌∙◌}
use mathlib.Core.Bool.{Bool, true, false, ◌&&◌, and_assoc}
use mathlib.Core.List.{List, [], ◌∷◌}
use Prim.Native.Nat.{ℕ, ◌+◌, ◌<◌}
use native.Mathlib.Numerals.{add-one}
use lib.Dec.{leb}
use lib.ListN.{length, get_or, take}
use lib.Seq.{take-suc}
use Rattle.std.specs.Prelude.{Some}
use Rattle.lists.specs.Lists.{all}
use Rattle.lists.proofs.Lists.{all_append}
use Rattle.soundness.specs.Private.Parts.{some_if}

pub interchange : (a b c d : Bool) → ((a && b) && (c && d)) ≡ ((a && c) && (b && d))
interchange true true c d = refl
interchange true false true d = refl
interchange true false false d = refl
interchange false b c d = refl

-- 1 to 8 of them, and then b
pub counted : (n : ℕ) (t b : Bool) → (leb 1 n && leb n 8) ≡ t → (t && b) ≡ (leb 1 n && (leb n 8 && b))
counted n t b h = ap (λ (t : Bool). t && b) (sym h) ∙ and_assoc (leb 1 n) (leb n 8) b

-- ---- what a value that is there under a test tells of the test

module _ {A : Type 0} (b : Bool) (x : A) where
  pub some-yes : (y : A) → Some y ≡ some_if b x → (y ≡ x) × (b ≡ true)
  some-yes y e = go b e
    where
      go : (b : Bool) → Some y ≡ some_if b x → (y ≡ x) × (b ≡ true)
      go true e = (cc, refl)
      go false e = (cc, cc)

-- ---- a loop that tests the members of a list

module _ {A : Type 0} (p : A → Bool) (xs : List A) (i : ℕ) (d : A) (h : i < length xs) where
  pub all-more : all p (take i xs) ≡ true → p (get_or xs i d) ≡ true → all p (take (i + 1) xs) ≡ true
  all-more a e =
      ap (λ (j : ℕ). all p (take j xs)) (add-one i) ∙ ap (all p) (take-suc xs i d h) ∙ all_append p (take i xs) (get_or xs i d ∷ [])
      ∙ ap₂ (λ (s t : Bool). s && (t && true)) a e
