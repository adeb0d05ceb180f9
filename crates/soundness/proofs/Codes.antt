-- Numbers of sound members noted one after another: whether one stands among those before it, and whether two are equal. Assumes nothing.
use mathlib.Core.Path.{◌≡◌, sym, ap, ap₂, ◌∙◌}
use mathlib.Core.Bool.{Bool, true, ◌||◌}
use mathlib.Core.List.{List, [], ◌∷◌, ◌++◌, map}
use Prim.Native.Nat.{ℕ, ◌+◌, ◌≤◌, ◌<◌}
use native.Mathlib.Numerals.{add-one}
use native.Mathlib.Omega.{arith}
use lib.Dec.{eqb}
use lib.ListN.{length, get_or, take, set}
use lib.Seq.{take-suc, take-suc-set}
use Rattle.std.specs.List.{list_any}
use Rattle.lists.specs.Lists.{any, all, repeats}
use Rattle.lists.proofs.Lists.{map-append}
use Rattle.lists.proofs.Chains.{eqb-turned, any-turned, repeats-last}
use Rattle.soundness.proofs.Tests.{all-more}

-- one more is noted
noted : (codes : List ℕ) (i x : ℕ) (same b : Bool) → i < length codes → same ≡ repeats eqb (take i codes) → b ≡ any (eqb x) (take i codes)
    → (same || b) ≡ repeats eqb (take (i + 1) (set codes i x))
noted codes i x same b h e f =
    ap₂ ◌||◌ e f ∙ sym (repeats-last eqb eqb-turned (take i codes) x) ∙ ap (repeats eqb) (sym (ap (λ (j : ℕ). take j (set codes i x)) (add-one i) ∙ take-suc-set codes i x h))

-- ---- the loop: the members passed are sound, their numbers are noted, and whether two of these are equal

module _ {A : Type 0} (f : A → ℕ) (p : A → Bool) (xs : List A) where
  pub record Noted (codes : List ℕ) (same : Bool) (i : ℕ) : Type 0 where
    pub within : i ≤ length xs
    pub sound : all p (take i xs) ≡ true
    pub numbers : take i codes ≡ map f (take i xs)
    pub twice : same ≡ repeats eqb (take i codes)

  -- x is the member after those passed
  module _ (codes : List ℕ) (same : Bool) (i : ℕ) (d : A) (N : Noted codes same i) (h : i < length xs) where
    abbrev x : A
    x = get_or xs i d

    step : take (i + 1) xs ≡ take i xs ++ (x ∷ [])
    step = ap (λ (j : ℕ). take j xs) (add-one i) ∙ take-suc xs i d h

    pub noted-more : (c : ℕ) (b : Bool) → i < length codes → (c ≡ f x) × (p x ≡ true) → b ≡ list_any (λ (y : ℕ). eqb y c) (take i codes)
        → Noted (set codes i c) (same || b) (i + 1)
    noted-more c b k e q = record {
      within = omega arith;
      sound = all-more p xs i d h N.sound e.1;
      numbers =
          ap (λ (j : ℕ). take j (set codes i c)) (add-one i) ∙ take-suc-set codes i c k
          ∙ ap₂ (λ (l : List ℕ) (y : ℕ). l ++ (y ∷ [])) N.numbers e.0
          ∙ sym (map-append f (take i xs) (x ∷ [])) ∙ ap (map f) (sym step);
      twice = noted codes i c same b k N.twice (q ∙ any-turned eqb eqb-turned c (take i codes));
    }
