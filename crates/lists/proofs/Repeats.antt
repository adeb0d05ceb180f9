-- Laws of `repeats`: members that are the same as a later one. Assumes nothing.
use mathlib.Core.Path.{◌≡◌, refl, sym, ap₂, ◌∙◌}
use mathlib.Core.Logic.{◌≢◌}
use mathlib.Core.Bool.{Bool, true, false, ◌||◌}
use mathlib.Core.List.{List, [], ◌∷◌, map}
use Rattle.lists.specs.Lists.{any, DistinctBy, repeats}
use Rattle.lists.proofs.Bools.{or_left, or_right, contra}
use Rattle.lists.proofs.Lists.{All-map, All-image, any_false, any_none, any-map, any-implies}

module _ {A B : Type 0} (same : A → A → Bool) (f : A → B) where
  -- no two are the same exactly if no two have the same f
  pub repeats-distinct : ((x y : A) → same x y ≡ false → f y ≢ f x) → (l : List A) → repeats same l ≡ false → DistinctBy f l
  repeats-distinct g [] h = tt
  repeats-distinct g (x ∷ l) h =
      (All-map (λ y e. g x y e) (any_false (same x) l (or_left (any (same x) l) _ h)), repeats-distinct g l (or_right (any (same x) l) _ h))

  pub distinct-repeats : ((x y : A) → f y ≢ f x → same x y ≡ false) → (l : List A) → DistinctBy f l → repeats same l ≡ false
  distinct-repeats g [] h = refl
  distinct-repeats g (x ∷ l) h =
      ap₂ ◌||◌ (any_none (same x) (All-map (λ y e. g x y e) h.0)) (distinct-repeats g l h.1)

  -- members that are the same have images that are: so where no image repeats, no member does
  pub repeats-image : (same' : B → B → Bool) → ((x y : A) → same x y ≡ true → same' (f x) (f y) ≡ true) → (l : List A)
      → repeats same' (map f l) ≡ false → repeats same l ≡ false
  repeats-image same' g [] h = refl
  repeats-image same' g (x ∷ l) h =
      ap₂ ◌||◌
      (contra (any (same x) l) (any (λ (y : A). same' (f x) (f y)) l) (any-implies (same x) (λ (y : A). same' (f x) (f y)) (g x) l)
      (sym (any-map f (same' (f x)) l) ∙ or_left (any (same' (f x)) (map f l)) _ h))
      (repeats-image same' g l (or_right (any (same' (f x)) (map f l)) _ h))

-- the images of members have the same g exactly if the members do
pub distinct-map : {A B C : Type 0} (f : A → B) (g : B → C) (l : List A) → DistinctBy (λ x. g (f x)) l → DistinctBy g (map f l)
distinct-map f g [] h = tt
distinct-map f g (x ∷ l) h = (All-image f h.0, distinct-map f g l h.1)
