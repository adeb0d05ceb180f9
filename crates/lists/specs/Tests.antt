-- Tests that compute: equality of numbers and lists, and decided statements as Booleans. Assumes nothing: these are definitions.
use Rattle.std.specs.Prelude.{◌≡◌, Bool, true, false, ◌&&◌, List, [], ◌∷◌, ℕ, T, eqb, ℤ, pos, negsuc}
use Rattle.std.proofs.Common.{ap, ap₂, subst, eqb→eq}
use mathlib.Core.HLevel.{Discrete}
use Rattle.std.proofs.Math.Dec.{eqb_refl}

-- whether a decided statement holds
abbrev pub is_yes : {P : Type 0} → Dec P → Bool
is_yes (yes p) = true
is_yes (no n) = false

-- equality of signed numbers
abbrev pub eq_z : ℤ → ℤ → Bool
eq_z (pos a) (pos b) = eqb a b
eq_z (pos a) (negsuc b) = false
eq_z (negsuc a) (pos b) = false
eq_z (negsuc a) (negsuc b) = eqb a b

-- equality of lists, element by element
abbrev pub eq_list : {A : Type 0} → (A → A → Bool) → List A → List A → Bool
eq_list same [] [] = true
eq_list same [] (y ∷ ys) = false
eq_list same (x ∷ xs) [] = false
eq_list same (x ∷ xs) (y ∷ ys) = same x y && eq_list same xs ys

-- two tests at once
pub both-T : (a b : Bool) → T a → T b → T (a && b)
both-T true b t u = u
both-T false b t u = t

pub T-both : (a b : Bool) → T (a && b) → T a × T b
T-both true b t = (tt, t)
T-both false b t = absurd t

-- ---- deciders of equality that compute, by these tests

abbrev pub by_test : {P : Type 0} (b : Bool) → (T b → P) → (P → T b) → Dec P
by_test true f g = yes (f tt)
by_test false f g = no g

abbrev pub dec_n : Discrete ℕ
dec_n m n = by_test (eqb m n) (eqb→eq m n) (λ e. subst (λ (k : ℕ). T (eqb m k)) e (eqb_refl m))

pub eq_z→eq : (a b : ℤ) → T (eq_z a b) → a ≡ b
eq_z→eq (pos a) (pos b) t = ap pos (eqb→eq a b t)
eq_z→eq (pos a) (negsuc b) t = absurd t
eq_z→eq (negsuc a) (pos b) t = absurd t
eq_z→eq (negsuc a) (negsuc b) t = ap negsuc (eqb→eq a b t)

pub eq_z-refl : (a : ℤ) → T (eq_z a a)
eq_z-refl (pos a) = eqb_refl a
eq_z-refl (negsuc a) = eqb_refl a

abbrev pub dec_z : Discrete ℤ
dec_z a b = by_test (eq_z a b) (eq_z→eq a b) (λ e. subst (λ (c : ℤ). T (eq_z a c)) e (eq_z-refl a))

module _ {A : Type 0} (same : A → A → Bool) where
  pub eq_list→eq : ((x y : A) → T (same x y) → x ≡ y) → (xs ys : List A) → T (eq_list same xs ys) → xs ≡ ys
  eq_list→eq f [] [] t = λ i. []
  eq_list→eq f [] (y ∷ ys) t = absurd t
  eq_list→eq f (x ∷ xs) [] t = absurd t
  eq_list→eq f (x ∷ xs) (y ∷ ys) t =
      let b = T-both (same x y) (eq_list same xs ys) t in
      ap₂ ◌∷◌ (f x y b.0) (eq_list→eq f xs ys b.1)

  pub eq_list-refl : ((x : A) → T (same x x)) → (xs : List A) → T (eq_list same xs xs)
  eq_list-refl f [] = tt
  eq_list-refl f (x ∷ xs) = both-T (same x x) (eq_list same xs xs) (f x) (eq_list-refl f xs)

abbrev pub dec_list : {A : Type 0} (same : A → A → Bool) → ((x y : A) → T (same x y) → x ≡ y) → ((x : A) → T (same x x)) → Discrete (List A)
dec_list same f g xs ys =
    by_test (eq_list same xs ys) (eq_list→eq same f xs ys) (λ e. subst (λ (zs : List _). T (eq_list same xs zs)) e (eq_list-refl same g xs))

-- bytes
abbrev pub dec_bytes : Discrete (List ℕ)
dec_bytes = dec_list eqb eqb→eq eqb_refl
