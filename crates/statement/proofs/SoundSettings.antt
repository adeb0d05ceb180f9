-- What VALUES and SET give, read back: values numbered from what a sentence gives, and settings as columns and values. Assumes nothing.
use mathlib.Core.Path.{◌≡◌, refl, sym, ap, ap₂, ◌∙◌}
use mathlib.Core.Bool.{Bool, true, false, not}
use mathlib.Core.List.{List, [], ◌∷◌, ◌++◌, map, nil≢cons, cons≢nil, head-eq_of_cons-eq, tail-eq_of_cons-eq}
use Prim.Native.Nat.{ℕ, suc, ◌+◌}
use native.Mathlib.Omega.{arith}
use borrow.Author.Tests.{ltb-true, eqb-true, eq-eqb}
use lib.Dec.{eqb, ltb}
use lib.ListN.{length, get_or}
use Rattle.lists.specs.Lists.{All, nil, cons, any, all, repeats, from}
use Rattle.lists.proofs.Bools.{and_left, and_right, and_both, or_left, or_right, not-false, contra}
use Rattle.lists.proofs.Lists.{All-head, All-tail, All-map, all_true, any_false}
use Rattle.meaning.specs.Resolve.{parameter_count, numbered_on}
use Rattle.meaning.specs.Tokens.{Name}
use Rattle.meaning.specs.Grammar as G
use Rattle.meaning.specs.Grammar.{Given, mark}
use Rattle.meaning.specs.Limits.{mark_in, mark_count, outside32}
use Rattle.meaning.specs.Names.{same_name, has, position}
use Rattle.meaning.specs.Statement as M
use Rattle.meaning.specs.Statement.{value, constant, parameter, numbered_all, settings}
use Rattle.meaning.proofs.Names.{same-is, position-is}
use Rattle.meaning.proofs.Resolve.{same-name, position_at}
use Rattle.meaning.specs.Pattern.{placed_from}
use Rattle.statement.specs.Sound.{value_read, setting_read, ValueFits}
use Rattle.statement.specs.Compiled.{new_value}
use Rattle.statement.specs.declared.Value.{Value}
use Rattle.statement.specs.declared.Setting.{Setting}
use Rattle.statement.proofs.ByKind.{by-kind-value}
use Rattle.statement.proofs.SoundNames.{or-none}

-- ---- values

pub marks-append : (vs us : List Given) → mark_count (vs ++ us) ≡ mark_count vs + mark_count us
marks-append [] us = omega arith
marks-append (v ∷ vs) us = omega (arith, marks-append vs us)

-- what a sentence gives for a value
abbrev pub given_at : M.Value → Given
given_at (constant z) = G.constant z
given_at (parameter k) = mark

pub values-back : (m : ℕ) (vs : List M.Value) → numbered_on m (map value vs) ≡ true → numbered_all m (map given_at vs) ≡ vs
values-back m [] h = refl
values-back m (constant z ∷ vs) h = ap (λ r. constant z ∷ r) (values-back (m + 0) vs h)
values-back m (parameter k ∷ vs) h =
    ap₂ (λ i r. parameter i ∷ r) (sym (eqb-true k (suc m) (and_left (eqb k (suc m)) _ h))) (values-back (m + 1) vs (and_right (eqb k (suc m)) _ h))

pub values-marks : (vs : List M.Value) → mark_count (map given_at vs) ≡ parameter_count (map value vs)
values-marks [] = refl
values-marks (constant z ∷ vs) = ap (λ k. 0 + k) (values-marks vs)
values-marks (parameter k ∷ vs) = ap (λ i. 1 + i) (values-marks vs)

pub values_numbered : (m : ℕ) (gs : List Given) → numbered_on m (map value (numbered_all m gs)) ≡ true
values_numbered m [] = refl
values_numbered m (G.constant z ∷ gs) = values_numbered (m + 0) gs
values_numbered m (mark ∷ gs) = and_both (eqb (suc m) (suc m)) _ (eq-eqb (suc m) (suc m) refl) (values_numbered (m + 1) gs)

pub numbered-marks : (m : ℕ) (gs : List Given) → parameter_count (map value (numbered_all m gs)) ≡ mark_count gs
numbered-marks m [] = refl
numbered-marks m (G.constant z ∷ gs) = ap (λ k. 0 + k) (numbered-marks (m + 0) gs)
numbered-marks m (mark ∷ gs) = ap (λ i. 1 + i) (numbered-marks (m + 1) gs)

-- constants of settings that fit have 32 bits
value-small : (v : Value) → ValueFits v → outside32 (given_at (value_read v)) ≡ false
value-small v f = by-kind-value v (λ (w : M.Value). outside32 (given_at w) ≡ false) (ap not f) (λ k e. refl)

pub values-small : {ss : List Setting} → All (λ (s : Setting). ValueFits (new_value s)) ss
    → any outside32 (map given_at (map (λ (s : ℕ × M.Value). s.1) (map setting_read ss))) ≡ false
values-small nil = refl
values-small (cons {x = s} f h) = or-none (outside32 (given_at (value_read (new_value s)))) _ (value-small (new_value s) f) (values-small h)

-- ---- settings as columns and values

pub same-pairs : {A B : Type 0} (xs ys : List (A × B)) → map (λ (x : A × B). x.0) xs ≡ map (λ (x : A × B). x.0) ys
    → map (λ (x : A × B). x.1) xs ≡ map (λ (x : A × B). x.1) ys → xs ≡ ys
same-pairs [] [] h k = refl
same-pairs [] (y ∷ ys) h k = absurd (nil≢cons h)
same-pairs (x ∷ xs) [] h k = absurd (cons≢nil h)
same-pairs (x ∷ xs) (y ∷ ys) h k =
    λ i. (head-eq_of_cons-eq h i, head-eq_of_cons-eq k i) ∷ same-pairs xs ys (tail-eq_of_cons-eq h) (tail-eq_of_cons-eq k) i

pub placed-columns : (i : ℕ) (vs : List M.Value) → map (λ (s : ℕ × M.Value). s.0) (placed_from i vs) ≡ from i (length vs)
placed-columns i [] = refl
placed-columns i (v ∷ vs) = ap (λ r. i ∷ r) (placed-columns (suc i) vs)

pub placed-values : (i : ℕ) (vs : List M.Value) → map (λ (s : ℕ × M.Value). s.1) (placed_from i vs) ≡ vs
placed-values i [] = refl
placed-values i (v ∷ vs) = ap (λ r. v ∷ r) (placed-values (suc i) vs)

pub placed-length : (i : ℕ) (vs : List M.Value) → length (placed_from i vs) ≡ length vs
placed-length i [] = refl
placed-length i (v ∷ vs) = ap suc (placed-length (suc i) vs)

module _ (columns : List Name) where
  pub settings-columns : (m : ℕ) (ss : List (Name × Given)) → map (λ (s : ℕ × M.Value). s.0) (settings columns m ss) ≡ map (position columns) (map (λ (s : Name × Given). s.0) ss)
  settings-columns m [] = refl
  settings-columns m (s ∷ ss) = ap (λ r. position columns s.0 ∷ r) (settings-columns (m + mark_in s.1) ss)

  pub settings-values : (m : ℕ) (ss : List (Name × Given)) → map (λ (s : ℕ × M.Value). s.1) (settings columns m ss) ≡ numbered_all m (map (λ (s : Name × Given). s.1) ss)
  settings-values m [] = refl
  settings-values m (s ∷ ss) = ap (λ r. M.numbered m s.1 ∷ r) (settings-values (m + mark_in s.1) ss)

  pub settings-length : (m : ℕ) (ss : List (Name × Given)) → length (settings columns m ss) ≡ length ss
  settings-length m [] = refl
  settings-length m (s ∷ ss) = ap suc (settings-length (m + mark_in s.1) ss)

  -- what a sentence sets for a setting
  abbrev pub set_at : ℕ × M.Value → Name × Given
  set_at s = (get_or columns s.0 [], given_at s.1)

-- ---- members that are different stay different

pub repeats-map : {A B : Type 0} {P : A → Type 0} (f : A → B) (same : A → A → Bool) (same' : B → B → Bool)
    → ((x y : A) → P x → P y → same' (f x) (f y) ≡ true → same x y ≡ true)
    → {l : List A} → All P l → repeats same l ≡ false → repeats same' (map f l) ≡ false
repeats-map f same same' k nil h = refl
repeats-map {P} f same same' k (cons {x = x} {xs = l} p a) h =
    or-none (any (same' (f x)) (map f l)) _
    (later (or_left (any (same x) l) _ h) a)
    (repeats-map f same same' k a (or_right (any (same x) l) _ h))
  where
    later : {r : List _} → any (same x) r ≡ false → All P r → any (same' (f x)) (map f r) ≡ false
    later {r = []} e b = refl
    later {r = y ∷ r} e b =
        or-none (same' (f x) (f y)) _ (contra (same' (f x) (f y)) (same x y) (k x y p (All-head b)) (or_left (same x y) _ e))
        (later {r = r} (or_right (same x y) _ e) (All-tail b))

module _ (columns : List Name) where
  -- names at different places
  pub names-different : repeats same_name columns ≡ false → (is : List ℕ) → all (λ (i : ℕ). ltb i (length columns)) is ≡ true → repeats eqb is ≡ false
      → repeats same_name (map (λ (i : ℕ). get_or columns i []) is) ≡ false
  names-different d is h r =
      repeats-map {P = λ i. ltb i (length columns) ≡ true} (λ (i : ℕ). get_or columns i []) eqb same_name
      (λ i j p q e.
      eq-eqb i j
      (sym (position_at columns i [] d (ltb-true i (length columns) p))
      ∙ ap (position columns) (same-is (get_or columns i []) (get_or columns j []) e)
      ∙ position_at columns j [] d (ltb-true j (length columns) q)))
      (all_true (λ (i : ℕ). ltb i (length columns)) is h) r

  -- places of different names
  pub places-different : (ns : List Name) → any (λ (n : Name). not (has columns n)) ns ≡ false → repeats same_name ns ≡ false
      → repeats eqb (map (position columns) ns) ≡ false
  places-different ns h r =
      repeats-map {P = λ n. has columns n ≡ true} (position columns) same_name eqb
      (λ m n p q e.
      ap (same_name m) (sym (position-is columns n [] q) ∙ ap (λ i. get_or columns i []) (sym (eqb-true (position columns m) (position columns n) e)) ∙ position-is columns m [] p)
      ∙ same-name m)
      (All-map (λ n e. not-false (has columns n) e) (any_false (λ (n : Name). not (has columns n)) ns h)) r
