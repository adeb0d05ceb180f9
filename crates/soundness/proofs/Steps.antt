-- Steps by the depth of the stack, and that it tells whether they are a postfix order of steps 0 to 2. Assumes nothing.
use mathlib.Core.Path.{◌≡◌, refl, sym, ap, ◌∙◌}
use mathlib.Core.Bool.{Bool, false, ◌&&◌, and-false}
use mathlib.Core.List.{List, [], ◌∷◌}
use Prim.Native.Nat.{ℕ, zero, suc, ◌-◌, ◌≤◌, ◌<◌}
use native.Mathlib.Numerals.{add-one}
use native.Mathlib.Omega.{arith}
use borrow.Author.Tests.{ne_eqb, le-leb, lt-leb, lt-ltb, le-ltb}
use lib.Dec.{ltb}
use Rattle.std.specs.Prelude.{Some, None}
use Rattle.lists.specs.Lists.{all}
use Rattle.meaning.specs.Postfix.{balanced_on, is_postfix}
use Rattle.statement.specs.Sound.{nodes_read}
use Rattle.statement.specs.declared.Comparison.{Comparison}
use Rattle.soundness.specs.Private.Parts.{passes, depth_after, steps_on}

-- ---- steps and nodes

abbrev known : List ℕ → Bool
known ss = all (λ (s : ℕ). ltb s 3) ss

-- AND and OR take one value away, if two are there; there is no other step
depth-join : (k s : ℕ) → (s ≡ 0 → ⊥) → s < 3 → depth_after (suc (suc k)) s ≡ Some (suc k)
depth-join k s z h =
    let e : suc (suc k) - 1 ≡ suc k = omega arith in
    rw (ne_eqb s 0 z, lt-ltb s 3 h, le-leb 2 (suc (suc k)) (omega arith)) (ap Some e)

depth-few : (k s : ℕ) → (s ≡ 0 → ⊥) → k < 2 → depth_after k s ≡ None
depth-few k s z h = rw (ne_eqb s 0 z, lt-leb 2 k h, and-false (ltb s 3))

depth-far : (k s : ℕ) → 3 ≤ s → depth_after k s ≡ None
depth-far k s h = rw (ne_eqb s 0 (λ e. omega arith), le-ltb s 3 h)

on_none : (k s : ℕ) (ss : List ℕ) → depth_after k s ≡ None → steps_on k (s ∷ ss) ≡ false
on_none k s ss e = ap (passes (λ (d : ℕ). steps_on d ss)) e

on_some : (k s d : ℕ) (ss : List ℕ) → depth_after k s ≡ Some (suc d) → steps_on k (s ∷ ss) ≡ steps_on (suc d) ss
on_some k s d ss e = ap (passes (λ (d : ℕ). steps_on d ss)) e

steps_on_lem : (k : ℕ) (ss : List ℕ) (cs : List Comparison) → steps_on (suc k) ss ≡ (known ss && balanced_on (suc k) (nodes_read ss cs))
steps_on_lem zero [] cs = refl
steps_on_lem (suc k) [] cs = lt-leb (suc (suc k)) 1 (omega arith)
steps_on_lem k (zero ∷ ss) [] = on_some (suc k) 0 (suc k) ss (ap Some (add-one (suc k))) ∙ steps_on_lem (suc k) ss []
steps_on_lem k (zero ∷ ss) (c ∷ cs) = on_some (suc k) 0 (suc k) ss (ap Some (add-one (suc k))) ∙ steps_on_lem (suc k) ss cs
steps_on_lem zero (suc zero ∷ ss) cs = on_none 1 1 ss (depth-few 1 1 (λ e. omega arith) (omega arith)) ∙ sym (and-false (known ss))
steps_on_lem (suc k) (suc zero ∷ ss) cs = on_some (suc (suc k)) 1 k ss (depth-join k 1 (λ e. omega arith) (omega arith)) ∙ steps_on_lem k ss cs
steps_on_lem zero (suc (suc zero) ∷ ss) cs = on_none 1 2 ss (depth-few 1 2 (λ e. omega arith) (omega arith)) ∙ sym (and-false (known ss))
steps_on_lem (suc k) (suc (suc zero) ∷ ss) cs = on_some (suc (suc k)) 2 k ss (depth-join k 2 (λ e. omega arith) (omega arith)) ∙ steps_on_lem k ss cs
steps_on_lem k (suc (suc (suc s)) ∷ ss) cs =
    on_none (suc k) (suc (suc (suc s))) ss (depth-far (suc k) (suc (suc (suc s))) (omega arith))
    ∙ sym (ap (λ (b : Bool). (b && known ss) && balanced_on (suc k) (nodes_read (suc (suc (suc s)) ∷ ss) cs)) (le-ltb (suc (suc (suc s))) 3 (omega arith)))

-- all steps, from the empty stack
pub steps-postfix : (ss : List ℕ) (cs : List Comparison) → steps_on 0 ss ≡ (known ss && is_postfix (nodes_read ss cs))
steps-postfix [] cs = refl
steps-postfix (zero ∷ ss) [] = on_some 0 0 0 ss refl ∙ steps_on_lem 0 ss []
steps-postfix (zero ∷ ss) (c ∷ cs) = on_some 0 0 0 ss refl ∙ steps_on_lem 0 ss cs
steps-postfix (suc zero ∷ ss) cs = on_none 0 1 ss (depth-few 0 1 (λ e. omega arith) (omega arith)) ∙ sym (and-false (known ss))
steps-postfix (suc (suc s) ∷ ss) cs =
    on_none 0 (suc (suc s)) ss (depth-few 0 (suc (suc s)) (λ e. omega arith) (omega arith)) ∙ sym (and-false (known (suc (suc s) ∷ ss)))
