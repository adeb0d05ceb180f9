-- Which conditions may come from a text, by their steps alone: what a step does to the depth of the stack. Assumes nothing.
use mathlib.Core.Path.{◌≡◌, refl, sym, ap, ◌∙◌}
use mathlib.Core.Bool.{Bool, true, false, ◌&&◌, false≢true}
use mathlib.Core.List.{List, [], ◌∷◌}
use Prim.Native.Nat.{ℕ, zero, suc, ◌+◌, ◌-◌, ◌*◌, ◌≤◌, ◌<◌}
use native.Mathlib.Numerals.{add-one}
use native.Mathlib.Omega.{arith}
use borrow.Author.Tests.{lt-leb, le-leb, leb-true, ne_eqb}
use lib.Dec.{eqb, leb}
use lib.ListN.{length, drop, get_or, length-take}
use lib.Seq.{drop-cons, get_or-take}
use Rattle.lists.proofs.Bools.{and_left}
use Rattle.meaning.specs.Postfix.{is_postfix, balanced_on}
use Rattle.statement.specs.declared.Comparison.{Comparison}
use Rattle.statement.specs.declared.Condition.{Condition}
use Rattle.statement.specs.Sound.{nodes_read, used_steps, used_comparisons, condition_nodes}
use Rattle.pattern.specs.Stored.{is_formed}
use Rattle.pattern.specs.Private.Masks.{balanced}

-- the comparisons do not matter
pub balanced-nodes : (k : ℕ) (ss : List ℕ) (cs : List Comparison) → balanced_on k (nodes_read ss cs) ≡ balanced k ss
balanced-nodes zero [] cs = refl
balanced-nodes (suc zero) [] cs = refl
balanced-nodes (suc (suc k)) [] cs = refl
balanced-nodes k (zero ∷ ss) [] = balanced-nodes (suc k) ss []
balanced-nodes k (zero ∷ ss) (c ∷ cs) = balanced-nodes (suc k) ss cs
balanced-nodes zero (suc zero ∷ ss) cs = refl
balanced-nodes (suc zero) (suc zero ∷ ss) cs = refl
balanced-nodes (suc (suc k)) (suc zero ∷ ss) cs = balanced-nodes (suc k) ss cs
balanced-nodes zero (suc (suc j) ∷ ss) cs = refl
balanced-nodes (suc zero) (suc (suc j) ∷ ss) cs = refl
balanced-nodes (suc (suc k)) (suc (suc j) ∷ ss) cs = balanced-nodes (suc k) ss cs

-- ---- a step

pub join-fails : (d s : ℕ) (ss : List ℕ) → (s ≡ 0 → ⊥) → d < 2 → balanced d (s ∷ ss) ≡ false
join-fails d zero ss ne h = absurd (ne refl)
join-fails zero (suc j) ss ne h = refl
join-fails (suc zero) (suc j) ss ne h = refl
join-fails (suc (suc k)) (suc j) ss ne h = absurd (omega arith)

pub balanced-end : (d : ℕ) → balanced d [] ≡ eqb d 1
balanced-end zero = refl
balanced-end (suc zero) = refl
balanced-end (suc (suc k)) = sym (ne_eqb (suc (suc k)) 1 (λ e. omega arith))

-- the values that are left need as many joins
pub balanced-few : (d : ℕ) (ss : List ℕ) → balanced d ss ≡ true → d ≤ length ss + 1
balanced-few zero [] h = absurd (false≢true h)
balanced-few (suc zero) [] h = omega arith
balanced-few (suc (suc k)) [] h = absurd (false≢true h)
balanced-few d (zero ∷ ss) h = omega (arith, balanced-few (suc d) ss h)
balanced-few zero (suc j ∷ ss) h = absurd (false≢true h)
balanced-few (suc zero) (suc j ∷ ss) h = absurd (false≢true h)
balanced-few (suc (suc k)) (suc j ∷ ss) h = omega (arith, balanced-few (suc k) ss h)

-- ---- a condition

module _ (c : Condition) where
  pub steps-length : length c.steps ≡ 15 → c.count ≤ 8 → length (used_steps c) ≡ 2 * c.count - 1
  steps-length e h = length-take (2 * c.count - 1) c.steps ∙ omega arith

  pub steps-at : (i : ℕ) → i + 1 < 2 * c.count → get_or (used_steps c) i 0 ≡ get_or c.steps i 0
  steps-at i h = get_or-take (2 * c.count - 1) c.steps i 0 (omega arith)

  pub steps_next : length c.steps ≡ 15 → c.count ≤ 8 → (i : ℕ) → i + 1 < 2 * c.count
      → drop i (used_steps c) ≡ get_or c.steps i 0 ∷ drop (i + 1) (used_steps c)
  steps_next e l i h =
      drop-cons (used_steps c) i 0 (omega (arith, steps-length e l))
      ∙ ap (λ (x : ℕ). x ∷ drop (suc i) (used_steps c)) (steps-at i h)
      ∙ ap (λ (k : ℕ). get_or c.steps i 0 ∷ drop k (used_steps c)) (sym (add-one i))

  pub formed-many : 8 < c.count → is_formed c ≡ false
  unfolding is_formed
  formed-many h = ap (λ (b : Bool). b && is_postfix (condition_nodes c)) (lt-leb c.count 8 h)

  pub formed-none : c.count ≡ 0 → is_formed c ≡ true
  unfolding is_formed condition_nodes
  formed-none e = rw e

  some-nodes : (ss : List ℕ) (cs : List Comparison) → 1 ≤ length ss → is_postfix (nodes_read ss cs) ≡ balanced_on 0 (nodes_read ss cs)
  some-nodes [] cs h = absurd (omega arith)
  some-nodes (zero ∷ ss) [] h = refl
  some-nodes (zero ∷ ss) (c ∷ cs) h = refl
  some-nodes (suc zero ∷ ss) cs h = refl
  some-nodes (suc (suc k) ∷ ss) cs h = refl

  pub formed-some : length c.steps ≡ 15 → c.count ≤ 8 → (c.count ≡ 0 → ⊥) → is_formed c ≡ balanced 0 (used_steps c)
  unfolding is_formed condition_nodes
  formed-some e h ne =
      ap (λ (b : Bool). b && is_postfix (condition_nodes c)) (le-leb c.count 8 h)
      ∙ some-nodes (used_steps c) (used_comparisons c) (omega (arith, steps-length e h))
      ∙ balanced-nodes 0 (used_steps c) (used_comparisons c)

  pub formed-few : is_formed c ≡ true → c.count ≤ 8
  unfolding is_formed
  formed-few h = leb-true c.count 8 (and_left (leb c.count 8) (is_postfix (condition_nodes c)) h)
