-- The place of the first byte that passes a test, against the run of those before it. Assumes nothing.
use mathlib.Core.Path.{◌≡◌, refl, sym, ap, ◌∙◌}
use mathlib.Core.Bool.{Bool, true, false, not, cond}
use mathlib.Core.List.{List, [], ◌∷◌}
use Prim.Native.Nat.{ℕ, suc, ◌+◌, ◌≤◌}
use native.Mathlib.Omega.{arith}
use borrow.Author.Tests.{ltb-false, lt-ltb}
use lib.Dec.{ltb}
use lib.ListN.{length}
use Rattle.std.specs.Prelude.{Option, Some, None, is_some, position, unwrap_or}
use Rattle.std.specs.List.{position_or_len}
use Rattle.std.proofs.lemmas.Bool.Decides.{nat_tests}
use Rattle.std.proofs.lemmas.List.Recursion.{is_position_or_len}
use Rattle.lists.specs.Lists.{take_while, drop_while}
use Rattle.console.specs.Lines.{has_newline}

module _ (p : ℕ → Bool) where
  abbrev pub run : List ℕ → ℕ
  run l = length (take_while (λ (b : ℕ). not (p b)) l)

  pub run-few : (l : List ℕ) → run l ≤ length l
  run-few [] = omega arith
  run-few (x ∷ l) = go (p x) (run-few l)
    where
      go : (b : Bool) → run l ≤ length l → length (cond (not b) (x ∷ take_while (λ (b : ℕ). not (p b)) l) []) ≤ suc (length l)
      go true h = omega arith
      go false h = omega (arith, h)

  run-is : (l : List ℕ) → position_or_len p l ≡ run l
  run-is l = sym (is_position_or_len run p refl (λ x l. go (p x) x l) l)
    where
      go : (b : Bool) (x : ℕ) (l : List ℕ) → length (cond (not b) (x ∷ take_while (λ (b : ℕ). not (p b)) l) []) ≡ cond b 0 (1 + run l)
      go true x l = refl
      go false x l = omega arith

  place : (l : List ℕ) → position p l ≡ cond (ltb (run l) (length l)) (Some (run l)) None
  place l = ap (λ (k : ℕ). cond (ltb k (length l)) (Some k) None) (run-is l)

  -- where none passes, the run is the whole list
  pub run-found : (l : List ℕ) → unwrap_or (position p l) (length l) ≡ run l
  run-found l = ap (λ (o : Option ℕ). unwrap_or o (length l)) (place l) ∙ go (ltb (run l) (length l)) refl
    where
      go : (b : Bool) → ltb (run l) (length l) ≡ b → unwrap_or (cond b (Some (run l)) None) (length l) ≡ run l
      go true e = refl
      go false e = omega (arith, ltb-false (run l) (length l) e, run-few l)

  ends : (l : List ℕ) → has_newline (drop_while (λ (b : ℕ). not (p b)) l) ≡ ltb (run l) (length l)
  ends [] = refl
  ends (x ∷ l) = go (p x) (ends l)
    where
      go : (b : Bool) → has_newline (drop_while (λ (b : ℕ). not (p b)) l) ≡ ltb (run l) (length l)
          → has_newline (cond (not b) (drop_while (λ (b : ℕ). not (p b)) l) (x ∷ l)) ≡ ltb (length (cond (not b) (x ∷ take_while (λ (b : ℕ). not (p b)) l) [])) (suc (length l))
      go true h = sym (lt-ltb 0 (suc (length l)) (omega arith))
      go false h = h ∙ both (run l) (length l)
        where
          both : (i n : ℕ) → ltb i n ≡ ltb (suc i) (suc n)
          both i n = grind (arith, nat_tests)

  -- whether one passes
  pub found-is : (l : List ℕ) → is_some (position p l) ≡ has_newline (drop_while (λ (b : ℕ). not (p b)) l)
  found-is l = ap is_some (place l) ∙ go (ltb (run l) (length l)) ∙ sym (ends l)
    where
      go : (b : Bool) → is_some (cond b (Some (run l)) None) ≡ b
      go true = refl
      go false = refl
