-- The digits of a number, of 64 bits or fewer: those in front of the last are those of its tenth. Assumes nothing.
use mathlib.Core.Path.{◌≡◌, sym, ap, ◌∙◌}
use mathlib.Core.List.{List, [], ◌∷◌, ◌++◌}
use Prim.Native.Nat.{ℕ, zero, suc, ◌+◌, ◌/◌, ◌%◌, ◌^◌, ◌≤◌, ◌<◌}
use native.Mathlib.Decide.{dec_lt}
use native.Mathlib.Omega.{arith}
use borrow.Author.Tests.{lt-ltb, le-ltb}
use Rattle.console.specs.Printed.{digits_in, decimal_text}

module _ (k n : ℕ) where
  pub digits-one : n < 10 → digits_in (suc k) n ≡ (48 + n) ∷ []
  digits-one h = rw (lt-ltb n 10 h, digits_in)

  pub digits_more : 10 ≤ n → digits_in (suc k) n ≡ digits_in k (n / 10) ++ ((48 + n % 10) ∷ [])
  digits_more h = rw (le-ltb n 10 h, digits_in)

-- more places than it has digits change nothing
pub digits-enough : (k n : ℕ) → n < 10 ^ suc k → digits_in (suc (suc k)) n ≡ digits_in (suc k) n
digits-enough zero n h = digits-one 1 n (omega arith) ∙ sym (digits-one 0 n (omega arith))
digits-enough (suc k) n h = go (dec_lt n 10) (digits-enough k (n / 10) (omega arith))
  where
    go : Dec (n < 10) → digits_in (suc (suc k)) (n / 10) ≡ digits_in (suc k) (n / 10) → digits_in (suc (suc (suc k))) n ≡ digits_in (suc (suc k)) n
    go (yes s) e = digits-one (suc (suc k)) n s ∙ sym (digits-one (suc k) n s)
    go (no s) e =
        digits_more (suc (suc k)) n (omega arith)
        ∙ ap (λ (l : List ℕ). l ++ ((48 + n % 10) ∷ [])) e
        ∙ sym (digits_more (suc k) n (omega arith))

module _ (n : ℕ) where
  pub decimal-one : n < 10 → decimal_text n ≡ (48 + n % 10) ∷ []
  unfolding decimal_text
  decimal-one h = let e : n ≡ n % 10 = omega arith in digits-one 19 n h ∙ ap (λ (m : ℕ). (48 + m) ∷ []) e

  pub decimal-more : 10 ≤ n → n < 2 ^ 64 → decimal_text n ≡ decimal_text (n / 10) ++ ((48 + n % 10) ∷ [])
  unfolding decimal_text
  decimal-more h k =
      digits_more 19 n h ∙ ap (λ (l : List ℕ). l ++ ((48 + n % 10) ∷ [])) (sym (digits-enough 18 (n / 10) (omega arith)))
