-- Laws of decimal values and of constants. Assumes nothing.
use mathlib.Core.Path.{◌≡◌, refl, sym, ap, ◌∙◌}
use mathlib.Core.Bool.{Bool, true, false, cond, and-true}
use mathlib.Core.List.{List, [], ◌∷◌, ◌++◌}
use Prim.Native.Nat.{ℕ, zero, suc, ◌+◌, ◌-◌, ◌*◌, ◌≤◌, min}
use native.Mathlib.Omega.{arith}
use native.Mathlib.Decide.{dec_le}
use borrow.Author.Tests.{lt-leb}
use lib.Dec.{leb, leb-suc-suc}
use Rattle.meaning.specs.Tokens.{decimal_on, decimal, constant}
use Rattle.meaning.specs.Limits.{is_within32}
use Rattle.token.specs.declared.Kind.TheVariants.{Constant, Big}
use Rattle.token.specs.Tokens.{kind_of}
use Rattle.token.specs.Private.Parts.{signed}

on-snoc : (n : ℕ) (ds : List ℕ) (d : ℕ) → decimal_on n (ds ++ (d ∷ [])) ≡ decimal_on n ds * 10 + (d - 48)
on-snoc n [] d = refl
on-snoc n (e ∷ ds) d = on-snoc (n * 10 + (e - 48)) ds d

pub value-none : 0 ≡ min (decimal []) 4294967295
unfolding decimal
value-none = refl

-- one digit more
pub value-snoc : (ds : List ℕ) (d : ℕ) → decimal (ds ++ (d ∷ [])) ≡ decimal ds * 10 + (d - 48)
unfolding decimal
value-snoc ds d = on-snoc 0 ds d

-- ---- digits are read up to a number that lies outside 32 bits with either sign

abbrev most : Bool → ℕ
most true = 2147483648
most false = 2147483647

within-is : (m : Bool) (n : ℕ) → is_within32 (signed m n) ≡ leb n (most m)
within-is true zero = refl
within-is true (suc n) = and-true (leb n 2147483647) ∙ sym (leb-suc-suc n 2147483647)
within-is false n = refl

most-small : (m : Bool) → most m ≤ 2147483648
most-small true = omega arith
most-small false = omega arith

pub constant-cap : (m : Bool) (n : ℕ) → kind_of (constant (signed m (min n 4294967295))) ≡ kind_of (constant (signed m n))
constant-cap m n = go (dec_le n 4294967295)
  where
    big : (n : ℕ) → 4294967295 ≤ n → kind_of (constant (signed m n)) ≡ Big
    big n h =
        let s = most-small m in
        ap (λ b. cond b (Constant (signed m n)) Big) (within-is m n ∙ lt-leb n (most m) (omega arith))

    go : Dec (n ≤ 4294967295) → kind_of (constant (signed m (min n 4294967295))) ≡ kind_of (constant (signed m n))
    go (yes h) =
        let e : min n 4294967295 ≡ n = omega arith in
        rw e
    go (no h) = big (min n 4294967295) (omega arith) ∙ sym (big n (omega arith))
