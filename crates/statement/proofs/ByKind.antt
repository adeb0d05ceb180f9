-- What an operand and a value read as, by their codes. For callers. Assumes nothing.
use mathlib.Core.Path.{◌≡◌, refl, ap, ◌∙◌}
use mathlib.Core.Logic.{◌≢◌}
use mathlib.Core.Bool.{Bool, true, false, cond}
use Prim.Native.Nat.{ℕ, zero, suc, ◌+◌, ◌*◌, ◌-◌, ◌/◌, ◌%◌, ◌≤◌}
use native.Mathlib.Omega.{arith}
use borrow.Author.Tests.{eq-eqb, ne_eqb}
use lib.Dec.{eqb}
use mathlib.Core.List.{List, [], ◌∷◌}
use lib.IntN.{ℤ, pos}
use lib.ListN.{length}
use Rattle.meaning.specs.Names.{same_name, position}
use Rattle.meaning.specs.Statement as M
use Rattle.meaning.specs.Statement.{column, value, constant, parameter}
use Rattle.statement.specs.Sound.{value_by, operand_by, value_read, operand_read}
use Rattle.statement.specs.declared.Operand.{Operand}
use Rattle.statement.specs.declared.Value.{Value}

module _ (n : ℕ) (z : ℤ) where
  pub code-mark : n % 2 ≡ 1 → operand_by n z ≡ value (parameter (suc (n / 2)))
  code-mark h = rw (ne_eqb n 0 (λ e. omega arith), eq-eqb (n % 2) 1 h) refl

  pub code-column : n % 2 ≢ 1 → n ≢ 0 → operand_by n z ≡ column (n / 2 - 1)
  code-column h k = rw (ne_eqb n 0 k, ne_eqb (n % 2) 1 h) refl

pub position-most : (ns : List (List ℕ)) (n : List ℕ) → position ns n ≤ length ns
position-most [] n = omega arith
position-most (m ∷ ns) n = go (same_name n m) (position-most ns n)
  where
    go : (b : Bool) → position ns n ≤ length ns → cond b 0 (suc (position ns n)) ≤ suc (length ns)
    go true h = omega arith
    go false h = omega arith

pub parameter-read : (k : ℕ) → operand_by (2 * k + 1) (pos 0) ≡ value (parameter (suc k))
parameter-read k =
    let e : (2 * k + 1) / 2 ≡ k = omega arith in
    code-mark (2 * k + 1) (pos 0) (omega arith) ∙ ap (λ (j : ℕ). value (parameter (suc j))) e

pub column-read : (i : ℕ) → operand_by (2 * i + 2) (pos 0) ≡ column i
column-read i =
    let e : (2 * i + 2) / 2 - 1 ≡ i = omega arith in
    code-column (2 * i + 2) (pos 0) (λ h. omega arith) (λ h. omega arith) ∙ ap column e

module _ (o : Operand) where
  -- what holds of each reading holds of an operand
  pub by_kind : (P : M.Operand → Type 0) → P (value (constant o.number)) → P (value (parameter (suc (o.code / 2)))) → P (column (o.code / 2 - 1)) → P (operand_read o)
  by_kind P a b c = go (eqb o.code 0) (eqb (o.code % 2) 1)
    where
      go : (x y : Bool) → P (cond x (value (constant o.number)) (cond y (value (parameter (suc (o.code / 2)))) (column (o.code / 2 - 1))))
      go true y = a
      go false true = b
      go false false = c

module _ (v : Value) where
  pub by-kind-value : (P : M.Value → Type 0) → P (constant v.number) → ((k : ℕ) → v.mark ≡ suc k → P (parameter (suc k))) → P (value_read v)
  by-kind-value P a b = go v.mark refl
    where
      go : (n : ℕ) → v.mark ≡ n → P (value_by n v.number)
      go zero e = a
      go (suc k) e = b k e
