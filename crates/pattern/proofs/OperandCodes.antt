-- The code of an operand: operands that fit have different codes, the order of the codes is that of the constants, null the least, and constants come before update
-- marks and these before all others. Assumes nothing.
use mathlib.Core.Path.{◌≡◌, refl, sym, ap, ◌∙◌}
use mathlib.Core.Bool.{true, cond}
use Prim.Native.Nat.{ℕ, suc, ◌+◌, ◌-◌, ◌≤◌, ◌<◌}
use native.Mathlib.Omega.{arith}
use lib.IntN.{ℤ, pos, negsuc}
use lib.Dec.{ltb, leb}
use borrow.Author.Tests.{leb-true, lt-ltb, le-ltb}
use Rattle.lists.proofs.Bools.{and_left}
use Rattle.meaning.specs.Limits.{is_within32}
use Rattle.meaning.specs.Pattern.{Joint, column, constant, asked, given, Entry, number, mark, anything}
use Rattle.pattern.specs.Private.Least.{marks_from, asked_from, columns_from, constant_code, code_of, code_constant, entry_of_code}

-- an operand of a stored statement: constants have 32 bits, and there is room for marks and columns
abbrev pub Fits : Joint → Type 0
Fits (column i) = i < 65536
Fits (constant z) = is_within32 z ≡ true
Fits (asked k) = k < 65536
Fits (given k) = k < 65536

-- ---- constants

pos-below : (n : ℕ) → is_within32 (pos n) ≡ true → n ≤ 2147483647
pos-below n h = leb-true n 2147483647 h

negsuc-below : (n : ℕ) → is_within32 (negsuc n) ≡ true → n ≤ 2147483647
negsuc-below n h = leb-true n 2147483647 (and_left (leb n 2147483647) true h)

pub constant-below : (z : ℤ) → is_within32 z ≡ true → constant_code z < marks_from
constant-below (pos n) h = let k = pos-below n h in omega arith
constant-below (negsuc n) h = omega arith

-- the constant of a code
pub code-constant : (z : ℤ) → is_within32 z ≡ true → code_constant (constant_code z) ≡ z
code-constant (pos n) h =
    let e : 2147483648 + n - 2147483648 ≡ n = omega arith in
    rw (le-ltb (2147483648 + n) 2147483648 (omega arith)) (ap pos e)
code-constant (negsuc n) h =
    let k = negsuc-below n h in
    let e : 2147483648 - suc (2147483647 - n) ≡ n = omega arith in
    rw (lt-ltb (2147483647 - n) 2147483648 (omega arith)) (ap negsuc e)

-- ---- operands

-- the operand of a code
abbrev operand_of : ℕ → Joint
operand_of n =
    cond (ltb n marks_from) (constant (code_constant n))
    (cond (ltb n asked_from) (given (n - marks_from)) (cond (ltb n columns_from) (asked (n - asked_from)) (column (n - columns_from))))

operand-of : (x : Joint) → Fits x → operand_of (code_of x) ≡ x
operand-of (column i) h =
    let e : columns_from + i - columns_from ≡ i = omega arith in
    rw (le-ltb (columns_from + i) marks_from (omega arith), le-ltb (columns_from + i) asked_from (omega arith), le-ltb (columns_from + i) columns_from (omega arith)) (ap column e)
operand-of (constant z) h = rw (lt-ltb (constant_code z) marks_from (constant-below z h)) (ap constant (code-constant z h))
operand-of (asked k) h =
    let e : asked_from + k - asked_from ≡ k = omega arith in
    rw (le-ltb (asked_from + k) marks_from (omega arith), le-ltb (asked_from + k) asked_from (omega arith), lt-ltb (asked_from + k) columns_from (omega arith)) (ap asked e)
operand-of (given k) h =
    let e : marks_from + k - marks_from ≡ k = omega arith in
    rw (le-ltb (marks_from + k) marks_from (omega arith), lt-ltb (marks_from + k) asked_from (omega arith)) (ap given e)

-- operands that fit have different codes
pub same_code : (x y : Joint) → Fits x → Fits y → code_of x ≡ code_of y → x ≡ y
same_code x y h k e = sym (operand-of x h) ∙ ap operand_of e ∙ operand-of y k

-- what an operand says of a question mark of its class
abbrev pub operand_entry : Joint → Entry
operand_entry (column i) = anything
operand_entry (constant z) = number z
operand_entry (asked k) = anything
operand_entry (given k) = mark k

pub entry-of-code : (x : Joint) → Fits x → entry_of_code (code_of x) ≡ operand_entry x
entry-of-code (column i) h = rw (le-ltb (columns_from + i) marks_from (omega arith), le-ltb (columns_from + i) asked_from (omega arith))
entry-of-code (constant z) h = rw (lt-ltb (constant_code z) marks_from (constant-below z h)) (ap number (code-constant z h))
entry-of-code (asked k) h = rw (le-ltb (asked_from + k) marks_from (omega arith), le-ltb (asked_from + k) asked_from (omega arith))
entry-of-code (given k) h =
    let e : marks_from + k - marks_from ≡ k = omega arith in
    rw (le-ltb (marks_from + k) marks_from (omega arith), lt-ltb (marks_from + k) asked_from (omega arith)) (ap mark e)

-- only constants have the lowest codes
pub below-constant : (x : Joint) → code_of x < marks_from → (z : ℤ) × (x ≡ constant z)
below-constant (column i) h = absurd (omega arith)
below-constant (constant z) h = (z, refl)
below-constant (asked k) h = absurd (omega arith)
below-constant (given k) h = absurd (omega arith)
