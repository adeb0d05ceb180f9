-- The parts of statements: the marks, operators and steps of what stands at places. Assumes nothing.
use mathlib.Core.Path.{◌≡◌, refl, ap, ◌∙◌}
use mathlib.Core.Bool.{Bool}
use mathlib.Core.List.{List}
use Prim.Native.Nat.{ℕ, ◌+◌, ◌≤◌}
use native.Mathlib.Omega.{arith}
use Rattle.meaning.specs.Grammar as G
use Rattle.meaning.specs.Grammar.{Given, Term}
use Rattle.meaning.specs.Limits.{mark_in}
use Rattle.meaning.specs.Statement as M
use Rattle.meaning.specs.Condition.{renamed}
use Rattle.meaning.specs.Statement.{column, value, constant, parameter, numbered, mark_in_term, operand_of, comparison_of}
use Rattle.meaning.specs.Resolve.{mark_in_operand}
use Rattle.statement.specs.declared.Operand.{Operand}
use Rattle.statement.specs.Sound.{operand_read}
use Rattle.statement.specs.Operators.{predicate_at, predicate_number}
use Rattle.statement.proofs.ByKind.{column-read, parameter-read}
use Rattle.statement.specs.Private.Places.{Column}
use Rattle.statement.specs.Compiled.{value_struct, operand_struct, comparison_with, comparison_struct}
use Rattle.statement.specs.Private.Built.{short_given, short_column, short_term, side_on, mark_in_value, mark_in_side, comparison_on}

-- ---- marks

mark-read : (o : M.Operand) → mark_in_operand o ≤ 1
mark-read (column i) = omega arith
mark-read (value (constant z)) = omega arith
mark-read (value (parameter k)) = omega arith

pub mark-few : (o : Operand) → mark_in_side o ≤ 1
mark-few o = mark-read (operand_read o)

pub mark-one : (v : Given) → mark_in v ≤ 1
mark-one (G.constant z) = omega arith
mark-one G.mark = omega arith

pub mark-given : (m : ℕ) (v : Given) → mark_in_value (value_struct (numbered m v)) ≡ mark_in v
mark-given m (G.constant z) = refl
mark-given m G.mark = refl

pub mark-side : {C : Type 0} (place : C → ℕ) (m : ℕ) (t : Term C) → mark_in_side (operand_struct (operand_of place m t)) ≡ mark_in_term t
mark-side place m (G.column c) = ap mark_in_operand (column-read (place c))
mark-side place m (G.given (G.constant z)) = refl
mark-side place m (G.given G.mark) = ap mark_in_operand (parameter-read m)

pub short-mark : (v : Given) → mark_in (short_given v) ≡ mark_in v
short-mark (G.constant z) = refl
short-mark G.mark = refl

-- ---- comparisons

-- a comparison of sides made one after the other
pub comparison-made : (d : Bool) (s : List ℕ) (place : Column d → ℕ) (op left right m n k : ℕ) (a b : Operand) → k ≡ predicate_number (predicate_at op)
    → a ≡ operand_struct (operand_of place m (side_on d s left)) → n ≡ m + mark_in_side a
    → b ≡ operand_struct (operand_of place n (side_on d s right))
    → comparison_with a k b ≡ comparison_struct (comparison_of place m (renamed (short_term (short_column d)) (comparison_on d s op left right)))
comparison-made d s place op left right m n k a b ek ea en eb =
    let t = side_on d s left in
    let q : n ≡ m + mark_in_term t = en ∙ ap (λ (j : ℕ). m + j) (ap mark_in_side ea ∙ mark-side place m t) in
    let r : b ≡ operand_struct (operand_of place (m + mark_in_term t) (side_on d s right)) = eb ∙ ap (λ (j : ℕ). operand_struct (operand_of place j (side_on d s right))) q in
    λ i. comparison_with (ea i) (ek i) (r i)
