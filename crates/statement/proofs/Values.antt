-- Values, operands and names as they are made of the token at a place. Assumes nothing.
use mathlib.Core.Path.{◌≡◌, refl, sym, ap, ap₂, ◌∙◌}
use mathlib.Core.Logic.{◌≢◌}
use mathlib.Core.Option.{Option, none, some}
use Rattle.std.specs.Prelude.{Some, None}
use mathlib.Core.List.{List}
use Prim.Native.Nat.{ℕ, ◌+◌, ◌*◌, ◌-◌, ◌≤◌, min}
use native.Mathlib.Decide.{dec_le}
use native.Mathlib.Omega.{arith}
use native.Mathlib.Numerals.{add-one}
use lib.IntN.{ℤ, pos}
use lib.ListN.{length, replicate, take, drop, length-map, length-take, length-drop}
use lib.Seq.{take-append_seam, take-take, take_all}
use Rattle.lists.proofs.Lists.{map-take}
use Rattle.meaning.specs.Tokens.{folded_byte, folded}
use Rattle.meaning.specs.Grammar as G
use Rattle.meaning.specs.Grammar.{Given, Term}
use Rattle.meaning.specs.Reader.{name_of}
use Rattle.meaning.specs.Statement as S
use Rattle.meaning.specs.Statement.{numbered, operand_of}
use Rattle.token.specs.declared.Kind.{Kind}
use Rattle.token.specs.declared.Kind.TheVariants.{Name as Named, Constant}
use Rattle.token.specs.declared.Token.{Token}
use Rattle.token.specs.Tokens.{token_at}
use Rattle.token.proofs.Laws.{start-next, next-inside}
use Rattle.statement.specs.Private.Places.{token_on, name_on, given_on, Column, behind_dot, column_on, or_empty, or_given}
use Rattle.statement.specs.Catalog.{name_of_struct}
use Rattle.statement.specs.declared.Name.{Name}
use Rattle.statement.specs.Compiled.{padded, name_struct, no_name, value_struct, operand_struct}
use Rattle.statement.specs.Private.Built.{dotted, place_in, place_named, short_name, short_given, short_column, short_term, side_on, constant_in, rows_as, rows_on}
use Rattle.statement.specs.declared.names.Scope.{Scope}
use Rattle.statement.specs.declared.names.Scope.TheVariants.{One, Two}
use Rattle.statement.proofs.Standing.{named-there, unnamed-there, given-there, mark-there, rows_there}

-- a name's struct read back
pub name_back : (x : List ℕ) → name_of_struct (name_struct x) ≡ x
name_back x = take-append_seam x (replicate (12 - length x) 0)

-- a column by its first name and, if it is dotted, the one behind the dot
named-place : (scope : Scope) (s : List ℕ) (p : ℕ)
    → place_named scope (short_name (name_on s p)) (short_name (name_on s (behind_dot s p))) ≡ place_in scope (short_column (dotted scope) (column_on (dotted scope) s p))
named-place (One t) s p = refl
named-place (Two t u) s p = refl

module _ (s : List ℕ) (p : ℕ) (r : Token) (e : r ≡ token_at s p) where
  -- ---- a name

  abbrev bytes : Token → List ℕ
  bytes t = folded (take (t.next - t.start) (drop t.start s))

  pub token-order : (r.start ≤ r.next) × (r.next ≤ length s)
  token-order = rw e (start-next s p, next-inside s p)

  is_name : r.kind ≡ Named → name_of (token_on s p) ≡ some (bytes r)
  is_name h = named-there s p (sym (ap (λ (t : Token). t.kind) e) ∙ h) ∙ ap (λ (t : Token). some (bytes t)) (sym e)

  no_name_lem : r.kind ≢ Named → name_of (token_on s p) ≡ none
  no_name_lem h = unnamed-there s p (λ k. h (ap (λ (t : Token). t.kind) e ∙ k))

  pub name-there : r.kind ≡ Named → name_struct (short_name (bytes r)) ≡ name_struct (short_name (name_on s p))
  name-there h = ap (λ (o : Option (List ℕ)). name_struct (short_name (or_empty o))) (sym (is_name h))

  pub nothing-there : r.kind ≢ Named → no_name ≡ name_struct (short_name (name_on s p))
  nothing-there h = ap (λ (o : Option (List ℕ)). name_struct (short_name (or_empty o))) (sym (no_name_lem h))

  -- ---- a value

  given_is : (z : ℤ) → constant_in r.kind ≡ Some z → short_given (given_on s p) ≡ G.constant z
  given_is z h = given-there s p z (sym (ap (λ (t : Token). constant_in t.kind) e) ∙ h)

  mark-is : constant_in r.kind ≡ None → short_given (given_on s p) ≡ G.mark
  mark-is h = ap short_given (mark-there s p (sym (ap (λ (t : Token). constant_in t.kind) e) ∙ h))

  pub value-constant : (m : ℕ) (z : ℤ) → constant_in r.kind ≡ Some z → record { mark = 0; number = z } ≡ value_struct (numbered m (short_given (given_on s p)))
  value-constant m z h = ap (λ (v : Given). value_struct (numbered m v)) (sym (given_is z h))

  pub value-mark : (m : ℕ) → constant_in r.kind ≡ None → record { mark = m + 1; number = pos 0 } ≡ value_struct (numbered m (short_given (given_on s p)))
  value-mark m h = ap (λ (k : ℕ). record { mark = k; number = pos 0 }) (add-one m) ∙ ap (λ (v : Given). value_struct (numbered m v)) (sym (mark-is h))

  pub rows-there : rows_as r.kind ≡ rows_on s p
  rows-there = ap (λ (t : Token). rows_as t.kind) e ∙ rows_there s p

  pub no_rows : ((z : ℤ) → r.kind ≡ Constant z → ⊥) → 0 ≡ rows_on s p
  no_rows h = none r.kind h ∙ rows-there
    where
      none : (k : Kind) → ((z : ℤ) → k ≡ Constant z → ⊥) → 0 ≡ rows_as k
      none (Constant z) h = absurd (h z refl)
      none _ h = refl

  -- ---- a column

  pub column-place : (scope : Scope) (n : Name) → n ≡ name_struct (short_name (name_on s p))
      → place_named scope (name_of_struct n) (short_name (name_on s (token_at s r.next).next)) ≡ place_in scope (short_column (dotted scope) (column_on (dotted scope) s p))
  column-place scope n h =
      ap₂ (λ (x : List ℕ) (t : Token). place_named scope x (short_name (name_on s (token_at s t.next).next))) (ap name_of_struct h ∙ name_back (short_name (name_on s p))) e
      ∙ named-place scope s p

  -- ---- an operand

  module _ (scope : Scope) (m : ℕ) where
    abbrev side : Option (List ℕ) → Term (Column (dotted scope))
    side o = short_term (short_column (dotted scope)) (or_given (given_on s p) (column_on (dotted scope) s p) o)

    pub operand-column : r.kind ≡ Named → (i : ℕ) → i ≡ place_in scope (short_column (dotted scope) (column_on (dotted scope) s p))
        → record { code = 2 * i + 2; number = pos 0 } ≡ operand_struct (operand_of (place_in scope) m (side_on (dotted scope) s p))
    operand-column h i q =
        ap (λ (k : ℕ). operand_struct (S.column k)) q
        ∙ ap (λ (o : Option (List ℕ)). operand_struct (operand_of (place_in scope) m (side o))) (sym (is_name h))

    side-given : r.kind ≢ Named → side_on (dotted scope) s p ≡ G.given (short_given (given_on s p))
    side-given h = ap side (no_name_lem h)

    pub operand-constant : r.kind ≢ Named → (z : ℤ) → constant_in r.kind ≡ Some z → record { code = 0; number = z } ≡ operand_struct (operand_of (place_in scope) m (side_on (dotted scope) s p))
    operand-constant h z k = ap (λ (t : Term (Column (dotted scope))). operand_struct (operand_of (place_in scope) m t)) (sym (side-given h ∙ ap G.given (given_is z k)))

    pub operand-mark : r.kind ≢ Named → constant_in r.kind ≡ None → record { code = 2 * m + 1; number = pos 0 } ≡ operand_struct (operand_of (place_in scope) m (side_on (dotted scope) s p))
    operand-mark h k = ap (λ (t : Term (Column (dotted scope))). operand_struct (operand_of (place_in scope) m t)) (sym (side-given h ∙ ap G.given (mark-is k)))

-- ---- the bytes of a name, at most twelve

pub part_length : (s : List ℕ) (start n k : ℕ) → n ≡ min k 12 → start + k ≤ length s → length (folded (take n (drop start s))) ≡ n
part_length s start n k e h = omega (arith, length-map (take n (drop start s)) folded_byte, length-take n (drop start s), length-drop start s)

take_short : (k n : ℕ) (l : List ℕ) → n ≡ min k 12 → take n l ≡ short_name (take k l)
take_short k n l e = go (dec_le k 12)
  where
    go : Dec (k ≤ 12) → take n l ≡ short_name (take k l)
    go (yes h) =
        let q : n ≡ k = omega arith in
        rw q (sym (take_all 12 (take k l) (omega (arith, length-take k l))))
    go (no h) =
        let q : n ≡ 12 = omega arith in
        rw q (sym (take-take 12 k l (omega arith)))

pub folded-short : (k n : ℕ) (l : List ℕ) → n ≡ min k 12 → folded (take n l) ≡ short_name (folded (take k l))
folded-short k n l e = ap folded (take_short k n l e) ∙ map-take folded_byte 12 (take k l)

pub name-of : (bytes : List ℕ) (n : ℕ) (x : List ℕ) → bytes ≡ padded 12 0 x → n ≡ length x → record { bytes = bytes; len = n } ≡ name_struct x
name-of bytes n x e h i = record { bytes = e i; len = h i }
