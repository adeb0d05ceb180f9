-- A token's kind tells the token: a name, a constant, or one of the tokens that hold nothing. Assumes nothing.
use mathlib.Core.Path.{◌≡◌, refl, sym, ap, subst, ◌∙◌}
use mathlib.Core.Logic.{◌≢◌}
use mathlib.Core.Bool.{Bool, true, false, cond}
use lib.IntN.{ℤ}
use Rattle.meaning.specs.Operator.{eq, ne, lt, le, gt, ge}
use Rattle.meaning.specs.Tokens as M
use Rattle.meaning.specs.Tokens.{Keyword, TABLE, ROWS, SELECT, FROM, WHERE, INSERT, INTO, VALUES, UPDATE, SET, DELETE, AND, OR, NOT, RING, IS, NULL, keyword, name, constant, operator, mark, comma, lparen, rparen, dot, other}
use Rattle.meaning.specs.Limits.{is_within32}
use Rattle.token.specs.declared.Kind.{Kind}
use Rattle.token.specs.declared.Kind.TheVariants.{End, Name, Constant, Big, Mark, Comma, Open, Close, Eq, Ne, Lt, Le, Gt, Ge, Table, Rows, Select, From, Where, Insert, Into, Values, Update, Set, Delete, And, Or, Not, Dot, Ring, Is, Null}
use Rattle.token.specs.Tokens.{kind_of}

-- the kinds of tokens that hold nothing
abbrev pub is_fixed : Kind → Bool
is_fixed End = false
is_fixed Name = false
is_fixed (Constant z) = false
is_fixed Big = false
is_fixed _ = true

-- and the token of each
abbrev pub fixed_at : Kind → M.Token
fixed_at Mark = mark
fixed_at Comma = comma
fixed_at Open = lparen
fixed_at Close = rparen
fixed_at Eq = operator eq
fixed_at Ne = operator ne
fixed_at Lt = operator lt
fixed_at Le = operator le
fixed_at Gt = operator gt
fixed_at Ge = operator ge
fixed_at Table = keyword TABLE
fixed_at Rows = keyword ROWS
fixed_at Select = keyword SELECT
fixed_at From = keyword FROM
fixed_at Where = keyword WHERE
fixed_at Insert = keyword INSERT
fixed_at Into = keyword INTO
fixed_at Values = keyword VALUES
fixed_at Update = keyword UPDATE
fixed_at Set = keyword SET
fixed_at Delete = keyword DELETE
fixed_at And = keyword AND
fixed_at Or = keyword OR
fixed_at Not = keyword NOT
fixed_at Dot = dot
fixed_at Ring = keyword RING
fixed_at Is = keyword IS
fixed_at Null = keyword NULL
fixed_at _ = other

-- what a kind says of the token that has it
abbrev pub Held : M.Token → Kind → Type 0
Held t End = ⊥
Held t Name = (n : M.Name) × (t ≡ name n)
Held t (Constant z) = (t ≡ constant z) × (is_within32 z ≡ true)
Held t Big = (z : ℤ) × (t ≡ constant z) × (is_within32 z ≡ false)
Held t _ = Unit {0}

abbrev pub Says : Bool → M.Token → Kind → Type 0
Says true t k = t ≡ fixed_at k
Says false t k = Held t k

abbrev pub Told : M.Token → Kind → Type 0
Told t k = Says (is_fixed k) t k

pub told : (t : M.Token) → Told t (kind_of t)
told (name n) = (n, refl)
told (constant z) = go (is_within32 z) refl
  where
    number : Bool → Kind
    number b = cond b (Constant z) Big

    go : (b : Bool) → is_within32 z ≡ b → Told (constant z) (number b)
    go true e = (refl, e)
    go false e = (z, refl, e)
told other = refl
told mark = refl
told comma = refl
told lparen = refl
told rparen = refl
told dot = refl
told (operator eq) = refl
told (operator ne) = refl
told (operator lt) = refl
told (operator le) = refl
told (operator gt) = refl
told (operator ge) = refl
told (keyword TABLE) = refl
told (keyword ROWS) = refl
told (keyword SELECT) = refl
told (keyword FROM) = refl
told (keyword WHERE) = refl
told (keyword INSERT) = refl
told (keyword INTO) = refl
told (keyword VALUES) = refl
told (keyword UPDATE) = refl
told (keyword SET) = refl
told (keyword DELETE) = refl
told (keyword AND) = refl
told (keyword OR) = refl
told (keyword NOT) = refl
told (keyword RING) = refl
told (keyword IS) = refl
told (keyword NULL) = refl

module _ (t : M.Token) where
  pub holds : (k : Kind) → kind_of t ≡ k → Told t k
  holds k e = subst (Told t) e (told t)

  -- the end of the text is no token
  pub kind-some : kind_of t ≢ End
  kind-some e = holds End e

  pub kind-name : kind_of t ≡ Name → (n : M.Name) × (t ≡ name n)
  kind-name e = holds Name e

  -- a constant within 32 bits, and one outside
  pub kind-within : (z : ℤ) → kind_of t ≡ Constant z → (t ≡ constant z) × (is_within32 z ≡ true)
  kind-within z e = holds (Constant z) e

  pub kind-big : kind_of t ≡ Big → (z : ℤ) × (t ≡ constant z) × (is_within32 z ≡ false)
  kind-big e = holds Big e

  -- any other kind tells the whole token
  fixed-is : is_fixed (kind_of t) ≡ true → t ≡ fixed_at (kind_of t)
  fixed-is h = subst (λ b. Says b t (kind_of t)) h (told t)

-- `is_fixed (kind_of u)` computes for each
pub kind-fixed : (t u : M.Token) → is_fixed (kind_of u) ≡ true → kind_of t ≡ kind_of u → t ≡ u
kind-fixed t u h e = fixed-is t (ap is_fixed e ∙ h) ∙ ap fixed_at e ∙ sym (fixed-is u h)
