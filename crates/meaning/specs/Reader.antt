-- The reader of sentences: the sentence whose tokens it is given, found from the front (`Demand.ReadsExactly`: exactly the one that spells them). The sentences themselves, and how each is
-- spelled, are in `Grammar`. There is no limit here. Assumes nothing: these are definitions.
use Rattle.std.specs.Prelude.{Bool, true, false, List, [], ◌∷◌, ℕ, zero, suc, ◌*◌, ℤ, length}
use Rattle.std.proofs.Math.Option.{Option, none, some}
use Rattle.meaning.specs.Operator.{Operator}
use Rattle.meaning.specs.Condition.{Level, atom, conjunction, disjunction, Tree, compare, negate, group, alone, both, single, either, Optional, always, under}
use Rattle.meaning.specs.Tokens as T
use Rattle.meaning.specs.Tokens.{Name, Token, keyword, name, operator, comma, lparen, rparen, dot, other, same_token, Keyword, TABLE, ROWS, SELECT, FROM, WHERE, INSERT, INTO, VALUES, UPDATE, SET, DELETE, AND, OR, NOT, RING, IS, NULL, tokens}
use Rattle.meaning.specs.Grammar.{Dotted, Given, Listed, Sentence, Term, Test, column, compares, constant, delete, given, insert, last, mark, next, pair, select, table, tests-not-null, tests_null, update}

-- ---- readers: what is read from the front of some tokens and the tokens after it, or nothing

abbrev pub Reader : Type 0 → Type 0
Reader A = List Token → Option (A × List Token)

-- `x ← r` reads by r, and goes on with what it read
module _ {A B : Type 0} where
  abbrev pub then : Option (A × List Token) → (A → Reader B) → Option (B × List Token)
  then none k = none
  then (some x) k = k x.0 x.1

  infixl 10 ◌>>=◌
  abbrev pub ◌>>=◌ : Reader A → (A → Reader B) → Reader B
  ◌>>=◌ r k ts = then (r ts) k

  infixl 10 ◌>>◌
  abbrev pub ◌>>◌ : Reader A → Reader B → Reader B
  ◌>>◌ r k ts = then (r ts) (λ x. k)

module _ {A : Type 0} where
  abbrev pub done : A → Reader A
  done x ts = some (x, ts)

  abbrev pub fails : Reader A
  fails ts = none

  -- where the token t stands first it is passed and `on` reads the rest, else `off` reads all
  abbrev pub passing : Token → Reader A → Reader A → Reader A
  passing t on off [] = off []
  passing t on off (u ∷ us) = elim (same_token u t) [ true ↦ on us | false ↦ off (u ∷ us) ]

  -- what r reads, else what q reads
  abbrev pub either_of : Reader A → Reader A → Reader A
  either_of r q ts = elim (r ts) [ none ↦ q ts | some x ↦ some x ]

  -- one token, and what f makes of it
  abbrev pub a_token : (Token → Option A) → Reader A
  a_token f [] = none
  a_token f (t ∷ ts) = elim (f t) [ none ↦ none | some x ↦ some (x, ts) ]

-- the token t
abbrev pub expect : Token → Reader (Unit {0})
expect t = passing t (done tt) fails

abbrev pub name_of : Token → Option Name
name_of (keyword k) = none
name_of (name n) = some n
name_of (T.constant z) = none
name_of (operator o) = none
name_of T.mark = none
name_of comma = none
name_of lparen = none
name_of rparen = none
name_of dot = none
name_of other = none

abbrev pub constant_of : Token → Option ℤ
constant_of (keyword k) = none
constant_of (name n) = none
constant_of (T.constant z) = some z
constant_of (operator o) = none
constant_of T.mark = none
constant_of comma = none
constant_of lparen = none
constant_of rparen = none
constant_of dot = none
constant_of other = none

abbrev pub operator_of : Token → Option Operator
operator_of (keyword k) = none
operator_of (name n) = none
operator_of (T.constant z) = none
operator_of (operator o) = some o
operator_of T.mark = none
operator_of comma = none
operator_of lparen = none
operator_of rparen = none
operator_of dot = none
operator_of other = none

abbrev pub a_name : Reader Name
a_name = a_token name_of

-- a question mark or a constant
abbrev pub a_given : Reader Given
a_given = passing T.mark (done mark) (a_token constant_of >>= λ z. done (constant z))

abbrev pub a_dotted : Reader Dotted
a_dotted = do
  t ← a_name
  expect dot
  c ← a_name
  done (t, c)

abbrev pub a_setting : Reader (Name × Given)
a_setting = do
  n ← a_name
  expect (operator Operator.eq)
  v ← a_given
  done (n, v)

-- items parted by commas, at most n
abbrev pub a_list : {A : Type 0} → Reader A → ℕ → Reader (Listed A)
a_list item zero = fails
a_list item (suc n) = do
  x ← item
  passing comma (a_list item n >>= λ xs. done (next x xs)) (done (last x))

-- operands and conditions, with the reader of a column
module _ {C : Type 0} (a_column : Reader C) where
  -- a column, constant or question mark
  abbrev pub a_term : Reader (Term C)
  a_term = either_of (a_column >>= λ n. done (column n)) (a_given >>= λ v. done (given v))

  -- behind IS
  abbrev pub a_null : C → Reader (Test C)
  a_null c = passing (keyword NOT) (expect (keyword NULL) >> done (tests-not-null c)) (expect (keyword NULL) >> done (tests_null c))

  -- behind a first operand: an operator and a second one
  abbrev pub a_rest : Term C → Reader (Test C)
  a_rest a = do
    o ← a_token operator_of
    b ← a_term
    done (compares a o b)

  -- or, behind a column, IS
  abbrev pub a_test : Term C → Reader (Test C)
  a_test (column c) = passing (keyword IS) (a_null c) (a_rest (column c))
  a_test (given v) = a_rest (given v)

  abbrev pub a_comparison : Reader (Tree (Test C) atom)
  a_comparison = do
    a ← a_term
    c ← a_test a
    done (compare c)

  -- a condition of a level, at most n calls deep
  unfoldable pub a_condition : ℕ → (l : Level) → Reader (Tree (Test C) l)
  a_condition zero l = fails
  a_condition (suc n) atom =
      passing (keyword NOT) (a_condition n atom >>= λ c. done (negate c))
      (passing lparen (a_condition n disjunction >>= λ c. expect rparen >> done (group c))
      a_comparison)
  a_condition (suc n) conjunction = do
    c ← a_condition n atom
    passing (keyword AND) (a_condition n conjunction >>= λ d. done (both c d)) (done (alone c))
  a_condition (suc n) disjunction = do
    c ← a_condition n conjunction
    passing (keyword OR) (a_condition n disjunction >>= λ d. done (either c d)) (done (single c))

  abbrev pub a_where : ℕ → Reader (Optional (Test C))
  a_where n = passing (keyword WHERE) (a_condition n disjunction >>= λ c. done (under c)) (done always)

-- ---- the five forms, after their first word

-- ROWS or RING
abbrev pub a_size_word : Reader Bool
a_size_word = passing (keyword ROWS) (done false) (expect (keyword RING) >> done true)

abbrev pub a_table : ℕ → Reader Sentence
a_table n = do
  t ← a_name
  expect lparen
  cs ← a_list a_name n
  expect rparen
  ring ← a_size_word
  z ← a_token constant_of
  done (table t cs ring z)

-- SELECT from one table
abbrev pub a_single : ℕ → Reader Sentence
a_single n = do
  cs ← a_list a_name n
  expect (keyword FROM)
  t ← a_name
  w ← a_where a_name n
  done (select cs t w)

-- SELECT from two
abbrev pub a_pair : ℕ → Reader Sentence
a_pair n = do
  cs ← a_list a_dotted n
  expect (keyword FROM)
  t ← a_name
  expect comma
  u ← a_name
  w ← a_where a_dotted n
  done (pair cs t u w)

-- what stands behind FROM tells them apart: behind the first FROM a token and a comma
abbrev pub comma_second : List Token → Bool
comma_second [] = false
comma_second (t ∷ []) = false
comma_second (t ∷ u ∷ ts) = same_token u comma

abbrev pub is_paired : List Token → Bool
is_paired [] = false
is_paired (t ∷ ts) = elim (same_token t (keyword FROM)) [ true ↦ comma_second ts | false ↦ is_paired ts ]

abbrev pub a_select : ℕ → Reader Sentence
a_select n ts = elim (is_paired ts) [ true ↦ a_pair n ts | false ↦ a_single n ts ]

abbrev pub an_insert : ℕ → Reader Sentence
an_insert n = do
  expect (keyword INTO)
  t ← a_name
  expect (keyword VALUES)
  expect lparen
  vs ← a_list a_given n
  expect rparen
  done (insert t vs)

abbrev pub an_update : ℕ → Reader Sentence
an_update n = do
  t ← a_name
  expect (keyword SET)
  ss ← a_list a_setting n
  w ← a_where a_name n
  done (update t ss w)

abbrev pub a_delete : ℕ → Reader Sentence
a_delete n = do
  expect (keyword FROM)
  t ← a_name
  w ← a_where a_name n
  done (delete t w)

unfoldable pub a_sentence : ℕ → Reader Sentence
a_sentence n =
    passing (keyword TABLE) (a_table n)
    (passing (keyword SELECT) (a_select n)
    (passing (keyword INSERT) (an_insert n)
    (passing (keyword UPDATE) (an_update n)
    (passing (keyword DELETE) (a_delete n) fails))))

-- a sentence and nothing after it
abbrev pub whole : {A : Type 0} → Option (A × List Token) → Option A
whole none = none
whole (some x) = elim x.1 [ [] ↦ some x.0 | ◌∷◌ t ts ↦ none ]

-- the sentence of some tokens, if they are one: three calls for each token are enough
unfoldable pub read : List Token → Option Sentence
read ts = whole (a_sentence (3 * length ts) ts)

-- the sentence of a text, if it is one
abbrev pub sentence : List ℕ → Option Sentence
sentence text = read (tokens text)
