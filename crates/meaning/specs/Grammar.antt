-- The grammar of sentences: document 01, "Statement texts", and requests A.1, A.4 and A.5. A sentence is a tree, and `spell` gives its tokens. Refusal 4, "no sentence", is for a text whose
-- tokens no sentence spells. There is no limit here. Assumes nothing: these are definitions.
use Rattle.std.specs.Prelude.{Bool, true, false, List, [], ◌∷◌, ℤ}
use Rattle.meaning.specs.Operator.{Operator, by, is-null, is-not-null}
use Rattle.meaning.specs.Condition.{Comparison, Level, Tree, compare, negate, group, alone, both, single, either, Optional, always, under}
use Rattle.meaning.specs.Tokens as T
use Rattle.meaning.specs.Tokens.{Name, Token, keyword, name, operator, comma, lparen, rparen, dot, other, same_token, Keyword, TABLE, ROWS, SELECT, FROM, WHERE, INSERT, INTO, VALUES, UPDATE, SET, DELETE, AND, OR, NOT, RING, IS, NULL, tokens}

-- ---- trees

-- what VALUES and SET take: a constant or a question mark
pub data Given : Type 0 where
  constant : ℤ → Given
  mark : Given

-- A.1: a qualified column, `stage.level`: its table and its name
abbrev pub Dotted : Type 0
Dotted = Name × Name

-- "two operands, each a column, constant or `?`"; a column is a Name, or Dotted where there are two tables
pub data Term (C : Type 0) : Type 0 where
  column : C → Term C
  given : Given → Term C

-- a comparison as it is written: two operands with an operator between; A.5: "`level IS NULL` and `level IS NOT NULL`, on columns"
pub data Test (C : Type 0) : Type 0 where
  compares : Term C → Operator → Term C → Test C
  tests_null tests-not-null : C → Test C

-- as a comparison of two sides: a null test has its column on both
abbrev pub comparison : {C : Type 0} → Test C → Comparison (Term C)
comparison (compares a o b) = record { left = a; op = by o; right = b }
comparison (tests_null c) = record { left = column c; op = is-null; right = column c }
comparison (tests-not-null c) = record { left = column c; op = is-not-null; right = column c }

-- "No list is empty."
pub data Listed (A : Type 0) : Type 0 where
  last : A → Listed A
  next : A → Listed A → Listed A

abbrev pub items : {A : Type 0} → Listed A → List A
items (last x) = x ∷ []
items (next x xs) = x ∷ items xs

-- the five forms; TABLE says its size by ROWS, or by RING where the Boolean is true (A.4: "`TABLE recent (minute, level) RING 96`"); SELECT is from one table, or
-- from two (A.1: "with every column written `stage.level`")
pub data Sentence : Type 0 where
  table : Name → Listed Name → Bool → ℤ → Sentence
  select : Listed Name → Name → Optional (Test Name) → Sentence
  pair : Listed Dotted → Name → Name → Optional (Test Dotted) → Sentence
  insert : Name → Listed Given → Sentence
  update : Name → Listed (Name × Given) → Optional (Test Name) → Sentence
  delete : Name → Optional (Test Name) → Sentence

-- ---- spelling: the tokens of each, with more after them

abbrev pub given_token : Given → Token
given_token (constant z) = T.constant z
given_token mark = T.mark

abbrev pub spell_name : Name → List Token → List Token
spell_name n more = name n ∷ more

abbrev pub spell_dotted : Dotted → List Token → List Token
spell_dotted c more = name c.0 ∷ dot ∷ name c.1 ∷ more

abbrev pub spell_given : Given → List Token → List Token
spell_given v more = given_token v ∷ more

abbrev pub spell_setting : Name × Given → List Token → List Token
spell_setting s more = name s.0 ∷ operator Operator.eq ∷ given_token s.1 ∷ more

abbrev pub spell_list : {A : Type 0} → (A → List Token → List Token) → Listed A → List Token → List Token
spell_list item (last x) more = item x more
spell_list item (next x xs) more = item x (comma ∷ spell_list item xs more)

-- operands and conditions, with the spelling of a column
module _ {C : Type 0} (spell_column : C → List Token → List Token) where
  abbrev pub spell_term : Term C → List Token → List Token
  spell_term (column c) more = spell_column c more
  spell_term (given v) more = given_token v ∷ more

  abbrev pub spell_test : Test C → List Token → List Token
  spell_test (compares a o b) more = spell_term a (operator o ∷ spell_term b more)
  spell_test (tests_null c) more = spell_column c (keyword IS ∷ keyword NULL ∷ more)
  spell_test (tests-not-null c) more = spell_column c (keyword IS ∷ keyword NOT ∷ keyword NULL ∷ more)

  abbrev pub spell_condition : {l : Level} → Tree (Test C) l → List Token → List Token
  spell_condition (compare c) more = spell_test c more
  spell_condition (negate c) more = keyword NOT ∷ spell_condition c more
  spell_condition (group c) more = lparen ∷ spell_condition c (rparen ∷ more)
  spell_condition (alone c) more = spell_condition c more
  spell_condition (both c d) more = spell_condition c (keyword AND ∷ spell_condition d more)
  spell_condition (single c) more = spell_condition c more
  spell_condition (either c d) more = spell_condition c (keyword OR ∷ spell_condition d more)

  abbrev pub spell_where : Optional (Test C) → List Token
  spell_where always = []
  spell_where (under c) = keyword WHERE ∷ spell_condition c []

abbrev pub size_word : Bool → Keyword
size_word false = ROWS
size_word true = RING

unfoldable pub spell : Sentence → List Token
spell (table t cs ring z) = keyword TABLE ∷ name t ∷ lparen ∷ spell_list spell_name cs (rparen ∷ keyword (size_word ring) ∷ T.constant z ∷ [])
spell (select cs t w) = keyword SELECT ∷ spell_list spell_name cs (keyword FROM ∷ name t ∷ spell_where spell_name w)
spell (pair cs t u w) = keyword SELECT ∷ spell_list spell_dotted cs (keyword FROM ∷ name t ∷ comma ∷ name u ∷ spell_where spell_dotted w)
spell (insert t vs) = keyword INSERT ∷ keyword INTO ∷ name t ∷ keyword VALUES ∷ lparen ∷ spell_list spell_given vs (rparen ∷ [])
spell (update t ss w) = keyword UPDATE ∷ name t ∷ keyword SET ∷ spell_list spell_setting ss (spell_where spell_name w)
spell (delete t w) = keyword DELETE ∷ keyword FROM ∷ name t ∷ spell_where spell_name w
