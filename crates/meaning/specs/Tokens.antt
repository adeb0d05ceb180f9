-- The tokens of a text: document 01, "Statement texts", first paragraph, and requests A.1 (the dot), A.2, A.4 and A.5. Assumes nothing: these are definitions.
use Rattle.std.specs.Prelude.{Bool, true, false, ◌&&◌, ◌||◌, cond, List, [], ◌∷◌, map, ℕ, zero, suc, ◌+◌, ◌*◌, ◌-◌, leb, eqb, ℤ, pos, neg_ℤ, length}
use Rattle.std.proofs.Math.Option.{Option, none, some}
use Prim.Native.String.{String}
use Rattle.lists.specs.Lists.{bytes, all, any, take_while, drop_while}
use Rattle.lists.specs.Tests.{is_yes, eq_list, dec_bytes, dec_z}
use Rattle.meaning.specs.Operator.{Operator, eq, ne, lt, le, gt, ge, Operator-discrete}

-- "Capital words are keywords."
pub data Keyword : Type 0 where
  TABLE ROWS SELECT FROM WHERE INSERT INTO VALUES UPDATE SET DELETE AND OR NOT RING IS NULL : Keyword
  deriving Discrete as Keyword-discrete

-- a name is its bytes
abbrev pub Name : Type 0
Name = List ℕ

-- `constant` has any size, `mark` is a question mark, and `other` belongs to no sentence
pub data Token : Type 0 where
  keyword : Keyword → Token
  name : Name → Token
  constant : ℤ → Token
  operator : Operator → Token
  mark comma lparen rparen dot other : Token
  deriving Discrete as Token-discrete

abbrev pub same_token : Token → Token → Bool
same_token t u = is_yes (Token-discrete Keyword-discrete dec_bytes dec_z Operator-discrete t u)

-- ---- bytes

-- lo ≤ b ≤ hi
abbrev pub within : ℕ → ℕ → ℕ → Bool
within lo hi b = leb lo b && leb b hi

-- 0 to 9; a to z; A to Z
abbrev pub is_digit : ℕ → Bool
is_digit b = within 48 57 b

abbrev pub is_small : ℕ → Bool
is_small b = within 97 122 b

abbrev pub is_capital : ℕ → Bool
is_capital b = within 65 90 b

-- "small letters, digits or underscores"
unfoldable pub is_name_byte : ℕ → Bool
is_name_byte b = is_small b || (is_digit b || eqb b 95)

-- "letters, digits and underscores"
unfoldable pub is_word_byte : ℕ → Bool
is_word_byte b = is_name_byte b || is_capital b

abbrev pub is_space : ℕ → Bool
is_space b = eqb b 32

abbrev pub is_minus : ℕ → Bool
is_minus b = eqb b 45

-- ---- words: "A run of letters, digits and underscores is one word"

-- the decimal value of digits, read on from n
abbrev pub decimal_on : ℕ → List ℕ → ℕ
decimal_on n [] = n
decimal_on n (d ∷ ds) = decimal_on (n * 10 + (d - 48)) ds

-- leading zeros are allowed
unfoldable pub decimal : List ℕ → ℕ
decimal ds = decimal_on 0 ds

-- "A name is a small letter, then small letters, digits or underscores.": a name as it is kept
unfoldable pub is_name : Name → Bool
is_name [] = false
is_name (b ∷ w) = is_small b && all is_name_byte w

-- A.2, "Names may hold capital letters, the first included, and case makes no difference between names": a capital letter counts as the small one
abbrev pub folded_byte : ℕ → ℕ
folded_byte b = cond (is_capital b) (b + 32) b

abbrev pub folded : List ℕ → Name
folded w = map folded_byte w

abbrev pub keywords : List (String × Keyword)
keywords =
    ("TABLE", TABLE)
    ∷ ("ROWS", ROWS)
    ∷ ("SELECT", SELECT)
    ∷ ("FROM", FROM)
    ∷ ("WHERE", WHERE)
    ∷ ("INSERT", INSERT)
    ∷ ("INTO", INTO)
    ∷ ("VALUES", VALUES)
    ∷ ("UPDATE", UPDATE)
    ∷ ("SET", SET)
    ∷ ("DELETE", DELETE)
    ∷ ("AND", AND)
    ∷ ("OR", OR)
    ∷ ("NOT", NOT)
    ∷ ("RING", RING)
    ∷ ("IS", IS)
    ∷ ("NULL", NULL)
    ∷ []

-- A.2, "Words spelled exactly as a keyword, all capitals, remain keywords": the keyword that w is, else the token t
abbrev pub keyword_or : List (String × Keyword) → Token → List ℕ → Token
keyword_or [] t w = t
keyword_or (k ∷ ks) t w = cond (eq_list eqb w (bytes k.0)) (keyword k.1) (keyword_or ks t w)

abbrev pub is_keyword : List ℕ → Bool
is_keyword w = any (λ (k : String × Keyword). eq_list eqb w (bytes k.0)) keywords

-- digits, a keyword, a name, or nothing
unfoldable pub word : List ℕ → Token
word w = cond (all is_digit w) (constant (pos (decimal w))) (keyword_or keywords (cond (is_name (folded w)) (name (folded w)) other) w)

-- the word right after a minus: "an optional minus and digits", and no space between them
unfoldable pub negative : List ℕ → Token
negative [] = other
negative (b ∷ w) = cond (all is_digit (b ∷ w)) (constant (neg_ℤ (pos (decimal (b ∷ w))))) other

-- ---- signs: "a sign is the longest that fits", so the longer ones stand first

abbrev pub signs : List (String × Token)
signs =
    ("<>", operator ne)
    ∷ ("<=", operator le)
    ∷ (">=", operator ge)
    ∷ ("=", operator eq)
    ∷ ("<", operator lt)
    ∷ (">", operator gt)
    ∷ ("?", mark)
    ∷ (",", comma)
    ∷ ("(", lparen)
    ∷ (")", rparen)
    ∷ (".", dot)
    ∷ []

-- what follows p in s, if s begins with p
abbrev pub behind_prefix : List ℕ → List ℕ → Option (List ℕ)
behind_prefix [] s = some s
behind_prefix (b ∷ p) [] = none
behind_prefix (b ∷ p) (c ∷ s) = cond (eqb b c) (behind_prefix p s) none

-- the sign's token, and the text after it; other bytes are no sentence
abbrev pub sign_in : List (String × Token) → ℕ → List ℕ → Token × List ℕ
sign_in [] b s = (other, s)
sign_in (x ∷ xs) b s = elim (behind_prefix (bytes x.0) (b ∷ s)) [ none ↦ sign_in xs b s | some left ↦ (x.1, left) ]

-- ---- tokens

-- the token that starts with the byte b, no space, and the text after it
unfoldable pub token_from : ℕ → List ℕ → Token × List ℕ
token_from b s =
    elim (is_word_byte b) [
      | true ↦ (word (take_while is_word_byte (b ∷ s)), drop_while is_word_byte (b ∷ s))
      | false ↦ elim (is_minus b) [
        | true ↦ (negative (take_while is_word_byte s), drop_while is_word_byte s)
        | false ↦ sign_in signs b s
      ]
    ]

abbrev pub token_here : List ℕ → Option (Token × List ℕ)
token_here [] = none
token_here (b ∷ s) = some (token_from b s)

-- the first token and the text after it: "spaces (byte 32) may stand between any two and at both ends"
unfoldable pub first_token : List ℕ → Option (Token × List ℕ)
first_token s = token_here (drop_while is_space s)

-- at most n tokens
unfoldable pub scan : ℕ → List ℕ → List Token
scan zero s = []
scan (suc n) s = elim (first_token s) [ none ↦ [] | some x ↦ x.0 ∷ scan n x.1 ]

-- all tokens of a text: each has a byte or more
unfoldable pub tokens : List ℕ → List Token
tokens s = scan (length s) s
