-- Tokens of short texts, computed. Assumes nothing.
use Rattle.std.specs.Prelude.{◌≡◌, refl, List, [], ◌∷◌, map, pos, neg_ℤ}
use Prim.Native.String.{String}
use Rattle.lists.specs.Lists.{bytes}
use Rattle.meaning.specs.Tokens.{is_name_byte, is_word_byte, folded_byte, decimal, is_name, word, negative, token_from, first_token}
use Rattle.token.specs.declared.Kind.TheVariants.{End, Other, Name, Constant, Big, Ne, Lt, Table, Not, Dot, Ring, Is, Null}
use Rattle.token.specs.declared.Token.{Token}
use Rattle.token.specs.Tokens.{made, token_of, token_at}

-- a text, and its first token: kind, start and next
abbrev table : List (String × Token)
table =
    ("  ", made End 2 2)
    ∷ (" a_1<>", made Name 1 4)
    ∷ ("aB ", made Name 0 2)
    ∷ ("Table", made Name 0 5)
    ∷ ("TABLE", made Table 0 5)
    ∷ ("RING 3", made Ring 0 4)
    ∷ ("ring", made Name 0 4)
    ∷ ("Ring", made Name 0 4)
    ∷ ("RINGS", made Name 0 5)
    ∷ ("IS NULL", made Is 0 2)
    ∷ (" NULL", made Null 1 5)
    ∷ ("Is", made Name 0 2)
    ∷ ("null", made Name 0 4)
    ∷ ("ISNULL", made Name 0 6)
    ∷ ("ROWS3", made Name 0 5)
    ∷ ("_A", made Other 0 2)
    ∷ ("1A", made Other 0 2)
    ∷ ("007)", made (Constant (pos 7)) 0 3)
    ∷ ("2147483648", made Big 0 10)
    ∷ ("-2147483648", made (Constant (neg_ℤ (pos 2147483648))) 0 11)
    ∷ ("- 1", made Other 0 1)
    ∷ ("<>1", made Ne 0 2)
    ∷ ("<", made Lt 0 1)
    ∷ ("NOT(", made Not 0 3)
    ∷ ("WHEREVER", made Name 0 8)
    ∷ (" .a", made Dot 1 2)
    ∷ ("a.b", made Name 0 1)
    ∷ []

pub examples : map (λ (x : String × Token). token_at (bytes x.0) 0) table ≡ map (λ (x : String × Token). x.1) table
unfolding token_at token_of first_token token_from word negative decimal is_name is_name_byte is_word_byte
examples = refl

-- the ends of the capitals, and the underscore between them and the small letters
pub folding : map folded_byte (64 ∷ 65 ∷ 90 ∷ 91 ∷ 95 ∷ []) ≡ 64 ∷ 97 ∷ 122 ∷ 91 ∷ 95 ∷ []
folding = refl
