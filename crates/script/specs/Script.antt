-- Parts of a text between bytes, its constants, and numbers that are not negative. Assumes nothing: these are definitions.
use Rattle.std.specs.Prelude.{Bool, not, cond, List, [], ◌∷◌, ℕ, ◌+◌, min, eqb, ℤ, pos, negsuc, length, drop, get_or}
use Rattle.lists.specs.Lists.{take_while}
use Rattle.meaning.specs.Tokens.{Token, constant, tokens}
use Rattle.meaning.specs.Limits.{is_within32}
use Rattle.token.specs.declared.Kind.{Kind}
use Rattle.token.specs.declared.Kind.TheVariants.{Constant}
use Rattle.token.specs.Tokens.{token_at}
use Rattle.script.specs.declared.constants.Constants.{Constants}
use Rattle.script.specs.declared.constants.Count.{Count}

abbrev pub is_other : ℕ → ℕ → Bool
is_other b x = not (eqb x b)

-- the bytes from a place on, up to the first byte b, and where they end
abbrev pub part_at : ℕ → List ℕ → ℕ → List ℕ
part_at b text at = take_while (is_other b) (drop at text)

abbrev pub end_at : ℕ → List ℕ → ℕ → ℕ
end_at b text at = at + length (part_at b text at)

-- where the part behind it starts
abbrev pub next_at : ℕ → List ℕ → ℕ → ℕ
next_at b text at = min (end_at b text at + 1) (length text)

-- the constants at the start of a list of tokens, up to the first that is none of 32 bits
abbrev pub constants : List Token → List ℤ
constants [] = []
constants (constant z ∷ ts) = cond (is_within32 z) (z ∷ constants ts) []
constants (t ∷ ts) = []

-- the constants of a text
abbrev pub constants_of : List ℕ → List ℤ
constants_of text = constants (tokens text)

-- those that are left
abbrev pub constants_left : Constants → List ℤ
constants_left c = constants_of (drop c.at c.text.now)

-- a number, or 0 in place of a negative one
abbrev pub natural_of : ℤ → ℕ
natural_of (pos n) = n
natural_of (negsuc n) = 0

abbrev pub number_at : List ℤ → ℕ → ℕ
number_at zs i = natural_of (get_or zs i (pos 0))

-- what a token counts: 0 where it is no constant of 32 bits
abbrev pub count_of : Kind → ℕ
count_of (Constant z) = natural_of z
count_of k = 0

-- the count behind a place, and where the text goes on
abbrev pub count_at : List ℕ → ℕ → Count
count_at text at = record { value = count_of (token_at text at).kind; next = (token_at text at).next }
