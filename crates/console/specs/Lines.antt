-- A line of `desk` and what it says: document 01, "Examples", last paragraph: "reads lines from standard input (at most 512 bytes): ADD text, ASK or DO number values,
-- FLUSH. One space parts words; a statement's number is digits only, a value is a constant, all within 32 bits. Any other line prints `bad line`". Assumes nothing: these
-- are definitions.
use Rattle.std.specs.Prelude.{Bool, true, false, not, ◌&&◌, cond, List, [], ◌∷◌, ℕ, ◌+◌, eqb, leb, ℤ, length, drop}
use Rattle.std.proofs.Math.Option.{Option, none, some}
use Prim.Native.String.{String}
use Rattle.lists.specs.Lists.{bytes, all, take_while, drop_while}
use Rattle.lists.specs.Tests.{eq_list}
use Rattle.meaning.specs.Call.{Call, add, ask, change, flush}
use Rattle.meaning.specs.Limits.{is_within32}
use Rattle.meaning.specs.Tokens.{Token, keyword, name, constant, operator, mark, comma, lparen, rparen, dot, other, is_digit, is_space, decimal, behind_prefix, token_here}
use Rattle.console.specs.declared.Line.{Line}
use Rattle.console.specs.declared.Line.TheVariants.{Add, Ask, Do, Flush, Bad}
use Rattle.console.specs.declared.Gathered.{Gathered}
use Rattle.console.specs.Room.{filled_to}

-- ---- lines of the input: a line ends at byte 10, which is not counted

abbrev pub is_newline : ℕ → Bool
is_newline b = eqb b 10

-- the bytes of the input from `from` on, up to the end of the line; and whether the line ends there
abbrev pub line_from : List ℕ → ℕ → List ℕ
line_from input from = take_while (λ (b : ℕ). not (is_newline b)) (drop from input)

abbrev pub has_newline : List ℕ → Bool
has_newline [] = false
has_newline (b ∷ s) = true

abbrev pub line_ends : List ℕ → ℕ → Bool
line_ends input from = has_newline (drop_while (λ (b : ℕ). not (is_newline b)) (drop from input))

-- a line that has `held` bytes in a buffer goes on in the input: where the next line starts, the bytes held then, as far as there is room, and whether the line ends
unfoldable pub gathered_of : List ℕ → ℕ → List ℕ → ℕ → Gathered
gathered_of input from buffer held = record {
  next = from + length (line_from input from) + cond (line_ends input from) 1 0;
  held = filled_to buffer held (line_from input from);
  ended = line_ends input from;
}

-- ---- words: "One space parts words", so nothing stands between two spaces that touch

abbrev pub on_first : ℕ → List (List ℕ) → List (List ℕ)
on_first b [] = (b ∷ []) ∷ []
on_first b (w ∷ ws) = (b ∷ w) ∷ ws

abbrev pub with_byte : ℕ → List (List ℕ) → List (List ℕ)
with_byte b ws = elim (is_space b) [ true ↦ [] ∷ ws | false ↦ on_first b ws ]

abbrev pub words : List ℕ → List (List ℕ)
words [] = [] ∷ []
words (b ∷ s) = with_byte b (words s)

abbrev pub is_word : String → List ℕ → Bool
is_word t w = eq_list eqb w (bytes t)

-- ---- numbers and values

abbrev pub most_number : ℕ
most_number = 2147483647

abbrev pub is_empty : List ℕ → Bool
is_empty [] = true
is_empty (b ∷ s) = false

-- "a statement's number is digits only", within 32 bits
unfoldable pub word_number : List ℕ → Option ℕ
word_number w = cond (not (is_empty w) && (all is_digit w && leb (decimal w) most_number)) (some (decimal w)) none

-- "a value is a constant", within 32 bits: the word is one token
abbrev pub token_value : Token → Option ℤ
token_value (constant z) = cond (is_within32 z) (some z) none
token_value (keyword k) = none
token_value (name n) = none
token_value (operator o) = none
token_value mark = none
token_value comma = none
token_value lparen = none
token_value rparen = none
token_value dot = none
token_value other = none

abbrev pub whole_token : Token × List ℕ → Option ℤ
whole_token x = elim x.1 [ [] ↦ token_value x.0 | b ∷ s ↦ none ]

unfoldable pub word_value : List ℕ → Option ℤ
word_value w = elim (token_here w) [ none ↦ none | some x ↦ whole_token x ]

abbrev pub and_value : Option ℤ → Option (List ℤ) → Option (List ℤ)
and_value (some z) (some zs) = some (z ∷ zs)
and_value (some z) none = none
and_value none zs = none

-- any count of values, each good
unfoldable pub word_values : List (List ℕ) → Option (List ℤ)
word_values [] = some []
word_values (w ∷ ws) = and_value (word_value w) (word_values ws)

-- ---- what a line says: a call, but for the answer buffer that it is made with; none of a bad line

abbrev pub Command : Type 0
Command = Option (Call (Unit {0}))

abbrev pub numbered : List ℕ → Option ℕ → Option (List ℤ) → Command
numbered w (some n) (some zs) = cond (is_word "ASK" w) (some (ask (record { query = n; values = zs }) tt)) (cond (is_word "DO" w) (some (change n zs)) none)
numbered w (some n) none = none
numbered w none zs = none

abbrev pub words_say : List (List ℕ) → Command
words_say [] = none
words_say (w ∷ []) = cond (is_word "FLUSH" w) (some flush) none
words_say (w ∷ n ∷ vs) = numbered w (word_number n) (word_values vs)

-- the text of ADD is everything behind its one space
abbrev pub line_says : List ℕ → Command
line_says line = elim (behind_prefix (bytes "ADD ") line) [ some text ↦ some (add text) | none ↦ words_say (words line) ]

abbrev pub most_line : ℕ
most_line = 512

unfoldable pub command_of : List ℕ → Command
command_of line = elim (leb (length line) most_line) [ true ↦ line_says line | false ↦ none ]

-- ---- a command as the program has it: for ASK and DO the statement's number, and how many values. Of the calls that no line makes, as of a bad line

abbrev pub line_of : Command → Line
line_of (some (add text)) = Add
line_of (some (ask k b)) = Ask k.query (length k.values)
line_of (some (change n zs)) = Do n (length zs)
line_of (some flush) = Flush
line_of _ = Bad

abbrev pub values_of : Command → List ℤ
values_of (some (ask k b)) = k.values
values_of (some (change n zs)) = zs
values_of _ = []
