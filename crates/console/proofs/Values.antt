-- The values of a line have 32 bits, and so have those of the calls that a list of lines makes. Assumes nothing.
use mathlib.Core.Path.{◌≡◌, refl}
use mathlib.Core.Bool.{Bool, true, false, cond}
use mathlib.Core.Option.{Option, none, some}
use mathlib.Core.List.{List, [], ◌∷◌}
use Prim.Native.Nat.{ℕ}
use lib.Dec.{leb}
use lib.IntN.{ℤ}
use lib.ListN.{length}
use Rattle.lists.specs.Lists.{bytes, All, nil, cons}
use Rattle.meaning.specs.Limits.{is_within32}
use Rattle.meaning.specs.Call.{Call, add, ask, change, flush, propose, Is32, Call32}
use Rattle.meaning.specs.Tokens.{Token, keyword, name, constant, operator, mark, comma, lparen, rparen, dot, other, behind_prefix, token_here}
use Rattle.cache.specs.Run.{Store}
use Rattle.console.specs.Lines.{is_word, word_number, token_value, whole_token, word_value, and_value, word_values, Command, numbered, words, words_say, line_says, most_line, command_of}
use Rattle.console.specs.Desk.{lending, answered_of}
use Rattle.console.specs.Demand.{calls_by, calls_for}

-- ---- a word, and all words behind the number

abbrev Word32 : Option ℤ → Type 0
Word32 none = Unit {0}
Word32 (some z) = Is32 z

abbrev Words32 : Option (List ℤ) → Type 0
Words32 none = Unit {0}
Words32 (some zs) = All Is32 zs

constant-32 : (t : Token) → Word32 (token_value t)
constant-32 (constant z) = go (is_within32 z) refl
  where
    go : (b : Bool) → is_within32 z ≡ b → Word32 (cond b (some z) none)
    go true e = e
    go false e = tt
constant-32 (keyword k) = tt
constant-32 (name n) = tt
constant-32 (operator o) = tt
constant-32 mark = tt
constant-32 comma = tt
constant-32 lparen = tt
constant-32 rparen = tt
constant-32 dot = tt
constant-32 other = tt

whole-32 : (x : Token × List ℕ) → Word32 (whole_token x)
whole-32 (t, []) = constant-32 t
whole-32 (t, b ∷ s) = tt

value-32 : (w : List ℕ) → Word32 (word_value w)
unfolding word_value
value-32 w = go (token_here w)
  where
    go : (o : Option (Token × List ℕ)) → Word32 (elim o [ none ↦ none | some x ↦ whole_token x ])
    go none = tt
    go (some x) = whole-32 x

and-32 : (o : Option ℤ) (p : Option (List ℤ)) → Word32 o → Words32 p → Words32 (and_value o p)
and-32 (some z) (some zs) h k = cons h k
and-32 (some z) none h k = tt
and-32 none p h k = tt

values-32 : (ws : List (List ℕ)) → Words32 (word_values ws)
unfolding word_values
values-32 [] = nil
values-32 (w ∷ ws) = and-32 (word_value w) (word_values ws) (value-32 w) (values-32 ws)

-- ---- a line

abbrev Command32 : Command → Type 0
Command32 (some c) = Call32 c
Command32 none = Unit {0}

numbered-32 : (w : List ℕ) (o : Option ℕ) (p : Option (List ℤ)) → Words32 p → Command32 (numbered w o p)
numbered-32 w (some n) (some zs) h = go (is_word "ASK" w) (is_word "DO" w)
  where
    go : (a b : Bool) → Command32 (cond a (some (ask (record { query = n; values = zs }) tt)) (cond b (some (change n zs)) none))
    go true b = h
    go false true = h
    go false false = tt
numbered-32 w (some n) none h = tt
numbered-32 w none p h = tt

words-32 : (ws : List (List ℕ)) → Command32 (words_say ws)
words-32 [] = tt
words-32 (w ∷ []) = go (is_word "FLUSH" w)
  where
    go : (b : Bool) → Command32 (cond b (some flush) none)
    go true = tt
    go false = tt
words-32 (w ∷ n ∷ vs) = numbered-32 w (word_number n) (word_values vs) (values-32 vs)

line-32 : (line : List ℕ) → Command32 (line_says line)
line-32 line = go (behind_prefix (bytes "ADD ") line)
  where
    go : (o : Option (List ℕ)) → Command32 (elim o [ some text ↦ some (add text) | none ↦ words_say (words line) ])
    go (some text) = tt
    go none = words-32 (words line)

command-32 : (line : List ℕ) → Command32 (command_of line)
unfolding command_of
command-32 line = go (leb (length line) most_line)
  where
    go : (b : Bool) → Command32 (elim b [ true ↦ line_says line | false ↦ none ])
    go true = line-32 line
    go false = tt

-- ---- the calls of a list of lines

-- with any answer buffer
lent-32 : (buffer : List ℕ) (c : Call (Unit {0})) → Call32 c → Call32 (lending buffer c)
lent-32 buffer (ask k b) h = h
lent-32 buffer (change n zs) h = h
lent-32 buffer (propose n zs) h = h
lent-32 buffer _ h = tt

calls-by-32 : (buffer : List ℕ) (c : Command) (cs : List (Call (List ℕ))) → Command32 c → All Call32 cs → All Call32 (calls_by buffer c cs)
calls-by-32 buffer (some c) cs h k = cons (lent-32 buffer c h) k
calls-by-32 buffer none cs h k = k

pub calls-32 : (s : Store) (buffer : List ℕ) (ls : List (List ℕ)) → All Call32 (calls_for s buffer ls)
calls-32 s buffer [] = nil
calls-32 s buffer (l ∷ ls) =
    let a = answered_of s buffer l in
    calls-by-32 buffer (command_of l) (calls_for a.store a.buffer ls) (command-32 l) (calls-32 a.store a.buffer ls)
