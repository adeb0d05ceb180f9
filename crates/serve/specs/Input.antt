-- The input of `desk` and what is printed for it: document 01, "Examples", last paragraph: "The program `desk` opens 4,096 cells, 256 bytes of kept memory and 4 slots of
-- 64 bytes, lends 65,536 bytes for answers, and reads lines from standard input (at most 512 bytes)". Assumes nothing: these are definitions.
use Rattle.std.specs.Prelude.{◌≡◌, true, false, List, [], ◌∷◌, ◌++◌, ℕ, Option, length, take}
use Rattle.std.specs.Io.KnownBytes.{Appends, Consumes, IsAtEnd}
use Rattle.lists.specs.Lists.{flat}
use Rattle.cache.specs.Run.{Store, Start, opened}
use Rattle.console.specs.Lines.{is_newline}
use Rattle.console.specs.Desk.{Answered, answered_of, printed_for}
use Rattle.console.specs.Demand.{store_after, plain_printed_for}

-- ---- the lines of an input: a line ends at byte 10, which is not counted; a last one that it does not end is a line if it has a byte

-- `held` are the bytes of a line that has not ended: the lines that end in further bytes, and what is held after these
abbrev pub ended_in : List ℕ → List ℕ → List (List ℕ)
ended_in held [] = []
ended_in held (b ∷ bs) = elim (is_newline b) [ true ↦ held ∷ ended_in [] bs | false ↦ ended_in (held ++ (b ∷ [])) bs ]

abbrev pub held_after : List ℕ → List ℕ → List ℕ
held_after held [] = held
held_after held (b ∷ bs) = elim (is_newline b) [ true ↦ held_after [] bs | false ↦ held_after (held ++ (b ∷ [])) bs ]

abbrev pub last_line : List ℕ → List (List ℕ)
last_line [] = []
last_line (b ∷ bs) = (b ∷ bs) ∷ []

abbrev pub lines_of : List ℕ → List (List ℕ)
lines_of input = ended_in [] input ++ last_line (held_after [] input)

-- ---- what is printed for an input

abbrev pub printed_of : Store → List ℕ → List ℕ → List ℕ
printed_of s buffer input = flat (printed_for s buffer (lines_of input))

-- "opens 4,096 cells, 256 bytes of kept memory and 4 slots of 64 bytes, lends 65,536 bytes for answers"
pub record DeskOpening (o : Start) (buffer : List ℕ) : Type 0 where
  pub cells : length o.cells ≡ 4096
  pub memory : length o.memory ≡ 256
  pub slots : o.slots ≡ 4
  pub slot_bytes : o.slot_bytes ≡ 64
  pub answers : length buffer ≡ 65536

-- of an input and an output whose bytes are known: a store was opened so, the input was read to its end, and the output has grown by what is printed for the lines of all that was
-- read. (Of those whose bytes are not known, as of a terminal's, it says nothing.)
abbrev pub Serves : Option (List ℕ) → Option (List ℕ) → Option (List ℕ) → Option (List ℕ) → Type 0
Serves unread left before after =
    (o : Start) × (buffer : List ℕ) × (input : List ℕ)
    × DeskOpening o buffer × Consumes unread left input × IsAtEnd left × Appends before after (printed_of (opened o) buffer input)

-- ---- as the program does it, piece by piece: the store, the answer buffer, and the bytes held of the next line

pub record Session : Type 0 where
  pub store : Store
  pub buffer : List ℕ
  pub held : List ℕ

-- one byte more than a line may have, so that a longer one is seen to be too long
abbrev pub most_held : ℕ
most_held = 513

abbrev pub holding : Session → List ℕ → Session
holding s bs = record { store = s.store; buffer = s.buffer; held = take most_held (s.held ++ bs) }

-- the line that is held, answered; and the session then
abbrev pub answering : Session → Answered
answering s = answered_of s.store s.buffer s.held

abbrev pub next_session : Answered → Session
next_session a = record { store = a.store; buffer = a.buffer; held = [] }

-- a byte of the input: the session after it, and what is printed
abbrev pub fed_byte : Session → ℕ → Session
fed_byte s b = elim (is_newline b) [ true ↦ next_session (answering s) | false ↦ holding s (b ∷ []) ]

abbrev pub text_at : Session → ℕ → List ℕ
text_at s b = elim (is_newline b) [ true ↦ (answering s).text | false ↦ [] ]

-- a piece of the input
unfoldable pub fed : Session → List ℕ → Session
fed s [] = s
fed s (b ∷ bs) = fed (fed_byte s b) bs

unfoldable pub printed_in : Session → List ℕ → List ℕ
printed_in s [] = []
printed_in s (b ∷ bs) = text_at s b ++ printed_in (fed_byte s b) bs

-- the input's end
abbrev pub finished : Session → Session
finished s = elim s.held [ [] ↦ s | b ∷ bs ↦ next_session (answering s) ]

abbrev pub printed_last : Session → List ℕ
printed_last s = elim s.held [ [] ↦ [] | b ∷ bs ↦ (answering s).text ]

-- ---- that these are the same, of every store, answer buffer and input: pieces of any size give what the lines of the whole give

abbrev pub PiecesJoin : Type 0
PiecesJoin = (s : Session) (a b : List ℕ) → (fed s (a ++ b) ≡ fed (fed s a) b) × (printed_in s (a ++ b) ≡ printed_in s a ++ printed_in (fed s a) b)

abbrev pub beginning : Store → List ℕ → Session
beginning s buffer = record { store = s; buffer = buffer; held = [] }

abbrev pub PrintsTheLines : Type 0
PrintsTheLines = (s : Store) (buffer input : List ℕ)
    → printed_in (beginning s buffer) input ++ printed_last (fed (beginning s buffer) input) ≡ printed_of s buffer input

-- and leave the store that these leave
abbrev pub EndsAsTheLines : Type 0
EndsAsTheLines = (s : Store) (buffer input : List ℕ) → (finished (fed (beginning s buffer) input)).store ≡ store_after s buffer (lines_of input)

-- so what `desk` prints for an input is what the plain store of document 01 prints for its lines, with kept or new, rows read and drops as the calls get them
abbrev pub PrintsAsPlain : Type 0
PrintsAsPlain = (o : Start) (buffer input : List ℕ) → let s = beginning (opened o) buffer in
    printed_in s input ++ printed_last (fed s input) ≡ flat (plain_printed_for o buffer (lines_of input))

-- ---- all of these

pub record Demands : Type 0 where
  pub pieces_join : PiecesJoin
  pub prints_the_lines : PrintsTheLines
  pub ends_as_the_lines : EndsAsTheLines
  pub prints_as_plain : PrintsAsPlain
