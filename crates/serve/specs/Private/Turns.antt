-- What the functions of the loop promise, in terms of `Input`. Of an input and an output these speak of the bytes that their types know. Assumes nothing: these are
-- definitions.
use Rattle.std.specs.Prelude.{◌≡◌, List, ◌++◌, ℕ, ◌≤◌, ◌<◌, ℤ, Option, length, take}
use Rattle.std.specs.Io.KnownBytes.{Appends, Consumes}
use Rattle.cache.specs.declared.State.{State}
use Rattle.cache.specs.Run.{Store, Start, opened}
use Rattle.serve.specs.Input.{DeskOpening, Session, fed, printed_in, finished, printed_last, printed_of, beginning}

-- the bytes that are lent for answers; and no line prints more bytes, with an answer in those
abbrev pub most_lent : ℕ
most_lent = 65536

abbrev pub most_printed : ℕ
most_printed = 262144

-- the store and the session as the program has them; the held bytes are the first of a buffer
abbrev pub store_of : State → List ℤ → List ℕ → Store
store_of state cells memory = record { state = state; cells = cells; memory = memory }

abbrev pub session_of : State → List ℤ → List ℕ → List ℕ → List ℕ → Session
session_of state cells memory answer held = record { store = store_of state cells memory; buffer = answer; held = held }

-- the opening of document 01, on memories that are lent
abbrev pub desk_start : List ℤ → List ℕ → Start
desk_start cells memory = record { cells = cells; memory = memory; slots = 4; slot_bytes = 64 }

-- a session begins with that
abbrev pub Opens : Session → Type 0
Opens s = (o : Start) × (buffer : List ℕ) × DeskOpening o buffer × (s ≡ beginning (opened o) buffer)

-- some bytes of the input were used up: the session then, and what the output grows by is what is printed for them
pub record Feeds (s : Session) (bytes : List ℕ) (t : Session) (before after : Option (List ℕ)) : Type 0 where
  pub session : t ≡ fed s bytes
  pub printed : Appends before after (printed_in s bytes)

-- a text stands at the start of the bytes that are lent for it
abbrev pub Begins : List ℕ → List ℕ → Type 0
Begins text out = take (length text) out ≡ text

-- a turn of the loop, whatever the output is, and whether its text could be written or not: some bytes of a piece were used up, the session is the one after them, and what is
-- printed for them stands at the start of the bytes that are lent for it, from where it is written
pub record Turn (s : Session) (piece : List ℕ) (t : Session) (out : List ℕ) : Type 0 where
  pub used : ℕ
  pub some : 0 < used
  pub inside : used ≤ length piece
  pub session : t ≡ fed s (take used piece)
  pub text : Begins (printed_in s (take used piece)) out

-- the session after what was read
abbrev pub Reads : Session → Session → Type 0
Reads s t = (input : List ℕ) × (t ≡ fed s input)

-- and where that is a piece: after so many of its bytes
pub record ReadsPart (s : Session) (piece : List ℕ) (t : Session) : Type 0 where
  pub used : ℕ
  pub inside : used ≤ length piece
  pub session : t ≡ fed s (take used piece)

-- all of the input was: the session after its end
pub record Runs (s : Session) (input : List ℕ) (t : Session) (before after : Option (List ℕ)) : Type 0 where
  pub session : t ≡ finished (fed s input)
  pub printed : Appends before after (printed_in s input ++ printed_last (fed s input))
