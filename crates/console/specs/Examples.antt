-- Lines and what is printed for them, computed: document 01's transcript as `desk` prints it, and lines at the edges. Assumes nothing.
use Rattle.std.specs.Prelude.{◌≡◌, refl, List, [], ◌∷◌, ◌++◌, map, ℕ, ℤ, pos, neg_ℤ, replicate}
use Prim.Native.String.{String}
use Rattle.lists.specs.Lists.{bytes}
use Rattle.meaning.specs.Tokens.{is_name_byte, is_word_byte, decimal, is_name, word, negative, token_from}
use Rattle.meaning.specs.Record.{is_record, has_row, row_part}
use Rattle.cache.specs.Examples as calls
use Rattle.cache.specs.Examples.{desk}
use Rattle.cache.specs.Run.{opened}
use Rattle.std.proofs.Math.Option.{none, some}
use Rattle.meaning.specs.Call.{add, ask, change, flush}
use Rattle.console.specs.Lines.{Command, word_number, word_value, word_values, command_of}
use Rattle.console.specs.Printed.{decimal_text, number_text, line, refused_text, added_text, updated_text, answer_text}
use Rattle.console.specs.Desk.{answered_of, printed_for}

-- what the computations open
computing : Unit {0}
unfolding calls.computing added_text updated_text refused_text answered_of is_name_byte is_word_byte decimal is_name word negative token_from is_record has_row row_part word_number word_value word_values command_of decimal_text number_text answer_text
computing = tt

abbrev asking : ℕ → List ℤ → Command
asking n zs = some (ask (record { query = n; values = zs }) tt)

-- lines, and what they say
abbrev lines : List (String × Command)
lines =
    ("FLUSH", some flush)
    ∷ ("FLUSH ", none)
    ∷ ("flush", none)
    ∷ ("", none)
    ∷ (" FLUSH", none)
    ∷ ("ADD", none)
    ∷ ("ADD ", some (add []))
    ∷ ("ADD  a", some (add (32 ∷ 97 ∷ [])))
    ∷ ("ASK", none)
    ∷ ("ASK 0", asking 0 [])
    ∷ ("ASK 007 -0 0012", asking 7 (pos 0 ∷ pos 12 ∷ []))
    ∷ ("ASK 0 ", none)
    ∷ ("ASK  0", none)
    ∷ ("ASK 0  1", none)
    ∷ ("ASK -0", none)
    ∷ ("ASK 2147483647", asking 2147483647 [])
    ∷ ("ASK 2147483648", none)
    ∷ ("ASK 0 2147483647 -2147483648", asking 0 (pos 2147483647 ∷ neg_ℤ (pos 2147483648) ∷ []))
    ∷ ("ASK 0 2147483648", none)
    ∷ ("ASK 0 -2147483649", none)
    ∷ ("ASK 0 1a", none)
    ∷ ("ASK 0 - 1", none)
    ∷ ("ASK 0 1,2", none)
    ∷ ("DO 3 1 2 3 4 5 6 7 8 9", some (change 3 (map pos (1 ∷ 2 ∷ 3 ∷ 4 ∷ 5 ∷ 6 ∷ 7 ∷ 8 ∷ 9 ∷ []))))
    ∷ ("DOO 3", none)
    ∷ []

pub lines-say : map (λ (x : String × Command). command_of (bytes x.0)) lines ≡ map (λ (x : String × Command). x.1) lines
unfolding computing
lines-say = refl

-- a line of 512 bytes is read, and one of 513 is bad
pub longest-line : command_of (bytes "ADD " ++ replicate 508 32) ≡ some (add (replicate 508 32))
unfolding computing
longest-line = refl

pub longer-line : command_of (bytes "ADD " ++ replicate 509 32) ≡ none
unfolding computing
longer-line = refl

-- a record of two rows of two columns; no rows; bytes that are no record
pub answers-are : map
    (λ (bs : List ℕ). answer_text 0 3 bs)
    ((0 ∷ 0 ∷ 0 ∷ 20 ∷ 1 ∷ 2 ∷ 0 ∷ 2 ∷ 0 ∷ 0 ∷ 0 ∷ 120 ∷ 128 ∷ 0 ∷ 0 ∷ 0 ∷ 255 ∷ 255 ∷ 255 ∷ 255 ∷ 0 ∷ 0 ∷ 0 ∷ 0 ∷ 9 ∷ [])
    ∷ (0 ∷ 0 ∷ 0 ∷ 4 ∷ 1 ∷ 1 ∷ 0 ∷ 0 ∷ [])
    ∷ (0 ∷ 0 ∷ 0 ∷ 5 ∷ 1 ∷ 1 ∷ 0 ∷ 0 ∷ 7 ∷ [])
    ∷ [])
    ≡ (bytes "new read 3 : 120 -2147483648 / -1 0" ++ (10 ∷ []))
    ∷ (bytes "new read 3 :" ++ (10 ∷ []))
    ∷ (bytes "new read 3 :" ++ (10 ∷ []))
    ∷ []
unfolding computing
answers-are = refl

-- document 01's transcript: left the line, right what `desk` prints for it
abbrev transcript : List (String × String)
transcript =
    ("ADD TABLE stage (site, level) ROWS 3", "table 0")
    ∷ ("ADD INSERT INTO stage VALUES (?, ?)", "update 0")
    ∷ ("ADD SELECT level FROM stage WHERE site = ?", "query 0")
    ∷ ("DO 0 7 120", "rows 1 dropped 0")
    ∷ ("ASK 0 7", "new read 1 : 120")
    ∷ ("DO 0 8 95", "rows 1 dropped 0")
    ∷ ("ASK 0 7", "kept read 0 : 120")
    ∷ ("DO 0 7 121", "rows 1 dropped 1")
    ∷ ("ASK 0 7", "new read 3 : 120 / 121")
    ∷ ("DO 0 7 122", "refused 12")
    ∷ []

pub transcript-is : printed_for (opened desk) (replicate 20 9) (map (λ (x : String × String). bytes x.0) transcript)
    ≡ map (λ (x : String × String). line (bytes x.1)) transcript
unfolding computing
transcript-is = refl
