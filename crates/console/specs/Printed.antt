-- What `desk` prints: document 01, "Examples", last paragraph: "Any other line prints `bad line`, a refusal `refused` and its number. ADD prints kind and number. ASK prints
-- kept or new, rows read, and rows after a colon, parted by `/`, values by a space; with no rows the line ends at the colon. DO prints rows and drops. FLUSH prints
-- `flushed`." Assumes nothing: these are definitions.
use Rattle.std.specs.Prelude.{true, false, cond, List, [], ◌∷◌, ◌++◌, map, ℕ, zero, suc, ◌+◌, ◌/◌, ◌%◌, eqb, ltb, ℤ, pos, negsuc}
use Prim.Native.String.{String}
use Rattle.lists.specs.Lists.{bytes, from}
use Rattle.meaning.specs.Record.{is_record, row_count, row_part, numbers_of}
use Rattle.statement.specs.Compiled.{of_table, of_query}

-- ---- numbers

-- the decimal digits of a number of at most k digits, without leading zeros
abbrev pub digits_in : ℕ → ℕ → List ℕ
digits_in zero n = []
digits_in (suc k) n = elim (ltb n 10) [ true ↦ (48 + n) ∷ [] | false ↦ digits_in k (n / 10) ++ ((48 + n % 10) ∷ []) ]

-- a number of at most 64 bits
unfoldable pub decimal_text : ℕ → List ℕ
decimal_text n = digits_in 20 n

unfoldable pub number_text : ℤ → List ℕ
number_text (pos n) = decimal_text n
number_text (negsuc n) = 45 ∷ decimal_text (suc n)

-- ---- lines

abbrev pub line : List ℕ → List ℕ
line s = s ++ (10 ∷ [])

-- a word, a space and a number
abbrev pub item : String → ℕ → List ℕ
item word n = bytes word ++ (32 ∷ decimal_text n)

abbrev pub bad_text : List ℕ
bad_text = line (bytes "bad line")

unfoldable pub refused_text : ℕ → List ℕ
refused_text n = line (item "refused" n)

-- by the kind: a table, a question, else an update
unfoldable pub added_text : ℕ → ℕ → List ℕ
added_text kind n = line (cond (eqb kind of_table) (item "table" n) (cond (eqb kind of_query) (item "query" n) (item "update" n)))

unfoldable pub updated_text : ℕ → ℕ → List ℕ
updated_text rows drops = line (item "rows" rows ++ (32 ∷ item "dropped" drops))

abbrev pub flushed_text : List ℕ
flushed_text = line (bytes "flushed")

-- ---- answers

-- each value behind a space
abbrev pub row_text : List ℤ → List ℕ
row_text [] = []
row_text (z ∷ zs) = (32 ∷ number_text z) ++ row_text zs

-- rows parted by ` /`
abbrev pub further_text : List (List ℤ) → List ℕ
further_text [] = []
further_text (r ∷ rs) = bytes " /" ++ row_text r ++ further_text rs

abbrev pub rows_text : List (List ℤ) → List ℕ
rows_text [] = []
rows_text (r ∷ rs) = row_text r ++ further_text rs

-- how many rows the bytes show: of no record, none
abbrev pub rows_there : List ℕ → ℕ
rows_there bs = cond (is_record bs) (row_count bs) 0

abbrev pub rows_shown : List ℕ → List (List ℤ)
rows_shown bs = map (λ (i : ℕ). numbers_of (row_part bs i)) (from 0 (rows_there bs))

-- 1 for kept
abbrev pub source_word : ℕ → List ℕ
source_word kept = cond (eqb kept 0) (bytes "new ") (bytes "kept ")

unfoldable pub answer_text : ℕ → ℕ → List ℕ → List ℕ
answer_text kept scanned bs = line (source_word kept ++ (item "read" scanned ++ (bytes " :" ++ rows_text (rows_shown bs))))
