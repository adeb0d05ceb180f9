-- Answer records: document 01, "Meaning", second paragraph, and refusal 14; request A.1 (65,535 rows). Assumes nothing: these are definitions.
use Rattle.std.specs.Prelude.{Bool, ◌&&◌, cond, List, [], ◌∷◌, ◌++◌, ℕ, suc, ◌+◌, ◌*◌, ◌-◌, ◌/◌, ◌%◌, ◌^◌, leb, ltb, eqb, ℤ, pos, negsuc, length, take, drop, get_or, ◌≡◌, true, ◌≤◌, ◌<◌}
use Rattle.lists.specs.Lists.{flat}
use Rattle.meaning.specs.Limits.{most_items, most_listed}
use Rattle.meaning.specs.Meaning.{Row}

-- ---- writing

-- a signed number's 32 bits, two's complement
abbrev pub bits_of : ℤ → ℕ
bits_of (pos n) = n
bits_of (negsuc n) = 2 ^ 32 - suc n

-- "All big-endian."
abbrev pub bytes4 : ℕ → List ℕ
bytes4 n = n / 16777216 % 256 ∷ n / 65536 % 256 ∷ n / 256 % 256 ∷ n % 256 ∷ []

abbrev pub bytes2 : ℕ → List ℕ
bytes2 n = n / 256 % 256 ∷ n % 256 ∷ []

-- four bytes a value
abbrev pub number_bytes : List ℤ → List ℕ
number_bytes [] = []
number_bytes (z ∷ zs) = bytes4 (bits_of z) ++ number_bytes zs

-- what follows the length: "a version byte 1; a byte, columns; two bytes, rows; then four bytes a value"
unfoldable pub body : ℕ → List Row → List ℕ
body columns rows = (1 ∷ columns ∷ bytes2 (length rows)) ++ number_bytes (flat rows)

-- "four bytes, the length of what follows"
unfoldable pub encode : ℕ → List Row → List ℕ
encode columns rows = bytes4 (length (body columns rows)) ++ body columns rows

-- ---- reading

abbrev pub two_at : List ℕ → ℕ → ℕ
two_at bs at = get_or bs at 0 * 256 + get_or bs (at + 1) 0

abbrev pub four_at : List ℕ → ℕ → ℕ
four_at bs at = get_or bs at 0 * 16777216 + get_or bs (at + 1) 0 * 65536 + get_or bs (at + 2) 0 * 256 + get_or bs (at + 3) 0

abbrev pub columns_in : List ℕ → ℕ
columns_in bs = get_or bs 5 0

abbrev pub row_count : List ℕ → ℕ
row_count bs = two_at bs 6

-- the bytes of a row
abbrev pub row_bytes : List ℕ → ℕ
row_bytes bs = 4 * columns_in bs

-- "Bytes are a record if version, columns (1 to 8), rows and length agree and the whole length is there; later bytes are ignored"; A.1: "Records may hold up
-- to 65,535 rows, also where a row is shown."
unfoldable pub is_record : List ℕ → Bool
is_record bs =
    leb 8 (length bs)
    && (eqb (get_or bs 4 0) 1
    && (leb 1 (columns_in bs)
    && (leb (columns_in bs) most_items
    && (leb (row_count bs) most_listed
    && (eqb (four_at bs 0) (row_count bs * row_bytes bs + 4)
    && leb (four_at bs 0 + 4) (length bs))))))

-- "Rows count from 0"; row i is there
unfoldable pub has_row : List ℕ → ℕ → Bool
has_row bs i = is_record bs && ltb i (row_count bs)

-- refusal 14: "bytes that are no record .., or no such row"
abbrev pub row_refusal : List ℕ → ℕ → ℕ
row_refusal bs i = cond (has_row bs i) 0 14

-- the part of the record that shows row i: where it starts, and how many bytes it has; "a refused row shows the empty part at its beginning"
abbrev pub row_start : List ℕ → ℕ → ℕ
row_start bs i = cond (has_row bs i) (8 + i * row_bytes bs) 0

abbrev pub row_length : List ℕ → ℕ → ℕ
row_length bs i = cond (has_row bs i) (row_bytes bs) 0

-- "Row i of a record is shown as that part of the record itself"
unfoldable pub row_part : List ℕ → ℕ → List ℕ
row_part bs i = take (row_length bs i) (drop (row_start bs i) bs)

-- a signed number of its 32 bits
abbrev pub signed_of : ℕ → ℤ
signed_of n = cond (ltb n (2 ^ 31)) (pos n) (negsuc (2 ^ 32 - suc n))

-- the numbers of a row's part
abbrev pub numbers_of : List ℕ → List ℤ
numbers_of [] = []
numbers_of (a ∷ []) = []
numbers_of (a ∷ b ∷ []) = []
numbers_of (a ∷ b ∷ c ∷ []) = []
numbers_of (a ∷ b ∷ c ∷ d ∷ bs) = signed_of (four_at (a ∷ b ∷ c ∷ d ∷ []) 0) ∷ numbers_of bs

-- the bytes show the rows
pub record ReadsBack (bs : List ℕ) (columns : ℕ) (rows : List Row) : Type 0 where
  pub is-record : is_record bs ≡ true
  pub columns_are : columns_in bs ≡ columns
  pub rows_are : row_count bs ≡ length rows
  pub shown : (i : ℕ) → i < length rows → (row_refusal bs i ≡ 0) × (numbers_of (row_part bs i) ≡ get_or rows i [])
  pub not_shown : (i : ℕ) → length rows ≤ i → (row_refusal bs i ≡ 14) × (row_part bs i ≡ [])
