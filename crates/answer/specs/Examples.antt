-- Heads and values of records, computed. Assumes nothing.
use Rattle.std.specs.Prelude.{◌≡◌, refl, List, [], ◌∷◌, ◌++◌, map, ℕ, pos, neg_ℤ}
use Rattle.meaning.specs.Record.{number_bytes, is_record, has_row, row_part}
use Rattle.answer.specs.Answer.{record_length, header, put}

-- the head of two columns and three rows, and its record's length
pub head : header 2 3 ≡ 0 ∷ 0 ∷ 0 ∷ 28 ∷ 1 ∷ 2 ∷ 0 ∷ 3 ∷ []
head = refl

pub whole : record_length 2 3 ≡ 32
whole = refl

-- 8 columns and 65,535 rows (A.1): 2,097,124 bytes follow the length
pub largest : (header 8 65535 ≡ 0 ∷ 31 ∷ 255 ∷ 228 ∷ 1 ∷ 8 ∷ 255 ∷ 255 ∷ []) × (record_length 8 65535 ≡ 2097128)
largest = (refl, refl)

-- 1, -1, and the ends of 32 bits
pub values : number_bytes (pos 1 ∷ neg_ℤ (pos 1) ∷ pos 2147483647 ∷ neg_ℤ (pos 2147483648) ∷ [])
    ≡ 0 ∷ 0 ∷ 0 ∷ 1 ∷ 255 ∷ 255 ∷ 255 ∷ 255 ∷ 127 ∷ 255 ∷ 255 ∷ 255 ∷ 128 ∷ 0 ∷ 0 ∷ 0 ∷ []
values = refl

-- what fits just, and what does not
pub exact : put (1 ∷ 2 ∷ 3 ∷ []) 1 (8 ∷ 9 ∷ []) ≡ 1 ∷ 8 ∷ 9 ∷ []
exact = refl

pub over : put (1 ∷ 2 ∷ 3 ∷ []) 2 (8 ∷ 9 ∷ []) ≡ 1 ∷ 2 ∷ 3 ∷ []
over = refl

-- the rows of a record of one column, 7 and -2, with a byte behind it: row 1, and no row 2
abbrev two : List ℕ
two = header 1 2 ++ number_bytes (pos 7 ∷ neg_ℤ (pos 2) ∷ []) ++ 99 ∷ []

pub shown : map (row_part two) (0 ∷ 1 ∷ 2 ∷ []) ≡ (0 ∷ 0 ∷ 0 ∷ 7 ∷ []) ∷ (255 ∷ 255 ∷ 255 ∷ 254 ∷ []) ∷ [] ∷ []
unfolding row_part has_row is_record
shown = refl
