-- Answer records in code: the head of a record, its length, bytes put into a buffer if they fit, and the place of a part of a slice.
-- Assumes nothing: these are definitions.
use Rattle.std.specs.Prelude.{cond, List, ◌∷◌, ◌++◌, ℕ, ◌+◌, ◌*◌, leb, length}
use Rattle.std.specs.Borrow.{Bor}
use Rattle.lists.specs.Lists.{written}
use Rattle.meaning.specs.Record.{bytes4, bytes2}

-- how many bytes the record of so many columns and rows has
abbrev pub record_length : ℕ → ℕ → ℕ
record_length columns rows = 8 + 4 * (columns * rows)

-- its first eight bytes: the length of what follows, the version, the columns, the rows
abbrev pub header : ℕ → ℕ → List ℕ
header columns rows = bytes4 (4 + 4 * (columns * rows)) ++ (1 ∷ columns ∷ bytes2 rows)

-- a buffer with bytes put at a place: if they fit there, else as it was
abbrev pub put : List ℕ → ℕ → List ℕ → List ℕ
put out at bs = cond (leb (at + length bs) (length out)) (written out at bs) out

-- where a slice starts, and so many bytes on: in the same block of memory, at an offset
abbrev pub pointer_past : Bor (List ℕ) → ℕ → ℕ × ℕ
pointer_past s n = (s.ref_ptr.0, s.ref_ptr.1 + n)
