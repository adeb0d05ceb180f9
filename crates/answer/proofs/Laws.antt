-- Laws for callers: a record is its head and the numbers of its rows, written one after another, and a buffer that holds a record shows its rows.
-- Assumes nothing.
use mathlib.Core.Path.{◌≡◌, ap, ◌∙◌}
use mathlib.Core.List.{List, ◌∷◌, ◌++◌}
use Prim.Native.Nat.{ℕ, ◌+◌, ◌*◌, ◌≤◌}
use native.Mathlib.Nat.{mul_comm}
use native.Mathlib.Omega.{arith}
use lib.ListN.{length, drop}
use Rattle.lists.specs.Lists.{All, flat, written}
use Rattle.lists.proofs.Places.{flat-length}
use Rattle.meaning.specs.Record.{ReadsBack, bytes4, bytes2, number_bytes, body, encode}
use Rattle.meaning.specs.Exact.{IsRow}
use Rattle.meaning.specs.Limits.{most_items, most_listed}
use Rattle.meaning.specs.Meaning.{Row}
use Rattle.meaning.proofs.Record.{numbers-length, encode-length, record_reads_back}
use Rattle.answer.specs.Answer.{record_length, header}

module _ (columns : ℕ) (rows : List Row) (wide : All (λ r. length r ≡ columns) rows) where
  values-are : length (flat rows) ≡ columns * length rows
  values-are = flat-length columns rows wide ∙ mul_comm (length rows) columns

  -- the length of the record
  pub record-length : length (encode columns rows) ≡ record_length columns (length rows)
  record-length = encode-length columns rows ∙ ap (λ (n : ℕ). 8 + 4 * n) values-are

  -- the record is its head and the numbers of its rows
  pub record_is : encode columns rows ≡ header columns (length rows) ++ number_bytes (flat rows)
  unfolding encode body
  record_is =
      let size : length (body columns rows) ≡ 4 + 4 * (columns * length rows) = omega (arith, numbers-length (flat rows), values-are) in
      ap (λ (n : ℕ). bytes4 n ++ ((1 ∷ columns ∷ bytes2 (length rows)) ++ number_bytes (flat rows))) size

-- a buffer at whose start a record was written shows each row as the numbers of that row, and no other row
pub buffer-reads-back : (out : List ℕ) (columns : ℕ) (rows : List Row) → 1 ≤ columns → columns ≤ most_items → length rows ≤ most_listed
    → All (IsRow columns) rows → ReadsBack (written out 0 (encode columns rows)) columns rows
buffer-reads-back out columns rows = record_reads_back columns rows (drop (0 + length (encode columns rows)) out)
