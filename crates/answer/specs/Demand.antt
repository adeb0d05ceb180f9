-- Refusal 14 as claims: document 01, "Meaning", second paragraph, and "Numbers for a call not taken". `row_refusal` and `row_part` are what the contracts of the functions `check_row` and
-- `row` say that they give. Each claim is proved in proofs/Demand. Assumes nothing: these are definitions.
use Rattle.std.specs.Prelude.{◌≡◌, ◌≢◌, ◌↔◌, List, [], ℕ, ◌+◌, ◌*◌, ◌≤◌, ◌<◌, length, get_or, take, drop}
use Rattle.meaning.specs.Limits.{Between}
use Rattle.meaning.specs.Record.{four_at, columns_in, row_count, row_refusal, row_start, row_part}

-- "Bytes are a record if version, columns (1 to 8), rows and length agree and the whole length is there; later bytes are ignored."
-- A.1: "Records may hold up to 65,535 rows, also where a row is shown."
pub record IsRecord (bs : List ℕ) : Type 0 where
  pub version : get_or bs 4 0 ≡ 1
  pub columns : Between 1 8 (columns_in bs)
  pub rows : row_count bs ≤ 65535
  pub length_agrees : four_at bs 0 ≡ 4 + 4 * (columns_in bs * row_count bs)
  pub whole : 4 + four_at bs 0 ≤ length bs

-- 14: "bytes that are no record .., or no such row", and only then; "Rows count from 0."
abbrev pub ShownExactlyIf : Type 0
ShownExactlyIf = (bs : List ℕ) (i : ℕ) → (row_refusal bs i ≡ 0) ↔ (IsRecord bs × (i < row_count bs))

-- "Row i of a record is shown as that part of the record itself": behind the first eight bytes and the rows before it, four bytes a value
abbrev pub ShowsItsPart : Type 0
ShowsItsPart = (bs : List ℕ) (i : ℕ) → row_refusal bs i ≡ 0 → row_part bs i ≡ take (4 * columns_in bs) (drop (8 + i * (4 * columns_in bs)) bs)

-- "a refused row shows the empty part at its beginning"
abbrev pub RefusedShowsNothing : Type 0
RefusedShowsNothing = (bs : List ℕ) (i : ℕ) → row_refusal bs i ≢ 0 → (row_refusal bs i ≡ 14) × (row_start bs i ≡ 0) × (row_part bs i ≡ [])

pub record Demands : Type 0 where
  pub shown_exactly_if : ShownExactlyIf
  pub shows_its_part : ShowsItsPart
  pub refused_shows_nothing : RefusedShowsNothing
