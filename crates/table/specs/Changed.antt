-- What an update does to the cells of its table, and what it counts: document 01, "Meaning", and request A.4. Of every struct and all cells; where something does not fit, nothing
-- happens. proofs/ChangedMeans shows that this is what `Meaning` says of the sentence it was compiled from. Assumes nothing: these are definitions.
use Rattle.std.specs.Prelude.{Bool, true, not, cond, ◌&&◌, ◌||◌, List, [], ◌∷◌, ◌++◌, map, ℕ, zero, suc, ◌+◌, ◌*◌, eqb, leb, ltb, ℤ, length, drop, get_or, set}
use Rattle.lists.specs.Lists.{keep, count, turned}
use Rattle.meaning.specs.Meaning.{Row, new_row, assigned}
use Rattle.meaning.specs.Cells.{area_of, stored, with_area}
use Rattle.meaning.specs.Limits.{most_items}
use Rattle.meaning.specs.Pattern.{removal}
use Rattle.statement.specs.declared.Table.{Table}
use Rattle.statement.specs.declared.Update.{Update}
use Rattle.statement.specs.Compiled.{update_struct}
use Rattle.statement.specs.Sound.{settings_read}
use Rattle.statement.specs.SoundTest.{setting_values}
use Rattle.table.specs.Evaluated.{rows_paired}
use Rattle.table.specs.Rows.{meets_stored, area_rows}
use Rattle.table.specs.declared.changes.Changed.{Changed}

-- ---- rows

-- a row after an UPDATE: "UPDATE tests each row as it was, then sets."
abbrev pub updated_if : (Row → Bool) → (Row → Row) → Row → Row
updated_if p f r = cond (p r) (f r) r

-- the rows as they lie in the area after an update of this form, 0 INSERT, 1 UPDATE, any other DELETE, where the oldest lies at place k; `full` says of a ring that it is
-- full. A.4: "The new row takes the cells of the one removed; after any DELETE the oldest row lies first in the area again."
unfoldable pub laid : Bool → ℕ → ℕ → Update → List ℤ → List Row → List Row
laid full k zero u vs rows = cond full (set rows k (new_row (setting_values u) vs)) (rows ++ (new_row (setting_values u) vs ∷ []))
laid full k (suc zero) u vs rows = map (updated_if (meets_stored u.condition vs) (assigned (settings_read u) vs)) rows
laid full k (suc (suc n)) u vs rows = keep (λ (r : Row). not (meets_stored u.condition vs r)) (turned k rows)

-- where the oldest of n rows lies then
abbrev pub next_place : ℕ → ℕ → ℕ
next_place n k = cond (ltb (k + 1) n) (k + 1) 0

unfoldable pub oldest_after : Bool → ℕ → ℕ → ℕ → ℕ
oldest_after full n k zero = cond full (next_place n k) k
oldest_after full n k (suc zero) = k
oldest_after full n k (suc (suc j)) = 0

-- how many it inserts, matches or deletes
unfoldable pub count_after : ℕ → Update → List ℤ → List Row → ℕ
count_after zero u vs rows = 1
count_after (suc k) u vs rows = count (meets_stored u.condition vs) rows

-- ---- cells

-- the area lies inside the cells, and the rows in use inside the area
unfoldable pub area_fits : Table → ℕ → ℕ → Bool
area_fits t start len = leb (start + t.count * t.capacity) len && leb t.rows t.capacity

-- a ring that is full
abbrev pub is_full_ring : Table → Bool
is_full_ring t = t.ring && leb t.capacity t.rows

-- an INSERT has a row free, or a ring's oldest row to take the place of, and a value for each column
abbrev pub form_fits : ℕ → Update → Table → Bool
form_fits zero u t = (ltb t.rows t.capacity || (t.ring && ltb t.oldest t.rows)) && eqb u.count t.count
form_fits (suc k) u t = true

unfoldable pub change_fits : Update → Table → ℕ → List ℤ → Bool
change_fits u t start cells = area_fits t start (length cells) && (leb u.count most_items && form_fits u.form u t)

-- the rows in use as they lie in the area that starts there
abbrev pub rows_before : Table → ℕ → List ℤ → List Row
rows_before t start cells = area_rows t.count t.rows (drop start cells)

-- what is counted, the rows in use then, and where the oldest lies
unfoldable pub changed_of : Bool → ℕ → ℕ → Update → List ℤ → List Row → Changed
changed_of full k form u vs rows =
    record { count = count_after form u vs rows; rows = length (laid full k form u vs rows); oldest = oldest_after full (length rows) k form }

-- where nothing was done
abbrev pub unchanged : Table → Changed
unchanged t = record { count = 0; rows = t.rows; oldest = t.oldest }

unfoldable pub change_of : Update → Table → ℕ → List ℤ → List ℤ → Changed
change_of u t start cells vs = cond (change_fits u t start cells) (changed_of (is_full_ring t) t.oldest u.form u vs (rows_before t start cells)) (unchanged t)

-- the cells after it: all but the area as before
unfoldable pub cells_after : Update → Table → ℕ → List ℤ → List ℤ → List ℤ
cells_after u t start cells vs =
    cond (change_fits u t start cells)
    (with_area start (t.count * t.capacity) cells
    (stored (area_of start (t.count * t.capacity) cells) (t.count * t.rows) (laid (is_full_ring t) t.oldest u.form u vs (rows_before t start cells))))
    cells

-- ---- A.4: the row that an INSERT into a full ring pushes out, "judged as well"

-- the oldest row; of a table that has none, or more than 8 columns, a row of no columns
abbrev pub oldest_row : Table → ℕ → List ℤ → Row
oldest_row t start cells = get_or (rows_paired t start cells) 0 []

-- its removal from table n as a stored update: an INSERT of its values as constants
unfoldable pub removal_of : ℕ → Table → ℕ → List ℤ → Update
removal_of n t start cells = update_struct (removal n (oldest_row t start cells))
