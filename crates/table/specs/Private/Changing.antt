-- What the private functions of `changes` and `area` do. Assumes nothing: these are definitions.
use Rattle.std.specs.Prelude.{◌≡◌, Bool, true, false, cond, List, map, ℕ, ◌+◌, ◌*◌, ◌≤◌, ◌<◌, ℤ, length, drop}
use Rattle.lists.specs.Lists.{turned}
use Rattle.meaning.specs.Statement as M
use Rattle.meaning.specs.Meaning.{Row, new_row}
use Rattle.meaning.specs.Limits.{most_items, most_listed}
use Rattle.meaning.specs.Pattern.{placed_from}
use Rattle.statement.specs.declared.Setting.{Setting}
use Rattle.statement.specs.Compiled.{insert_form, padded, no_setting, setting_struct}
use Rattle.statement.specs.Sound.{setting_read}
use Rattle.table.specs.Rows.{area_rows}
use Rattle.table.specs.declared.changes.Changed.{Changed}
use Rattle.table.specs.Changed.{next_place}

-- the row of an INSERT of these settings
abbrev pub row_of : List Setting → List ℤ → Row
row_of ss vs = new_row (map (λ (s : ℕ × M.Value). s.1) (map setting_read ss)) vs

-- an INSERT into a full ring finds an oldest row, and any other can be counted
pub record Insertable (full : Bool) (used oldest : ℕ) : Type 0 where
  pub free : full ≡ false → used < most_listed
  pub there : full ≡ true → oldest < used

-- what `Changed.change_fits` asks, of the form, the settings and an area of so many cells alone
pub record ChangeFits (full : Bool) (oldest form settings columns used size : ℕ) : Type 0 where
  pub few : settings ≤ most_items
  pub inside : used * columns ≤ size
  pub place : form ≡ insert_form → Insertable full used oldest
  pub given : form ≡ insert_form → settings ≡ columns
  pub room : form ≡ insert_form → full ≡ false → used * columns + columns ≤ size

-- what `Changed.changed_of` says of an INSERT
abbrev pub inserted_of : Bool → ℕ → ℕ → Changed
inserted_of full used k = record { count = 1; rows = cond full used (used + 1); oldest = cond full (next_place used k) k }

-- the rows of an area turned by k rows, other cells as they were
pub record TurnsRows (columns used k : ℕ) (area area' : List ℤ) : Type 0 where
  pub same : length area' ≡ length area
  pub rows_are : area_rows columns used area' ≡ turned k (area_rows columns used area)
  pub rest_is : drop (used * columns) area' ≡ drop (used * columns) area

-- a row's values as the settings of an INSERT of constants
abbrev pub constants_of : Row → List Setting
constants_of r = padded most_items no_setting (map setting_struct (placed_from 0 (map M.constant r)))
