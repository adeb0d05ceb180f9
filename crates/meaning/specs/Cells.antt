-- Rows in the lent cells: document 01, "The store and its calls" ("its tables' areas of columns × ROWS cells follow one another from cell 0 on") and
-- "Meaning" ("row by row in the table's area; cells that a DELETE vacates become 0, other unused cells stay"). Assumes nothing: these are definitions.
use Rattle.std.specs.Prelude.{List, [], ◌∷◌, ◌++◌, ℕ, zero, suc, ◌+◌, ◌*◌, ◌-◌, max, ℤ, pos, length, take, drop, replicate}
use Rattle.lists.specs.Lists.{flat}
use Rattle.meaning.specs.Names.{Schema}
use Rattle.meaning.specs.Meaning.{Row}

-- the cells of a table's area
abbrev pub area_size : Schema → ℕ
area_size t = length t.columns * t.capacity

-- the cells of all areas; the area of the next table starts there
abbrev pub areas_size : List Schema → ℕ
areas_size [] = 0
areas_size (t ∷ ts) = area_size t + areas_size ts

-- the `size` cells from `start` on
abbrev pub area_of : ℕ → ℕ → List ℤ → List ℤ
area_of start size cells = take size (drop start cells)

-- the first n rows of c cells
abbrev pub rows_in : ℕ → ℕ → List ℤ → List Row
rows_in c zero cells = []
rows_in c (suc n) cells = take c cells ∷ rows_in c n (drop c cells)

-- an area of which `used` cells were in use, when it holds `rows`: the cells that these leave of the used ones are 0, later ones are as they were
unfoldable pub stored : List ℤ → ℕ → List Row → List ℤ
stored area used rows =
    flat rows ++ (replicate (used - length (flat rows)) (pos 0) ++ drop (max used (length (flat rows))) area)

-- the cells with another area from `start` on
abbrev pub with_area : ℕ → ℕ → List ℤ → List ℤ → List ℤ
with_area start size cells area = take start cells ++ (area ++ drop size (drop start cells))
