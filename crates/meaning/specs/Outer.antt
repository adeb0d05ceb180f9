-- The rows that a question over two tables reads, request A.6, by computation: r1 + m × r2, of three rows beside three. Assumes nothing.
use Rattle.std.specs.Prelude.{◌≡◌, refl, Bool, true, false, List, [], ◌∷◌, ◌++◌, map, ℕ, ℤ, length, get_or}
use Rattle.std.proofs.Math.Option.{none}
use Prim.Native.String.{String}
use Rattle.lists.specs.Lists.{bytes}
use Rattle.meaning.specs.Operator.{null}
use Rattle.meaning.specs.Meaning.{Row}
use Rattle.meaning.specs.Plain.{Table, Lengths, Plain, query_at, rows_read, opened, Out, step, after}
use Rattle.meaning.specs.Call.{add, change}
use Rattle.meaning.specs.Examples.{computing, is_taken, numbers}

abbrev lent : Lengths
lent = record { cells = 12; memory = 0 }

abbrev texts : List String
texts =
    "TABLE stage (site, level) ROWS 3"
    ∷ "TABLE rating (site, flow) ROWS 3"
    ∷ "INSERT INTO stage VALUES (?, ?)"
    ∷ "INSERT INTO rating VALUES (?, ?)"
    ∷ []

abbrev stages : List Row
stages = map numbers ((7 ∷ 120 ∷ []) ∷ (8 ∷ 95 ∷ []) ∷ (7 ∷ 121 ∷ []) ∷ [])

abbrev ratings : List Row
ratings = map numbers ((7 ∷ 31 ∷ []) ∷ (8 ∷ 20 ∷ []) ∷ (7 ∷ 32 ∷ []) ∷ [])

abbrev of_three : String → String → String → List Row → Table
of_three t c d rs = record { schema = record { name = bytes t; columns = bytes c ∷ bytes d ∷ []; capacity = 3; ring = false }; rows = rs }

abbrev filled : Plain
filled = record {
  lengths = lent;
  tables = of_three "stage" "site" "level" stages ∷ of_three "rating" "site" "flow" ratings ∷ [];
  queries = [];
  updates = [];
  pending = none;
}

-- these are the tables after the texts and the rows
pub tables_are : (after lent (opened (record { lent = lent; slots = 0; slot_bytes = 8 })) (map (λ (t : String). add (bytes t)) texts ++ (map (change 0) stages ++ map (change 1) ratings))).tables
    ≡ filled.tables
unfolding computing
tables_are = refl

-- the end of a question's text, the values that it is asked with, and the rows that it reads
abbrev Counted : Type 0
Counted = String × List ℤ × ℕ

abbrev pub table : List Counted
table =
    -- the comparison of the first table holds of two of its three rows
    ("stage, rating WHERE stage.site = ? AND stage.site = rating.site", numbers (7 ∷ []), 9)
    -- in parentheses, under OR or under NOT it does not count
    ∷ ("stage, rating WHERE (stage.site = ?) AND stage.site = rating.site", numbers (7 ∷ []), 12)
    ∷ ("stage, rating WHERE stage.site = ? OR stage.level = rating.flow", numbers (7 ∷ []), 12)
    ∷ ("stage, rating WHERE NOT stage.site = ?", numbers (7 ∷ []), 12)
    ∷ ("stage, rating WHERE NOT NOT stage.site = ?", numbers (7 ∷ []), 12)
    -- with others that do not count between two that do
    ∷ ("stage, rating WHERE stage.site = ? AND (rating.flow > 30 OR stage.level < 100) AND stage.level > 120", numbers (7 ∷ []), 6)
    -- one that names no column at all counts
    ∷ ("stage, rating WHERE ? = 3 AND stage.site = rating.site", numbers (4 ∷ []), 3)
    -- "with none such, m is r1"
    ∷ ("stage, rating WHERE rating.site = ?", numbers (7 ∷ []), 12)
    ∷ ("stage, rating", [], 12)
    -- a null test counts; an unknown comparison is not true (A.5)
    ∷ ("stage, rating WHERE stage.level IS NULL AND stage.site = rating.site", [], 3)
    ∷ ("stage, rating WHERE stage.level < ? AND stage.site = rating.site", null ∷ [], 3)
    -- which table is the first, the text says
    ∷ ("rating, stage WHERE rating.site = 7 AND rating.site = stage.site", [], 9)
    ∷ []

-- whether the text is taken, how many question marks it has, and the rows read
abbrev asked : Counted → Bool × ℕ × ℕ
asked c =
    let s : Plain × Out = step lent filled (add (bytes "SELECT rating.flow FROM " ++ bytes c.0)) in
    (is_taken s.1, (query_at s.0 0).parameters, rows_read s.0 (record { query = 0; values = c.1 }))

abbrev pub Holds : Counted → Type 0
Holds c = asked c ≡ (true, length c.1, c.2)

-- row k of the table, counted from 0
abbrev row : ℕ → Counted
row k = get_or table k ("", [], 0)

pub holds-0 : Holds (row 0)
unfolding computing
holds-0 = refl

pub holds-1 : Holds (row 1)
unfolding computing
holds-1 = refl

pub holds-2 : Holds (row 2)
unfolding computing
holds-2 = refl

pub holds-3 : Holds (row 3)
unfolding computing
holds-3 = refl

pub holds-4 : Holds (row 4)
unfolding computing
holds-4 = refl

pub holds-5 : Holds (row 5)
unfolding computing
holds-5 = refl

pub holds-6 : Holds (row 6)
unfolding computing
holds-6 = refl

pub holds-7 : Holds (row 7)
unfolding computing
holds-7 = refl

pub holds-8 : Holds (row 8)
unfolding computing
holds-8 = refl

pub holds-9 : Holds (row 9)
unfolding computing
holds-9 = refl

pub holds-10 : Holds (row 10)
unfolding computing
holds-10 = refl

pub holds-11 : Holds (row 11)
unfolding computing
holds-11 = refl
