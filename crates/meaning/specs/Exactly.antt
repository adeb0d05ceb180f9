-- Which matched answers an update drops, request A.7, by computation. A row says of a question and an update, with the values given with the update and those that the
-- question is asked with, whether a pattern matches and whether the kept answer is dropped. Assumes nothing.
use Rattle.std.specs.Prelude.{◌≡◌, refl, Bool, true, false, List, [], ◌∷◌, ◌++◌, map, ℕ, ℤ}
use Rattle.std.proofs.Math.Option.{none}
use Prim.Native.String.{String}
use Rattle.lists.specs.Lists.{bytes, all}
use Rattle.meaning.specs.Operator.{null}
use Rattle.meaning.specs.Meaning.{Row}
use Rattle.meaning.specs.Pattern.{matches_two}
use Rattle.meaning.specs.Key.{Key}
use Rattle.meaning.specs.Plain.{Table, Lengths, Plain, query_at, update_at, pushed_by, drops_key, opened, after, outs}
use Rattle.meaning.specs.Call.{add, ask, change}
use Rattle.meaning.specs.Examples.{computing, is_taken, numbers}

-- ---- stage and rating hold no row, whatever is judged: "some row" is any row; gauge is a ring of one row, (7, 120)

abbrev lent : Lengths
lent = record { cells = 10; memory = 0 }

abbrev texts : List String
texts =
    "TABLE stage (site, level) ROWS 2"
    ∷ "TABLE rating (site, flow) ROWS 2"
    ∷ "TABLE gauge (site, level) RING 1"
    ∷ "INSERT INTO gauge VALUES (?, ?)"
    ∷ []

abbrev of_two : String → String → ℕ → Bool → List Row → Table
of_two t c n ring rs = record { schema = record { name = bytes t; columns = bytes "site" ∷ bytes c ∷ []; capacity = n; ring = ring }; rows = rs }

abbrev tables : List Table
tables =
    of_two "stage" "level" 2 false []
    ∷ of_two "rating" "flow" 2 false []
    ∷ of_two "gauge" "level" 1 true (numbers (7 ∷ 120 ∷ []) ∷ [])
    ∷ []

-- these are the tables after the texts and the row
pub tables_are : (after lent (opened (record { lent = lent; slots = 0; slot_bytes = 8 })) (map (λ (t : String). add (bytes t)) texts ++ (change 0 (numbers (7 ∷ 120 ∷ [])) ∷ []))).tables
    ≡ tables
unfolding computing
tables_are = refl

abbrev filled : Plain
filled = record { lengths = lent; tables = tables; queries = []; updates = []; pending = none }

-- ---- a row of a table

pub record Judged : Type 0 where
  pub question : String
  pub update : String
  pub given : List ℤ
  pub asked : List ℤ
  pub matched : Bool
  pub dropped : Bool

abbrev judge : String → String → List ℤ → List ℤ → Bool → Bool → Judged
judge q u us qs m d = record { question = q; update = u; given = us; asked = qs; matched = m; dropped = d }

-- whether both calls are taken, a pattern matches, and the answer is dropped
abbrev judged : Judged → Bool × Bool × Bool
judged j =
    let p : Plain = after lent filled (add (bytes j.question) ∷ add (bytes j.update) ∷ []) in
    let k : Key = record { query = 0; values = j.asked } in (
      all is_taken (outs lent p (ask k 99 ∷ change 0 j.given ∷ [])),
      matches_two (query_at p 0) (update_at p 0) (pushed_by p 0) j.given j.asked,
      drops_key p 0 j.given k,
    )

abbrev pub Hold : List Judged → Type 0
Hold js = map judged js ≡ map (λ (j : Judged). (true, j.matched, j.dropped)) js

-- ---- "some row of 32-bit numbers, null allowed, meets the update's condition and, through the update, enters or leaves what the question takes"

abbrev above : String
above = "SELECT site FROM stage WHERE level > ?"

abbrev everything : String
everything = "DELETE FROM stage"

-- low levels are corrected: to one that is still not above 100, and to one that is
abbrev pub corrected : List Judged
corrected =
    judge above "UPDATE stage SET level = ? WHERE level < 50" (numbers (60 ∷ [])) (numbers (100 ∷ [])) true false
    ∷ judge above "UPDATE stage SET level = ? WHERE level < 50" (numbers (101 ∷ [])) (numbers (100 ∷ [])) true true
    ∷ []

pub corrected-hold : Hold corrected
unfolding computing
corrected-hold = refl

-- no number is above 3, below 6 and neither 4 nor 5; without the last it is 5
abbrev pub narrow : List Judged
narrow =
    judge "SELECT site FROM stage WHERE level > 3 AND level < 6 AND level <> 4" "DELETE FROM stage WHERE level <> 5" [] [] true false
    ∷ judge "SELECT site FROM stage WHERE level > 3 AND level < 6 AND level <> 4" "DELETE FROM stage WHERE level <> 4" [] [] true true
    ∷ []

pub narrow-hold : Hold narrow
unfolding computing
narrow-hold = refl

-- the numbers end at 2147483647 and, null being none, at -2147483647
abbrev pub ends : List Judged
ends =
    judge above everything [] (numbers (2147483647 ∷ [])) true false
    ∷ judge above everything [] (numbers (2147483646 ∷ [])) true true
    ∷ judge "SELECT site FROM stage WHERE level < -2147483647" everything [] [] true false
    ∷ judge "SELECT site FROM stage WHERE level < 0" everything [] [] true true
    ∷ judge "SELECT site FROM stage WHERE level > 5" everything [] [] true true
    ∷ []

pub ends-hold : Hold ends
unfolding computing
ends-hold = refl

-- rows with a null: they are taken by IS NULL alone, and enter from unknown; none is taken where null is asked
abbrev pub nulls : List Judged
nulls =
    judge "SELECT site FROM stage WHERE level IS NULL" everything [] [] true true
    ∷ judge "SELECT site FROM stage WHERE level IS NULL" "DELETE FROM stage WHERE level < 50" [] [] true false
    ∷ judge "SELECT site FROM stage WHERE level < 50" "UPDATE stage SET level = 7 WHERE level IS NULL" [] [] true true
    ∷ judge "SELECT site FROM stage WHERE level < 50" "UPDATE stage SET level = 70 WHERE level IS NULL" [] [] true false
    ∷ judge "SELECT site FROM stage WHERE level = ?" everything [] (null ∷ []) true false
    ∷ judge "SELECT site FROM stage WHERE level = ?" everything [] (numbers (7 ∷ [])) true true
    ∷ []

pub nulls-hold : Hold nulls
unfolding computing
nulls-hold = refl

-- ---- "or is taken before and after and alters in a selected column"

abbrev pub altered : List Judged
altered =
    -- with no WHERE no row leaves; it alters unless it is set to what it is
    judge "SELECT level FROM stage" "UPDATE stage SET level = 7 WHERE level = 7" [] [] true false
    ∷ judge "SELECT level FROM stage" "UPDATE stage SET level = 6 WHERE level > 5" [] [] true true
    ∷ judge "SELECT level FROM stage WHERE site = 1" "UPDATE stage SET level = ? WHERE level = ?" (numbers (7 ∷ 7 ∷ [])) [] true false
    ∷ judge "SELECT level FROM stage WHERE site = 1" "UPDATE stage SET level = ? WHERE level = ?" (numbers (7 ∷ 8 ∷ [])) [] true true
    -- null to null alters nothing
    ∷ judge "SELECT level FROM stage" "UPDATE stage SET level = ? WHERE level IS NULL" (null ∷ []) [] true false
    ∷ judge "SELECT level FROM stage" "UPDATE stage SET level = ? WHERE level IS NOT NULL" (null ∷ []) [] true true
    -- set and tested, but not selected
    ∷ judge "SELECT site FROM stage WHERE level > 5" "UPDATE stage SET level = 9 WHERE level > 7" [] [] true false
    ∷ judge "SELECT site, level FROM stage WHERE level > 5" "UPDATE stage SET level = 9 WHERE level > 7" [] [] true true
    ∷ []

pub altered-hold : Hold altered
unfolding computing
altered-hold = refl

-- ---- "For an INSERT under these premises, and for a row it pushes out of a ring, the row is known"

abbrev insert : String
insert = "INSERT INTO gauge VALUES (?, ?)"

-- (8, 5) goes in and (7, 120) out
abbrev puts : String → ℕ → Bool → Bool → Judged
puts c k m d = judge c insert (numbers (8 ∷ 5 ∷ [])) (numbers (k ∷ [])) m d

abbrev pub known : List Judged
known =
    judge above "INSERT INTO stage VALUES (7, ?)" (numbers (5 ∷ [])) (numbers (9 ∷ [])) true false
    ∷ judge above "INSERT INTO stage VALUES (7, ?)" (numbers (10 ∷ [])) (numbers (9 ∷ [])) true true
    ∷ puts "SELECT level FROM gauge WHERE site = ?" 7 true true
    ∷ puts "SELECT level FROM gauge WHERE site = ?" 8 true true
    ∷ puts "SELECT level FROM gauge WHERE site = ?" 9 false false
    -- matched by (any): the question takes the row that goes, the new one, neither
    ∷ puts "SELECT level FROM gauge WHERE site < ?" 8 true true
    ∷ puts "SELECT level FROM gauge WHERE site > ?" 7 true true
    ∷ puts "SELECT level FROM gauge WHERE site < ?" 7 true false
    ∷ []

pub known-hold : Hold known
unfolding computing
known-hold = refl

-- ---- "Where question and update are of one table and neither compares a column with a column": elsewhere the patterns alone decide

abbrev pub by_patterns : List Judged
by_patterns =
    judge "SELECT site FROM stage WHERE site < level" everything [] [] true true
    -- of the texts, also where it cannot matter
    ∷ judge "SELECT site FROM stage WHERE site = site AND level > ?" everything [] (numbers (2147483647 ∷ [])) true true
    ∷ judge above "DELETE FROM stage WHERE site = level" [] (numbers (2147483647 ∷ [])) true true
    ∷ judge "SELECT site FROM stage WHERE site < level" "INSERT INTO stage VALUES (7, ?)" (numbers (5 ∷ [])) [] true true
    -- a question over two tables
    ∷ judge "SELECT rating.flow FROM stage, rating WHERE stage.level > ?" everything [] (numbers (2147483647 ∷ [])) true true
    ∷ judge "SELECT rating.flow FROM rating, stage WHERE stage.level > ?" everything [] (numbers (2147483647 ∷ [])) true true
    -- one over another table
    ∷ judge "SELECT flow FROM rating" everything [] [] false false
    ∷ []

pub by-patterns-hold : Hold by_patterns
unfolding computing
by-patterns-hold = refl
