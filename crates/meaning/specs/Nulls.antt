-- Nulls, request A.5, by computation: the rows that a condition takes in three values, updates and values of calls that are null, and the patterns. Texts and their
-- numbers are in `Edges`. Assumes nothing.
use Rattle.std.specs.Prelude.{◌≡◌, refl, Bool, true, false, List, [], ◌∷◌, ◌++◌, map, ℕ, ℤ, pos, get_or}
use Prim.Native.String.{String}
use Rattle.lists.specs.Lists.{bytes, all}
use Rattle.meaning.specs.Operator.{null}
use Rattle.meaning.specs.Meaning.{Row}
use Rattle.meaning.specs.Pattern.{Pattern, number, mark, anything, patterns, patterns_of_two, matches}
use Rattle.meaning.specs.Plain.{Lengths, Plain, table_at, query_at, update_at, pushed_by, opened, Out, answered, rows, step, after, outs, rows_listed}
use Rattle.meaning.specs.Call.{Call, add, ask, change}
use Rattle.meaning.specs.Examples.{computing, is_taken, numbers}

abbrev lent : Lengths
lent = record { cells = 12; memory = 0 }

abbrev start : Plain
start = opened (record { lent = lent; slots = 0; slot_bytes = 8 })

abbrev adds : List String → List (Call ℕ)
adds ts = map (λ (t : String). add (bytes t)) ts

-- ---- the rows that WHERE takes

-- stage (site, level) and an INSERT, then these texts; the rows are inserted, and then the calls are made
abbrev staged : List String → List Row → List (Call ℕ) → Plain
staged ts rs cs = after lent start (adds ("TABLE stage (site, level) ROWS 3" ∷ "INSERT INTO stage VALUES (?, ?)" ∷ ts) ++ (map (change 0) rs ++ cs))

-- an hour in which the float was iced in, and two readings
abbrev iced : Row
iced = pos 1 ∷ null ∷ []

abbrev hours : List Row
hours = iced ∷ numbers (2 ∷ 60 ∷ []) ∷ numbers (3 ∷ 40 ∷ []) ∷ []

-- the sites that a question with this condition lists, once it is taken
abbrev asked : Plain → List ℕ → Bool × List Row
asked p c =
    let s : Plain × Out = step lent p (add (bytes "SELECT site FROM stage WHERE " ++ c)) in
    (is_taken s.1, rows_listed s.0 (record { query = 0; values = [] }))

abbrev pub listings : List (String × List ℕ)
listings =
    -- "Operators filtered `level < 50` for low water and got every hour the float was iced in."
    ("level < 50", 3 ∷ [])
    ∷ ("NOT level < 50", 2 ∷ [])
    ∷ ("level <> 60", 3 ∷ [])
    ∷ ("level = level", 2 ∷ 3 ∷ [])
    ∷ ("level < 50 OR NOT level < 50", 2 ∷ 3 ∷ [])
    ∷ ("NOT level < 50 OR level < 50 AND site = 1", 2 ∷ [])
    -- on columns
    ∷ ("level IS NULL", 1 ∷ [])
    ∷ ("level IS NOT NULL", 2 ∷ 3 ∷ [])
    ∷ ("NOT level IS NULL", 2 ∷ 3 ∷ [])
    ∷ ("NOT (site IS NULL OR level < 5)", 2 ∷ 3 ∷ [])
    -- a comparison with the null is never true, also of the null itself
    ∷ ("level = -2147483648", [])
    ∷ ("level <= -2147483648", [])
    ∷ ("level > -2147483648", [])
    ∷ ("NOT level = -2147483648", [])
    ∷ ("-2147483648 = -2147483648", [])
    ∷ []

pub listed : map (λ (x : String × List ℕ). asked (staged [] hours []) (bytes x.0)) listings
    ≡ map (λ (x : String × List ℕ). (true, map (λ (n : ℕ). numbers (n ∷ [])) x.1)) listings
unfolding computing
listed = refl

-- ---- "AND, OR and NOT follow that standard's three values": of the iced hour `site = 1` is true, `site = 2` false and `level = 1` unknown

-- whether it is listed with this condition, and with its negation
abbrev is_listed : List Row → Bool
is_listed [] = false
is_listed (r ∷ rs) = true

abbrev seen : String → Bool × Bool
seen c =
    let p : Plain = staged [] (iced ∷ []) [] in
    (is_listed (asked p (bytes c)).1, is_listed (asked p (bytes "NOT (" ++ bytes c ++ bytes ")")).1)

abbrev is_true : Bool × Bool
is_true = (true, false)

abbrev is_false : Bool × Bool
is_false = (false, true)

abbrev is_unknown : Bool × Bool
is_unknown = (false, false)

abbrev pub truths : List (String × (Bool × Bool))
truths =
    ("site = 1", is_true)
    ∷ ("site = 2", is_false)
    ∷ ("level = 1", is_unknown)
    ∷ ("NOT site = 1", is_false)
    ∷ ("NOT site = 2", is_true)
    ∷ ("NOT level = 1", is_unknown)
    ∷ ("site = 1 AND site < 9", is_true)
    ∷ ("site = 1 AND site > 9", is_false)
    ∷ ("site = 1 AND level <> 1", is_unknown)
    ∷ ("site = 2 AND site < 9", is_false)
    ∷ ("site = 2 AND site > 9", is_false)
    ∷ ("site = 2 AND level <> 1", is_false)
    ∷ ("level = 1 AND site < 9", is_unknown)
    ∷ ("level = 1 AND site > 9", is_false)
    ∷ ("level = 1 AND level <> 1", is_unknown)
    ∷ ("site = 1 OR site < 9", is_true)
    ∷ ("site = 1 OR site > 9", is_true)
    ∷ ("site = 1 OR level <> 1", is_true)
    ∷ ("site = 2 OR site < 9", is_true)
    ∷ ("site = 2 OR site > 9", is_false)
    ∷ ("site = 2 OR level <> 1", is_unknown)
    ∷ ("level = 1 OR site < 9", is_true)
    ∷ ("level = 1 OR site > 9", is_unknown)
    ∷ ("level = 1 OR level <> 1", is_unknown)
    ∷ []

pub three_values : map (λ (x : String × (Bool × Bool)). seen x.0) truths ≡ map (λ (x : String × (Bool × Bool)). x.1) truths
unfolding computing
three_values = refl

-- ---- updates

-- the rows that are left by the second update of a store with the hours, and what it gets
abbrev changing : String → List ℤ → List Row × Out
changing u vs =
    let p : Plain = staged (u ∷ []) hours [] in
    ((table_at (step lent p (change 1 vs)).0 0).rows, (step lent p (change 1 vs)).1)

pub changed-rows :
    (changing "DELETE FROM stage WHERE level <> 5" [] ≡ (iced ∷ [], rows 2))
    × (changing "DELETE FROM stage WHERE level IS NULL" [] ≡ (numbers (2 ∷ 60 ∷ []) ∷ numbers (3 ∷ 40 ∷ []) ∷ [], rows 1))
    × (changing "UPDATE stage SET site = 9 WHERE NOT level < 50" [] ≡ (iced ∷ numbers (9 ∷ 60 ∷ []) ∷ numbers (3 ∷ 40 ∷ []) ∷ [], rows 1))
    × (changing "UPDATE stage SET level = ? WHERE site = ?" (null ∷ pos 2 ∷ []) ≡ (iced ∷ (pos 2 ∷ null ∷ []) ∷ numbers (3 ∷ 40 ∷ []) ∷ [], rows 1))
unfolding computing
changed-rows = (refl, refl, refl, refl)

-- SET writes the null, as a number; then IS NULL lists it
pub set-null : asked (staged ("UPDATE stage SET level = -2147483648 WHERE site = 2" ∷ []) hours (change 1 [] ∷ [])) (bytes "level IS NULL")
    ≡ (true, numbers (1 ∷ []) ∷ numbers (2 ∷ []) ∷ [])
unfolding computing
set-null = refl

-- and it stands in a record as the number
pub null-shown : (step lent (staged ("SELECT level FROM stage WHERE level IS NULL" ∷ []) hours []) (ask (record { query = 0; values = [] }) 12)).1
    ≡ answered (0 ∷ 0 ∷ 0 ∷ 8 ∷ 1 ∷ 1 ∷ 0 ∷ 1 ∷ 128 ∷ 0 ∷ 0 ∷ 0 ∷ [])
unfolding computing
null-shown = refl

-- ---- values of a call that are null

-- `level = ?` asked with null lists none
pub asked-null : rows_listed (staged ("SELECT site FROM stage WHERE level = ?" ∷ []) hours []) (record { query = 0; values = null ∷ [] }) ≡ []
unfolding computing
asked-null = refl

-- but a mark's value is no null constant of a text: it agrees with a key's value where the two are one number
abbrev agrees_with : ℤ → ℤ → Bool
agrees_with a b =
    let p : Plain = staged ("SELECT level FROM stage WHERE site = ?" ∷ "INSERT INTO stage VALUES (?, 5)" ∷ []) [] [] in
    matches (query_at p 0) (update_at p 1) (a ∷ []) (b ∷ [])

pub marks-agree : (agrees_with null null ≡ true) × (agrees_with null (pos 7) ≡ false) × (agrees_with (pos 7) null ≡ false)
unfolding computing
marks-agree = (refl, refl, refl)

-- a row that enters an answer from unknown: there is a pattern for it
abbrev entering : List (Call ℕ) → Plain
entering cs = staged ("SELECT site FROM stage WHERE NOT level < 50" ∷ "UPDATE stage SET level = 60" ∷ []) (iced ∷ []) cs

pub enters :
    (patterns (query_at (entering []) 0) (update_at (entering []) 1) ≡ [] ∷ [])
    × (rows_listed (entering []) (record { query = 0; values = [] }) ≡ [])
    × (rows_listed (entering (change 1 [] ∷ [])) (record { query = 0; values = [] }) ≡ numbers (1 ∷ []) ∷ [])
unfolding computing
enters = (refl, refl, refl)

-- ---- pairs of rows: stage (null, 60), (2, null) and rating (null, 31), (2, 20)

abbrev paired : List String → Plain
paired ts =
    after lent start
    (adds ("TABLE stage (site, level) ROWS 3" ∷ "TABLE rating (site, flow) ROWS 3" ∷ "INSERT INTO stage VALUES (?, ?)" ∷ "INSERT INTO rating VALUES (?, ?)" ∷ ts)
    ++ (change 0 (null ∷ pos 60 ∷ []) ∷ change 0 (pos 2 ∷ null ∷ []) ∷ change 1 (null ∷ pos 31 ∷ []) ∷ change 1 (numbers (2 ∷ 20 ∷ [])) ∷ []))

abbrev pairs_of : String → List Row
pairs_of q = rows_listed (paired (q ∷ [])) (record { query = 0; values = [] })

-- null is not equal to null, and not unequal
pub paired-rows :
    (pairs_of "SELECT stage.level, rating.flow FROM stage, rating WHERE stage.site = rating.site" ≡ (null ∷ pos 20 ∷ []) ∷ [])
    × (pairs_of "SELECT stage.level, rating.flow FROM stage, rating WHERE stage.site <> rating.site" ≡ [])
    × (pairs_of "SELECT stage.site, rating.flow FROM stage, rating WHERE stage.level IS NULL" ≡ numbers (2 ∷ 31 ∷ []) ∷ numbers (2 ∷ 20 ∷ []) ∷ [])
    × (pairs_of "SELECT rating.flow FROM stage, rating WHERE stage.site IS NULL AND NOT rating.site IS NOT NULL" ≡ numbers (31 ∷ []) ∷ [])
unfolding computing
paired-rows = (refl, refl, refl, refl)

-- ---- patterns: a question, an update, and their list

pub record Judged : Type 0 where
  pub question : String
  pub update : String
  pub list : List Pattern

abbrev judge : String → String → List Pattern → Judged
judge q u ps = record { question = q; update = u; list = ps }

abbrev judging : Judged → List (Call ℕ)
judging j = adds ("TABLE stage (site, level) ROWS 3" ∷ "TABLE rating (site, flow) ROWS 3" ∷ j.question ∷ j.update ∷ [])

abbrev pub Holds : Judged → Type 0
Holds j =
    let p : Plain = after lent start (judging j) in
    (all is_taken (outs lent start (judging j)) ≡ true) × (patterns (query_at p 0) (update_at p 0) ≡ j.list)

abbrev Q : String
Q = "SELECT level FROM stage WHERE site = ?"

abbrev N : String
N = "SELECT site FROM stage WHERE level IS NULL AND site = ?"

abbrev pub table : List Judged
table =
    -- IS NULL of an inserted constant is tested; of an inserted mark it is not known
    judge N "INSERT INTO stage VALUES (?, -2147483648)" ((mark 1 ∷ []) ∷ [])
    ∷ judge N "INSERT INTO stage VALUES (?, 5)" []
    ∷ judge "SELECT site FROM stage WHERE NOT level IS NULL AND site = ?" "INSERT INTO stage VALUES (?, -2147483648)" []
    ∷ judge "SELECT site FROM stage WHERE NOT level IS NULL AND site = ?" "INSERT INTO stage VALUES (?, ?)" ((mark 1 ∷ []) ∷ [])
    -- of a column in a class with a constant that is no null
    ∷ judge "SELECT site FROM stage WHERE site = 3 AND site IS NOT NULL" "DELETE FROM stage WHERE site IS NULL" []
    ∷ judge "SELECT site FROM stage WHERE site = 3 AND site IS NOT NULL" "DELETE FROM stage WHERE level IS NULL" ([] ∷ [])
    -- a comparison whose class holds the null constant is never true, `=` and `<=` too
    ∷ judge Q "DELETE FROM stage WHERE site = -2147483648" []
    ∷ judge Q "DELETE FROM stage WHERE level <= -2147483648" []
    ∷ judge Q "INSERT INTO stage VALUES (-2147483648, 5)" []
    -- IS NULL set by the update, and tested before it
    ∷ judge N "UPDATE stage SET level = 5 WHERE site = ?" ((mark 1 ∷ []) ∷ [])
    ∷ judge N "UPDATE stage SET level = 5 WHERE site = ? AND level IS NOT NULL" ((mark 1 ∷ []) ∷ [])
    ∷ judge N "UPDATE stage SET level = -2147483648 WHERE level = 5" ((anything ∷ []) ∷ [])
    -- the other table's columns are free, also in a null test
    ∷ judge "SELECT rating.flow FROM stage, rating WHERE stage.level IS NULL AND rating.site = ?" "INSERT INTO stage VALUES (?, 5)" []
    ∷ judge "SELECT rating.flow FROM stage, rating WHERE stage.level IS NULL AND rating.site = ?" "INSERT INTO stage VALUES (?, -2147483648)" ((anything ∷ []) ∷ [])
    ∷ judge "SELECT rating.flow FROM stage, rating WHERE stage.level IS NULL AND rating.site = ?" "INSERT INTO rating VALUES (?, ?)" ((mark 1 ∷ []) ∷ [])
    ∷ []

-- row k of the table, counted from 0
abbrev row : ℕ → Judged
row k = get_or table k (judge Q Q [])

pub holds-0 : Holds (row 0)
unfolding computing
holds-0 = (refl, refl)

pub holds-1 : Holds (row 1)
unfolding computing
holds-1 = (refl, refl)

pub holds-2 : Holds (row 2)
unfolding computing
holds-2 = (refl, refl)

pub holds-3 : Holds (row 3)
unfolding computing
holds-3 = (refl, refl)

pub holds-4 : Holds (row 4)
unfolding computing
holds-4 = (refl, refl)

pub holds-5 : Holds (row 5)
unfolding computing
holds-5 = (refl, refl)

pub holds-6 : Holds (row 6)
unfolding computing
holds-6 = (refl, refl)

pub holds-7 : Holds (row 7)
unfolding computing
holds-7 = (refl, refl)

pub holds-8 : Holds (row 8)
unfolding computing
holds-8 = (refl, refl)

pub holds-9 : Holds (row 9)
unfolding computing
holds-9 = (refl, refl)

pub holds-10 : Holds (row 10)
unfolding computing
holds-10 = (refl, refl)

pub holds-11 : Holds (row 11)
unfolding computing
holds-11 = (refl, refl)

pub holds-12 : Holds (row 12)
unfolding computing
holds-12 = (refl, refl)

pub holds-13 : Holds (row 13)
unfolding computing
holds-13 = (refl, refl)

pub holds-14 : Holds (row 14)
unfolding computing
holds-14 = (refl, refl)

-- ---- a row that a ring pushes out: its null cells are null constants

-- the patterns of the two, where this row is pushed out of a ring of one
abbrev pushing : String → Row → List Pattern
pushing q r =
    let p : Plain = after lent start (adds ("TABLE stage (site, level) RING 1" ∷ "INSERT INTO stage VALUES (?, ?)" ∷ q ∷ []) ++ (change 0 r ∷ [])) in
    patterns_of_two (query_at p 0) (update_at p 0) (pushed_by p 0)

pub pushed :
    (pushing N iced ≡ (mark 1 ∷ []) ∷ (number (pos 1) ∷ []) ∷ [])
    × (pushing N (numbers (2 ∷ 60 ∷ [])) ≡ (mark 1 ∷ []) ∷ [])
    × (pushing "SELECT site FROM stage WHERE level < 5" iced ≡ [] ∷ [])
    × (pushing "SELECT site FROM stage WHERE NOT level < 5" iced ≡ [] ∷ [])
    × (pushing "SELECT site FROM stage WHERE level < 5" (numbers (3 ∷ 4 ∷ [])) ≡ [] ∷ [] ∷ [])
unfolding computing
pushed = (refl, refl, refl, refl, refl)
