-- Tables that run round, request A.4, by computation: the row that an INSERT pushes out, the patterns of the two, the rows after it, and no 12. Texts and their
-- numbers are in `Edges`. Assumes nothing.
use Rattle.std.specs.Prelude.{◌≡◌, refl, Bool, true, false, List, [], ◌∷◌, ◌++◌, map, ℕ, pos, get_or}
use Prim.Native.String.{String}
use Rattle.lists.specs.Lists.{bytes, all}
use Rattle.meaning.specs.Meaning.{Row}
use Rattle.meaning.specs.Pattern.{Pattern, number, mark, anything, removal, patterns, patterns_of_two}
use Rattle.meaning.specs.Plain.{Lengths, Plain, table_at, query_at, update_at, pushed_by, drops_key, opened, Out, refused, rows, step, after, outs}
use Rattle.meaning.specs.Call.{Call, add, change}
use Rattle.meaning.specs.Examples.{computing, is_taken, numbers}

-- stage (site, level) is a ring of two rows and rating (site, flow) a table of two
abbrev tables : List String
tables = "TABLE stage (site, level) RING 2" ∷ "TABLE rating (site, flow) ROWS 2" ∷ "INSERT INTO stage VALUES (?, ?)" ∷ "INSERT INTO rating VALUES (?, ?)" ∷ []

abbrev Q : String
Q = "SELECT level FROM stage WHERE site = ?"

abbrev lent : Lengths
lent = record { cells = 8; memory = 0 }

abbrev start : Plain
start = opened (record { lent = lent; slots = 0; slot_bytes = 8 })

abbrev adds : List String → List (Call ℕ)
adds ts = map (λ (t : String). add (bytes t)) ts

-- a row into stage, and one into rating
abbrev put : ℕ → ℕ → Call ℕ
put a b = change 0 (numbers (a ∷ b ∷ []))

abbrev rate : ℕ → ℕ → Call ℕ
rate a b = change 1 (numbers (a ∷ b ∷ []))

-- the store with these texts, after these calls
abbrev store : List String → List (Call ℕ) → Plain
store ts cs = after lent start (adds (tables ++ ts) ++ cs)

-- the ring is full, and (3, 30) its oldest row
abbrev full : List (Call ℕ)
full = put 3 30 ∷ put 4 40 ∷ []

-- ---- "F with its columns replaced by that row's values is worked into patterns, after those of the INSERT"

-- a question, an update (the third one), the calls before, and their patterns
pub record Judged : Type 0 where
  pub question : String
  pub update : String
  pub calls : List (Call ℕ)
  pub list : List Pattern

abbrev judge : String → String → List (Call ℕ) → List Pattern → Judged
judge q u cs ps = record { question = q; update = u; calls = cs; list = ps }

abbrev insert : String
insert = "INSERT INTO stage VALUES (?, ?)"

abbrev pub Holds : Judged → Type 0
Holds j =
    let ts : List String = j.question ∷ j.update ∷ [] in
    let p : Plain = store ts j.calls in
    (all is_taken (outs lent start (adds (tables ++ ts) ++ j.calls)) ≡ true) × (patterns_of_two (query_at p 0) (update_at p 2) (pushed_by p 2) ≡ j.list)

abbrev pub table : List Judged
table =
    -- Q and the row (3, 30): 3
    judge Q insert full ((mark 1 ∷ []) ∷ (number (pos 3) ∷ []) ∷ [])
    -- the oldest row is another one after an INSERT
    ∷ judge Q insert (full ++ (put 5 50 ∷ [])) ((mark 1 ∷ []) ∷ (number (pos 4) ∷ []) ∷ [])
    -- a ring that is not full pushes no row out
    ∷ judge Q insert (put 3 30 ∷ []) ((mark 1 ∷ []) ∷ [])
    -- the lists are worked out alone: an equal pattern stands in both
    ∷ judge Q "INSERT INTO stage VALUES (3, ?)" full ((number (pos 3) ∷ []) ∷ (number (pos 3) ∷ []) ∷ [])
    -- question site = 4: none for the row (3, 30)
    ∷ judge "SELECT level FROM stage WHERE site = 4" insert full ([] ∷ [])
    ∷ judge "SELECT level FROM stage WHERE site = 3" "INSERT INTO stage VALUES (5, ?)" full ([] ∷ [])
    ∷ judge "SELECT site FROM stage WHERE level < ? AND site = ?" insert full ((anything ∷ mark 1 ∷ []) ∷ (anything ∷ number (pos 3) ∷ []) ∷ [])
    -- a DELETE or an UPDATE pushes no row out
    ∷ judge Q "DELETE FROM stage WHERE site = ?" full ((mark 1 ∷ []) ∷ [])
    ∷ judge Q "UPDATE stage SET level = ? WHERE site = ?" full ((mark 2 ∷ []) ∷ [])
    -- a ring in either place of a question over two tables: the columns of the other are free
    ∷ judge "SELECT rating.flow FROM stage, rating WHERE stage.site = ? AND stage.site = rating.site" insert full ((mark 1 ∷ []) ∷ (number (pos 3) ∷ []) ∷ [])
    ∷ judge "SELECT rating.flow FROM rating, stage WHERE rating.site = ? AND rating.flow = stage.level AND stage.site < 4" insert full ((anything ∷ []) ∷ (anything ∷ []) ∷ [])
    ∷ judge "SELECT rating.flow FROM rating, stage WHERE rating.flow = ? AND rating.flow = stage.level" insert full ((mark 2 ∷ []) ∷ (number (pos 30) ∷ []) ∷ [])
    -- and an INSERT into the other table
    ∷ judge "SELECT rating.flow FROM rating, stage WHERE rating.flow = ?" "INSERT INTO rating VALUES (?, ?)" full ((mark 2 ∷ []) ∷ [])
    ∷ []

-- row k of the table, counted from 0
abbrev row : ℕ → Judged
row k = get_or table k (judge Q Q [] [])

pub holds-0 : Holds (row 0)
unfolding computing
holds-0 = (refl, refl)

pub holds-1 : Holds (row 1)
unfolding computing
holds-1 = (refl, refl)

pub holds-2 : Holds (row 2)
unfolding computing
holds-2 = (refl, refl)

pub holds-3 : Holds (row 3)
unfolding computing
holds-3 = (refl, refl)

pub holds-4 : Holds (row 4)
unfolding computing
holds-4 = (refl, refl)

pub holds-5 : Holds (row 5)
unfolding computing
holds-5 = (refl, refl)

pub holds-6 : Holds (row 6)
unfolding computing
holds-6 = (refl, refl)

pub holds-7 : Holds (row 7)
unfolding computing
holds-7 = (refl, refl)

pub holds-8 : Holds (row 8)
unfolding computing
holds-8 = (refl, refl)

pub holds-9 : Holds (row 9)
unfolding computing
holds-9 = (refl, refl)

pub holds-10 : Holds (row 10)
unfolding computing
holds-10 = (refl, refl)

pub holds-11 : Holds (row 11)
unfolding computing
holds-11 = (refl, refl)

pub holds-12 : Holds (row 12)
unfolding computing
holds-12 = (refl, refl)

-- a kept answer of site 3 is dropped for the row that goes, one of site 5 for the new one, and one of site 4 stays
abbrev drops : List (Call ℕ) → ℕ → Bool
drops cs k = drops_key (store (Q ∷ []) cs) 0 (numbers (5 ∷ 50 ∷ [])) (record { query = 0; values = numbers (k ∷ []) })

pub dropped : (drops full 3 ≡ true) × (drops full 5 ≡ true) × (drops full 4 ≡ false) × (drops (put 3 30 ∷ []) 3 ≡ false)
unfolding computing
dropped = (refl, refl, refl, refl)

-- the list of the row alone: "F with its columns replaced by that row's values"
pub of_row : patterns (query_at (store (Q ∷ []) []) 0) (removal 0 (numbers (3 ∷ 30 ∷ []))) ≡ (number (pos 3) ∷ []) ∷ []
unfolding computing
of_row = refl

-- ---- rows, and no 12

-- the rows of stage after the calls, and what the last call gets
abbrev left : List String → List (Call ℕ) → List Row
left ts cs = (table_at (store ts cs) 0).rows

abbrev next : List (Call ℕ) → Call ℕ → Out
next cs c = (step lent (store [] cs) c).1

abbrev pair : ℕ → ℕ → Row
pair a b = numbers (a ∷ b ∷ [])

-- "an INSERT into a full table first removes the oldest row", and counts one row
pub run-round :
    (left [] full ≡ pair 3 30 ∷ pair 4 40 ∷ [])
    × (next full (put 5 50) ≡ rows 1)
    × (left [] (full ++ (put 5 50 ∷ [])) ≡ pair 4 40 ∷ pair 5 50 ∷ [])
    × (left [] (full ++ (put 5 50 ∷ put 6 60 ∷ put 7 70 ∷ [])) ≡ pair 6 60 ∷ pair 7 70 ∷ [])
unfolding computing
run-round = (refl, refl, refl, refl)

-- "12 isn't given for it", and is for a table of ROWS; 10 and 11 as before
pub never-full :
    (next (rate 3 30 ∷ rate 4 40 ∷ []) (rate 5 50) ≡ refused 12)
    × (next full (change 0 (numbers (5 ∷ []))) ≡ refused 11)
    × (next full (change 2 (numbers (5 ∷ 50 ∷ []))) ≡ refused 10)
unfolding computing
never-full = (refl, refl, refl)

-- DELETE and UPDATE remove no row but what they say, and a row free is filled first
abbrev changing : List String
changing = "DELETE FROM stage WHERE site = ?" ∷ "UPDATE stage SET level = ?" ∷ []

pub others-push-nothing :
    (left changing (full ++ (change 2 (numbers (9 ∷ [])) ∷ [])) ≡ pair 3 30 ∷ pair 4 40 ∷ [])
    × (left changing (full ++ (change 3 (numbers (1 ∷ [])) ∷ [])) ≡ pair 3 1 ∷ pair 4 1 ∷ [])
    × (left changing (full ++ (change 2 (numbers (4 ∷ [])) ∷ put 5 50 ∷ [])) ≡ pair 3 30 ∷ pair 5 50 ∷ [])
    × (left changing (full ++ (put 5 50 ∷ change 2 (numbers (4 ∷ [])) ∷ put 6 60 ∷ put 7 70 ∷ [])) ≡ pair 6 60 ∷ pair 7 70 ∷ [])
unfolding computing
others-push-nothing = (refl, refl, refl, refl)

-- RING 1: each row pushes the last one out, and an answer about that one is dropped
abbrev single : List (Call ℕ) → Plain
single cs = after lent start (adds ("TABLE t (a) RING 1" ∷ "INSERT INTO t VALUES (?)" ∷ "SELECT a FROM t WHERE a > 5" ∷ []) ++ cs)

abbrev one : ℕ → Call ℕ
one a = change 0 (numbers (a ∷ []))

abbrev drops_one : List (Call ℕ) → ℕ → Bool
drops_one cs a = drops_key (single cs) 0 (numbers (a ∷ [])) (record { query = 0; values = [] })

pub ring-of-one :
    ((table_at (single (one 7 ∷ one 4 ∷ [])) 0).rows ≡ numbers (4 ∷ []) ∷ [])
    × (patterns_of_two (query_at (single (one 7 ∷ [])) 0) (update_at (single (one 7 ∷ [])) 0) (pushed_by (single (one 7 ∷ [])) 0) ≡ [] ∷ [] ∷ [])
    × (patterns_of_two (query_at (single (one 4 ∷ [])) 0) (update_at (single (one 4 ∷ [])) 0) (pushed_by (single (one 4 ∷ [])) 0) ≡ [] ∷ [])
    × (drops_one (one 7 ∷ []) 4 ≡ true)
unfolding computing
ring-of-one = (refl, refl, refl, refl)
