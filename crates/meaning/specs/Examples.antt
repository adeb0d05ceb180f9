-- Document 01, "Examples": the ten starred rows as one table, from the texts of the statements, and "Slips a marker would catch", each by computation;
-- with them the names of request A.2; those of A.1, A.4, A.5, A.6 and A.7 are in `Paired`, `Rings`, `Nulls`, `Outer` and `Exactly`. Assumes nothing.
use Rattle.std.specs.Prelude.{◌≡◌, refl, Bool, true, false, cond, List, [], ◌∷◌, ◌++◌, map, ℕ, ◌-◌, ℤ, pos, ltb, get_or}
use Prim.Native.String.{String}
use Rattle.lists.specs.Lists.{bytes, all}
use Rattle.lists.specs.Tests.{eq_list}
use Rattle.meaning.specs.Condition.{count_of}
use Rattle.meaning.specs.Tokens as T
use Rattle.meaning.specs.Tokens.{Token, same_token, is_small, is_name_byte, is_word_byte, decimal, is_name, word, negative, token_from, first_token, scan, tokens}
use Rattle.meaning.specs.Reader.{a_condition, a_sentence, read}
use Rattle.meaning.specs.Limits.{past_limit}
use Rattle.meaning.specs.Names.{Schema, unknown_name, taken, miscounted, twice}
use Rattle.meaning.specs.Statement.{Change, insert, delete, update, statement_of}
use Rattle.meaning.specs.Meaning.{Row, answer, changed, rows_changed}
use Rattle.meaning.specs.Record.{body, encode}
use Rattle.meaning.specs.Pattern.{Pattern, number, mark, anything, joint_clauses, joint_count, most_clauses, class, contradictory, entry, side_of, matters, patterns, matches, matches_two}
use Rattle.meaning.specs.Exact.{is_separate, affects, drops}
use Rattle.meaning.specs.Plain.{Lengths, Plain, schemas, table_at, query_at, update_at, record_of, drops_key, too_many, opening_refused, opened, other_lengths, full, refusal, table_kind, query_kind, update_kind, Out, refused, added, answered, rows, flushed, withdrawn, text_added, changed_by, rows_by, step, after, outs}
use Rattle.meaning.specs.Refusals.{no_place}
use Rattle.meaning.specs.Call.{Call, add, ask, change}

-- what the computations open
unfoldable pub computing : Unit {0}
unfolding is_name_byte is_word_byte decimal is_name word negative token_from first_token scan tokens a_condition a_sentence read past_limit unknown_name taken miscounted twice statement_of answer changed rows_changed side_of joint_clauses class contradictory entry patterns matches matches_two matters is_separate affects drops body encode record_of drops_key too_many opening_refused other_lengths no_place full refusal text_added changed_by rows_by
computing = tt

-- six cells, and no kept memory
abbrev six : Lengths
six = record { cells = 6; memory = 0 }

abbrev start : Plain
start = opened (record { lent = six; slots = 0; slot_bytes = 8 })

-- what a row of the table says of a store that has the table S and the texts: of its first question and first update
pub data Outcome : Type 0 where
  patterns_are : List Pattern → Outcome
  counts_are : ℕ → ℕ → List Pattern → Outcome
  next_refused : Call ℕ → ℕ → Outcome
  lists : List Row → Outcome
  next_record : Call ℕ → List ℕ → Outcome

-- the clause count of an update
abbrev change_count : Change → ℕ
change_count (insert os) = 1
change_count (delete g) = count_of g
change_count (update ss g) = count_of g

abbrev Says : Plain → Outcome → Type 0
Says p (patterns_are ps) = patterns (query_at p 0) (update_at p 0) ≡ ps
Says p (counts_are m n ps) =
    (change_count (update_at p 0).change ≡ m) × (count_of (query_at p 0).condition ≡ n) × (patterns (query_at p 0) (update_at p 0) ≡ ps)
Says p (next_refused c n) = (step six p c).1 ≡ refused n
Says p (lists rs) = answer (query_at p 0) [] (table_at p 0).rows ≡ rs
Says p (next_record c r) = (step six p c).1 ≡ answered r

pub record Example : Type 0 where
  pub texts : List String
  pub calls : List (Call ℕ)
  pub outcome : Outcome

abbrev S : String
S = "TABLE stage (site, level) ROWS 3"

abbrev Q : String
Q = "SELECT level FROM stage WHERE site = ?"

abbrev adds : Example → List (Call ℕ)
adds e = map (λ (t : String). add (bytes t)) (S ∷ e.texts)

abbrev pub is_taken : Out → Bool
is_taken (refused n) = false
is_taken (added k n) = true
is_taken (answered r) = true
is_taken (rows n) = true
is_taken flushed = true
is_taken withdrawn = true

-- all texts and calls are taken, and then the outcome holds
abbrev pub Holds : Example → Type 0
Holds e = (all is_taken (outs six start (adds e ++ e.calls)) ≡ true) × Says (after six start (adds e ++ e.calls)) e.outcome

abbrev pair : String → String → List Pattern → Example
pair q u ps = record { texts = q ∷ u ∷ []; calls = []; outcome = patterns_are ps }

-- a pair of which the update has 4 clauses and the question 16
abbrev four_sixteen : String → String → List Pattern → Example
four_sixteen q u ps = record { texts = q ∷ u ∷ []; calls = []; outcome = counts_are 4 16 ps }

-- the values of a call
abbrev pub numbers : List ℕ → List ℤ
numbers ns = map pos ns

-- "counts 4 and 16": 2 × 2 clauses of the update, 2 × 2 × 2 × 2 of the question
abbrev sixteen : String
sixteen =
    "SELECT level FROM stage WHERE (site = ? OR level = ?) AND (site > 0 OR level > 0) AND (site < 9 OR level < 9) AND (site <> 5 OR level <> 5)"

abbrev delete_four : String
delete_four = "DELETE FROM stage WHERE (site = ? OR site = ?) AND (level = ? OR level = ?)"

abbrev update_four : String
update_four = "UPDATE stage SET level = ? WHERE (site = ? OR site = ?) AND (level = ? OR level = ?)"

-- the table
abbrev pub examples : List Example
examples =
    -- *SET level = ? WHERE site = ?
    pair Q "UPDATE stage SET level = ? WHERE site = ?" ((mark 2 ∷ []) ∷ [])
    -- *SET site = ? WHERE site = ?
    ∷ pair Q "UPDATE stage SET site = ? WHERE site = ?" ((mark 2 ∷ []) ∷ (mark 1 ∷ []) ∷ [])
    -- *DELETE, level < ?
    ∷ pair Q "DELETE FROM stage WHERE level < ?" ((anything ∷ []) ∷ [])
    -- *INSERT (3, ?)
    ∷ pair Q "INSERT INTO stage VALUES (3, ?)" ((number (pos 3) ∷ []) ∷ [])
    -- *INSERT (3, ?), question site = 4
    ∷ pair "SELECT level FROM stage WHERE site = 4" "INSERT INTO stage VALUES (3, ?)" []
    -- *DELETE site = 3, question site = 3
    ∷ pair "SELECT level FROM stage WHERE site = 3" "DELETE FROM stage WHERE site = 3" ([] ∷ [])
    -- *INSERT (?, ?) with S full
    ∷ record {
      texts = "INSERT INTO stage VALUES (?, ?)" ∷ [];
      calls = change 0 (numbers (7 ∷ 120 ∷ [])) ∷ change 0 (numbers (8 ∷ 95 ∷ [])) ∷ change 0 (numbers (7 ∷ 121 ∷ [])) ∷ [];
      outcome = next_refused (change 0 (numbers (7 ∷ 122 ∷ []))) 12;
    }
    -- *site = 1 OR site = 2 AND level > 5, row (1, 0)
    ∷ record {
      texts = "SELECT site, level FROM stage WHERE site = 1 OR site = 2 AND level > 5" ∷ "INSERT INTO stage VALUES (?, ?)" ∷ [];
      calls = change 0 (numbers (1 ∷ 0 ∷ [])) ∷ [];
      outcome = lists (numbers (1 ∷ 0 ∷ []) ∷ []);
    }
    -- *DELETE, counts 4 and 16
    ∷ four_sixteen sixteen delete_four ((mark 1 ∷ anything ∷ []) ∷ (anything ∷ mark 3 ∷ []) ∷ (anything ∷ mark 4 ∷ []) ∷ (mark 2 ∷ anything ∷ []) ∷ [])
    -- *UPDATE, counts 4 and 16
    ∷ four_sixteen sixteen update_four ((anything ∷ anything ∷ []) ∷ [])
    ∷ []

-- row k of a table, counted from 0
abbrev row : List Example → ℕ → Example
row es k = get_or es k (pair Q Q [])

pub starred-0 : Holds (row examples 0)
unfolding computing
starred-0 = (refl, refl)

pub starred-1 : Holds (row examples 1)
unfolding computing
starred-1 = (refl, refl)

pub starred-2 : Holds (row examples 2)
unfolding computing
starred-2 = (refl, refl)

pub starred-3 : Holds (row examples 3)
unfolding computing
starred-3 = (refl, refl)

pub starred-4 : Holds (row examples 4)
unfolding computing
starred-4 = (refl, refl)

pub starred-5 : Holds (row examples 5)
unfolding computing
starred-5 = (refl, refl)

pub starred-6 : Holds (row examples 6)
unfolding computing
starred-6 = (refl, refl)

pub starred-7 : Holds (row examples 7)
unfolding computing
starred-7 = (refl, refl)

pub starred-8 : Holds (row examples 8)
unfolding computing
starred-8 = (refl, (refl, refl, refl))

pub starred-9 : Holds (row examples 9)
unfolding computing
starred-9 = (refl, (refl, refl, refl))

-- the joint counts of the last two rows, and of the ninth a key that it spares and one that it drops
module _ (q u : String) where
  abbrev pair_store : Plain
  pair_store = after six start (adds (pair q u []))

  abbrev pair_count : ℕ
  pair_count = joint_count (query_at pair_store 0) (update_at pair_store 0).change

  abbrev pair_matches : List ℕ → List ℕ → Bool
  pair_matches us qs = matches (query_at pair_store 0) (update_at pair_store 0) (numbers us) (numbers qs)

pub counts : (pair_count sixteen delete_four ≡ 64) × (pair_count sixteen update_four ≡ 128)
unfolding computing
counts = (refl, refl)

-- rule 5: "passes 64"
pub bound : (ltb most_clauses 64 ≡ false) × (ltb most_clauses 65 ≡ true)
bound = (refl, refl)

pub spares : (pair_matches sixteen delete_four (7 ∷ 8 ∷ 120 ∷ 121 ∷ []) (9 ∷ 95 ∷ []) ≡ false)
    × (pair_matches sixteen delete_four (7 ∷ 8 ∷ 120 ∷ 121 ∷ []) (7 ∷ 95 ∷ []) ≡ true)
unfolding computing
spares = (refl, refl)

abbrev thirteen : String
thirteen = "SELECT level FROM stage WHERE (site = ? OR site = 1 OR site = 2) AND (level = 1 OR level = 2 OR level = 3 OR level = 4) OR site = 5"

-- "Slips a marker would catch", and more
abbrev pub slips : List Example
slips =
    -- "Dropping by the old row only, so a row moved to site 9 leaves site 9's answer kept."
    pair Q "UPDATE stage SET site = 9 WHERE site = 7" ((number (pos 7) ∷ []) ∷ (number (pos 9) ∷ []) ∷ [])
    -- "Rule 2 on selected columns alone."
    ∷ pair Q "UPDATE stage SET site = ?" ((anything ∷ []) ∷ (mark 1 ∷ []) ∷ [])
    -- "Testing a row already set."
    ∷ record {
      texts = "SELECT site, level FROM stage" ∷ "UPDATE stage SET site = ? WHERE site = ?" ∷ "INSERT INTO stage VALUES (?, ?)" ∷ [];
      calls = change 1 (numbers (7 ∷ 120 ∷ [])) ∷ change 0 (numbers (9 ∷ 7 ∷ [])) ∷ [];
      outcome = lists (numbers (9 ∷ 120 ∷ []) ∷ []);
    }
    -- `<=` may have both sides in one class
    ∷ pair "SELECT level FROM stage WHERE site = ? AND level = site AND level <= site" "DELETE FROM stage WHERE site = 3" ((number (pos 3) ∷ []) ∷ [])
    -- AND pairs left outer
    ∷ pair "SELECT site FROM stage WHERE (site = ? OR level = 1) AND (level <> 2 OR site = 3)" "INSERT INTO stage VALUES (?, ?)" ((mark 1 ∷ []) ∷ (number (pos 3) ∷ []) ∷ (anything ∷ []) ∷ [])
    -- the lowest of a class's update marks
    ∷ pair Q "DELETE FROM stage WHERE site = ? AND level = ? AND site = ?" ((mark 1 ∷ []) ∷ [])
    -- 13 and 5 clauses: 65 are too many
    ∷ pair thirteen "DELETE FROM stage WHERE site = 6 OR site = 7 OR level = 6 OR level = 7 OR level = 8" ((anything ∷ []) ∷ [])
    -- a question added later leaves the first one as it was
    ∷ record {
      texts = "SELECT level FROM stage" ∷ "SELECT site FROM stage" ∷ "INSERT INTO stage VALUES (?, ?)" ∷ [];
      calls = change 0 (numbers (7 ∷ 120 ∷ [])) ∷ [];
      outcome = lists (numbers (120 ∷ []) ∷ []);
    }
    -- a record of one row
    ∷ record {
      texts = "SELECT level FROM stage" ∷ "INSERT INTO stage VALUES (?, ?)" ∷ [];
      calls = change 0 (numbers (7 ∷ 120 ∷ [])) ∷ [];
      outcome = next_record (ask (record { query = 0; values = [] }) 12) (0 ∷ 0 ∷ 0 ∷ 8 ∷ 1 ∷ 1 ∷ 0 ∷ 1 ∷ 0 ∷ 0 ∷ 0 ∷ 120 ∷ []);
    }
    ∷ []

pub caught-0 : Holds (row slips 0)
unfolding computing
caught-0 = (refl, refl)

pub caught-1 : Holds (row slips 1)
unfolding computing
caught-1 = (refl, refl)

pub caught-2 : Holds (row slips 2)
unfolding computing
caught-2 = (refl, refl)

pub caught-3 : Holds (row slips 3)
unfolding computing
caught-3 = (refl, refl)

pub caught-4 : Holds (row slips 4)
unfolding computing
caught-4 = (refl, refl)

pub caught-5 : Holds (row slips 5)
unfolding computing
caught-5 = (refl, refl)

pub caught-6 : Holds (row slips 6)
unfolding computing
caught-6 = (refl, refl)

pub caught-7 : Holds (row slips 7)
unfolding computing
caught-7 = (refl, refl)

pub caught-8 : Holds (row slips 8)
unfolding computing
caught-8 = (refl, refl)

-- which clauses go (REFERENCE 6.5): a condition of one comparison, and the patterns of the question with it beside an update
abbrev patterns_beside : String → String → Bool × List Pattern
patterns_beside u c =
    let cs : List (Call ℕ) = add (bytes S) ∷ add (bytes "SELECT site FROM stage WHERE " ++ bytes c) ∷ add (bytes u) ∷ [] in
    (all is_taken (outs six start cs), patterns (query_at (after six start cs) 0) (update_at (after six start cs) 0))

abbrev pub Beside : String → List (String × List Pattern) → Type 0
Beside u xs = map (λ (x : String × List Pattern). patterns_beside u x.0) xs ≡ map (λ (x : String × List Pattern). (true, x.1)) xs

abbrev pub every_row : String
every_row = "DELETE FROM stage"

-- `<>`, `<` and `>` between two sides of one class are never true, and `=`, `<=` and `>=` may be
abbrev pub one_class : List (String × List Pattern)
one_class =
    ("site <> site", [])
    ∷ ("site < site", [])
    ∷ ("site > site", [])
    ∷ ("site = site", [] ∷ [])
    ∷ ("site <= site", [] ∷ [])
    ∷ ("site >= site", [] ∷ [])
    ∷ []

pub one-class-hold : Beside every_row one_class
unfolding computing
one-class-hold = refl

abbrev pub seven : String
seven = "INSERT INTO stage VALUES (3, 7)"

-- and between constants each comparison is what it is of these numbers
abbrev pub of_constants : List (String × List Pattern)
of_constants =
    ("level = 6", [])
    ∷ ("level <> 7", [])
    ∷ ("level < 5", [])
    ∷ ("level < 7", [])
    ∷ ("level <= 6", [])
    ∷ ("level > 7", [])
    ∷ ("level >= 8", [])
    ∷ ("level = 7", [] ∷ [])
    ∷ ("level <> 6", [] ∷ [])
    ∷ ("level < 8", [] ∷ [])
    ∷ ("level <= 7", [] ∷ [])
    ∷ ("level > 6", [] ∷ [])
    ∷ ("level >= 7", [] ∷ [])
    ∷ []

pub of-constants-hold : Beside seven of_constants
unfolding computing
of-constants-hold = refl

-- ---- request A.2: names from the service keypad

-- "The new keypad types capitals only.": a text as it comes from there
abbrev keyed : List ℕ → List ℕ
keyed text = map (λ (b : ℕ). cond (is_small b) (b - 32) b) text

pub keyed-is : keyed (bytes Q) ≡ bytes "SELECT LEVEL FROM STAGE WHERE SITE = ?"
keyed-is = refl

-- every text of the starred rows has the same tokens there
abbrev keyed_same : String → Bool
keyed_same t = eq_list same_token (tokens (keyed (bytes t))) (tokens (bytes t))

pub keyed-same : (keyed_same S ≡ true) × (all (λ (e : Example). all keyed_same e.texts) examples ≡ true)
unfolding computing
keyed-same = (refl, refl)

-- and so the same statement: the first row, with the texts in capitals
abbrev keyed_adds : Example → List (Call ℕ)
keyed_adds e = map (λ (t : String). add (keyed (bytes t))) (S ∷ e.texts)

pub keyed-row : (all is_taken (outs six start (keyed_adds (row examples 0))) ≡ true) × Says (after six start (keyed_adds (row examples 0))) (row examples 0).outcome
unfolding computing
keyed-row = (refl, refl)

-- words and their tokens
abbrev pub words : List (String × Token)
words =
    ("stage", T.name (bytes "stage"))
    ∷ ("STAGE", T.name (bytes "stage"))
    ∷ ("sTaGe_2", T.name (bytes "stage_2"))
    ∷ ("A", T.name (bytes "a"))
    ∷ ("Z", T.name (bytes "z"))
    ∷ ("TABLE", T.keyword T.TABLE)
    ∷ ("Table", T.name (bytes "table"))
    ∷ ("table", T.name (bytes "table"))
    ∷ ("ROWS3", T.name (bytes "rows3"))
    ∷ ("RING", T.keyword T.RING)
    ∷ ("Ring", T.name (bytes "ring"))
    ∷ ("NULL", T.keyword T.NULL)
    ∷ ("Null", T.name (bytes "null"))
    ∷ ("IS", T.keyword T.IS)
    ∷ ("ISNULL", T.name (bytes "isnull"))
    ∷ ("WHERE_", T.name (bytes "where_"))
    ∷ ("_A", T.other)
    ∷ ("1A", T.other)
    ∷ ("12", T.constant (pos 12))
    ∷ []

pub words_are : map (λ (x : String × Token). word (bytes x.0)) words ≡ map (λ (x : String × Token). x.1) words
unfolding computing
words_are = refl

-- texts, each added to the store that the last one left, and what each gets
abbrev pub names_typed : List (String × Out)
names_typed =
    ("TABLE STAGE (SITE, Level_2) ROWS 1", added table_kind 0)
    ∷ ("TABLE stage (a) ROWS 1", refused 7)
    ∷ ("TABLE Table (Select, b) ROWS 1", added table_kind 1)
    ∷ ("TABLE T (A, a) ROWS 1", refused 7)
    ∷ ("TABLE T (ROWS3) ROWS 1", added table_kind 2)
    ∷ ("SELECT SITE FROM Stage Where SITE = 1", refused 4)
    ∷ ("SELECT site, LEVEL_2 FROM sTAGE WHERE Site = ?", added query_kind 0)
    ∷ ("UPDATE stage SET Site = 1, SITE = 2", refused 7)
    ∷ ("INSERT INTO STAGE VALUES (?, ?)", added update_kind 0)
    ∷ ("select rows3 FROM t", refused 4)
    ∷ ("DELETE FROM TABLE", refused 4)
    ∷ ("DELETE FROM Table WHERE SELECT = 1", refused 4)
    ∷ ("DELETE FROM tABLE WHERE select = B", added update_kind 1)
    ∷ ("TABLE u (_A) ROWS 1", refused 4)
    ∷ ("TABLE u (1A) ROWS 1", refused 4)
    ∷ ("TABLE ABCDEFGHIJKLM (a) ROWS 1", refused 5)
    ∷ ("SELECT STAGE.site FROM Stage, STAGE", refused 15)
    ∷ []

abbrev typed_calls : List (Call ℕ)
typed_calls = map (λ (x : String × Out). add (bytes x.0)) names_typed

pub names-get : outs six start typed_calls ≡ map (λ (x : String × Out). x.1) names_typed
unfolding computing
names-get = refl

-- and the names are kept in small letters
pub names-kept : map (λ (s : Schema). s.name ∷ s.columns) (schemas (after six start typed_calls))
    ≡ (bytes "stage" ∷ bytes "site" ∷ bytes "level_2" ∷ []) ∷ (bytes "table" ∷ bytes "select" ∷ bytes "b" ∷ []) ∷ (bytes "t" ∷ bytes "rows3" ∷ []) ∷ []
unfolding computing
names-kept = refl
