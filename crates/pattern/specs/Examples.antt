-- Document 01, "Examples": the starred rows on patterns, from the texts of the statements, by computation on what the texts compile to; A.1, a question over two
-- tables; A.5, null; and A.7, fewer answers dropped. Assumes nothing: each holds by computing.
use Rattle.std.specs.Prelude.{Some, None, ◌≡◌, refl, Bool, true, false, List, [], ◌∷◌, ℤ, pos}
use Prim.Native.String.{String}
use Rattle.lists.specs.Lists.{bytes}
use Rattle.meaning.specs.Tokens.{is_name_byte, is_word_byte, decimal, is_name, word, negative, token_from, first_token, scan, tokens}
use Rattle.meaning.specs.Reader.{a_condition, a_sentence, read}
use Rattle.meaning.specs.Limits.{past_limit}
use Rattle.meaning.specs.Names.{unknown_name, taken, miscounted, twice}
use Rattle.meaning.specs.Operator.{null}
use Rattle.meaning.specs.Statement.{statement_of}
use Rattle.meaning.specs.Plain.{other_lengths}
use Rattle.meaning.specs.Refusals.{no_place}
use Rattle.meaning.specs.Pattern.{Pattern, number, mark, anything, class, contradictory, entry}
use Rattle.statement.specs.Compiled.{padded, struct_of, compiled_of, Compiled}
use Rattle.statement.specs.Sound.{condition_nodes}
use Rattle.table.specs.Rows.{meets_stored}
use Rattle.statement.specs.declared.Table.{Table}
use Rattle.pattern.specs.declared.Entry.TheVariants.{Parameter, Any}
use Rattle.pattern.specs.declared.Pattern as S
use Rattle.pattern.specs.Stored.{start_read, relevant, clauses_read, joint_clauses, is_formed, all_any, patterns_stored, clause_total, blank, pattern_at, pattern_list, filled_of, agrees_stored, matches_stored, separate_stored, affects_stored, reaches_stored}

-- what the computations open
computing : Unit {0}
unfolding is_name_byte is_word_byte decimal is_name word negative token_from first_token scan tokens a_condition a_sentence read past_limit unknown_name taken miscounted twice statement_of other_lengths no_place struct_of compiled_of condition_nodes start_read relevant clauses_read joint_clauses is_formed all_any patterns_stored clause_total pattern_at pattern_list filled_of agrees_stored class contradictory entry
computing = tt

-- the table S, which takes all cells, and a text beside it
abbrev stage : Table
stage = (compiled_of (bytes "TABLE stage (site, level) ROWS 3") [] 0 0 0 6).table

abbrev compiled : String → Compiled
compiled text = compiled_of (bytes text) (stage ∷ []) 1 0 0 6

abbrev Q : String
Q = "SELECT level FROM stage WHERE site = ?"

-- the texts are a query and an update, and these are their patterns
abbrev Holds : String → String → List Pattern → Type 0
Holds q u ps = ((compiled q).kind ≡ 2) × ((compiled u).kind ≡ 3) × (patterns_stored (compiled q).query (compiled u).update ≡ ps)

abbrev update_level : String
update_level = "UPDATE stage SET level = ? WHERE site = ?"

-- *SET level = ? WHERE site = ?
pub set-level : Holds Q update_level ((mark 2 ∷ []) ∷ [])
unfolding computing
set-level = (refl, refl, refl)

-- in structs question marks are counted from 0
abbrev second : S.Pattern
second = record { entries = padded 8 Any (Parameter 1 ∷ []); count = 1 }

pub set-level-list : pattern_list (compiled Q).query (compiled update_level).update ≡ record { items = padded 64 blank (second ∷ []); count = 1 }
unfolding computing
set-level-list = refl

-- two joint clauses, (G and F) and (G and F'), have this pattern
pub set-level-clauses :
    (clause_total (compiled Q).query (compiled update_level).update ≡ 2)
    × (pattern_at (compiled Q).query (compiled update_level).update 0 ≡ Some second)
    × (pattern_at (compiled Q).query (compiled update_level).update 1 ≡ Some second)
    × (pattern_at (compiled Q).query (compiled update_level).update 2 ≡ None)
unfolding computing
set-level-clauses = (refl, refl, refl, refl)

-- with the values 120 and 7 it agrees with the key of 7 and spares that of 8
pub set-level-agrees :
    (agrees_stored (filled_of (pos 120 ∷ pos 7 ∷ []) second) (pos 7 ∷ []) ≡ true) × (agrees_stored (filled_of (pos 120 ∷ pos 7 ∷ []) second) (pos 8 ∷ []) ≡ false)
unfolding computing
set-level-agrees = (refl, refl)

-- *SET site = ? WHERE site = ?
pub set-site : Holds Q "UPDATE stage SET site = ? WHERE site = ?" ((mark 2 ∷ []) ∷ (mark 1 ∷ []) ∷ [])
unfolding computing
set-site = (refl, refl, refl)

-- *DELETE, level < ?
pub delete-level : Holds Q "DELETE FROM stage WHERE level < ?" ((anything ∷ []) ∷ [])
unfolding computing
delete-level = (refl, refl, refl)

-- *INSERT (3, ?)
pub insert-three : Holds Q "INSERT INTO stage VALUES (3, ?)" ((number (pos 3) ∷ []) ∷ [])
unfolding computing
insert-three = (refl, refl, refl)

-- *INSERT (3, ?), question site = 4
pub insert-other : Holds "SELECT level FROM stage WHERE site = 4" "INSERT INTO stage VALUES (3, ?)" []
unfolding computing
insert-other = (refl, refl, refl)

-- *DELETE site = 3, question site = 3
pub delete-three : Holds "SELECT level FROM stage WHERE site = 3" "DELETE FROM stage WHERE site = 3" ([] ∷ [])
unfolding computing
delete-three = (refl, refl, refl)

-- "counts 4 and 16": 2 × 2 clauses of the update, 2 × 2 × 2 × 2 of the question
abbrev sixteen : String
sixteen =
    "SELECT level FROM stage WHERE (site = ? OR level = ?) AND (site > 0 OR level > 0) AND (site < 9 OR level < 9) AND (site <> 5 OR level <> 5)"

abbrev four : String
four = "DELETE FROM stage WHERE (site = ? OR site = ?) AND (level = ? OR level = ?)"

pub four_sixteen : clause_total (compiled sixteen).query (compiled four).update ≡ 64
unfolding computing
four_sixteen = refl

-- *DELETE, counts 4 and 16: 64 joint clauses are worked out
pub delete_four :
    Holds sixteen four
    ((mark 1 ∷ anything ∷ []) ∷ (anything ∷ mark 3 ∷ []) ∷ (anything ∷ mark 4 ∷ []) ∷ (mark 2 ∷ anything ∷ []) ∷ [])
unfolding computing
delete_four = (refl, refl, refl)

-- *UPDATE, counts 4 and 16: twice as many are not
pub update_four :
    Holds sixteen "UPDATE stage SET level = ? WHERE (site = ? OR site = ?) AND (level = ? OR level = ?)" ((anything ∷ anything ∷ []) ∷ [])
unfolding computing
update_four = (refl, refl, refl)

-- ---- A.1: a question over two tables, stage (site, level) at the positions 0 and 1, rating (site, flow) at 2 and 3

abbrev rating : Table
rating = (compiled_of (bytes "TABLE rating (site, flow) ROWS 3") (stage ∷ []) 1 0 0 12).table

abbrev compiled_both : String → Compiled
compiled_both text = compiled_of (bytes text) (stage ∷ rating ∷ []) 2 0 0 12

abbrev R : String
R = "SELECT rating.flow FROM stage, rating WHERE stage.site = ? AND stage.site = rating.site"

abbrev Pairs : String → String → List Pattern → Type 0
Pairs q u ps = ((compiled_both q).kind ≡ 2) × ((compiled_both u).kind ≡ 3) × (patterns_stored (compiled_both q).query (compiled_both u).update ≡ ps)

-- the new row's site is that of the stage
pub insert-rating : Pairs R "INSERT INTO rating VALUES (?, ?)" ((mark 1 ∷ []) ∷ [])
unfolding computing
insert-rating = (refl, refl, refl)

-- the columns of rating stay: they are no zeros
pub insert-stage : Pairs R "INSERT INTO stage VALUES (7, ?)" ((number (pos 7) ∷ []) ∷ [])
unfolding computing
insert-stage = (refl, refl, refl)

-- flow is position 3, and site of G position 2
pub set-flow : Pairs R "UPDATE rating SET flow = ? WHERE site = ?" ((mark 2 ∷ []) ∷ [])
unfolding computing
set-flow = (refl, refl, refl)

pub set-rating-site : Pairs R "UPDATE rating SET site = ? WHERE site = ?" ((mark 2 ∷ []) ∷ (mark 1 ∷ []) ∷ [])
unfolding computing
set-rating-site = (refl, refl, refl)

-- position 1, which the question neither selects nor tests
pub set-stage-level : Pairs R "UPDATE stage SET level = ?" []
unfolding computing
set-stage-level = (refl, refl, refl)

pub delete-stage : Pairs R "DELETE FROM stage WHERE level < ?" ((anything ∷ []) ∷ [])
unfolding computing
delete-stage = (refl, refl, refl)

-- a question over one of the tables, and an update of the other
pub elsewhere : Pairs Q "INSERT INTO rating VALUES (?, ?)" []
unfolding computing
elsewhere = (refl, refl, refl)

-- position 2 is set, and not 0: then rating.site < 9 fails, and the second formula goes
pub set_past : Pairs "SELECT rating.flow FROM stage, rating WHERE stage.site = ? AND rating.site < 9" "UPDATE rating SET site = 9" ((anything ∷ []) ∷ [])
unfolding computing
set_past = (refl, refl, refl)

-- tables of eight columns: h of the second is position 15
abbrev wide : Table
wide = (compiled_of (bytes "TABLE v (a, b, c, d, e, f, g, h) ROWS 1") [] 0 0 0 16).table

abbrev behind : Table
behind = (compiled_of (bytes "TABLE w (a, b, c, d, e, f, g, h) ROWS 1") (wide ∷ []) 1 0 0 16).table

abbrev compiled_wide : String → Compiled
compiled_wide text = compiled_of (bytes text) (wide ∷ behind ∷ []) 2 0 0 16

pub set_last :
    patterns_stored (compiled_wide "SELECT v.a FROM v, w WHERE w.h = ? AND v.h < 3").query (compiled_wide "UPDATE w SET h = 9 WHERE h = ?").update
    ≡ ((mark 1 ∷ []) ∷ (number (pos 9) ∷ []) ∷ [])
unfolding computing
set_last = refl

pub insert-last :
    patterns_stored (compiled_wide "SELECT v.a FROM v, w WHERE w.h = ? AND v.h = w.a").query (compiled_wide "INSERT INTO w VALUES (1, 2, 3, 4, 5, 6, 7, ?)").update
    ≡ ((mark 1 ∷ []) ∷ [])
unfolding computing
insert-last = refl

-- ---- A.5: null

-- "IS NULL and IS NOT NULL are tested on the class's constant where there is one": the new row is told by its level
abbrev unread : String
unread = "SELECT site FROM stage WHERE level IS NULL AND site = ?"

pub insert-null : Holds unread "INSERT INTO stage VALUES (?, -2147483648)" ((mark 1 ∷ []) ∷ [])
unfolding computing
insert-null = (refl, refl, refl)

pub insert-read : Holds unread "INSERT INTO stage VALUES (?, 5)" []
unfolding computing
insert-read = (refl, refl, refl)

-- "any other comparison with an operand whose class holds the null constant is never true"
pub delete-null : Holds Q "DELETE FROM stage WHERE level <= -2147483648" []
unfolding computing
delete-null = (refl, refl, refl)

-- a key's null is a number like its others: SET level = ? WHERE site = ? with 120 and null agrees with the key of null
pub null-agrees : agrees_stored (filled_of (pos 120 ∷ null ∷ []) second) (null ∷ []) ≡ true
unfolding computing
null-agrees = refl

-- ---- A.7: fewer answers dropped

-- what these computations open besides
reaching : Unit {0}
unfolding matches_stored meets_stored separate_stored affects_stored reaches_stored
reaching = tt

-- the texts are a query and an update; whether a pattern matches the query's values, and whether the update reaches the answer, in the table's two columns
abbrev Judges : String → List ℤ → String → List ℤ → Bool → Bool → Type 0
Judges q qs u us matched reached =
    ((compiled q).kind ≡ 2) × ((compiled u).kind ≡ 3) × (matches_stored (compiled q).query (compiled u).update us qs ≡ matched)
    × (reaches_stored 2 (compiled q).query (compiled u).update us qs ≡ reached)

-- the pattern is `any`, but no level is above 100 and below 50
pub delete-below : Judges "SELECT site FROM stage WHERE level > ?" (pos 100 ∷ []) "DELETE FROM stage WHERE level < ?" (pos 50 ∷ []) true false
unfolding computing reaching
delete-below = (refl, refl, refl, refl)

-- 101 is above 100 and below 102
pub delete-between : Judges "SELECT site FROM stage WHERE level > ?" (pos 100 ∷ []) "DELETE FROM stage WHERE level < ?" (pos 102 ∷ []) true true
unfolding computing reaching
delete-between = (refl, refl, refl, refl)

-- a column is compared with a column: the patterns alone decide
pub delete-compared : Judges "SELECT site FROM stage WHERE level > ? AND level < site" (pos 100 ∷ []) "DELETE FROM stage WHERE level < ?" (pos 50 ∷ []) true true
unfolding computing reaching
delete-compared = (refl, refl, refl, refl)

-- of an INSERT the row is known
pub insert-below : Judges "SELECT site FROM stage WHERE level > ?" (pos 100 ∷ []) "INSERT INTO stage VALUES (7, ?)" (pos 100 ∷ []) true false
unfolding computing reaching
insert-below = (refl, refl, refl, refl)
