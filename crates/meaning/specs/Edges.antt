-- The edges of document 01, "Limits", "Statement texts" and "Numbers for a call not taken", and of requests A.1, A.2, A.4 and A.5: texts, each with the number that
-- adding it gives, or 0 where it is taken, by computation. Each limit stands at its last good value and one past it. Assumes nothing.
use Rattle.std.specs.Prelude.{◌≡◌, refl, true, List, [], ◌∷◌, ◌++◌, map, ℕ, replicate}
use Prim.Native.String.{String}
use Rattle.lists.specs.Lists.{bytes, all}
use Rattle.meaning.specs.Plain.{Lengths, Plain, opened, refusal, after, outs}
use Rattle.meaning.specs.Call.{Call, add}
use Rattle.meaning.specs.Examples.{computing, is_taken}

-- a text and its number
abbrev pub Edge : Type 0
Edge = List ℕ × ℕ

-- a store of so many cells, the texts added to it before, and then what each of other texts gets
pub record Group : Type 0 where
  pub cells : ℕ
  pub before : List String
  pub edges : List Edge

abbrev lengths : Group → Lengths
lengths g = record { cells = g.cells; memory = 0 }

abbrev begun : Group → Plain
begun g = opened (record { lent = lengths g; slots = 0; slot_bytes = 8 })

abbrev adds : Group → List (Call ℕ)
adds g = map (λ (t : String). add (bytes t)) g.before

abbrev store : Group → Plain
store g = after (lengths g) (begun g) (adds g)

abbrev numbers : Group → List ℕ
numbers g = map (λ (e : Edge). refusal (lengths g) (store g) (add e.0)) g.edges

-- the texts before are taken, and the others get their numbers
pub record Holds (g : Group) : Type 0 where
  pub taken : all is_taken (outs (lengths g) (begun g) (adds g)) ≡ true
  pub numbers_are : numbers g ≡ map (λ (e : Edge). e.1) g.edges

abbrev edge : String → ℕ → Edge
edge t n = (bytes t, n)

-- a text, a byte in its middle, and the rest
abbrev around : String → ℕ → String → ℕ → Edge
around t b u n = (bytes t ++ (b ∷ bytes u), n)

-- so many spaces and a text
abbrev spaced : ℕ → String → ℕ → Edge
spaced k t n = (replicate k 32 ++ bytes t, n)

-- an empty store of all cells; a table of two columns; a table of eight
abbrev first : List Edge → Group
first es = record { cells = 32768; before = []; edges = es }

abbrev two : List Edge → Group
two es = record { cells = 2; before = "TABLE t (a, b) ROWS 1" ∷ []; edges = es }

abbrev eight : List Edge → Group
eight es = record { cells = 8; before = "TABLE t (a, b, c, d, e, f, g, h) ROWS 1" ∷ []; edges = es }

-- ---- limits

-- "columns a table, selected, or set; values inserted: 1 to 8"; "No list is empty."
abbrev pub columns : Group
columns = first (
    edge "TABLE t (a, b, c, d, e, f, g, h) ROWS 1" 0
    ∷ edge "TABLE t (a, b, c, d, e, f, g, h, i) ROWS 1" 5
    ∷ edge "TABLE t () ROWS 1" 4
    ∷ [])

abbrev pub lists : Group
lists = eight (
    edge "SELECT a, a, a, a, a, a, a, a FROM t" 0
    ∷ edge "SELECT a, a, a, a, a, a, a, a, a FROM t" 5
    ∷ edge "SELECT FROM t" 4
    ∷ edge "UPDATE t SET a = 1, b = 1, c = 1, d = 1, e = 1, f = 1, g = 1, h = 1" 0
    ∷ edge "UPDATE t SET a = 1, b = 1, c = 1, d = 1, e = 1, f = 1, g = 1, h = 1, a = 1" 5
    ∷ edge "UPDATE t SET WHERE a = 1" 4
    ∷ edge "INSERT INTO t VALUES (1, 2, 3, 4, 5, 6, 7, 8)" 0
    ∷ edge "INSERT INTO t VALUES (1, 2, 3, 4, 5, 6, 7, 8, 9)" 5
    ∷ edge "INSERT INTO t VALUES ()" 4
    ∷ [])

-- "ROWS of a table: 1 to 512"; "ROWS takes a constant."
abbrev pub rows : Group
rows = first (
    edge "TABLE t (a) ROWS 0" 5
    ∷ edge "TABLE t (a) ROWS 1" 0
    ∷ edge "TABLE t (a) ROWS 512" 0
    ∷ edge "TABLE t (a) ROWS 513" 5
    ∷ edge "TABLE t (a) ROWS -0" 5
    ∷ edge "TABLE t (a) ROWS -1" 5
    ∷ edge "TABLE t (a) ROWS 0512" 0
    ∷ edge "TABLE t (a) ROWS 99999999999" 5
    ∷ edge "TABLE t (a) ROWS ?" 4
    ∷ edge "TABLE t (a) ROWS a" 4
    ∷ [])

-- "question marks: 8", of the whole statement
abbrev pub marks : Group
marks = eight (
    edge "INSERT INTO t VALUES (?, ?, ?, ?, ?, ?, ?, ?)" 0
    ∷ edge "UPDATE t SET a = ?, b = ?, c = ?, d = ? WHERE a = ? AND b = ? AND c = ? AND d = ?" 0
    ∷ edge "UPDATE t SET a = ?, b = ?, c = ?, d = ? WHERE a = ? AND b = ? AND c = ? AND ? = ?" 5
    ∷ edge "UPDATE t SET a = ?, b = ?, c = ?, d = ?, e = ?, f = ?, g = ?, h = ?" 0
    ∷ edge "UPDATE t SET a = ?, b = ?, c = ?, d = ?, e = ?, f = ?, g = ?, h = ? WHERE ? = 1" 5
    ∷ edge "SELECT a FROM t WHERE ? = ? AND ? = ? OR ? = ? AND ? = ?" 0
    ∷ edge "SELECT a FROM t WHERE ? = ? AND ? = ? OR ? = ? AND ? = ? OR a = ?" 5
    ∷ edge "DELETE FROM t WHERE ? = ? AND ? = ? OR ? = ? AND ? = ?" 0
    ∷ edge "DELETE FROM t WHERE ? = ? AND ? = ? OR ? = ? AND ? = ? AND ? = a" 5
    ∷ [])

-- "comparisons: 8"
abbrev pub comparisons : Group
comparisons = eight (
    edge "SELECT a FROM t WHERE a = 1 AND b = 1 AND c = 1 AND d = 1 AND e = 1 AND f = 1 AND g = 1 AND h = 1" 0
    ∷ edge "SELECT a FROM t WHERE a = 1 AND b = 1 AND c = 1 AND d = 1 AND e = 1 AND f = 1 AND g = 1 AND h = 1 AND a = 1" 5
    ∷ edge "DELETE FROM t WHERE a = 1 OR b = 1 OR c = 1 OR d = 1 OR e = 1 OR f = 1 OR g = 1 OR h = 1" 0
    ∷ edge "DELETE FROM t WHERE a = 1 OR b = 1 OR c = 1 OR d = 1 OR e = 1 OR f = 1 OR g = 1 OR h = 1 OR a = 1" 5
    ∷ edge "UPDATE t SET a = 1 WHERE (a = 1 OR b = 1 OR c = 1) AND NOT (d = 1 OR e = 1) AND f = 1 AND (g = 1 OR h = 1)" 0
    ∷ edge "UPDATE t SET a = 1 WHERE (a = 1 OR b = 1 OR c = 1) AND NOT (d = 1 OR e = 1) AND f = 1 AND (g = 1 OR h = 1 OR 1 < 2)" 5
    ∷ [])

-- "parentheses and NOTs around a comparison: 8", of the deepest comparison
abbrev pub depths : Group
depths = two (
    edge "DELETE FROM t WHERE ((((((((a = 1))))))))" 0
    ∷ edge "DELETE FROM t WHERE (((((((((a = 1)))))))))" 5
    ∷ edge "DELETE FROM t WHERE NOT NOT NOT NOT NOT NOT NOT NOT a = 1" 0
    ∷ edge "DELETE FROM t WHERE NOT NOT NOT NOT NOT NOT NOT NOT NOT a = 1" 5
    ∷ edge "DELETE FROM t WHERE NOT (NOT (NOT (NOT (a = 1))))" 0
    ∷ edge "DELETE FROM t WHERE NOT (NOT (NOT (NOT (NOT a = 1))))" 5
    ∷ edge "DELETE FROM t WHERE NOT (NOT (NOT (NOT ((a = 1)))))" 5
    ∷ [])

abbrev pub beside : Group
beside = two (
    edge "SELECT a FROM t WHERE ((((((((a = 1)))))))) AND NOT NOT NOT NOT NOT NOT NOT NOT b = 1" 0
    ∷ edge "SELECT a FROM t WHERE a = 1 OR b = 1 AND (((((((((a = 1)))))))))" 5
    ∷ edge "UPDATE t SET a = 1 WHERE NOT NOT NOT NOT NOT NOT NOT NOT NOT b = 1 OR a = 1" 5
    ∷ edge "DELETE FROM t WHERE ((((((((a = 1 AND b = 1))))))))" 0
    ∷ edge "DELETE FROM t WHERE ((((((((a = 1 AND NOT b = 1))))))))" 5
    ∷ edge "DELETE FROM t WHERE (((((((((a = 1) OR b = 1))))))))" 5
    ∷ [])

-- eight comparisons, each eight deep, and then one more
abbrev pub deepest : Group
deepest = two (
    edge "SELECT a FROM t WHERE ((((((((a=1))))))))AND((((((((b=1))))))))AND((((((((a=1))))))))AND((((((((b=1))))))))AND((((((((a=1))))))))AND((((((((b=1))))))))AND((((((((a=1))))))))AND((((((((b=1))))))))" 0
    ∷ edge "SELECT a FROM t WHERE ((((((((a=1))))))))AND((((((((b=1))))))))AND((((((((a=1))))))))AND((((((((b=1))))))))AND((((((((a=1))))))))AND((((((((b=1))))))))AND((((((((a=1))))))))AND((((((((b=1))))))))OR a=1" 5
    ∷ [])

-- "name: 12 bytes"
abbrev pub names : Group
names = first (
    edge "TABLE abcdefghijkl (a) ROWS 1" 0
    ∷ edge "TABLE abcdefghijklm (a) ROWS 1" 5
    ∷ edge "TABLE t (a, abcdefghijkl) ROWS 1" 0
    ∷ edge "TABLE t (a, abcdefghijklm) ROWS 1" 5
    ∷ edge "TABLE t (abcdefghijklm, a) ROWS 1" 5
    ∷ edge "TABLE ABCDEFGHIJKL (MNOPQRSTUVWX) ROWS 1" 0
    ∷ edge "TABLE ABCDEFGHIJKLM (a) ROWS 1" 5
    ∷ edge "TABLE t (MNOPQRSTUVWXY) ROWS 1" 5
    ∷ [])

abbrev pub named : Group
named = two (
    edge "DELETE FROM abcdefghijkl" 6
    ∷ edge "DELETE FROM abcdefghijklm" 5
    ∷ edge "SELECT a, abcdefghijklm FROM t" 5
    ∷ edge "SELECT a FROM abcdefghijklm" 5
    ∷ edge "INSERT INTO abcdefghijklm VALUES (1)" 5
    ∷ edge "UPDATE t SET abcdefghijklm = 1" 5
    ∷ edge "UPDATE abcdefghijklm SET a = 1" 5
    ∷ edge "DELETE FROM t WHERE a = 1 OR 1 = abcdefghijkl" 6
    ∷ edge "DELETE FROM t WHERE a = 1 OR 1 = abcdefghijklm" 5
    ∷ [])

-- "a constant outside 32 bits"; "The constant -2147483648 is taken and 2147483648 is not."
abbrev pub constants : Group
constants = two (
    edge "DELETE FROM t WHERE a = -2147483648" 0
    ∷ edge "DELETE FROM t WHERE a = -2147483649" 5
    ∷ edge "DELETE FROM t WHERE 2147483647 = a" 0
    ∷ edge "DELETE FROM t WHERE 2147483648 = a" 5
    ∷ edge "INSERT INTO t VALUES (-2147483648, 2147483647)" 0
    ∷ edge "INSERT INTO t VALUES (-2147483649, ?)" 5
    ∷ edge "INSERT INTO t VALUES (?, 2147483648)" 5
    ∷ edge "UPDATE t SET a = -2147483648, b = 2147483647" 0
    ∷ edge "UPDATE t SET a = -2147483649" 5
    ∷ edge "UPDATE t SET a = 2147483648" 5
    ∷ [])

-- "statement text: 256 bytes"; "text over 256 bytes"
abbrev pub texts : Group
texts = first (
    spaced 238 "TABLE t (a) ROWS 1" 0
    ∷ spaced 239 "TABLE t (a) ROWS 1" 3
    ∷ spaced 256 "" 4
    ∷ spaced 257 "" 3
    ∷ spaced 0 "" 4
    ∷ [])

-- ---- words and signs

-- "A run of letters, digits and underscores is one word"; "Capital words are keywords."
abbrev pub words : Group
words = first (
    edge "TABLE a_b (c_, d__1, e2) ROWS 1" 0
    ∷ edge "TABLE _a (b) ROWS 1" 4
    ∷ edge "TABLE a (_) ROWS 1" 4
    ∷ edge "TABLE 1a (b) ROWS 1" 4
    ∷ edge "TABLE aB (b) ROWS 1" 0
    ∷ edge "TABLE A (b) ROWS 1" 0
    ∷ edge "TABLE table (select) ROWS 1" 0
    ∷ edge "table t (a) ROWS 1" 4
    ∷ edge "TABLE TABLE (a) ROWS 1" 4
    ∷ edge "TABLE t (a) ROW 1" 4
    ∷ edge "TABLE t (a) ROWS_ 1" 4
    ∷ [])

-- "spaces (byte 32) may stand between any two and at both ends"
abbrev pub spaces : Group
spaces = first (
    edge "TABLE t(a,b)ROWS 1" 0
    ∷ edge "  TABLE  t ( a , b )  ROWS  1  " 0
    ∷ edge "TABLEt (a) ROWS 1" 4
    ∷ edge "TABLE t (a) ROWS3" 4
    ∷ edge "TABLE t (a) ROWS-3" 5
    ∷ edge "TABLE t (a) ROWS1" 4
    ∷ [])

-- "Other bytes are no sentence."
abbrev pub others : Group
others = first (
    around "TABLE" 9 "t (a) ROWS 1" 4
    ∷ around "TABLE t (a)" 9 " ROWS 1" 4
    ∷ around "TABLE t (a) ROWS 1" 9 "" 4
    ∷ around "" 9 "TABLE t (a) ROWS 1" 4
    ∷ around "TABLE t (a)" 0 "ROWS 1" 4
    ∷ around "TABLE t (a)" 10 "ROWS 1" 4
    ∷ around "TABLE t (a)" 13 "ROWS 1" 4
    ∷ around "TABLE t (a)" 31 "ROWS 1" 4
    ∷ around "TABLE t (a)" 33 "ROWS 1" 4
    ∷ around "TABLE t (a)" 127 "ROWS 1" 4
    ∷ around "TABLE t (a)" 128 "ROWS 1" 4
    ∷ around "TABLE t (a)" 160 "ROWS 1" 4
    ∷ around "TABLE t (a)" 255 "ROWS 1" 4
    ∷ around "TABLE t" 225 " (a) ROWS 1" 4
    ∷ around "TABLE t (a) ROWS 1" 160 "" 4
    ∷ edge "TABLE t (a) ROWS 1;" 4
    ∷ [])

-- "A constant is an optional minus and digits, not followed by a letter or underscore; leading zeros are allowed", and no space "between a minus and its digits"
abbrev pub digits : Group
digits = two (
    edge "DELETE FROM t WHERE a = 007" 0
    ∷ edge "DELETE FROM t WHERE a = -0" 0
    ∷ edge "DELETE FROM t WHERE a = -00" 0
    ∷ edge "DELETE FROM t WHERE a = -0000000002147483648" 0
    ∷ edge "DELETE FROM t WHERE a = 0000000002147483648" 5
    ∷ edge "DELETE FROM t WHERE a = 5_" 4
    ∷ edge "DELETE FROM t WHERE a = 1a" 4
    ∷ edge "DELETE FROM t WHERE a = 1A" 4
    ∷ edge "DELETE FROM t WHERE a = -5_" 4
    ∷ edge "DELETE FROM t WHERE a = -1a" 4
    ∷ edge "DELETE FROM t WHERE a = - 3" 4
    ∷ edge "DELETE FROM t WHERE a = --3" 4
    ∷ edge "DELETE FROM t WHERE a = -" 4
    ∷ edge "DELETE FROM t WHERE a = -a" 4
    ∷ edge "DELETE FROM t WHERE a = -?" 4
    ∷ edge "DELETE FROM t WHERE a = +3" 4
    ∷ edge "DELETE FROM t WHERE a = 3.0" 4
    ∷ [])

-- "a sign is the longest that fits", and no space is needed beside it
abbrev pub signs : Group
signs = two (
    edge "DELETE FROM t WHERE-3=a" 0
    ∷ edge "DELETE FROM t WHERE a<-5" 0
    ∷ edge "DELETE FROM t WHERE a-3" 4
    ∷ edge "DELETE FROM t WHERE a=<1" 4
    ∷ edge "DELETE FROM t WHERE a=>1" 4
    ∷ edge "DELETE FROM t WHERE a< >1" 4
    ∷ edge "DELETE FROM t WHERE a< =1" 4
    ∷ edge "DELETE FROM t WHERE a> =1" 4
    ∷ edge "DELETE FROM t WHERE a><1" 4
    ∷ edge "DELETE FROM t WHERE a==1" 4
    ∷ edge "DELETE FROM t WHERE a!=1" 4
    ∷ edge "DELETE FROM t WHERE a=1 AND a<>1 AND a<1 AND a<=1 AND a>1 AND a>=1" 0
    ∷ edge "DELETE FROM t WHERE a=?AND b=1" 0
    ∷ edge "DELETE FROM t WHERE a=3AND b=1" 4
    ∷ edge "DELETE FROM t WHERE (a=1)AND(b=1)OR NOT(a=b)" 0
    ∷ edge "INSERT INTO t VALUES(1,2)" 0
    ∷ [])

-- ---- forms

-- "A comparison has two operands, each a column, constant or `?`"; "a condition in parentheses may again hold AND, OR and NOT"
abbrev pub conditions : Group
conditions = two (
    edge "DELETE FROM t WHERE ? = ?" 0
    ∷ edge "DELETE FROM t WHERE 3 < 2" 0
    ∷ edge "DELETE FROM t WHERE a = a" 0
    ∷ edge "DELETE FROM t WHERE NOT NOT a = 1" 0
    ∷ edge "DELETE FROM t WHERE NOT (a = 1 OR NOT (b = 1 AND a < b))" 0
    ∷ edge "DELETE FROM t WHERE (a) = 1" 4
    ∷ edge "DELETE FROM t WHERE a" 4
    ∷ edge "DELETE FROM t WHERE a = " 4
    ∷ edge "DELETE FROM t WHERE NOT" 4
    ∷ edge "DELETE FROM t WHERE ()" 4
    ∷ edge "DELETE FROM t WHERE (a = 1" 4
    ∷ edge "DELETE FROM t WHERE a = 1)" 4
    ∷ edge "DELETE FROM t WHERE a = 1 AND" 4
    ∷ edge "DELETE FROM t WHERE a = 1 AND OR b = 1" 4
    ∷ edge "DELETE FROM t WHERE a = 1 NOT b = 1" 4
    ∷ edge "DELETE FROM t WHERE a = 1 b = 1" 4
    ∷ edge "DELETE FROM t WHERE a = b = 1" 4
    ∷ edge "DELETE FROM t WHERE" 4
    ∷ [])

-- the five forms; "SET takes a constant or `?` on the right"
abbrev pub forms : Group
forms = two (
    edge "SELECT a, b, a FROM t" 0
    ∷ edge "SELECT * FROM t" 4
    ∷ edge "SELECT a b FROM t" 4
    ∷ edge "SELECT a, FROM t" 4
    ∷ edge "SELECT 1 FROM t" 4
    ∷ edge "SELECT a FROM t, t" 4
    ∷ edge "INSERT INTO t VALUES (?, 5)" 0
    ∷ edge "INSERT INTO t VALUES (a, 5)" 4
    ∷ edge "INSERT INTO t VALUES 1, 5" 4
    ∷ edge "INSERT INTO t VALUES (1, 5) WHERE a = 1" 4
    ∷ edge "UPDATE t SET a = ?, b = 4" 0
    ∷ edge "UPDATE t SET a = b" 4
    ∷ edge "UPDATE t SET a < 1" 4
    ∷ edge "UPDATE t SET 1 = a" 4
    ∷ edge "UPDATE t SET (a = 1)" 4
    ∷ edge "DELETE FROM t" 0
    ∷ edge "DELETE a FROM t" 4
    ∷ edge "DELETE t" 4
    ∷ edge "DELETE FROM t t" 4
    ∷ [])

-- ---- the lowest number

-- 4 before 5, 5 before 6 to 8, 6 before 7
abbrev pub before : Group
before = two (
    edge "TABLE u (a) ROWS 0 x" 4
    ∷ edge "DELETE FROM t WHERE a = 2147483648 AND" 4
    ∷ edge "SELECT abcdefghijklm FROM t t" 4
    ∷ edge "INSERT INTO nil VALUES (1, 2, 3, 4, 5, 6, 7, 8, 9)" 5
    ∷ edge "INSERT INTO nil VALUES (1, 2, 3)" 6
    ∷ edge "INSERT INTO t VALUES (1, 2, 3, 4, 5, 6, 7, 8, 9)" 5
    ∷ edge "INSERT INTO t VALUES (2147483648)" 5
    ∷ edge "TABLE t (a) ROWS 513" 5
    ∷ edge "TABLE u (a, a) ROWS 0" 5
    ∷ edge "UPDATE t SET c = 1, c = 2" 6
    ∷ edge "UPDATE t SET a = 1, a = 2 WHERE c = 1" 6
    ∷ edge "UPDATE nil SET a = 1, a = 2" 6
    ∷ edge "UPDATE t SET a = 1, a = 2147483648" 5
    ∷ [])

-- 6: "table or column unknown"
abbrev pub unknown : Group
unknown = two (
    edge "DELETE FROM nil" 6
    ∷ edge "SELECT a FROM nil" 6
    ∷ edge "SELECT a, c FROM t" 6
    ∷ edge "SELECT t FROM t" 6
    ∷ edge "UPDATE t SET c = 1" 6
    ∷ edge "UPDATE nil SET a = 1" 6
    ∷ edge "INSERT INTO nil VALUES (1, 2)" 6
    ∷ edge "DELETE FROM t WHERE 1 = 1 OR c = 1" 6
    ∷ edge "UPDATE t SET a = 1 WHERE a = c" 6
    ∷ edge "DELETE FROM a" 6
    ∷ edge "DELETE FROM tt" 6
    ∷ edge "DELETE FROM t_1" 6
    ∷ [])

-- 7: "table name taken, or column twice in TABLE or SET"
abbrev pub twice : Group
twice = two (
    edge "TABLE t (c) ROWS 1" 7
    ∷ edge "TABLE u (a, a) ROWS 1" 7
    ∷ edge "TABLE u (a, b, a) ROWS 1" 7
    ∷ edge "TABLE u (c, a, a) ROWS 1" 7
    ∷ edge "UPDATE t SET a = 1, a = 1" 7
    ∷ edge "UPDATE t SET a = 1, b = 2, a = ?" 7
    ∷ edge "UPDATE t SET b = ?, a = 1, a = 2 WHERE a = 1" 7
    ∷ edge "UPDATE t SET b = 1, a = 1" 0
    ∷ edge "SELECT a, a FROM t" 0
    ∷ [])

-- 8: "INSERT values not one a column"
abbrev pub counted : Group
counted = two (
    edge "INSERT INTO t VALUES (1)" 8
    ∷ edge "INSERT INTO t VALUES (1, 2)" 0
    ∷ edge "INSERT INTO t VALUES (1, 2, 3)" 8
    ∷ edge "INSERT INTO t VALUES (?, ?, ?)" 8
    ∷ [])

-- 9: "too few cells left": "the opening's less columns × ROWS of each table"
abbrev pub cells_enough : Group
cells_enough = record { cells = 6; before = []; edges = edge "TABLE t (a, b) ROWS 3" 0 ∷ edge "TABLE t (a, b, c) ROWS 2" 0 ∷ edge "TABLE t (a) ROWS 7" 9 ∷ edge "TABLE t (a, b) ROWS 4" 9 ∷ [] }

abbrev pub cells_short : Group
cells_short = record { cells = 5; before = []; edges = edge "TABLE t (a, b) ROWS 3" 9 ∷ edge "TABLE t (a) ROWS 5" 0 ∷ [] }

abbrev pub cells_left : Group
cells_left = record {
  cells = 13;
  before = "TABLE t (a, b) ROWS 3" ∷ "TABLE u (a) ROWS 2" ∷ [];
  edges = edge "TABLE v (a) ROWS 5" 0 ∷ edge "TABLE v (a) ROWS 6" 9 ∷ edge "TABLE u (a) ROWS 6" 7 ∷ edge "DELETE FROM u" 0 ∷ [];
}

-- 9: "no table or statement place": "a ninth table", a seventeenth question or update; 7 before 9, and 8 before 9
abbrev tables : String → List String
tables last = "TABLE a (a) ROWS 1" ∷ "TABLE b (a) ROWS 1" ∷ "TABLE c (a) ROWS 1" ∷ "TABLE d (a) ROWS 1" ∷ "TABLE e (a) ROWS 1" ∷ "TABLE f (a) ROWS 1" ∷ "TABLE g (a) ROWS 1" ∷ last ∷ []

abbrev pub eighth_table : Group
eighth_table = record { cells = 32768; before = tables "SELECT a FROM a"; edges = edge "TABLE h (a) ROWS 1" 0 ∷ [] }

abbrev pub ninth_table : Group
ninth_table = record { cells = 32768; before = tables "TABLE h (a) ROWS 1"; edges = edge "TABLE i (a) ROWS 1" 9 ∷ edge "TABLE h (a) ROWS 1" 7 ∷ edge "TABLE i (a, a) ROWS 1" 7 ∷ edge "DELETE FROM h" 0 ∷ [] }

abbrev many : ℕ → String → List String
many n t = "TABLE t (a, b) ROWS 1" ∷ replicate n t

abbrev question : String
question = "SELECT a FROM t"

abbrev pub sixteenth_question : Group
sixteenth_question = record { cells = 2; before = many 15 question; edges = edge "SELECT a FROM t" 0 ∷ [] }

abbrev pub seventeenth_question : Group
seventeenth_question = record { cells = 2; before = many 16 question; edges = edge "SELECT b FROM t" 9 ∷ edge "SELECT c FROM t" 6 ∷ edge "DELETE FROM t" 0 ∷ [] }

abbrev pub sixteenth_update : Group
sixteenth_update = record {
  cells = 2;
  before = many 14 "DELETE FROM t" ++ ("INSERT INTO t VALUES (1, 2)" ∷ []);
  edges = edge "UPDATE t SET a = 1" 0 ∷ edge "INSERT INTO t VALUES (1, 2)" 0 ∷ edge "DELETE FROM t" 0 ∷ [];
}

abbrev pub seventeenth_update : Group
seventeenth_update = record {
  cells = 2;
  before = many 14 "DELETE FROM t" ++ ("INSERT INTO t VALUES (1, 2)" ∷ "UPDATE t SET a = 1" ∷ []);
  edges =
      edge "UPDATE t SET a = 1" 9
      ∷ edge "INSERT INTO t VALUES (1, 2)" 9
      ∷ edge "DELETE FROM t" 9
      ∷ edge "INSERT INTO t VALUES (1)" 8
      ∷ edge "UPDATE t SET a = 1, a = 2" 7
      ∷ edge "SELECT a FROM t" 0
      ∷ [];
}

-- ---- request A.1: two tables

abbrev three : List Edge → Group
three es = record { cells = 5; before = "TABLE t (a, b) ROWS 1" ∷ "TABLE u (a, c) ROWS 1" ∷ "TABLE v (d) ROWS 1" ∷ []; edges = es }

-- "with every column written `stage.level`, the dot being a sign"
abbrev pub dots : Group
dots = three (
    edge "SELECT t.a, u.c FROM t, u" 0
    ∷ edge "SELECT t . a,u .c, u. a FROM t,u WHERE t.a=u . a" 0
    ∷ edge "SELECT t.b FROM u, t WHERE NOT (t.a < ? OR u.c>-5) AND 1 = u.a" 0
    ∷ edge "SELECT .a FROM t, u" 4
    ∷ edge "SELECT t. FROM t, u" 4
    ∷ edge "SELECT t..a FROM t, u" 4
    ∷ edge "SELECT t.a.b FROM t, u" 4
    ∷ edge "SELECT t a FROM t, u" 4
    ∷ edge "SELECT t.1 FROM t, u" 4
    ∷ edge "SELECT 1.a FROM t, u" 4
    ∷ edge "SELECT t.* FROM t, u" 4
    ∷ edge "SELECT t.FROM FROM t, u" 4
    ∷ edge "SELECT t.a FROM t, u WHERE t.a = 3.0" 4
    ∷ edge "SELECT t.a FROM t, u WHERE t.a.b = 1" 4
    ∷ edge "SELECT t.a FROM t, u WHERE t. = 1" 4
    ∷ [])

-- "a bare column there .. is no sentence"
abbrev pub bare : Group
bare = three (
    edge "SELECT a FROM t, u" 4
    ∷ edge "SELECT b, c FROM t, u" 4
    ∷ edge "SELECT t.a, c FROM t, u" 4
    ∷ edge "SELECT c, t.a FROM t, u" 4
    ∷ edge "SELECT t.a FROM t, u WHERE b = 1" 4
    ∷ edge "SELECT t.a FROM t, u WHERE 1 = c" 4
    ∷ edge "SELECT t.a FROM t, u WHERE t.a = 1 AND (u.c = 1 OR b = u.c)" 4
    ∷ [])

-- ".. or a dotted one elsewhere"
abbrev pub elsewhere : Group
elsewhere = three (
    edge "SELECT t.a FROM t" 4
    ∷ edge "SELECT a, t.b FROM t" 4
    ∷ edge "SELECT a FROM t WHERE t.a = 1" 4
    ∷ edge "SELECT t.a FROM t WHERE t.a = 1" 4
    ∷ edge "DELETE FROM t WHERE t.a = 1" 4
    ∷ edge "UPDATE t SET t.a = 1" 4
    ∷ edge "UPDATE t SET a = 1 WHERE 1 = t.a" 4
    ∷ edge "INSERT INTO t VALUES (t.a, 1)" 4
    ∷ edge "TABLE w (t.a) ROWS 1" 4
    ∷ edge "TABLE t.w (a) ROWS 1" 4
    ∷ [])

-- SELECT alone names two tables, and no more
abbrev pub from_two : Group
from_two = three (
    edge "SELECT t.a FROM t, u, v" 4
    ∷ edge "SELECT t.a FROM t, u, t" 4
    ∷ edge "SELECT t.a FROM t," 4
    ∷ edge "SELECT t.a FROM , u" 4
    ∷ edge "SELECT t.a FROM t u" 4
    ∷ edge "SELECT t.a FROM t, u u" 4
    ∷ edge "SELECT t.a FROM t, t.a" 4
    ∷ edge "SELECT t.a FROM (t, u)" 4
    ∷ edge "SELECT FROM t, u" 4
    ∷ edge "DELETE FROM t, u" 4
    ∷ edge "DELETE FROM t, u WHERE t.a = 1" 4
    ∷ edge "UPDATE t, u SET a = 1" 4
    ∷ edge "INSERT INTO t, u VALUES (1, 1)" 4
    ∷ [])

-- 5: the limits of selected columns, question marks, comparisons and depth, and constants
abbrev pub pair_limits : Group
pair_limits = three (
    edge "SELECT t.a, t.b, u.a, u.c, t.a, t.b, u.a, u.c FROM t, u" 0
    ∷ edge "SELECT t.a, t.b, u.a, u.c, t.a, t.b, u.a, u.c, t.a FROM t, u" 5
    ∷ edge "SELECT t.a FROM t, u WHERE ? = ? AND ? = ? OR ? = ? AND ? = ?" 0
    ∷ edge "SELECT t.a FROM t, u WHERE ? = ? AND ? = ? OR ? = ? AND ? = ? OR t.a = ?" 5
    ∷ edge "SELECT t.a FROM t, u WHERE t.a = 1 OR t.b = 1 OR u.a = 1 OR u.c = 1 OR t.a = 2 OR t.b = 2 OR u.a = 2 OR u.c = 2" 0
    ∷ edge "SELECT t.a FROM t, u WHERE t.a = 1 OR t.b = 1 OR u.a = 1 OR u.c = 1 OR t.a = 2 OR t.b = 2 OR u.a = 2 OR u.c = 2 OR 1 = 1" 5
    ∷ edge "SELECT t.a FROM t, u WHERE ((((((((t.a = u.a))))))))" 0
    ∷ edge "SELECT t.a FROM t, u WHERE (((((((((t.a = u.a)))))))))" 5
    ∷ edge "SELECT t.a FROM t, u WHERE NOT (NOT (NOT (NOT t.a = u.a))) AND u.c = 1" 0
    ∷ edge "SELECT t.a FROM t, u WHERE NOT (NOT (NOT (NOT (NOT t.a = u.a)))) AND u.c = 1" 5
    ∷ edge "SELECT t.a FROM t, u WHERE t.a = -2147483648 AND 2147483647 = u.c" 0
    ∷ edge "SELECT t.a FROM t, u WHERE t.a = 1 AND 2147483648 = u.c" 5
    ∷ [])

-- 5: a name of 13 bytes, before and behind a dot and as either table; 6 for one of 12 that is unknown
abbrev pub pair_names : Group
pair_names = three (
    edge "SELECT abcdefghijkl.a FROM t, u" 6
    ∷ edge "SELECT abcdefghijklm.a FROM t, u" 5
    ∷ edge "SELECT t.abcdefghijkl FROM t, u" 6
    ∷ edge "SELECT t.abcdefghijklm FROM t, u" 5
    ∷ edge "SELECT t.a FROM abcdefghijkl, u" 6
    ∷ edge "SELECT t.a FROM abcdefghijklm, u" 5
    ∷ edge "SELECT t.a FROM t, abcdefghijkl" 6
    ∷ edge "SELECT t.a FROM t, abcdefghijklm" 5
    ∷ edge "SELECT t.a FROM t, u WHERE 1 = abcdefghijkl.a" 6
    ∷ edge "SELECT t.a FROM t, u WHERE 1 = abcdefghijklm.a" 5
    ∷ edge "SELECT t.a FROM t, u WHERE u.abcdefghijkl = 1" 6
    ∷ edge "SELECT t.a FROM t, u WHERE u.abcdefghijklm = 1" 5
    ∷ [])

abbrev pub long_names : Group
long_names = record {
  cells = 2;
  before = "TABLE abcdefghijkl (mnopqrstuvwx) ROWS 1" ∷ "TABLE u (a) ROWS 1" ∷ [];
  edges = edge "SELECT abcdefghijkl.mnopqrstuvwx FROM u, abcdefghijkl WHERE abcdefghijkl.mnopqrstuvwx = u.a" 0 ∷ edge "SELECT abcdefghijkl.mnopqrstuvwx FROM u, u" 6 ∷ [];
}

-- 6: a table or a column unknown; "a column of a third table gives 6"
abbrev pub third : Group
third = three (
    edge "SELECT v.d FROM t, u" 6
    ∷ edge "SELECT t.a FROM t, u WHERE v.d = 1" 6
    ∷ edge "SELECT t.c FROM t, u" 6
    ∷ edge "SELECT u.b FROM t, u" 6
    ∷ edge "SELECT t.a, u.b FROM t, u" 6
    ∷ edge "SELECT t.a FROM t, u WHERE t.a = u.b" 6
    ∷ edge "SELECT t.a FROM t, nil" 6
    ∷ edge "SELECT u.a FROM nil, u" 6
    ∷ edge "SELECT nil.a FROM nil, u" 6
    ∷ edge "SELECT nil.a FROM t, u" 6
    ∷ edge "SELECT a.t FROM t, u" 6
    ∷ edge "SELECT t.t FROM t, u" 6
    ∷ edge "SELECT v.d FROM v, t" 0
    ∷ [])

-- 15: "Naming one table twice", after 4, 5 and 6
abbrev pub same_table : Group
same_table = three (
    edge "SELECT t.a FROM t, t" 15
    ∷ edge "SELECT t.a FROM t, t WHERE t.a = t.b" 15
    ∷ edge "SELECT a FROM t, t" 4
    ∷ edge "SELECT t.a FROM t, t WHERE a = 1" 4
    ∷ edge "SELECT t.a FROM t, t, t" 4
    ∷ edge "SELECT t.a FROM t, t WHERE t.a = 2147483648" 5
    ∷ edge "SELECT t.c FROM t, t" 6
    ∷ edge "SELECT u.a FROM t, t" 6
    ∷ edge "SELECT nil.a FROM nil, nil" 6
    ∷ [])

-- 15 "looked for after 8", and so before 9: with fifteen questions in the store, and with sixteen
abbrev questions : ℕ → List String
questions n = "TABLE t (a) ROWS 1" ∷ "TABLE u (a) ROWS 1" ∷ replicate n "SELECT a FROM t"

abbrev pub sixteenth_pair : Group
sixteenth_pair = record { cells = 2; before = questions 15; edges = edge "SELECT t.a FROM t, u" 0 ∷ edge "SELECT t.a FROM t, t" 15 ∷ [] }

abbrev pub seventeenth_pair : Group
seventeenth_pair = record { cells = 2; before = questions 16; edges = edge "SELECT t.a FROM t, u" 9 ∷ edge "SELECT t.a FROM t, t" 15 ∷ [] }

-- ---- request A.2: names in either case

-- "Names may hold capital letters, the first included": A to Z are such letters, and the bytes next to these and to a and z are none; digits and underscores are themselves
abbrev pub capitals : Group
capitals = first (
    edge "TABLE STAGE (SITE, Level_2) ROWS 1" 0
    ∷ edge "TABLE A (Z) ROWS 1" 0
    ∷ edge "TABLE aZ (zA, B_, C_1, d9D) ROWS 1" 0
    ∷ edge "TABLE _A (b) ROWS 1" 4
    ∷ edge "TABLE u (1A) ROWS 1" 4
    ∷ edge "TABLE @ (b) ROWS 1" 4
    ∷ edge "TABLE [ (b) ROWS 1" 4
    ∷ edge "TABLE ` (b) ROWS 1" 4
    ∷ edge "TABLE { (b) ROWS 1" 4
    ∷ edge "TABLE A@ (b) ROWS 1" 4
    ∷ edge "TABLE Z[ (b) ROWS 1" 4
    ∷ edge "TABLE a` (b) ROWS 1" 4
    ∷ edge "TABLE z{ (b) ROWS 1" 4
    ∷ around "TABLE " 196 " (b) ROWS 1" 4
    ∷ around "TABLE A" 228 " (b) ROWS 1" 4
    ∷ (bytes "TABLE " ++ (195 ∷ 132 ∷ bytes " (b) ROWS 1"), 4)
    ∷ [])

-- "Words spelled exactly as a keyword, all capitals, remain keywords", and no others; a word of a later request is a name until then, as RING was before A.4, and IS and NULL before A.5
abbrev pub exact : Group
exact = first (
    edge "TABLE Table (Rows, sELECT, from, Where, INSERt, into, values) ROWS 1" 0
    ∷ edge "TABLE update (Set, delete, aND, Or, not) ROWS 1" 0
    ∷ edge "TABLE ROWS3 (TABLES, AND_, ORB, NOTE) ROWS 1" 0
    ∷ edge "TABLE RING (a) ROWS 1" 4
    ∷ edge "TABLE NEAREST (LIMIT) ROWS 1" 0
    ∷ edge "TABLE t (TABLE) ROWS 1" 4
    ∷ edge "TABLE t (a, NOT) ROWS 1" 4
    ∷ edge "Table t (a) ROWS 1" 4
    ∷ edge "TABLE t (a) rows 1" 4
    ∷ edge "TABLE t (a) Rows 1" 4
    ∷ edge "TABLE t (ROWS) ROWS 1" 4
    ∷ [])

-- a store whose names were typed in both cases
abbrev typed : List Edge → Group
typed es = record { cells = 4; before = "TABLE Stage (SITE, level) ROWS 1" ∷ "TABLE RATING (site, Flow) ROWS 1" ∷ []; edges = es }

abbrev pub exact_forms : Group
exact_forms = typed (
    edge "select site FROM stage" 4
    ∷ edge "SELECT site From stage" 4
    ∷ edge "SELECT site FROM stage Where site = 1" 4
    ∷ edge "SELECT SELECT FROM stage" 4
    ∷ edge "DELETE FROM TABLE" 4
    ∷ edge "DELETE FROM Table" 6
    ∷ edge "DELETE FROM stage WHERE site = 1 and level = 1" 4
    ∷ edge "DELETE FROM stage WHERE Not site = 1" 4
    ∷ edge "INSERT INTO stage Values (1, 2)" 4
    ∷ edge "UPDATE stage set site = 1" 4
    ∷ [])

-- "Everything that looks a name up .. follows": 6, and 8
abbrev pub looked_up : Group
looked_up = typed (
    edge "SELECT site, LEVEL FROM stage" 0
    ∷ edge "SELECT SITE FROM STAGE WHERE Level = ? OR 1 < sITE" 0
    ∷ edge "INSERT INTO sTAGE VALUES (1, 2)" 0
    ∷ edge "UPDATE STAGE SET LEVEL = 1, Site = ? WHERE SITE = Level" 0
    ∷ edge "DELETE FROM rating WHERE NOT FLOW = 1" 0
    ∷ edge "DELETE FROM STAGES" 6
    ∷ edge "DELETE FROM STAG" 6
    ∷ edge "SELECT SITE, FLOW FROM STAGE" 6
    ∷ edge "SELECT Site FROM Nil" 6
    ∷ edge "UPDATE STAGE SET FLOW = 1" 6
    ∷ edge "DELETE FROM STAGE WHERE 1 = FLOW" 6
    ∷ edge "INSERT INTO NIL VALUES (1, 2)" 6
    ∷ edge "INSERT INTO STAGE VALUES (1)" 8
    ∷ edge "INSERT INTO Stage VALUES (1, 2, 3)" 8
    ∷ [])

-- ".. or finds one taken or repeated": 7
abbrev pub repeated : Group
repeated = typed (
    edge "TABLE stage (a) ROWS 1" 7
    ∷ edge "TABLE STAGE (a) ROWS 1" 7
    ∷ edge "TABLE Rating (a) ROWS 1" 7
    ∷ edge "TABLE t (A, a) ROWS 1" 7
    ∷ edge "TABLE t (z, b, Z) ROWS 1" 7
    ∷ edge "TABLE t (A_1, a_1) ROWS 1" 7
    ∷ edge "UPDATE stage SET Site = 1, SITE = 2" 7
    ∷ edge "UPDATE stage SET site = 1, level = 2, LEVEL = ?" 7
    ∷ edge "SELECT Site, SITE FROM stage" 0
    ∷ [])

-- both parts of a dotted column, both tables, and 15
abbrev pub paired : Group
paired = typed (
    edge "SELECT STAGE.SITE, rating.FLOW FROM Stage, Rating WHERE stage.Site = RATING.site" 0
    ∷ edge "SELECT Stage.Flow FROM STAGE, RATING" 6
    ∷ edge "SELECT STAGES.SITE FROM STAGE, RATING" 6
    ∷ edge "SELECT SITE FROM STAGE, RATING" 4
    ∷ edge "SELECT stage.SELECT FROM stage, rating" 4
    ∷ edge "SELECT stage.site FROM stage, Stage" 15
    ∷ edge "SELECT STAGE.SITE FROM Stage, STAGE WHERE stage.Level = 1" 15
    ∷ edge "SELECT Stage.FLOW FROM stage, Stage" 6
    ∷ [])

-- ---- request A.4: tables that run round

-- "RING takes 1 to 512", and like ROWS a constant
abbrev pub ring_sizes : Group
ring_sizes = first (
    edge "TABLE recent (minute, level) RING 96" 0
    ∷ edge "TABLE t (a) RING 0" 5
    ∷ edge "TABLE t (a) RING 1" 0
    ∷ edge "TABLE t (a) RING 512" 0
    ∷ edge "TABLE t (a) RING 513" 5
    ∷ edge "TABLE t (a) RING -0" 5
    ∷ edge "TABLE t (a) RING -1" 5
    ∷ edge "TABLE t (a) RING 0512" 0
    ∷ edge "TABLE t (a) RING 99999999999" 5
    ∷ edge "TABLE t (a) RING ?" 4
    ∷ edge "TABLE t (a) RING a" 4
    ∷ edge "TABLE t (a) RING" 4
    ∷ edge "TABLE t (a, b, c, d, e, f, g, h) RING 1" 0
    ∷ edge "TABLE t (a, b, c, d, e, f, g, h, i) RING 1" 5
    ∷ edge "TABLE abcdefghijklm (a) RING 1" 5
    ∷ edge "TABLE t (a, a) RING 1" 7
    ∷ [])

-- one of ROWS and RING, at its place
abbrev pub ring_or_rows : Group
ring_or_rows = first (
    edge "TABLE t (a) ROWS 1 RING 1" 4
    ∷ edge "TABLE t (a) RING 1 ROWS 1" 4
    ∷ edge "TABLE t (a) ROWS RING 1" 4
    ∷ edge "TABLE t (a) RING ROWS 1" 4
    ∷ edge "TABLE t (a) RING RING 1" 4
    ∷ edge "TABLE t (a) RING 1 1" 4
    ∷ edge "TABLE t (a) RING (1)" 4
    ∷ edge "TABLE t (a) 1 RING" 4
    ∷ edge "TABLE t RING 1 (a)" 4
    ∷ edge "TABLE t (a RING 1)" 4
    ∷ edge "TABLE t () RING 1" 4
    ∷ edge "TABLE RING 1" 4
    ∷ edge "RING t (a) ROWS 1" 4
    ∷ edge "TABLE t(a)RING 1" 0
    ∷ edge "TABLE t(a)RING-1" 5
    ∷ [])

-- RING is a keyword, and `ring` a name
abbrev pub ring_words : Group
ring_words = first (
    edge "TABLE t (a) ring 1" 4
    ∷ edge "TABLE t (a) Ring 1" 4
    ∷ edge "TABLE t (a) RINGS 1" 4
    ∷ edge "TABLE t (a) RING1" 4
    ∷ edge "TABLE RING (a) RING 1" 4
    ∷ edge "TABLE t (RING) ROWS 1" 4
    ∷ edge "TABLE t (a, RING) RING 1" 4
    ∷ edge "TABLE ring (a) ROWS 1" 0
    ∷ edge "TABLE Ring (RINg) RING 1" 0
    ∷ edge "TABLE RING1 (RINGS, RING_, rING) RING 1" 0
    ∷ [])

-- the other forms speak of a ring as of any table, and know no RING
abbrev pub ring_forms : Group
ring_forms = record {
  cells = 8;
  before = "TABLE t (a, b) RING 1" ∷ "TABLE u (a, c) ROWS 1" ∷ [];
  edges =
      edge "SELECT a, b FROM t WHERE a = ?" 0
      ∷ edge "SELECT t.a FROM t, u WHERE t.a = u.a" 0
      ∷ edge "SELECT u.a FROM u, t" 0
      ∷ edge "INSERT INTO t VALUES (?, 1)" 0
      ∷ edge "UPDATE t SET a = ? WHERE b = 1" 0
      ∷ edge "DELETE FROM t" 0
      ∷ edge "SELECT a FROM t RING 1" 4
      ∷ edge "SELECT RING FROM t" 4
      ∷ edge "SELECT a FROM RING" 4
      ∷ edge "DELETE FROM t WHERE RING = 1" 4
      ∷ edge "UPDATE t SET RING = 1" 4
      ∷ edge "SELECT ring FROM t" 6
      ∷ edge "DELETE FROM ring" 6
      ∷ edge "TABLE t (a) ROWS 1" 7
      ∷ edge "TABLE T (a) RING 1" 7
      ∷ edge "TABLE u (a) RING 1" 7
      ∷ edge "INSERT INTO t VALUES (1)" 8
      ∷ edge "INSERT INTO t VALUES (1, 2, 3)" 8
      ∷ [];
}

-- "counts as the table's ROWS": the cells that it takes, and those that are left beside it
abbrev pub ring_cells : Group
ring_cells = record { cells = 6; before = []; edges = edge "TABLE t (a, b) RING 3" 0 ∷ edge "TABLE t (a) RING 6" 0 ∷ edge "TABLE t (a) RING 7" 9 ∷ edge "TABLE t (a, b) RING 4" 9 ∷ [] }

abbrev pub ring_left : Group
ring_left = record {
  cells = 10;
  before = "TABLE t (a, b) RING 3" ∷ [];
  edges = edge "TABLE u (a, b) RING 2" 0 ∷ edge "TABLE u (a, b) ROWS 2" 0 ∷ edge "TABLE u (a) RING 5" 9 ∷ edge "TABLE u (a) ROWS 5" 9 ∷ edge "TABLE t (a) RING 5" 7 ∷ [];
}

-- ---- request A.5: nulls

-- IS and NULL are keywords, in capitals alone
abbrev pub null_words : Group
null_words = first (
    edge "TABLE NULL (a) ROWS 1" 4
    ∷ edge "TABLE IS (a) ROWS 1" 4
    ∷ edge "TABLE t (a, NULL) ROWS 1" 4
    ∷ edge "TABLE t (IS) ROWS 1" 4
    ∷ edge "TABLE t (a) ROWS NULL" 4
    ∷ edge "TABLE null (a) ROWS 1" 0
    ∷ edge "TABLE Null (Is, iS) ROWS 1" 7
    ∷ edge "TABLE nULL (Is) ROWS 1" 0
    ∷ edge "TABLE t (is) ROWS 1" 0
    ∷ edge "TABLE NULLS (ISNULL, NULL_, IS2, NOTNULL) ROWS 1" 0
    ∷ [])

-- "`level IS NULL` and `level IS NOT NULL`, on columns, count as comparisons"
abbrev pub null_tests : Group
null_tests = two (
    edge "SELECT a FROM t WHERE a IS NULL" 0
    ∷ edge "SELECT a FROM t WHERE a IS NOT NULL" 0
    ∷ edge "SELECT a FROM t WHERE NOT a IS NULL" 0
    ∷ edge "SELECT a FROM t WHERE NOT a IS NOT NULL" 0
    ∷ edge "SELECT a FROM t WHERE (a IS NULL)" 0
    ∷ edge "SELECT a FROM t WHERE NOT(a IS NULL OR b=1)AND B IS NOT NULL" 0
    ∷ edge "SELECT a FROM t WHERE b = ? AND a IS NULL OR a = -2147483648" 0
    ∷ edge "UPDATE t SET a = -2147483648 WHERE b IS NULL" 0
    ∷ edge "DELETE FROM t WHERE a IS NOT NULL" 0
    ∷ edge "SELECT a FROM t WHERE c IS NULL" 6
    ∷ edge "UPDATE t SET a = 1 WHERE c IS NOT NULL" 6
    ∷ edge "DELETE FROM t WHERE null IS NULL" 6
    ∷ edge "SELECT a FROM t WHERE abcdefghijkl IS NULL" 6
    ∷ edge "SELECT a FROM t WHERE abcdefghijklm IS NULL" 5
    ∷ edge "DELETE FROM t WHERE a IS NULL OR abcdefghijklm IS NOT NULL" 5
    ∷ [])

-- on columns, and of no other form; the null itself is written -2147483648
abbrev pub no_null_tests : Group
no_null_tests = two (
    edge "SELECT a FROM t WHERE ? IS NULL" 4
    ∷ edge "SELECT a FROM t WHERE 5 IS NULL" 4
    ∷ edge "SELECT a FROM t WHERE -2147483648 IS NOT NULL" 4
    ∷ edge "SELECT a FROM t WHERE (a) IS NULL" 4
    ∷ edge "SELECT a FROM t WHERE a = 1 IS NULL" 4
    ∷ edge "SELECT a FROM t WHERE IS NULL" 4
    ∷ edge "SELECT a FROM t WHERE a IS" 4
    ∷ edge "SELECT a FROM t WHERE a IS NOT" 4
    ∷ edge "SELECT a FROM t WHERE a IS NOT NOT NULL" 4
    ∷ edge "SELECT a FROM t WHERE a IS NULL NULL" 4
    ∷ edge "SELECT a FROM t WHERE a IS NULL = 1" 4
    ∷ edge "SELECT a FROM t WHERE a IS NULL IS NULL" 4
    ∷ edge "SELECT a FROM t WHERE a IS 5" 4
    ∷ edge "SELECT a FROM t WHERE a IS ?" 4
    ∷ edge "SELECT a FROM t WHERE a IS b" 4
    ∷ edge "SELECT a FROM t WHERE a IS NOT b" 4
    ∷ edge "SELECT a FROM t WHERE a IS (NULL)" 4
    ∷ edge "SELECT a FROM t WHERE a IS = NULL" 4
    ∷ edge "SELECT a FROM t WHERE a NULL" 4
    ∷ edge "SELECT a FROM t WHERE a NOT NULL" 4
    ∷ edge "SELECT a FROM t WHERE NOT NULL" 4
    ∷ edge "SELECT a FROM t WHERE a ISNULL" 4
    ∷ edge "SELECT a FROM t WHERE a IS NULLS" 4
    ∷ edge "SELECT a FROM t WHERE a is null" 4
    ∷ edge "SELECT a FROM t WHERE a IS null" 4
    ∷ edge "SELECT a FROM t WHERE a IS not NULL" 4
    ∷ edge "SELECT a FROM t WHERE a Is NULL" 4
    ∷ edge "SELECT a FROM t WHERE a = NULL" 4
    ∷ edge "SELECT a FROM t WHERE NULL = a" 4
    ∷ edge "SELECT a FROM t WHERE a <> NULL" 4
    ∷ edge "UPDATE t SET a = NULL" 4
    ∷ edge "UPDATE t SET a IS NULL" 4
    ∷ edge "INSERT INTO t VALUES (NULL, 1)" 4
    ∷ edge "INSERT INTO t VALUES (1, -2147483648)" 0
    ∷ edge "SELECT NULL FROM t" 4
    ∷ edge "SELECT a IS NULL FROM t" 4
    ∷ [])

-- each is one of the eight comparisons; the NOT of IS NOT NULL is none around it; it has no question mark
abbrev pub null_limits : Group
null_limits = eight (
    edge "SELECT a FROM t WHERE a IS NULL AND b = 1 AND c = 1 AND d = 1 AND e = 1 AND f = 1 AND g = 1 AND h IS NOT NULL" 0
    ∷ edge "SELECT a FROM t WHERE a IS NULL AND b = 1 AND c = 1 AND d = 1 AND e = 1 AND f = 1 AND g = 1 AND h IS NOT NULL AND a = 1" 5
    ∷ edge "DELETE FROM t WHERE a IS NULL OR b IS NULL OR c IS NULL OR d IS NULL OR e IS NULL OR f IS NULL OR g IS NULL OR h IS NULL" 0
    ∷ edge "DELETE FROM t WHERE a IS NULL OR b IS NULL OR c IS NULL OR d IS NULL OR e IS NULL OR f IS NULL OR g IS NULL OR h IS NULL OR a IS NULL" 5
    ∷ edge "SELECT a FROM t WHERE NOT NOT NOT NOT NOT NOT NOT NOT a IS NULL" 0
    ∷ edge "SELECT a FROM t WHERE NOT NOT NOT NOT NOT NOT NOT NOT NOT a IS NULL" 5
    ∷ edge "SELECT a FROM t WHERE NOT NOT NOT NOT NOT NOT NOT NOT a IS NOT NULL" 0
    ∷ edge "SELECT a FROM t WHERE NOT NOT NOT NOT NOT NOT NOT NOT NOT a IS NOT NULL" 5
    ∷ edge "SELECT a FROM t WHERE ((((((((a IS NOT NULL))))))))" 0
    ∷ edge "SELECT a FROM t WHERE (((((((((a IS NULL)))))))))" 5
    ∷ edge "SELECT a FROM t WHERE ? = ? AND ? = ? AND ? = ? AND ? = ? AND a IS NULL AND b IS NOT NULL" 0
    ∷ [])

-- over two tables the column is dotted
abbrev pub null_pairs : Group
null_pairs = three (
    edge "SELECT t.a FROM t, u WHERE t.a IS NULL" 0
    ∷ edge "SELECT t.a FROM t, u WHERE NOT u . c IS NOT NULL AND t.a = u.a" 0
    ∷ edge "SELECT t.a FROM t, u WHERE a IS NULL" 4
    ∷ edge "SELECT t.a FROM t, u WHERE t.a.b IS NULL" 4
    ∷ edge "SELECT t.a FROM t, u WHERE t. IS NULL" 4
    ∷ edge "SELECT t.a FROM t, u WHERE t.NULL IS NULL" 4
    ∷ edge "SELECT t.a FROM t, u WHERE t.a IS u.a" 4
    ∷ edge "SELECT a FROM t WHERE t.a IS NULL" 4
    ∷ edge "SELECT t.a FROM t, u WHERE v.d IS NULL" 6
    ∷ edge "SELECT t.a FROM t, u WHERE t.c IS NOT NULL" 6
    ∷ edge "SELECT t.a FROM t, u WHERE nil.a IS NULL" 6
    ∷ edge "SELECT t.a FROM t, u WHERE t.abcdefghijklm IS NULL" 5
    ∷ edge "SELECT t.a FROM t, t WHERE t.b IS NULL" 15
    ∷ [])

-- ---- the table

abbrev pub table : List Group
table =
    columns
    ∷ lists
    ∷ rows
    ∷ marks
    ∷ comparisons
    ∷ depths
    ∷ beside
    ∷ deepest
    ∷ names
    ∷ named
    ∷ constants
    ∷ texts
    ∷ words
    ∷ spaces
    ∷ others
    ∷ digits
    ∷ signs
    ∷ conditions
    ∷ forms
    ∷ before
    ∷ unknown
    ∷ twice
    ∷ counted
    ∷ cells_enough
    ∷ cells_short
    ∷ cells_left
    ∷ eighth_table
    ∷ ninth_table
    ∷ sixteenth_question
    ∷ seventeenth_question
    ∷ sixteenth_update
    ∷ seventeenth_update
    ∷ dots
    ∷ bare
    ∷ elsewhere
    ∷ from_two
    ∷ pair_limits
    ∷ pair_names
    ∷ long_names
    ∷ third
    ∷ same_table
    ∷ sixteenth_pair
    ∷ seventeenth_pair
    ∷ capitals
    ∷ exact
    ∷ exact_forms
    ∷ looked_up
    ∷ repeated
    ∷ paired
    ∷ ring_sizes
    ∷ ring_or_rows
    ∷ ring_words
    ∷ ring_forms
    ∷ ring_cells
    ∷ ring_left
    ∷ null_words
    ∷ null_tests
    ∷ no_null_tests
    ∷ null_limits
    ∷ null_pairs
    ∷ []

pub columns-hold : Holds columns
unfolding computing
columns-hold = record { taken = refl; numbers_are = refl }

pub lists-hold : Holds lists
unfolding computing
lists-hold = record { taken = refl; numbers_are = refl }

pub rows-hold : Holds rows
unfolding computing
rows-hold = record { taken = refl; numbers_are = refl }

pub marks-hold : Holds marks
unfolding computing
marks-hold = record { taken = refl; numbers_are = refl }

pub comparisons-hold : Holds comparisons
unfolding computing
comparisons-hold = record { taken = refl; numbers_are = refl }

pub depths-hold : Holds depths
unfolding computing
depths-hold = record { taken = refl; numbers_are = refl }

pub beside-hold : Holds beside
unfolding computing
beside-hold = record { taken = refl; numbers_are = refl }

pub deepest-hold : Holds deepest
unfolding computing
deepest-hold = record { taken = refl; numbers_are = refl }

pub names-hold : Holds names
unfolding computing
names-hold = record { taken = refl; numbers_are = refl }

pub named-hold : Holds named
unfolding computing
named-hold = record { taken = refl; numbers_are = refl }

pub constants-hold : Holds constants
unfolding computing
constants-hold = record { taken = refl; numbers_are = refl }

pub texts-hold : Holds texts
unfolding computing
texts-hold = record { taken = refl; numbers_are = refl }

pub words-hold : Holds words
unfolding computing
words-hold = record { taken = refl; numbers_are = refl }

pub spaces-hold : Holds spaces
unfolding computing
spaces-hold = record { taken = refl; numbers_are = refl }

pub others-hold : Holds others
unfolding computing
others-hold = record { taken = refl; numbers_are = refl }

pub digits-hold : Holds digits
unfolding computing
digits-hold = record { taken = refl; numbers_are = refl }

pub signs-hold : Holds signs
unfolding computing
signs-hold = record { taken = refl; numbers_are = refl }

pub conditions-hold : Holds conditions
unfolding computing
conditions-hold = record { taken = refl; numbers_are = refl }

pub forms-hold : Holds forms
unfolding computing
forms-hold = record { taken = refl; numbers_are = refl }

pub before-hold : Holds before
unfolding computing
before-hold = record { taken = refl; numbers_are = refl }

pub unknown-hold : Holds unknown
unfolding computing
unknown-hold = record { taken = refl; numbers_are = refl }

pub twice-hold : Holds twice
unfolding computing
twice-hold = record { taken = refl; numbers_are = refl }

pub counted-hold : Holds counted
unfolding computing
counted-hold = record { taken = refl; numbers_are = refl }

pub cells-enough-hold : Holds cells_enough
unfolding computing
cells-enough-hold = record { taken = refl; numbers_are = refl }

pub cells-short-hold : Holds cells_short
unfolding computing
cells-short-hold = record { taken = refl; numbers_are = refl }

pub cells-left-hold : Holds cells_left
unfolding computing
cells-left-hold = record { taken = refl; numbers_are = refl }

pub eighth-table-hold : Holds eighth_table
unfolding computing
eighth-table-hold = record { taken = refl; numbers_are = refl }

pub ninth-table-hold : Holds ninth_table
unfolding computing
ninth-table-hold = record { taken = refl; numbers_are = refl }

pub sixteenth-question-hold : Holds sixteenth_question
unfolding computing
sixteenth-question-hold = record { taken = refl; numbers_are = refl }

pub seventeenth-question-hold : Holds seventeenth_question
unfolding computing
seventeenth-question-hold = record { taken = refl; numbers_are = refl }

pub sixteenth-update-hold : Holds sixteenth_update
unfolding computing
sixteenth-update-hold = record { taken = refl; numbers_are = refl }

pub seventeenth-update-hold : Holds seventeenth_update
unfolding computing
seventeenth-update-hold = record { taken = refl; numbers_are = refl }

pub dots-hold : Holds dots
unfolding computing
dots-hold = record { taken = refl; numbers_are = refl }

pub bare-hold : Holds bare
unfolding computing
bare-hold = record { taken = refl; numbers_are = refl }

pub elsewhere-hold : Holds elsewhere
unfolding computing
elsewhere-hold = record { taken = refl; numbers_are = refl }

pub from-two-hold : Holds from_two
unfolding computing
from-two-hold = record { taken = refl; numbers_are = refl }

pub pair-limits-hold : Holds pair_limits
unfolding computing
pair-limits-hold = record { taken = refl; numbers_are = refl }

pub pair-names-hold : Holds pair_names
unfolding computing
pair-names-hold = record { taken = refl; numbers_are = refl }

pub long-names-hold : Holds long_names
unfolding computing
long-names-hold = record { taken = refl; numbers_are = refl }

pub third-hold : Holds third
unfolding computing
third-hold = record { taken = refl; numbers_are = refl }

pub same-table-hold : Holds same_table
unfolding computing
same-table-hold = record { taken = refl; numbers_are = refl }

pub sixteenth-pair-hold : Holds sixteenth_pair
unfolding computing
sixteenth-pair-hold = record { taken = refl; numbers_are = refl }

pub seventeenth-pair-hold : Holds seventeenth_pair
unfolding computing
seventeenth-pair-hold = record { taken = refl; numbers_are = refl }

pub capitals-hold : Holds capitals
unfolding computing
capitals-hold = record { taken = refl; numbers_are = refl }

pub exact-hold : Holds exact
unfolding computing
exact-hold = record { taken = refl; numbers_are = refl }

pub exact-forms-hold : Holds exact_forms
unfolding computing
exact-forms-hold = record { taken = refl; numbers_are = refl }

pub looked-up-hold : Holds looked_up
unfolding computing
looked-up-hold = record { taken = refl; numbers_are = refl }

pub repeated-hold : Holds repeated
unfolding computing
repeated-hold = record { taken = refl; numbers_are = refl }

pub paired-hold : Holds paired
unfolding computing
paired-hold = record { taken = refl; numbers_are = refl }

pub ring-sizes-hold : Holds ring_sizes
unfolding computing
ring-sizes-hold = record { taken = refl; numbers_are = refl }

pub ring-or-rows-hold : Holds ring_or_rows
unfolding computing
ring-or-rows-hold = record { taken = refl; numbers_are = refl }

pub ring-words-hold : Holds ring_words
unfolding computing
ring-words-hold = record { taken = refl; numbers_are = refl }

pub ring-forms-hold : Holds ring_forms
unfolding computing
ring-forms-hold = record { taken = refl; numbers_are = refl }

pub ring-cells-hold : Holds ring_cells
unfolding computing
ring-cells-hold = record { taken = refl; numbers_are = refl }

pub ring-left-hold : Holds ring_left
unfolding computing
ring-left-hold = record { taken = refl; numbers_are = refl }

pub null-words-hold : Holds null_words
unfolding computing
null-words-hold = record { taken = refl; numbers_are = refl }

pub null-tests-hold : Holds null_tests
unfolding computing
null-tests-hold = record { taken = refl; numbers_are = refl }

pub no-null-tests-hold : Holds no_null_tests
unfolding computing
no-null-tests-hold = record { taken = refl; numbers_are = refl }

pub null-limits-hold : Holds null_limits
unfolding computing
null-limits-hold = record { taken = refl; numbers_are = refl }

pub null-pairs-hold : Holds null_pairs
unfolding computing
null-pairs-hold = record { taken = refl; numbers_are = refl }
