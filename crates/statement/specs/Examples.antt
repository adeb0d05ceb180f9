-- Texts beside a table t of the columns a and b with 3 rows, which takes all cells, and what they compile to. Assumes nothing: each holds by computing.
use Rattle.std.specs.Prelude.{◌≡◌, refl, true, false, [], ◌∷◌, ℕ, ◌+◌, ◌*◌, ℤ, pos}
use Prim.Native.String.{String}
use Rattle.lists.specs.Lists.{bytes}
use Rattle.meaning.specs.Tokens.{is_name_byte, is_word_byte, decimal, is_name, word, negative, token_from, first_token, scan, tokens}
use Rattle.meaning.specs.Reader.{a_condition, a_sentence, read}
use Rattle.meaning.specs.Limits.{past_limit}
use Rattle.meaning.specs.Names.{unknown_name, taken, miscounted, twice}
use Rattle.meaning.specs.Statement.{statement_of}
use Rattle.meaning.specs.Plain.{other_lengths}
use Rattle.meaning.specs.Refusals.{no_place}
use Rattle.statement.specs.Compiled.{padded, table_struct, comparison_with, no_comparison, no_setting, compiled_table, compiled_query, compiled_update, compiled_refusal, struct_of, compiled_of, Compiled}
use Rattle.statement.specs.declared.Operand.{Operand}
use Rattle.statement.specs.declared.Table.{Table}

-- what the computations open
computing : Unit {0}
unfolding is_name_byte is_word_byte decimal is_name word negative token_from first_token scan tokens a_condition a_sentence read past_limit unknown_name taken miscounted twice statement_of other_lengths no_place struct_of compiled_of
computing = tt

abbrev t : Table
t = table_struct (record { name = bytes "t"; columns = bytes "a" ∷ bytes "b" ∷ []; capacity = 3; ring = false })

abbrev constant : ℤ → Operand
constant z = record { code = 0; number = z }

abbrev parameter : ℕ → Operand
parameter k = record { code = 2 * k + 1; number = pos 0 }

abbrev column : ℕ → Operand
column i = record { code = 2 * i + 2; number = pos 0 }

abbrev compiled : String → Compiled
compiled text = compiled_of (bytes text) (t ∷ []) 1 0 0 6

-- NOT goes down to the comparisons, and AND becomes OR
select-b :
    compiled "SELECT b FROM t WHERE NOT (a = 1 AND b < ?)"
    ≡ compiled_query (record {
      table = 0;
      selected = padded 8 0 (1 ∷ []);
      count = 1;
      parameters = 1;
      second = 0;
      start = 0;
      outer = 0;
      condition = record {
        comparisons = padded 8 no_comparison
            (comparison_with (column 0) 1 (constant (pos 1)) ∷ comparison_with (column 1) 5 (parameter 0) ∷ []);
        steps = padded 15 0 (0 ∷ 0 ∷ 2 ∷ []);
        count = 2;
      };
    })
unfolding computing
select-b = refl

-- the marks of SET come before those of WHERE
update-b-a :
    compiled "UPDATE t SET b = ?, a = 5 WHERE ? = a"
    ≡ compiled_update (record {
      form = 1;
      table = 0;
      settings = padded 8 no_setting (record { column = 1; mark = 1; number = pos 0 } ∷ record { column = 0; mark = 0; number = pos 5 } ∷ []);
      count = 2;
      parameters = 2;
      condition = record {
        comparisons = padded 8 no_comparison (comparison_with (parameter 1) 0 (column 0) ∷ []);
        steps = padded 15 0 (0 ∷ []);
        count = 1;
      };
    })
unfolding computing
update-b-a = refl

-- a null test (A.5) has its column on both sides; IS NULL is 6, and NOT makes it 7
select-null :
    compiled "SELECT b FROM t WHERE a IS NULL AND NOT b IS NULL"
    ≡ compiled_query (record {
      table = 0;
      selected = padded 8 0 (1 ∷ []);
      count = 1;
      parameters = 0;
      second = 0;
      start = 0;
      outer = 0;
      condition = record {
        comparisons = padded 8 no_comparison (comparison_with (column 0) 6 (column 0) ∷ comparison_with (column 1) 7 (column 1) ∷ []);
        steps = padded 15 0 (0 ∷ 0 ∷ 1 ∷ []);
        count = 2;
      };
    })
unfolding computing
select-null = refl

-- IS NOT NULL is 7, and NOT makes it 6
delete-null :
    compiled "DELETE FROM t WHERE a IS NOT NULL OR NOT b IS NOT NULL"
    ≡ compiled_update (record {
      form = 2;
      table = 0;
      settings = padded 8 no_setting [];
      count = 0;
      parameters = 0;
      condition = record {
        comparisons = padded 8 no_comparison (comparison_with (column 0) 7 (column 0) ∷ comparison_with (column 1) 6 (column 1) ∷ []);
        steps = padded 15 0 (0 ∷ 0 ∷ 2 ∷ []);
        count = 2;
      };
    })
unfolding computing
delete-null = refl

-- RING is kept beside its size (A.4), where cells are left for it
table-ring :
    compiled_of (bytes "TABLE r (c) RING 2") (t ∷ []) 1 0 0 8
    ≡ compiled_table (table_struct (record { name = bytes "r"; columns = bytes "c" ∷ []; capacity = 2; ring = true }))
unfolding computing
table-ring = refl

-- no sentence; past a limit; an unknown column; a taken name; too few values; no cells left; a null test of a question mark, and of an unknown column
refused-4 : compiled "SELECT FROM t" ≡ compiled_refusal 4
unfolding computing
refused-4 = refl

refused-4-null : compiled "DELETE FROM t WHERE ? IS NULL" ≡ compiled_refusal 4
unfolding computing
refused-4-null = refl

refused-5 : compiled "DELETE FROM a_name_too_long" ≡ compiled_refusal 5
unfolding computing
refused-5 = refl

refused-6 : compiled "DELETE FROM t WHERE c = 1" ≡ compiled_refusal 6
unfolding computing
refused-6 = refl

refused-6-null : compiled "DELETE FROM t WHERE c IS NULL" ≡ compiled_refusal 6
unfolding computing
refused-6-null = refl

refused-7 : compiled "TABLE t (a) ROWS 1" ≡ compiled_refusal 7
unfolding computing
refused-7 = refl

refused-8 : compiled "INSERT INTO t VALUES (1)" ≡ compiled_refusal 8
unfolding computing
refused-8 = refl

refused-9 : compiled "TABLE u (a) ROWS 1" ≡ compiled_refusal 9
unfolding computing
refused-9 = refl

-- beside t and a table u of the columns a and c (A.1): columns are counted through both
abbrev u : Table
u = table_struct (record { name = bytes "u"; columns = bytes "a" ∷ bytes "c" ∷ []; capacity = 3; ring = false })

abbrev paired : String → Compiled
paired text = compiled_of (bytes text) (t ∷ u ∷ []) 2 0 0 12

select-b-c :
    paired "SELECT t.b, u.c FROM t, u WHERE t.a = u.a"
    ≡ compiled_query (record {
      table = 0;
      selected = padded 8 0 (1 ∷ 3 ∷ []);
      count = 2;
      parameters = 0;
      second = 2;
      start = 2;
      outer = 1;
      condition = record {
        comparisons = padded 8 no_comparison (comparison_with (column 0) 0 (column 2) ∷ []);
        steps = padded 15 0 (0 ∷ []);
        count = 1;
      };
    })
unfolding computing
select-b-c = refl

-- a null test of a column of the second table
select-b-null :
    paired "SELECT t.b FROM t, u WHERE u.c IS NULL"
    ≡ compiled_query (record {
      table = 0;
      selected = padded 8 0 (1 ∷ []);
      count = 1;
      parameters = 0;
      second = 2;
      start = 2;
      outer = 1;
      condition = record {
        comparisons = padded 8 no_comparison (comparison_with (column 3) 6 (column 3) ∷ []);
        steps = padded 15 0 (0 ∷ []);
        count = 1;
      };
    })
unfolding computing
select-b-null = refl

-- A.6, the outer comparisons: those outside all OR, NOT and parentheses have the digit 1, the last one's last
abbrev outer : String → ℕ
outer text = (paired text).query.outer

outer-joined : outer "SELECT t.b FROM t, u WHERE t.a = 1 AND (t.b = 2 OR u.c = 3) AND NOT u.a = 4 AND u.c IS NULL" ≡ 17
unfolding computing
outer-joined = refl

outer-grouped : outer "SELECT t.b FROM t, u WHERE (t.a = 1) AND t.b = u.c" ≡ 1
unfolding computing
outer-grouped = refl

-- under OR none is, nor is one in parentheses or under NOT, though NOT makes an AND of OR
outer-either : outer "SELECT t.b FROM t, u WHERE t.a = 1 AND u.c = 2 OR t.b = 3" ≡ 0
unfolding computing
outer-either = refl

outer-negated : outer "SELECT t.b FROM t, u WHERE NOT (t.a = 1 OR u.c = 2)" ≡ 0
unfolding computing
outer-negated = refl

-- a column that t has not, which is none of u either; one table twice, with a column that is there and with one that is not
refused-6-pair : paired "SELECT t.c FROM t, u" ≡ compiled_refusal 6
unfolding computing
refused-6-pair = refl

refused-15 : paired "SELECT t.a FROM t, t" ≡ compiled_refusal 15
unfolding computing
refused-15 = refl

refused-6-twice : paired "SELECT t.c FROM t, t" ≡ compiled_refusal 6
unfolding computing
refused-6-twice = refl
