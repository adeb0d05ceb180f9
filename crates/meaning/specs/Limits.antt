-- The limits: document 01, "Limits", and refusals 3 and 5 of a text. Assumes nothing: these are definitions.
use Rattle.std.specs.Prelude.{Bool, false, not, ◌&&◌, ◌||◌, List, [], ◌∷◌, ◌++◌, map, ℕ, ◌+◌, ltb, ℤ, pos, neg_ℤ, length, suc, ◌≤◌, negsuc}
use Rattle.std.specs.Int.Signed.{le_z}
use Rattle.lists.specs.Lists.{any, All}
use Rattle.meaning.specs.Condition.{Where, always, mapped_in, replaced_in, comparisons_in, operands_in, depth_in}
use Rattle.meaning.specs.Tokens.{Name}
use Rattle.meaning.specs.Grammar.{Given, constant, mark, Term, column, given, comparison, items, Dotted, Sentence, table, select, pair, insert, update, delete}
use Rattle.meaning.specs.Grammar as G

-- ---- the table of limits

abbrev pub most_cells : ℕ
most_cells = 32768

abbrev pub most_memory : ℕ
most_memory = 262144

abbrev pub most_slots : ℕ
most_slots = 64

abbrev pub least_slot_bytes : ℕ
least_slot_bytes = 8

abbrev pub most_slot_bytes : ℕ
most_slot_bytes = 4096

abbrev pub most_tables : ℕ
most_tables = 8

abbrev pub most_queries : ℕ
most_queries = 16

abbrev pub most_updates : ℕ
most_updates = 16

-- columns a table, selected, or set; values inserted
abbrev pub most_items : ℕ
most_items = 8

abbrev pub most_rows : ℕ
most_rows = 512

-- A.1: "Records may hold up to 65,535 rows"
abbrev pub most_listed : ℕ
most_listed = 65535

abbrev pub most_marks : ℕ
most_marks = 8

abbrev pub most_comparisons : ℕ
most_comparisons = 8

-- parentheses and NOTs around a comparison
abbrev pub most_depth : ℕ
most_depth = 8

abbrev pub most_name : ℕ
most_name = 12

abbrev pub most_text : ℕ
most_text = 256

-- ---- refusal 3: "text over 256 bytes"

abbrev pub too_long : List ℕ → Bool
too_long text = ltb most_text (length text)

-- ---- what stands in a sentence, in the text's order

abbrev pub table_named : Sentence → Name
table_named (table t cs ring z) = t
table_named (select cs t w) = t
table_named (pair cs t u w) = t
table_named (insert t vs) = t
table_named (update t ss w) = t
table_named (delete t w) = t

-- the columns of its list, and the constants and question marks of its list; DELETE has no list
abbrev pub list_columns : Sentence → List Name
list_columns (table t cs ring z) = items cs
list_columns (select cs t w) = items cs
list_columns (pair cs t u w) = map (λ (c : Dotted). c.1) (items cs)
list_columns (insert t vs) = []
list_columns (update t ss w) = map (λ (s : Name × Given). s.0) (items ss)
list_columns (delete t w) = []

abbrev pub list_givens : Sentence → List Given
list_givens (table t cs ring z) = []
list_givens (select cs t w) = []
list_givens (pair cs t u w) = []
list_givens (insert t vs) = items vs
list_givens (update t ss w) = map (λ (s : Name × Given). s.1) (items ss)
list_givens (delete t w) = []

abbrev pub rows_of : Sentence → List ℤ
rows_of (table t cs ring z) = z ∷ []
rows_of (select cs t w) = []
rows_of (pair cs t u w) = []
rows_of (insert t vs) = []
rows_of (update t ss w) = []
rows_of (delete t w) = []

-- an operand of a question over two tables, without the table of a column
abbrev pub bare_term : Term Dotted → Term Name
bare_term (column c) = column c.1
bare_term (given v) = given v

-- its condition; null tests count as comparisons
abbrev pub where_of : Sentence → Where (Term Name)
where_of (table t cs ring z) = always
where_of (select cs t w) = mapped_in comparison w
where_of (pair cs t u w) = replaced_in bare_term (mapped_in comparison w)
where_of (insert t vs) = always
where_of (update t ss w) = mapped_in comparison w
where_of (delete t w) = mapped_in comparison w

abbrev pub term_givens : {C : Type 0} → List (Term C) → List Given
term_givens [] = []
term_givens (column n ∷ ts) = term_givens ts
term_givens (given v ∷ ts) = v ∷ term_givens ts

abbrev pub term_columns : {C : Type 0} → List (Term C) → List C
term_columns [] = []
term_columns (column n ∷ ts) = n ∷ term_columns ts
term_columns (given v ∷ ts) = term_columns ts

-- all columns (of a dotted one, its name); all constants (but those of ROWS and RING) and question marks
abbrev pub columns_named : Sentence → List Name
columns_named s = list_columns s ++ term_columns (operands_in (where_of s))

abbrev pub givens : Sentence → List Given
givens s = list_givens s ++ term_givens (operands_in (where_of s))

-- the dotted columns of a question over two tables
abbrev pub dotted_named : Sentence → List Dotted
dotted_named (table t cs ring z) = []
dotted_named (select cs t w) = []
dotted_named (pair cs t u w) = items cs ++ term_columns (operands_in (mapped_in comparison w))
dotted_named (insert t vs) = []
dotted_named (update t ss w) = []
dotted_named (delete t w) = []

-- its second table, and the table of each dotted column
abbrev pub further_tables : Sentence → List Name
further_tables (table t cs ring z) = []
further_tables (select cs t w) = []
further_tables (pair cs t u w) = u ∷ map (λ (c : Dotted). c.0) (dotted_named (pair cs t u w))
further_tables (insert t vs) = []
further_tables (update t ss w) = []
further_tables (delete t w) = []

-- all names: tables, then columns
abbrev pub all_names : Sentence → List Name
all_names s = table_named s ∷ further_tables s ++ columns_named s

abbrev pub mark_in : Given → ℕ
mark_in (constant z) = 0
mark_in mark = 1

abbrev pub mark_count : List Given → ℕ
mark_count [] = 0
mark_count (v ∷ vs) = mark_in v + mark_count vs

-- ---- refusal 5: "past a limit, from columns to name in that table, or a constant outside 32 bits"; each limit by itself

-- more than eight columns, selected or set; more than eight values inserted
abbrev pub many_items : Sentence → Bool
many_items s = ltb most_items (length (list_columns s)) || ltb most_items (length (list_givens s))

-- "ROWS of a table: 1 to 512"; A.4: "RING takes 1 to 512 and counts as the table's ROWS"
abbrev pub rows_outside : Sentence → Bool
rows_outside s = any (λ (z : ℤ). not (le_z (pos 1) z && le_z z (pos most_rows))) (rows_of s)

abbrev pub many_marks : Sentence → Bool
many_marks s = ltb most_marks (mark_count (givens s))

abbrev pub many_comparisons : Sentence → Bool
many_comparisons s = ltb most_comparisons (length (comparisons_in (where_of s)))

abbrev pub deep : Sentence → Bool
deep s = ltb most_depth (depth_in (where_of s))

abbrev pub long_name : Sentence → Bool
long_name s = any (λ (n : Name). ltb most_name (length n)) (all_names s)

-- "The constant -2147483648 is taken and 2147483648 is not."
abbrev pub is_within32 : ℤ → Bool
is_within32 z = le_z (neg_ℤ (pos 2147483648)) z && le_z z (pos 2147483647)

abbrev pub outside32 : Given → Bool
outside32 (constant z) = not (is_within32 z)
outside32 mark = false

abbrev pub big_constant : Sentence → Bool
big_constant s = any outside32 (givens s)

unfoldable pub past_limit : Sentence → Bool
past_limit s = many_items s || (rows_outside s || (many_marks s || (many_comparisons s || (deep s || (long_name s || big_constant s)))))

-- refusal 5: "past a limit, from columns to name in that table, or a constant outside 32 bits": the table of limits, row by row
abbrev pub Between : ℕ → ℕ → ℕ → Type 0
Between least most n = (least ≤ n) × (n ≤ most)

-- how many columns a table has, are selected, or set; how many values are inserted; DELETE has no list
abbrev pub list_lengths : Sentence → List ℕ
list_lengths (G.table t cs ring z) = length (items cs) ∷ []
list_lengths (G.select cs t w) = length (items cs) ∷ []
list_lengths (G.pair cs t u w) = length (items cs) ∷ []
list_lengths (G.insert t vs) = length (items vs) ∷ []
list_lengths (G.update t ss w) = length (items ss) ∷ []
list_lengths (G.delete t w) = []

abbrev pub RowsWithin : ℤ → Type 0
RowsWithin (pos n) = Between 1 512 n
RowsWithin (negsuc n) = ⊥

-- "The constant -2147483648 is taken and 2147483648 is not."; `negsuc n` is -(n + 1)
abbrev pub ConstantWithin : ℤ → Type 0
ConstantWithin (pos n) = n ≤ 2147483647
ConstantWithin (negsuc n) = suc n ≤ 2147483648

abbrev pub GivenWithin : Given → Type 0
GivenWithin (G.constant z) = ConstantWithin z
GivenWithin G.mark = Unit {0}

pub record WithinLimits (s : Sentence) : Type 0 where
  pub lists : All (Between 1 8) (list_lengths s)
  pub rows : All RowsWithin (rows_of s)
  pub marks : mark_count (givens s) ≤ 8
  pub comparisons : length (comparisons_in (where_of s)) ≤ 8
  pub depth : depth_in (where_of s) ≤ 8
  pub names : All (λ n. length n ≤ 12) (all_names s)
  pub constants : All GivenWithin (givens s)
