-- The names of a sentence beside the tables that there are: document 01, "Numbers for a call not taken", refusals 6, 7 and 8; request A.1, refusal 15; request A.4 (RING).
-- Assumes nothing: these are definitions.
use Rattle.std.specs.Prelude.{Bool, false, not, ◌&&◌, ◌||◌, cond, List, [], ◌∷◌, map, ℕ, suc, ◌+◌, eqb, length, get_or}
use Rattle.lists.specs.Lists.{any, repeats}
use Rattle.lists.specs.Tests.{eq_list}
use Rattle.meaning.specs.Tokens.{Name}
use Rattle.meaning.specs.Grammar.{Given, items, Dotted, Sentence, table, select, pair, insert, update, delete}
use Rattle.meaning.specs.Limits.{columns_named, dotted_named}

-- what a TABLE text says; `capacity` is its ROWS or RING, and `ring` whether it is a RING (A.4)
pub record Schema : Type 0 where
  pub name : Name
  pub columns : List Name
  pub capacity : ℕ
  pub ring : Bool

-- the same name; A.2, "case makes no difference between names": a token holds its small letters (`Tokens.word`)
abbrev pub same_name : Name → Name → Bool
same_name m n = eq_list eqb m n

abbrev pub has : List Name → Name → Bool
has ns n = any (same_name n) ns

-- the first place of a name, counted from 0; past the end if it is not there
abbrev pub position : List Name → Name → ℕ
position [] n = 0
position (m ∷ ns) n = cond (same_name n m) 0 (suc (position ns n))

abbrev pub table_names : List Schema → List Name
table_names ts = map (λ (t : Schema). t.name) ts

abbrev pub no_schema : Schema
no_schema = record { name = []; columns = []; capacity = 0; ring = false }

-- the columns of the table of that name
abbrev pub columns_of : List Schema → Name → List Name
columns_of ts n = (get_or ts (position (table_names ts) n) no_schema).columns

-- refusal 6: "table or column unknown"; TABLE looks no name up
abbrev pub missing : List Schema → Name → List Name → Bool
missing ts t cs = not (has (table_names ts) t) || any (λ (c : Name). not (has (columns_of ts t) c)) cs

-- A.1: the dotted column c is one of the table t, which has the columns cs
abbrev pub is_of : Name → List Name → Dotted → Bool
is_of t cs c = same_name c.0 t && has cs c.1

-- its place in a pair of rows, counted through the columns cs of t and then the columns ds of u; past both if it is of neither
abbrev pub pair_place : Name → List Name → Name → List Name → Dotted → ℕ
pair_place t cs u ds c =
    cond (is_of t cs c) (position cs c.1) (cond (is_of u ds c) (length cs + position ds c.1) (length cs + length ds))

-- of two tables: "a column of a third table gives 6"
abbrev pub pair_missing : List Schema → Name → Name → List Dotted → Bool
pair_missing ts t u cs =
    not (has (table_names ts) t)
    || (not (has (table_names ts) u)
    || any (λ (c : Dotted). not (is_of t (columns_of ts t) c || is_of u (columns_of ts u) c)) cs)

unfoldable pub unknown_name : List Schema → Sentence → Bool
unknown_name ts (table t cs ring z) = false
unknown_name ts (select cs t w) = missing ts t (columns_named (select cs t w))
unknown_name ts (pair cs t u w) = pair_missing ts t u (dotted_named (pair cs t u w))
unknown_name ts (insert t vs) = missing ts t (columns_named (insert t vs))
unknown_name ts (update t ss w) = missing ts t (columns_named (update t ss w))
unknown_name ts (delete t w) = missing ts t (columns_named (delete t w))

-- refusal 7: "table name taken, or column twice in TABLE or SET"; a column may be selected twice
unfoldable pub taken : List Schema → Sentence → Bool
taken ts (table t cs ring z) = has (table_names ts) t || repeats same_name (items cs)
taken ts (select cs t w) = false
taken ts (pair cs t u w) = false
taken ts (insert t vs) = false
taken ts (update t ss w) = repeats same_name (map (λ (s : Name × Given). s.0) (items ss))
taken ts (delete t w) = false

-- refusal 8: "INSERT values not one a column"
unfoldable pub miscounted : List Schema → Sentence → Bool
miscounted ts (table t cs ring z) = false
miscounted ts (select cs t w) = false
miscounted ts (pair cs t u w) = false
miscounted ts (insert t vs) = not (eqb (length (items vs)) (length (columns_of ts t)))
miscounted ts (update t ss w) = false
miscounted ts (delete t w) = false

-- refusal 15: "Naming one table twice gives 15, looked for after 8"
unfoldable pub twice : Sentence → Bool
twice (table t cs ring z) = false
twice (select cs t w) = false
twice (pair cs t u w) = same_name t u
twice (insert t vs) = false
twice (update t ss w) = false
twice (delete t w) = false
