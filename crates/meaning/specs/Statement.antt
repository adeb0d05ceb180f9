-- Statements with names resolved: what a sentence says beside the tables that there are. Columns and tables are positions, counted from 0;
-- "Question marks are numbered from 1, left to right" through the whole statement. Parentheses and NOTs stay.
-- Document 01, "Statement texts"; requests A.1, A.4 and A.5. Assumes nothing: these are definitions.
use Rattle.std.proofs.Math.Option.{Option, none, some}
use Rattle.std.specs.Prelude.{List, [], ◌∷◌, map, ℕ, suc, ◌+◌, ℤ, nat_abs, length, Bool, true, ltb}
use Rattle.meaning.specs.Condition.{Comparison, Level, Condition, compare, negate, group, alone, both, single, either, comparisons, sides, Where, always, under, mapped_in}
use Rattle.meaning.specs.Tokens.{Name}
use Rattle.meaning.specs.Grammar as G
use Rattle.meaning.specs.Grammar.{Given, mark, Term, given, comparison, items, Sentence}
use Rattle.meaning.specs.Limits.{givens, term_givens, mark_in, mark_count}
use Rattle.meaning.specs.Names.{Schema, table_names, columns_of, position, pair_place}

-- a constant or a question mark (`parameter`) of a statement
pub data Value : Type 0 where
  constant : ℤ → Value
  parameter : ℕ → Value

pub data Operand : Type 0 where
  column : ℕ → Operand
  value : Value → Operand

-- A.1: the second table of a question over two: its number, and the position of its first column, since positions count through both tables
pub record Second : Type 0 where
  pub table : ℕ
  pub start : ℕ

-- a question; over one table it has no second
pub record Query : Type 0 where
  pub table : ℕ
  pub second : Option Second
  pub selected : List ℕ
  pub condition : Where Operand
  pub parameters : ℕ

-- what an update does to its table
pub data Change : Type 0 where
  insert : List Value → Change
  delete : Where Operand → Change
  update : List (ℕ × Value) → Where Operand → Change

pub record Update : Type 0 where
  pub table : ℕ
  pub change : Change
  pub parameters : ℕ

pub data Statement : Type 0 where
  creates : Schema → Statement
  asks : Query → Statement
  changes : Update → Statement

-- ---- resolving names and numbering question marks, where m marks stand before

abbrev pub numbered : ℕ → Given → Value
numbered m (G.constant z) = constant z
numbered m mark = parameter (suc m)

abbrev pub numbered_all : ℕ → List Given → List Value
numbered_all m [] = []
numbered_all m (v ∷ vs) = numbered m v ∷ numbered_all (m + mark_in v) vs

abbrev pub mark_in_term : {C : Type 0} → Term C → ℕ
mark_in_term (G.column n) = 0
mark_in_term (given v) = mark_in v

module _ (columns : List Name) where
  abbrev pub settings : ℕ → List (Name × Given) → List (ℕ × Value)
  settings m [] = []
  settings m (s ∷ ss) = (position columns s.0, numbered m s.1) ∷ settings (m + mark_in s.1) ss

-- `place` gives the position of a column
module _ {C : Type 0} (place : C → ℕ) where
  abbrev pub operand_of : ℕ → Term C → Operand
  operand_of m (G.column n) = column (place n)
  operand_of m (given v) = value (numbered m v)

  abbrev pub comparison_of : ℕ → Comparison (Term C) → Comparison Operand
  comparison_of m c = record { left = operand_of m c.left; op = c.op; right = operand_of (m + mark_in_term c.left) c.right }

  abbrev pub resolved : {l : Level} → ℕ → Condition (Term C) l → Condition Operand l
  resolved m (compare c) = compare (comparison_of m c)
  resolved m (negate c) = negate (resolved m c)
  resolved m (group c) = group (resolved m c)
  resolved m (alone c) = alone (resolved m c)
  resolved m (both c d) = both (resolved m c) (resolved (m + mark_count (term_givens (sides (comparisons c)))) d)
  resolved m (single c) = single (resolved m c)
  resolved m (either c d) = either (resolved m c) (resolved (m + mark_count (term_givens (sides (comparisons c)))) d)

  abbrev pub resolved_where : ℕ → Where (Term C) → Where Operand
  resolved_where m always = always
  resolved_where m (under c) = under (resolved m c)

-- the marks of SET stand before those of WHERE
abbrev pub setting_marks : List (Name × Given) → ℕ
setting_marks ss = mark_count (map (λ (s : Name × Given). s.1) ss)

unfoldable pub statement_of : List Schema → Sentence → Statement
statement_of ts (G.table t cs ring z) = creates (record { name = t; columns = items cs; capacity = nat_abs z; ring = ring })
statement_of ts (G.select cs t w) =
    asks (record {
      table = position (table_names ts) t;
      second = none;
      selected = map (position (columns_of ts t)) (items cs);
      condition = resolved_where (position (columns_of ts t)) 0 (mapped_in comparison w);
      parameters = mark_count (givens (G.select cs t w));
    })
statement_of ts (G.pair cs t u w) =
    asks (record {
      table = position (table_names ts) t;
      second = some (record { table = position (table_names ts) u; start = length (columns_of ts t) });
      selected = map (pair_place t (columns_of ts t) u (columns_of ts u)) (items cs);
      condition = resolved_where (pair_place t (columns_of ts t) u (columns_of ts u)) 0 (mapped_in comparison w);
      parameters = mark_count (givens (G.pair cs t u w));
    })
statement_of ts (G.insert t vs) =
    changes (record {
      table = position (table_names ts) t;
      change = insert (numbered_all 0 (items vs));
      parameters = mark_count (givens (G.insert t vs));
    })
statement_of ts (G.update t ss w) =
    changes (record {
      table = position (table_names ts) t;
      change = update (settings (columns_of ts t) 0 (items ss)) (resolved_where (position (columns_of ts t)) (setting_marks (items ss)) (mapped_in comparison w));
      parameters = mark_count (givens (G.update t ss w));
    })
statement_of ts (G.delete t w) =
    changes (record {
      table = position (table_names ts) t;
      change = delete (resolved_where (position (columns_of ts t)) 0 (mapped_in comparison w));
      parameters = mark_count (givens (G.delete t w));
    })

-- a column is one of the first n
abbrev pub is_below : ℕ → Operand → Bool
is_below n (column i) = ltb i n
is_below n (value v) = true
